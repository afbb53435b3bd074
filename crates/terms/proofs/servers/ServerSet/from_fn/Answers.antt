use Rattle.std.proofs.Common.{◌≡◌, Bool, false, ◌&&◌, get_or, sym, ap, ◌∙◌, inl, inr, lt-ltb, le-ltb, rules, arith}
use Rattle.std.proofs.lemmas.List.{get_or_past}
use Rattle.std.proofs.lemmas.Bool.{cases_lt}
use Rattle.terms.proofs.servers.ServerSet.from_fn.Goals as goal

pub returns : goal.returns
returns g c = record {
  tested = λ passes told s.
      elim (cases_lt s 6) [
        | inl h ↦
            let made = c.from_fn.ensures.items.at s false h in
            let is : get_or c.from_fn.result s false ≡ passes s = told s _ h (search (rules, made)) in
            is ∙ sym (ap (λ (b : Bool). b && passes s) (lt-ltb s 6 h))
        | inr h ↦
            get_or_past c.from_fn.result s false (omega (arith, c.from_fn.ensures.items.long))
            ∙ sym (ap (λ (b : Bool). b && passes s) (le-ltb s 6 h))
      ];
}
