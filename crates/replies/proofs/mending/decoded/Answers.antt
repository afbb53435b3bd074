use Rattle.std.proofs.Common.{◌≡◌, ℕ, ◌&&◌, ltb, [], map, Some, None, MatchOption, Option, sym, ap, ◌∙◌, subst, inl, inr, arith}
use Rattle.std.proofs.lemmas.List.{get_or_default, length-map}
use Rattle.std.proofs.lemmas.Bool.{cases_order, lt-ltb}
use Rattle.terms.specs.declared.bounded.Bounded.{Bounded}
use Rattle.terms.specs.declared.refusal.Refusal.{Refusal}
use Rattle.terms.specs.Items.{items}
use Rattle.terms.specs.Sets.{member}
use Rattle.code.specs.Codings.{value_at}
use Rattle.code.specs.Recovery.{Recovers, Decoded}
use Rattle.code.specs.Refusing.{recovers_refusal}
use Rattle.code.specs.Meaning.{meaning}
use Rattle.reads.specs.Readings.{asking}
use Rattle.steps.proofs.Refused.{answered_or}
use Rattle.replies.proofs.Recovering.{found_too, not_an_object, never_refused}
use Rattle.replies.proofs.mending.decoded.Goals as goal

abbrev Cells : Type 0
Cells = Bounded ℕ 16

pub returns : goal.returns
returns g c =
    let code = c.args.code.now in
    let r = c.args.asking.now in
    let k = meaning g.F.Field.arithmetic code in
    let all = map (items {T = ℕ} {MAX = 16}) r.symbols in
    let known = member c.below-known.result in
    let hand = member r.hand in
    let refusal = recovers_refusal k known r.object in
    let Found : Option Cells → Type 0 = λ o. MatchOption o (Recovers k known r.object → ⊥) (λ v. Recovers k known r.object × Decoded k known (value_at all) r.object (items v)) in
    let never : (e : Refusal) → refusal ≡ Some e → Found None = λ e h.
    elim (cases_order r.object k.objects) [
      | inl is ↦ not_an_object k g.met.F.Field.ring known r.object (omega (arith, is))
      | inr (inl lt) ↦ absurd (never_refused k known hand r.object e (λ s. c.below-known.ensures s ∙ ap (λ (n : ℕ). ltb s n && hand s) c.servers.ensures.counted) lt h)
      | inr (inr gt) ↦ not_an_object k g.met.F.Field.ring known r.object (omega (arith, gt))
    ] in
    found_too k known hand (value_at all) (asking r).symbols r.object
    (λ s h. c.below-known.ensures s ∙ ap (λ b. b && hand s) (lt-ltb s c.servers.result (omega (arith, c.servers.ensures.counted))))
    (λ s h. get_or_default all s [] (items r.own) (simp length-map (omega (arith, r.symbol_each, code.most_servers))))
    c.unwrap_or.result (subst Found (sym c.unwrap_or.ensures) (answered_or refusal Found c.decode_any.result None never c.decode_any.ensures.decoded_or_refused))
