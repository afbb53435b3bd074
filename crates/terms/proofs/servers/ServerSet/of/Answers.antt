use Rattle.std.proofs.Common.{◌≡◌, ℕ, Bool, true, false, ◌||◌, eqb, ltb, get_or, None, sym, refl, ap, ◌∙◌, rules}
use Rattle.terms.specs.declared.refusal.Refusal.{Refusal}
use Rattle.terms.specs.Answers.{unless}
use Rattle.terms.proofs.Each.{each_next}
use Rattle.terms.proofs.Members.{among_more}
use Rattle.terms.proofs.servers.ServerSet.of.Goals as goal

passed : (b : Bool) (e : Refusal) → unless b e None ≡ None → b ≡ true
passed true e is = refl
passed false e is = search rules

pub loop-s-preserved : goal.loop-s-preserved
loop-s-preserved c =
    let xs = c.args.servers.now in
    let i = c.loop-s.s-index in
    let s : ℕ = get_or xs i 0 in
    let added = c.in_ok-add.ensures.added_or_refused in (
      each_next (λ v. ltb v 6) xs i 0 c.loop-s-test.true (passed _ _ added.0) c.loop-s.invariant.0,
      λ t. added.1 t ∙ ap (λ (b : Bool). eqb t s || b) (c.loop-s.invariant.1 t) ∙ sym (among_more xs i t c.loop-s-test.true),
    )
