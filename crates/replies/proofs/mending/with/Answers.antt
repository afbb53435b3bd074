use Rattle.std.proofs.Common.{◌≡◌, ℕ, ◌||◌, eqb, ltb, Some, None, sym, ap, subst}
use Rattle.std.proofs.lemmas.Bool.{lt-ltb}
use Rattle.terms.specs.Answers.{unless}
use Rattle.terms.specs.Sets.{member}
use Rattle.terms.specs.declared.servers.ServerSet.{ServerSet}
use Rattle.terms.specs.declared.refusal.Refusal.{Refusal}
use Rattle.terms.specs.declared.refusal.Refusal.TheVariants.{NoSuchServer}
use Rattle.steps.proofs.Refused.{answered_or}
use Rattle.replies.proofs.Hands.{joined_upd}
use Rattle.replies.proofs.mending.with.Goals as goal

pub returns : goal.returns
returns c =
    let set = c.args.set in
    let s = c.args.s.number in
    let Joined : ServerSet → Type 0 = λ t. (j : ℕ) → member t j ≡ (eqb j s || member set j) in
    let never : (e : Refusal) → unless (ltb s 6) NoSuchServer None ≡ Some e → Joined set = λ e h. let room = lt-ltb s 6 c.args.s.within in absurd (cc (ap (λ b. unless b NoSuchServer None) room)) in
    joined_upd (member set) (member c.unwrap_or.result) s (subst Joined (sym c.unwrap_or.ensures) (answered_or (unless (ltb s 6) NoSuchServer None) Joined c.with.result set never c.with.ensures.added_or_refused))
