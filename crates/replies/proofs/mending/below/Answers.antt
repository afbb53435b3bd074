use Rattle.std.proofs.Common.{ℕ, Bool, ap, ◌∙◌, sym}
use Rattle.terms.specs.Sets.{member}
use Rattle.terms.specs.declared.servers.ServerSet.{ServerSet}
use Rattle.replies.proofs.Hands.{gathered_more, gathered_skip}
use Rattle.replies.proofs.mending.below.Goals as goal
use Rattle.replies.proofs.mending.below.Goals.{then-has, else-has}

pub loop-s-preserved : goal.loop-s-preserved
loop-s-preserved c j =
    let f : ℕ → Bool = member c.args.set in
    let g = member c.loop-s.known in
    let s = c.loop-s.s in
    elim c.if-has.branch [
      | then-has w ↦ ap (λ (t : ServerSet). member t j) w.known-is ∙ ap (λ (h : ℕ → Bool). h j) w.with-known.ensures ∙ gathered_more f g s c.loop-s.invariant (sym w.if-has.ensures.told) j
      | else-has w ↦ ap (λ (t : ServerSet). member t j) w.known-is ∙ gathered_skip f g s c.loop-s.invariant (sym w.if-has.ensures.told) j
    ]
