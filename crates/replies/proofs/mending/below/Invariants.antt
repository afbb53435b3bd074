use Rattle.std.proofs.Common.{◌≡◌, ℕ, ◌&&◌, ltb}
use Rattle.terms.specs.Sets.{member}
use Rattle.replies.proofs.mending.below.Given as goal

abbrev pub invariant-loop-s : goal.invariant-loop-s
invariant-loop-s l = (j : ℕ) → member l.known j ≡ (ltb j l.s && member l.set j)
