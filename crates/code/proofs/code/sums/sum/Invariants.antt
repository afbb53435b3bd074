use Rattle.std.proofs.Common.{◌≡◌, ℕ, ◌<◌}
use Rattle.field.specs.Sums.{sum}
use Rattle.code.proofs.code.sums.sum.Given as goal

abbrev pub invariant-loop-j : goal.invariant-loop-j
invariant-loop-j g l =
    (terms : ℕ → ℕ) → ((j y : ℕ) → j < l.n → goal.T-post g l.term j y → y ≡ terms j) → l.sum ≡ sum g.F.Field.arithmetic l.j terms
