use Rattle.std.proofs.Common.{◌≡◌, ℕ, ◌<◌, length, slice_index_or}
use Rattle.terms.specs.Items.{items}
use Rattle.terms.proofs.bounded.Bounded.from_fn.Given as goal

abbrev pub invariant-loop-i : goal.invariant-loop-i
invariant-loop-i g l = (length (items l.all) ≡ l.i) × ((k : ℕ) → k < l.i → goal.F-post g l.make k (slice_index_or (items l.all) k l.fn.fill))
