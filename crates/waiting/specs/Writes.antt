-- Waiting writes as the rules see them, and which is ready. Assumes nothing.
use Rattle.std.specs.Prelude.{ℕ, zero, suc, ◌+◌, Bool, cond, List, map, None, vec_items, Option, ◌==◌, nat_le, slice_index}
use Rattle.terms.specs.Items.{items}
pub use Rattle.reads.specs.Places.{Inside}
use Rattle.rules.specs.State as rules
use Rattle.terms.specs.Lists.{every}
use Rattle.rules.specs.Writing.{write_at, better}
use Rattle.waiting.specs.declared.waiting.Waiting.{Waiting}
use Rattle.waiting.specs.declared.waiting.Queue.{Queue}

abbrev pub write : Waiting → rules.Waiting
write w = record { object = w.object; tag = w.tag; value = items w.value; clock = items w.clock }

abbrev pub writes : Queue → List rules.Waiting
writes q = map write (vec_items q.writes)

-- the same tests as the rules', of a clock in place of a server
abbrev pub fits_count : (ℕ → ℕ) → rules.Waiting → ℕ → Bool
fits_count clock w j = cond (j == w.tag.server) (slice_index w.clock j == clock j + 1) (nat_le (slice_index w.clock j) (clock j))

abbrev pub ready : ℕ → (ℕ → ℕ) → rules.Waiting → Bool
ready n clock w = every n (fits_count clock w)

abbrev pub better_of : ℕ → (ℕ → ℕ) → List rules.Waiting → Option ℕ → ℕ → Option ℕ
better_of n clock ws best i = cond (ready n clock (write_at ws i)) (better ws best i) best

unfoldable pub next_of : ℕ → (ℕ → ℕ) → List rules.Waiting → ℕ → Option ℕ
next_of n clock ws zero = None
next_of n clock ws (suc i) = better_of n clock ws (next_of n clock ws i) i
