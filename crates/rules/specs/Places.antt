-- A history by places: where a look-up finds a value, and what one filter makes of a sweep. For who keeps a history as a table. Assumes nothing.
use Rattle.std.specs.Prelude.{◌≡◌, ℕ, ◌+◌, ◌<◌, ◌≤◌, Bool, cond, not, ◌&&◌, ◌||◌, List, [], ◌∷◌, map, length, is_some, Some, None, filter, Option, ◌==◌, slice_index_or}
use Rattle.terms.specs.Limits.{max_entries}
use Rattle.message.specs.declared.tag.Tag.{Tag}
use Rattle.message.specs.Tags.{zero_tag, lower, same}
use Rattle.rules.specs.Histories.{Entry, is_entry, holds, value_under, zero_record}
use Rattle.rules.specs.State.{Layout, Server}
use Rattle.rules.specs.Encoding.{floor, wanted, settled, swept}

-- the first place, counted from i, whose entry passes
abbrev pub first : (Entry → Bool) → ℕ → List Entry → Option ℕ
first test i [] = None
first test i (e ∷ es) = cond (test e) (Some i) (first test (i + 1) es)

-- the place of the value held of x under t: for the zero tag a place past all entries
abbrev pub place : List Entry → ℕ → Tag → Option ℕ
place es x t = cond (same t zero_tag) (Some max_entries) (first (is_entry x t) 0 es)

-- the value at a place, and past the entries the zero record
abbrev pub value_at : ℕ → List Entry → ℕ → List ℕ
value_at cells es i = slice_index_or (map (λ (e : Entry). e.value) es) i (zero_record cells)

-- A tag is held exactly where it has a place, and its value is the one there.
pub record FoundByPlace (cells : ℕ) (es : List Entry) (x : ℕ) (t : Tag) : Type 0 where
  pub held : holds es x t ≡ is_some (place es x t)
  pub value : length es ≤ max_entries → (i : ℕ) → place es x t ≡ Some i → value_under cells es x t ≡ value_at cells es i

abbrev pub PlacesRight : Type 0
PlacesRight = (cells : ℕ) (es : List Entry) (x : ℕ) (t : Tag) → FoundByPlace cells es x t

module _ (l : Layout) where
  -- an entry of x goes if x is settled and it is the own tag's, or if it is below the floor and no open read wants it
  abbrev pub goes : Server → ℕ → Entry → Bool
  goes p x e = e.object == x && ((settled l p x p.history && same e.tag (p.own x)) || (lower e.tag (floor l p x) && not (wanted l p x e.tag)))

-- The two removals of a sweep are one: whether x is settled can be told before the first.
abbrev pub SweptAtOnce : Type 0
SweptAtOnce = (l : Layout) → 0 < l.code.servers → (p : Server) (x : ℕ) → swept l p x ≡ filter (λ e. not (goes l p x e)) p.history
