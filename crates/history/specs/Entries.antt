-- A history's entries as the rules see them, and where a value lies. Assumes nothing.
use Rattle.std.specs.Prelude.{ℕ, Bool, cond, ◌&&◌, List, map, length, Some, vec_items, Option, ◌==◌, slice_index_or}
use Rattle.std.specs.List.{position_from}
use Rattle.terms.specs.Items.{items}
use Rattle.message.specs.declared.tag.Tag.{Tag}
use Rattle.message.specs.Tags.{zero_tag, lower, same}
use Rattle.rules.specs.Histories as rules
use Rattle.rules.specs.Histories.{is_entry, zero_record}
use Rattle.history.specs.declared.history.Entry.{Entry}
use Rattle.history.specs.declared.history.History.{History}

abbrev pub entry : Entry → rules.Entry
entry e = record { object = e.object; tag = e.tag; value = items e.value }

abbrev pub entries : History → List rules.Entry
entries h = map entry (vec_items h.entries)

-- where the value of x under t lies: the zero record lies past all entries
abbrev pub place_of : List rules.Entry → ℕ → Tag → Option ℕ
place_of es x t = cond (same t zero_tag) (Some (length es)) (position_from (is_entry x t) 0 es)

-- the value at a place; past all entries it is the zero record
abbrev pub value_at : ℕ → List rules.Entry → ℕ → List ℕ
value_at cells es i = slice_index_or (map (λ e. e.value) es) i (zero_record cells)

-- e is an entry of x with a tag above t
abbrev pub raises : ℕ → Tag → rules.Entry → Bool
raises x t e = e.object == x && lower t e.tag

-- and its tag passes
abbrev pub rises : (Tag → Bool) → ℕ → Tag → rules.Entry → Bool
rises test x t e = raises x t e && test e.tag
