-- What a history holds: the values of some writes, by object and tag. Assumes nothing.
use Rattle.std.specs.Prelude.{ℕ, Bool, true, false, cond, ◌&&◌, ◌||◌, List, [], ◌∷◌, fold, ◌==◌}
use Rattle.terms.specs.Lists.{listed}
use Rattle.message.specs.declared.tag.Tag.{Tag}
use Rattle.message.specs.Tags.{zero_tag, lower, same}

-- The value of the object's write with this tag.
pub record Entry : Type 0 where
  pub object : ℕ
  pub tag : Tag
  pub value : List ℕ

-- what the zero tag stands for: as many zero cells as a value has
abbrev pub zero_record : ℕ → List ℕ
zero_record cells = listed cells (λ _. 0)

-- the entry is that of x under t
abbrev pub is_entry : ℕ → Tag → Entry → Bool
is_entry x t e = e.object == x && same e.tag t

-- there is an entry of x under t
unfoldable pub has_entry : List Entry → ℕ → Tag → Bool
has_entry [] x t = false
has_entry (e ∷ es) x t = is_entry x t e || has_entry es x t

-- a tag of x is held if there is an entry, or the tag is zero
abbrev pub holds : List Entry → ℕ → Tag → Bool
holds es x t = same t zero_tag || has_entry es x t

-- the value entered for x under t: the earliest entered counts
unfoldable pub entered_value : ℕ → List Entry → ℕ → Tag → List ℕ
entered_value cells [] x t = zero_record cells
entered_value cells (e ∷ es) x t = cond (is_entry x t e) e.value (entered_value cells es x t)

-- the value held of x under t
unfoldable pub value_under : ℕ → List Entry → ℕ → Tag → List ℕ
value_under cells es x t = cond (same t zero_tag) (zero_record cells) (entered_value cells es x t)

-- the later of two tags, and the earlier
abbrev pub later : Tag → Tag → Tag
later s t = cond (lower s t) t s

-- the earlier of two tags
abbrev pub earlier : Tag → Tag → Tag
earlier s t = cond (lower s t) s t

-- t, or the tag of the entry if it is one of x that passes and is above t
abbrev pub raised : (Tag → Bool) → ℕ → Tag → Entry → Tag
raised test x t e = cond (e.object == x && test e.tag) (later t e.tag) t

-- the highest tag of x that passes, or zero
unfoldable pub highest : (Tag → Bool) → ℕ → List Entry → Tag
highest test x es = fold (raised test x) zero_tag es

-- the highest held tag of x
abbrev pub highest_held : List Entry → ℕ → Tag
highest_held es x = highest (λ _. true) x es
