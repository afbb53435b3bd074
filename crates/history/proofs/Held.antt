-- What the place of a value tells of what is held. Assumes nothing.
use Rattle.std.proofs.Common.{◌≡◌, ℕ, ◌+◌, ◌<◌, ◌≤◌, Bool, true, false, cond, ◌||◌, List, [], ◌∷◌, map, length, get_or, is_some, Some, None, Option, sym, refl, ap, ◌∙◌, add-one, arith}
use Rattle.std.proofs.lemmas.List.{get_or-map, length-map, get_or_past}
use Rattle.message.specs.declared.tag.Tag.{Tag}
use Rattle.message.specs.Tags.{same, zero_tag}
use Rattle.rules.specs.Histories.{Entry, is_entry, has_entry, holds, entered_value, value_under, zero_record}
use Rattle.std.specs.List.{position_from}
use Rattle.history.specs.Entries.{place_of, value_at}

some_if : (b : Bool) (i : ℕ) (o : Option ℕ) (r : Bool) → is_some o ≡ r → is_some (cond b (Some i) o) ≡ (b || r)
some_if true i o r e = refl
some_if false i o r e = e

first_has : (es : List Entry) (x : ℕ) (t : Tag) (i : ℕ) → is_some (position_from (is_entry x t) i es) ≡ has_entry es x t
unfolding has_entry
first_has [] x t i = refl
first_has (e ∷ es) x t i = some_if (is_entry x t e) i (position_from (is_entry x t) (i + 1) es) (has_entry es x t) (first_has es x t (i + 1))

-- a value is held exactly where it has a place
pub place_holds : (es : List Entry) (x : ℕ) (t : Tag) → is_some (place_of es x t) ≡ holds es x t
place_holds es x t = some_if (same t zero_tag) (length es) (position_from (is_entry x t) 0 es) (has_entry es x t) (first_has es x t 0)

-- the value at what a look-up found, and the zero record where it found nothing
abbrev pub found_value : ℕ → List Entry → Option ℕ → List ℕ
found_value cells es None = zero_record cells
found_value cells es (Some i) = value_at cells es i

abbrev later : ℕ → Option ℕ → Option ℕ
later k None = None
later k (Some i) = Some (i + k)

later_if : (b : Bool) (i : ℕ) (o u : Option ℕ) → u ≡ later 1 o → cond b (Some (i + 1)) u ≡ later 1 (cond b (Some i) o)
later_if true i o u e = refl
later_if false i o u e = e

first_later : {A : Type 0} (p : A → Bool) (i : ℕ) (xs : List A) → position_from p (i + 1) xs ≡ later 1 (position_from p i xs)
first_later p i [] = refl
first_later p i (x ∷ xs) = later_if (p x) i (position_from p (i + 1) xs) (position_from p (i + 1 + 1) xs) (first_later p (i + 1) xs)

value_later : (cells : ℕ) (e : Entry) (es : List Entry) (o : Option ℕ) → found_value cells (e ∷ es) (later 1 o) ≡ found_value cells es o
value_later cells e es None = refl
value_later cells e es (Some i) = ap (λ k. value_at cells (e ∷ es) k) (add-one i)

value_at_first : (cells : ℕ) (e : Entry) (es : List Entry) (o : Option ℕ) (v : List ℕ) (b : Bool) → found_value cells es o ≡ v → found_value cells (e ∷ es) (cond b (Some 0) (later 1 o)) ≡ cond b e.value v
value_at_first cells e es o v true h = refl
value_at_first cells e es o v false h = value_later cells e es o ∙ h

first_value : (cells : ℕ) (es : List Entry) (x : ℕ) (t : Tag) → found_value cells es (position_from (is_entry x t) 0 es) ≡ entered_value cells es x t
unfolding entered_value
first_value cells [] x t = refl
first_value cells (e ∷ es) x t =
    ap (λ (o : Option ℕ). found_value cells (e ∷ es) (cond (is_entry x t e) (Some 0) o)) (first_later (is_entry x t) 0 es)
    ∙ value_at_first cells e es (position_from (is_entry x t) 0 es) (entered_value cells es x t) (is_entry x t e) (first_value cells es x t)

pub value_past : (cells : ℕ) (es : List Entry) (i : ℕ) → length es ≤ i → zero_record cells ≡ value_at cells es i
value_past cells es i le = sym (get_or_past (map (λ (d : Entry). d.value) es) i (zero_record cells) (simp length-map le))

-- the value at the place of x under t is the one held under t
pub place_value : (cells : ℕ) (es : List Entry) (x : ℕ) (t : Tag) → found_value cells es (place_of es x t) ≡ value_under cells es x t
unfolding value_under
place_value cells es x t = go (same t zero_tag)
  where
    go : (b : Bool) → found_value cells es (cond b (Some (length es)) (position_from (is_entry x t) 0 es)) ≡ cond b (zero_record cells) (entered_value cells es x t)
    go true = sym (value_past cells es (length es) (omega arith))
    go false = first_value cells es x t

pub value_in : (cells : ℕ) (es : List Entry) (i : ℕ) (e : Entry) → i < length es → e ≡ get_or es i e → e.value ≡ value_at cells es i
value_in cells es i e lt is = ap (λ (d : Entry). d.value) is ∙ sym (get_or-map (λ (d : Entry). d.value) es i e (zero_record cells) lt)
