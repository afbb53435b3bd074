-- What a history within the ranges of messages gives is within them. Assumes nothing.
use Rattle.std.proofs.Common.{◌≡◌, ℕ, ◌≤◌, Bool, true, ◌&&◌, eqb, List, [], ◌∷◌, length, fold, sym, refl, subst}
use Rattle.std.specs.List.{list_all}
use Rattle.std.proofs.lemmas.Bool.{cond_both, and_parts, leb-true}
use Rattle.terms.proofs.Listed.{length_listed}
use Rattle.message.specs.declared.tag.Tag.{Tag}
use Rattle.message.specs.Ranges.{tag_ok}
use Rattle.message.specs.Tags.{zero_tag, lower, same}
use Rattle.rules.specs.Histories.{Entry, is_entry, entered_value, value_under, zero_record, later, raised, highest}
use Rattle.teller.specs.InRange.{entry_ok, some_cells}

abbrev OkTag : Tag → Type 0
OkTag t = tag_ok t ≡ true

raised_ok : (test : Tag → Bool) (x : ℕ) (t : Tag) (e : Entry) → OkTag e.tag → OkTag t → OkTag (raised test x t e)
raised_ok test x t e held ok =
    cond_both (eqb e.object x && test e.tag) (later t e.tag) t OkTag (λ _. cond_both (lower t e.tag) e.tag t OkTag (λ _. held) (λ _. ok)) (λ _. ok)

folded_ok : (test : Tag → Bool) (x : ℕ) (t : Tag) (es : List Entry) → list_all entry_ok es ≡ true → OkTag t → OkTag (fold (raised test x) t es)
folded_ok test x t [] in_range ok = ok
folded_ok test x t (e ∷ es) in_range ok =
    let parts = and_parts (entry_ok e) (list_all entry_ok es) in_range in
    folded_ok test x (raised test x t e) es parts.1 (raised_ok test x t e (and_parts (tag_ok e.tag) (some_cells e.value) parts.0).0 ok)

-- the highest tag is within range
pub highest_ok : (es : List Entry) → list_all entry_ok es ≡ true → (test : Tag → Bool) (x : ℕ) → tag_ok (highest test x es) ≡ true
unfolding highest
highest_ok es in_range test x = folded_ok test x zero_tag es in_range refl

abbrev SomeCells : List ℕ → Type 0
SomeCells v = 1 ≤ length v

zero_some : (cells : ℕ) → 1 ≤ cells → SomeCells (zero_record cells)
zero_some cells one = subst (λ (n : ℕ). 1 ≤ n) (sym (length_listed {A = ℕ} cells (λ _. 0))) one

entered_some : (cells : ℕ) (es : List Entry) (x : ℕ) (t : Tag) → list_all entry_ok es ≡ true → 1 ≤ cells → SomeCells (entered_value cells es x t)
unfolding entered_value
entered_some cells [] x t in_range one = zero_some cells one
entered_some cells (e ∷ es) x t in_range one =
    let parts = and_parts (entry_ok e) (list_all entry_ok es) in_range in
    let some = leb-true 1 (length e.value) (and_parts (tag_ok e.tag) (some_cells e.value) parts.0).1 in
    cond_both (is_entry x t e) e.value (entered_value cells es x t) SomeCells (λ _. some) (λ _. entered_some cells es x t parts.1 one)

-- the value under a tag has cells
pub value_some : (cells : ℕ) (es : List Entry) (x : ℕ) (t : Tag) → list_all entry_ok es ≡ true → 1 ≤ cells → 1 ≤ length (value_under cells es x t)
unfolding value_under
value_some cells es x t in_range one =
    cond_both (same t zero_tag) (zero_record cells) (entered_value cells es x t) SomeCells (λ _. zero_some cells one) (λ _. entered_some cells es x t in_range one)
