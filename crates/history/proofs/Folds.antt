-- A loop that folds, one item at a time. Assumes nothing.
use Rattle.std.proofs.Common.{◌≡◌, ℕ, ◌+◌, ◌<◌, Bool, true, false, cond, ◌&&◌, eqb, List, [], ◌∷◌, map, length, get_or, take, fold, sym, refl, ap, ◌∙◌}
use Rattle.std.proofs.lemmas.List.Sums.{fold_more}
use Rattle.message.specs.declared.tag.Tag.{Tag}
use Rattle.message.specs.Tags.{lower}
use Rattle.rules.specs.Histories.{Entry, raised}
use Rattle.history.specs.Entries.{rises}

-- now is what the step makes of the fold so far and of the item at i
pub fold_step : {X Y : Type 0} (f : Y → X → Y) (a : Y) (xs : List X) (i : ℕ) (d : X) (before after : Y) → i < length xs → before ≡ fold f a (take i xs) → after ≡ f before (get_or xs i d) → after ≡ fold f a (take (i + 1) xs)
fold_step f a xs i d before after lt inv e = e ∙ ap (λ y. f y (get_or xs i d)) inv ∙ sym (fold_more f a xs i d lt)

pub folded_map : {X Y Z : Type 0} (g : X → Z) (f : Y → Z → Y) (a : Y) (xs : List X) → fold (λ y x. f y (g x)) a xs ≡ fold f a (map g xs)
folded_map g f a [] = refl
folded_map g f a (x ∷ xs) = folded_map g f (f a (g x)) xs

-- the highest tag goes up exactly where an entry lets it rise
pub raised_by : (test : Tag → Bool) (x : ℕ) (t : Tag) (e : Entry) → cond (rises test x t e) e.tag t ≡ raised test x t e
raised_by test x t e = go (eqb e.object x) (lower t e.tag) (test e.tag)
  where
    go : (a b c : Bool) → cond ((a && b) && c) e.tag t ≡ cond (a && c) (cond b e.tag t) t
    go true true true = refl
    go true true false = refl
    go true false true = refl
    go true false false = refl
    go false b c = refl
