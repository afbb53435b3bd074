-- The lanes between servers, and what is posted to them and taken from them. Assumes nothing.
use Rattle.std.specs.Prelude.{ℕ, Bool, cond, not, ◌&&◌, ◌||◌, List, [], ◌∷◌, ◌++◌, length, drop, ◌==◌, nat_lt}
use Rattle.terms.specs.Lists.{every}

-- The lane from each server to each other: messages, oldest first.
abbrev pub Lanes : Type 0 → Type 0
Lanes M = ℕ → ℕ → List M

module _ {M : Type 0} where
  -- m at the end of the lane from i to j
  unfoldable pub posted : Lanes M → ℕ → ℕ → M → Lanes M
  posted lanes i j m a b = cond (a == i && b == j) (lanes a b ++ m ∷ []) (lanes a b)

  -- m at the end of each lane from i to another server below n
  unfoldable pub spread : Lanes M → ℕ → ℕ → M → Lanes M
  spread lanes i n m a b = cond (a == i && (nat_lt b n && not (b == i))) (lanes a b ++ m ∷ []) (lanes a b)

  -- the lane from i to j without its oldest message
  unfoldable pub taken : Lanes M → ℕ → ℕ → Lanes M
  taken lanes i j a b = cond (a == i && b == j) (drop 1 (lanes a b)) (lanes a b)

  -- each lane from i to another server below n has a free place
  abbrev pub free : ℕ → Lanes M → ℕ → ℕ → Bool
  free places lanes i n = every n (λ j. (j == i) || nat_lt (length (lanes i j)) places)
