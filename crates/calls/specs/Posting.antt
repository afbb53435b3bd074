-- A message to one server. Assumes nothing.
use Rattle.std.specs.Prelude.{◌≡◌, ℕ, cond, not, ◌&&◌, [], ◌∷◌, ◌++◌, ◌==◌}
use Rattle.message.specs.Meanings.{Meaning}
use Rattle.rules.specs.Lanes.{Lanes}

-- m at the end of the lane from i to j; there is no lane from a server to itself
unfoldable pub posted_other : Lanes Meaning → ℕ → ℕ → Meaning → Lanes Meaning
posted_other lanes i j m a b = cond (a == i && (b == j && not (b == i))) (lanes a b ++ m ∷ []) (lanes a b)

-- a carrier has as many servers, and as many places in a lane, as before
abbrev pub SameSizes : {C : Type 0} → (C → ℕ) → (C → ℕ) → C → C → Type 0
SameSizes servers places now before = (servers now ≡ servers before) × (places now ≡ places before)
