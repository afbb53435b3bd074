-- Lanes as blocks of places in one memory. Assumes nothing.
use Rattle.std.specs.Prelude.{◌≡◌, ℕ, ◌+◌, ◌-◌, ◌*◌, ◌<◌, Bool, cond, not, ◌&&◌, List, [], map, take, drop, vec_items, ◌==◌, nat_lt, slice_index}
use Rattle.terms.specs.Limits.{max_lanes}
use Rattle.message.specs.Meanings.{Meaning}
use Rattle.carrier.specs.Lanes.{Lanes}
use Rattle.carrier.specs.declared.blocks.Blocks.{Blocks}

abbrev pub is_lane : ℕ → ℕ → ℕ → Bool
is_lane n from to = nat_lt from n && nat_lt to n && not (from == to)

-- the lanes of n servers are numbered: first those from server 0, by their other end, then those from server 1, ..
abbrev pub lane_number : ℕ → ℕ → ℕ → ℕ
lane_number n from to = from * (n - 1) + cond (nat_lt to from) to (to - 1)

-- of block k of p places the first ones, as many as are in use
abbrev pub block : {A : Type 0} → ℕ → List A → List ℕ → ℕ → List A
block p places used k = take (slice_index used k) (drop (k * p) places)

-- the lanes of n servers at p places each, over places that each hold one message
unfoldable pub lanes_over : {A : Type 0} → (A → Meaning) → ℕ → ℕ → List A → List ℕ → Lanes
lanes_over held n p places used = λ from to. cond (is_lane n from to) (map held (block p places used (lane_number n from to))) []

abbrev pub lanes_of : {A : Type 0} → (A → Meaning) → Blocks A → Lanes
lanes_of held b = lanes_over held b.n b.p (vec_items b.memory) b.used

-- k is the number of the lane from one server to another
pub record Found (n from to k : ℕ) : Type 0 where
  pub is : k ≡ lane_number n from to
  pub below : k < n * (n - 1)
  pub small : k < max_lanes
