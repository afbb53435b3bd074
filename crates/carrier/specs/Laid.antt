-- When a carrier is laid out, and what it is then. Assumes nothing.
use Rattle.std.specs.Prelude.{◌≡◌, ℕ, ◌-◌, ◌*◌, cond, ◌&&◌, [], Some, None, Ok, Err, vec_len, Option, Result, Vec, nat_le}
use Rattle.std.specs.declared.alloc.Global.{Global}
use Rattle.terms.specs.declared.refusal.Refusal.{Refusal}
use Rattle.terms.specs.declared.refusal.Refusal.TheVariants.{ServersOutOfBounds, NoMemory}
use Rattle.terms.specs.Limits.{min_servers, max_servers, min_places, max_places}
use Rattle.message.specs.Meanings.{Meaning}
use Rattle.message.specs.Ranges.{between}
use Rattle.carrier.specs.Blocks.{lanes_of}
use Rattle.carrier.specs.declared.blocks.Blocks.{Blocks}
use Rattle.carrier.specs.declared.blocks.NotLaid.{NotLaid}

-- n servers, p places to a lane, over so many places in all
abbrev pub layout_refusal : ℕ → ℕ → ℕ → Option Refusal
layout_refusal n p size = cond (between min_servers max_servers n) (cond (between min_places max_places p && nat_le (n * (n - 1) * p) size) None (Some NoMemory)) (Some ServersOutOfBounds)

-- all lanes empty, over that memory; or the refusal, and the memory back
abbrev pub Laid : {A : Type 0} → (A → Meaning) → ℕ → ℕ → Vec A Global → Result (Blocks A) (NotLaid A) → Type 0
Laid held n p memory (Ok b) = (layout_refusal n p (vec_len memory) ≡ None) × (b.n ≡ n) × (b.p ≡ p) × ((from to : ℕ) → lanes_of held b from to ≡ []) × (b.memory ≡ memory)
Laid held n p memory (Err e) = (layout_refusal n p (vec_len memory) ≡ Some e.refusal) × (e.memory ≡ memory)
