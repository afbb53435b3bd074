-- What a call tells all other servers. Assumes nothing.
use Rattle.std.specs.Prelude.{◌≡◌, ℕ, Bool, true, Some, None, Option}
use Rattle.message.specs.Meanings.{Meaning}
use Rattle.rules.specs.Lanes.{Lanes, spread}

-- the news from s, if there is any, at the end of each lane to another server below n
abbrev pub spread_news : Lanes Meaning → ℕ → ℕ → Option Meaning → Lanes Meaning
spread_news lanes s n None = lanes
spread_news lanes s n (Some m) = spread lanes s n m

-- the lanes are free if there is news
abbrev pub HasRoom : Option Meaning → Bool → Type 0
HasRoom None free = Unit {0}
HasRoom (Some m) free = free ≡ true
