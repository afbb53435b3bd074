-- What a carrier holds, and what each of its calls does to it. Assumes nothing.
use Rattle.std.specs.Prelude.{ℕ, cond, ◌&&◌, List, [], ◌∷◌, ◌++◌, length, drop, Some, None, Option, ◌==◌, nat_lt}
use Rattle.terms.specs.declared.refusal.Refusal.{Refusal}
use Rattle.terms.specs.declared.refusal.Refusal.TheVariants.{NoSuchServer, EqualEnds, LaneEmpty, LaneFull, OutOfRange}
use Rattle.message.specs.Meanings.{Meaning}
use Rattle.message.specs.Ranges.{in_range}

-- the messages under way from one server to another, oldest first
abbrev pub Lanes : Type 0
Lanes = ℕ → ℕ → List Meaning

-- the same lanes but for that from one server to another, which is now l
unfoldable pub with_lane : Lanes → ℕ → ℕ → List Meaning → Lanes
with_lane lanes from to l = λ f t. cond (f == from && t == to) l (lanes f t)

-- refusals, in the order of the checks: the first that there is

abbrev pub or_else : Option Refusal → Option Refusal → Option Refusal
or_else None more = more
or_else (Some e) more = Some e

-- no such lane among n servers
abbrev pub ends_refusal : ℕ → ℕ → ℕ → Option Refusal
ends_refusal n from to = cond (nat_lt from n && nat_lt to n) (cond (from == to) (Some EqualEnds) None) (Some NoSuchServer)

-- a lane of p places takes one message more
abbrev pub room_refusal : ℕ → List Meaning → Option Refusal
room_refusal p lane = cond (nat_lt (length lane) p) None (Some LaneFull)

abbrev pub range_refusal : Meaning → Option Refusal
range_refusal m = cond (in_range m) None (Some OutOfRange)

abbrev pub post_refusal : ℕ → ℕ → Lanes → ℕ → ℕ → Meaning → Option Refusal
post_refusal n p lanes from to m = or_else (ends_refusal n from to) (or_else (room_refusal p (lanes from to)) (range_refusal m))

abbrev pub empty_refusal : List Meaning → Option Refusal
empty_refusal [] = Some LaneEmpty
empty_refusal (m ∷ lane) = None

abbrev pub take_refusal : ℕ → Lanes → ℕ → ℕ → Option Refusal
take_refusal n lanes from to = or_else (ends_refusal n from to) (empty_refusal (lanes from to))

-- the lanes after a call: as they were where it is refused

abbrev pub unless : Option Refusal → Lanes → Lanes → Lanes
unless None before done = done
unless (Some e) before done = before

-- one message more at the end of a lane
abbrev pub posted : ℕ → ℕ → Lanes → ℕ → ℕ → Meaning → Lanes
posted n p lanes from to m = unless (post_refusal n p lanes from to m) lanes (with_lane lanes from to (lanes from to ++ m ∷ []))

-- the oldest message of a lane is gone
abbrev pub taken : ℕ → Lanes → ℕ → ℕ → Lanes
taken n lanes from to = unless (take_refusal n lanes from to) lanes (with_lane lanes from to (drop 1 (lanes from to)))
