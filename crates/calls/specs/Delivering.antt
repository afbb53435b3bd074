-- What a delivery makes of the lanes, and when it is refused before it comes to its server. Assumes nothing.
use Rattle.std.specs.Prelude.{ℕ, Some, None, Ok, Err, Option, Result}
use Rattle.terms.specs.declared.refusal.Refusal.{Refusal}
use Rattle.message.specs.Meanings.{Meaning}
use Rattle.rules.specs.Lanes.{Lanes, posted, taken}
use Rattle.rules.specs.Turns.{Answer, Refused, Outcome}
use Rattle.replies.specs.declared.turns.Delivered.{Delivered}
use Rattle.replies.specs.Told.{delivered_number}

-- the oldest message of the lane from a to b is taken, and the reply, if there is one, goes back
abbrev pub answered_lanes : Lanes Meaning → ℕ → ℕ → Option Meaning → Lanes Meaning
answered_lanes lanes a b None = taken lanes a b
answered_lanes lanes a b (Some m) = posted (taken lanes a b) b a m

abbrev pub deliver_told : Result Delivered Refusal → Answer
deliver_told (Ok o) = Outcome (delivered_number o)
deliver_told (Err e) = Refused e
