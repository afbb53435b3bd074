-- What a delivery tells, as the rules' answers. Assumes nothing.
use Rattle.std.specs.Prelude.{ℕ, None, Ok, Err, Result}
use Rattle.std.specs.Option.{option_map}
use Rattle.terms.specs.declared.refusal.Refusal.{Refusal}
use Rattle.message.specs.Meanings.{meaning}
use Rattle.rules.specs.State.{Server}
use Rattle.rules.specs.Turns.{Refused, Outcome}
use Rattle.steps.specs.Local.{Local, local}
use Rattle.steps.specs.declared.turns.Turn.{Turn}
use Rattle.replies.specs.declared.turns.Delivered.{Delivered}
use Rattle.replies.specs.declared.turns.Delivered.TheVariants as delivered

-- the number of each outcome of a delivery
abbrev pub delivered_number : Delivered → ℕ
delivered_number delivered.Noted = 0
delivered_number delivered.RepliedPlain = 1
delivered_number delivered.RepliedCoded = 2
delivered_number delivered.InHand = 3
delivered_number delivered.Answered = 4
delivered_number delivered.NotOpen = 5
delivered_number delivered.Unusable = 6
delivered_number delivered.Unfit = 7

-- a reply that was taken, and the server after it
abbrev pub reply_said : Result Delivered Refusal → Server → Local
reply_said (Ok o) q = local (Outcome (delivered_number o)) q None
reply_said (Err e) q = local (Refused e) q None

-- a delivery, and the server after it
abbrev pub deliver_said : Result (Turn Delivered) Refusal → Server → Local
deliver_said (Ok t) q = local (Outcome (delivered_number t.answer)) q (option_map meaning t.news)
deliver_said (Err e) q = local (Refused e) q None
