-- What the steps of one server tell, as the rules' answers. Assumes nothing.
use Rattle.std.specs.Option.{option_map}
use Rattle.std.specs.Prelude.{ℕ, Some, None, Ok, Err, Result}
use Rattle.terms.specs.Items.{items}
use Rattle.terms.specs.declared.refusal.Refusal.{Refusal}
use Rattle.message.specs.Meanings.{meaning}
use Rattle.rules.specs.State.{Server}
use Rattle.rules.specs.Turns as rules
use Rattle.rules.specs.Turns.{Answer, Refused, Numbered, StillOpen, Outcome}
use Rattle.steps.specs.Local.{Local, local}
use Rattle.steps.specs.declared.turns.Valued.{Valued}
use Rattle.steps.specs.declared.turns.ReadAnswer.{ReadAnswer}
use Rattle.steps.specs.declared.turns.ReadAnswer.TheVariants.{Given, Opened}
use Rattle.steps.specs.declared.turns.Asked.{Asked}
use Rattle.steps.specs.declared.turns.Encoded.{Encoded}
use Rattle.steps.specs.declared.turns.Encoded.TheVariants as encoded
use Rattle.steps.specs.declared.turns.Turn.{Turn}
use Rattle.steps.specs.declared.turns.CollectAnswer.{CollectAnswer}
use Rattle.steps.specs.declared.turns.CollectAnswer.TheVariants as collected

abbrev pub valued : Valued → Answer
valued v = rules.Valued (items v.value) v.tag v.way

abbrev pub read_answer : ReadAnswer → Answer
read_answer (Given v) = valued v
read_answer (Opened m) = Numbered m

-- a read that was opened, by what is answered with its number, and the server after it
abbrev pub asked_said : (ℕ → Answer) → Result Asked Refusal → Server → Local
asked_said told (Ok o) q = local (told o.number) q (Some (meaning o.question))
asked_said told (Err e) q = local (Refused e) q None

-- a read, and the server after it
abbrev pub read_said : Result (Turn ReadAnswer) Refusal → Server → Local
read_said (Ok t) q = local (read_answer t.answer) q (option_map meaning t.news)
read_said (Err e) q = local (Refused e) q None

-- the number of each outcome of an encode
abbrev pub encoded_number : Encoded → ℕ
encoded_number encoded.Nothing = 0
encoded_number encoded.Moved = 1
encoded_number encoded.Waiting = 2
encoded_number encoded.Decoded = 3
encoded_number encoded.Asked = 4

-- an encode, and the server after it
abbrev pub encode_said : Result (Turn Encoded) Refusal → Server → Local
encode_said (Ok t) q = local (Outcome (encoded_number t.answer)) q (option_map meaning t.news)
encode_said (Err e) q = local (Refused e) q None

abbrev pub collect_answer : CollectAnswer → Answer
collect_answer collected.StillOpen = StillOpen
collect_answer (collected.Given v) = valued v

-- a collect, and the server after it
abbrev pub collect_said : Result CollectAnswer Refusal → Server → Local
collect_said (Ok a) q = local (collect_answer a) q None
collect_said (Err e) q = local (Refused e) q None
