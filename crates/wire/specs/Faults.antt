-- Each fault by number, byte and layer. Assumes nothing.
use Rattle.std.specs.Prelude.{ℕ}
use Rattle.wire.specs.declared.faults.Told.{Told}
use Rattle.wire.specs.declared.faults.MarkFault.{MarkFault}
use Rattle.wire.specs.declared.faults.MarkFault.TheVariants as mark
use Rattle.wire.specs.declared.faults.FieldFault.{FieldFault}
use Rattle.wire.specs.declared.faults.FieldFault.TheVariants as field
use Rattle.wire.specs.declared.faults.MessageFault.{MessageFault}
use Rattle.wire.specs.declared.faults.MessageFault.TheVariants as message

-- the number, the byte at which the field starts, the layer
abbrev pub told : ℕ → ℕ → ℕ → Told
told number at layer = record { number = number; at = at; layer = layer }

-- the mark starts at byte 0
abbrev pub told_mark : MarkFault → Told
told_mark mark.TooShort = told 19 0 1
told_mark mark.NotLast = told 20 0 1

abbrev pub told_field : FieldFault → Told
told_field (field.Mark fault) = told_mark fault
told_field (field.TooShort at) = told 19 at 2
told_field (field.Malformed at) = told 21 at 2

abbrev pub told_message : MessageFault → Told
told_message (message.Field fault) = told_field fault
told_message (message.UnknownKind at) = told 22 at 3
told_message (message.OutOfRange at) = told 23 at 3
told_message (message.BytesLeft at) = told 24 at 3
