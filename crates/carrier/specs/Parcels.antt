-- Bytes that begin with a record. Assumes nothing.
use Rattle.std.specs.Prelude.{ℕ, Bool, List, is_ok, Ok, Err, Result}
use Rattle.message.specs.Meanings.{Meaning, tag_notice}
use Rattle.message.specs.Tags.{zero_tag}
use Rattle.wire.specs.declared.faults.MessageFault.{MessageFault}
use Rattle.wire.specs.Reading.{reading}

abbrev pub is_record : List ℕ → Bool
is_record bytes = is_ok (reading bytes)

-- what stands in memory that no message was put into: the tag notice of object 0 with the zero tag
abbrev pub blank_message : Meaning
blank_message = tag_notice 0 zero_tag

-- what bytes that are read so hold; those that begin with no record are not put anywhere
abbrev pub message_of : Result (Meaning × ℕ) MessageFault → Meaning
message_of (Ok p) = p.0
message_of (Err f) = blank_message

-- the message that the bytes begin with
abbrev pub message_in : List ℕ → Meaning
message_in bytes = message_of (reading bytes)
