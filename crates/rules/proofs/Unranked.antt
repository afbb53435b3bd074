-- The tag of a rank, and messages whose tags are ranks as messages with tags.
use Rattle.std.proofs.Common.{ℕ, map}
use Rattle.message.specs.declared.tag.Tag as declared
use Rattle.message.specs.Meanings.{Meaning, write_notice, tag_notice, question, plain_reply, coded_reply}
use Rattle.rules.proofs.RankedMessages.{Message, Written, Tagged, Question, Plain, Coded, height, server}

abbrev pub tag_at : ℕ → declared.Tag
tag_at t = record { height = height t; server = server t }

abbrev pub message_at : Message → Meaning
message_at (Written x v h clock) = write_notice x v h clock
message_at (Tagged x t) = tag_notice x (tag_at t)
message_at (Question m x ts) = question m x (map tag_at ts)
message_at (Plain m v) = plain_reply m v
message_at (Coded m v ts) = coded_reply m v (map tag_at ts)
