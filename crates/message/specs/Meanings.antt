-- What a message says, with ordinary lists. Assumes nothing.
use Rattle.std.specs.Prelude.{ℕ, List}
use Rattle.terms.specs.Items.{items}
use Rattle.message.specs.declared.tag.Tag.{Tag}
use Rattle.message.specs.declared.kinds.Message.{Message}
use Rattle.message.specs.declared.kinds.Message.TheVariants.{WriteNotice, TagNotice, Question, PlainReply, CodedReply}

pub data Meaning : Type 0 where
  write_notice : (object : ℕ) (value : List ℕ) (height : ℕ) (clock : List ℕ) → Meaning
  tag_notice : (object : ℕ) (tag : Tag) → Meaning
  question : (read object : ℕ) (tags : List Tag) → Meaning
  plain_reply : (read : ℕ) (value : List ℕ) → Meaning
  coded_reply : (read : ℕ) (symbol : List ℕ) (stated : List Tag) → Meaning

abbrev pub meaning : Message → Meaning
meaning (WriteNotice object value height clock) = write_notice object (items value) height (items clock)
meaning (TagNotice object tag) = tag_notice object tag
meaning (Question read object tags) = question read object (items tags)
meaning (PlainReply read value) = plain_reply read (items value)
meaning (CodedReply read symbol stated) = coded_reply read (items symbol) (items stated)
