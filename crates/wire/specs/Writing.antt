-- What a message is written as. Assumes nothing.
use Rattle.std.specs.Prelude.{ℕ, ◌+◌, ◌-◌, List, ◌++◌, length, replicate}
use Rattle.std.specs.List.{flat_map}
use Rattle.message.specs.declared.tag.Tag.{Tag}
use Rattle.message.specs.Meanings.{Meaning, write_notice, tag_notice, question, plain_reply, coded_reply}
use Rattle.wire.specs.Words.{four, padded, last_fragment}

abbrev pub tag_bytes : Tag → List ℕ
tag_bytes t = four t.height ++ four t.server

-- variable opaque data: the length, the bytes, and zeros up to a multiple of 4
abbrev pub opaque_bytes : List ℕ → List ℕ
opaque_bytes v = four (length v) ++ (v ++ replicate (padded (length v) - length v) 0)

-- a variable array: the count, and the items
abbrev pub counted_bytes : {A : Type 0} → (A → List ℕ) → List A → List ℕ
counted_bytes f xs = four (length xs) ++ flat_map f xs

-- the kind, and the fields in order
abbrev pub body_bytes : Meaning → List ℕ
body_bytes (write_notice object value height clock) = four 1 ++ (four object ++ (opaque_bytes value ++ (four height ++ counted_bytes four clock)))
body_bytes (tag_notice object tag) = four 2 ++ (four object ++ tag_bytes tag)
body_bytes (question read object tags) = four 3 ++ (four read ++ (four object ++ counted_bytes tag_bytes tags))
body_bytes (plain_reply read value) = four 4 ++ (four read ++ opaque_bytes value)
body_bytes (coded_reply read symbol stated) = four 5 ++ (four read ++ (opaque_bytes symbol ++ counted_bytes tag_bytes stated))

-- a record of one fragment: the mark, and the body
abbrev pub marked : List ℕ → List ℕ
marked body = four (last_fragment + length body) ++ body

abbrev pub encode : Meaning → List ℕ
encode m = marked (body_bytes m)
