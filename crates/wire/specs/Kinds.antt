-- The number of each kind of message. Assumes nothing.
use Rattle.std.specs.Prelude.{◌≡◌, ℕ, Ok, Err, Result, ◌≢◌}
use Rattle.wire.specs.declared.kind.Kind.{Kind}
use Rattle.wire.specs.declared.kind.Kind.TheVariants.{WriteNotice, TagNotice, Question, PlainReply, CodedReply}
use Rattle.wire.specs.declared.kind.NoSuchKind.{NoSuchKind}

abbrev pub kind_number : Kind → ℕ
kind_number WriteNotice = 1
kind_number TagNotice = 2
kind_number Question = 3
kind_number PlainReply = 4
kind_number CodedReply = 5

-- the kind that a number is of, or that it is of none
abbrev pub Names : ℕ → Result Kind NoSuchKind → Type 0
Names n (Ok kind) = n ≡ kind_number kind
Names n (Err e) = (kind : Kind) → kind_number kind ≢ n
