-- The calls, what they answer, and how a refusal is told. Assumes nothing.
use Rattle.std.specs.Prelude.{ℕ, Bool, cond, List, Some, None, Option}
use Rattle.terms.specs.declared.refusal.Refusal.{Refusal}
use Rattle.message.specs.declared.tag.Tag.{Tag}
use Rattle.rules.specs.State.{State}

pub data Call : Type 0 where
  Write : (server object : ℕ) (value : List ℕ) → Call
  -- room: how many cells the caller's place for the value has
  Read : (server object room : ℕ) → Call
  Collect : (server number room : ℕ) → Call
  Deliver : (from to : ℕ) → Call
  Apply : (server : ℕ) → Call
  Encode : (server object : ℕ) → Call
  Sweep : (server object : ℕ) → Call

pub data Answer : Type 0 where
  -- any call
  Refused : Refusal → Answer
  -- write, and apply: the tag of the write
  Tagged : Tag → Answer
  -- read and collect: the value, its tag and the way
  Valued : (value : List ℕ) (tag : Tag) (way : ℕ) → Answer
  -- read: the number of the read that was opened
  Numbered : ℕ → Answer
  -- collect
  StillOpen : Answer
  -- apply
  NothingReady : Answer
  -- deliver: 0 to 7; encode: 0 to 4
  Outcome : ℕ → Answer
  -- sweep: how many entries
  Removed : ℕ → Answer

-- What a step finds: whether the servers that it tests recover the object, the value that is decoded, and, where two ways of reading fit, whether the first is told.
-- The rules leave free which way is told, and which value is decoded from symbols that no list of values has. Runs.antt says what may be found.
pub record Found : Type 0 where
  pub recovered : Bool
  pub value : List ℕ
  pub first_way : Bool

-- What a call answers, and the state that it leaves.
pub record Turn : Type 0 where
  pub answer : Answer
  pub next : State

-- a turn by its parts
abbrev pub turn : Answer → State → Turn
turn a S = record { answer = a; next = S }

-- refused by r unless ok, and then by what the later checks say
abbrev pub check : Bool → Refusal → Option Refusal → Option Refusal
check ok r later = cond ok later (Some r)

-- a refusal changes nothing
abbrev pub unless : Option Refusal → State → Turn → Turn
unless None S t = t
unless (Some r) S t = turn (Refused r) S
