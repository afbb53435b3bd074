-- What a group keeps: its servers and its lanes. Assumes nothing.
use Rattle.std.specs.Prelude.{ℕ, ◌+◌, Bool, List, []}
use Rattle.terms.specs.Limits.{max_client_reads, max_objects}
use Rattle.message.specs.declared.tag.Tag.{Tag}
use Rattle.message.specs.Tags.{zero_tag}
use Rattle.message.specs.Meanings.{Meaning}
use Rattle.code.specs.Codings.{Coding}
use Rattle.rules.specs.Lanes.{Lanes}
use Rattle.rules.specs.Histories.{Entry, zero_record}

-- What is fixed when a group is laid out: its code, and how many messages a lane takes.
pub record Layout : Type 0 where
  pub code : Coding
  pub places : ℕ

-- A write of another server that waits to be applied. Its tag has the server that made it; the clock is that server's when it made the write.
pub record Waiting : Type 0 where
  pub object : ℕ
  pub tag : Tag
  pub value : List ℕ
  pub clock : List ℕ

-- An open read: its number, its object, the server's own tags when it was opened, and the symbols in hand, of the servers in hand.
pub record Asking : Type 0 where
  pub number : ℕ
  pub object : ℕ
  pub tags : ℕ → Tag
  pub hand : ℕ → Bool
  pub symbols : ℕ → List ℕ

-- An answered read that is not collected yet.
pub record Given : Type 0 where
  pub number : ℕ
  pub value : List ℕ
  pub tag : Tag
  pub way : ℕ

-- A place for a read.
pub data Read : Type 0 where
  Free : Read
  Open : Asking → Read
  Answered : Given → Read

-- the places 0 to 7 are the clients'; behind them is one for the internal read of each object
abbrev pub all_reads : ℕ
all_reads = max_client_reads + max_objects

-- the place of the internal read of x
abbrev pub internal : ℕ → ℕ
internal x = max_client_reads + x

pub record Server : Type 0 where
  -- the writes applied, of each server
  pub clock : ℕ → ℕ
  -- the greatest height applied
  pub top : ℕ
  pub symbol : List ℕ
  -- the own tag of each object
  pub own : ℕ → Tag
  -- the tag of an object that a server told last, by object and teller; the server tells itself its own tag
  pub told : ℕ → ℕ → Tag
  pub history : List Entry
  pub waiting : List Waiting
  pub reads : ℕ → Read
  -- how many reads were opened, of both sorts together: the number of the last
  pub opened : ℕ

pub record State : Type 0 where
  pub servers : ℕ → Server
  pub lanes : Lanes Meaning

-- ---- a new group: all is zero or empty

-- a new server
abbrev pub new_server : ℕ → Server
new_server cells = record {
  clock = λ _. 0;
  top = 0;
  symbol = zero_record cells;
  own = λ _. zero_tag;
  told = λ _ _. zero_tag;
  history = [];
  waiting = [];
  reads = λ _. Free;
  opened = 0;
}

-- a new group
abbrev pub new_group : Layout → State
new_group l = record { servers = λ _. new_server l.code.cells; lanes = λ _ _. [] }
