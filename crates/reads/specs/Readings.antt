-- Reads as the rules see them, and what an event makes of one. Assumes nothing.
use Rattle.std.specs.Prelude.{ℕ, Bool, List, map, vec_items, slice_index_or}
use Rattle.terms.specs.Items.{items}
use Rattle.terms.specs.Sets.{member}
use Rattle.message.specs.declared.tag.Tag.{Tag}
use Rattle.message.specs.Tags.{zero_tag}
use Rattle.rules.specs.State as rules
use Rattle.rules.specs.Updates.{answered, newer, is_free, has_number, is_open_as}
use Rattle.reads.specs.declared.reads.Asking.{Asking}
use Rattle.reads.specs.declared.reads.Given.{Given}
use Rattle.reads.specs.declared.reads.Read.{Read}
use Rattle.reads.specs.declared.reads.Read.TheVariants as ReadOf
use Rattle.reads.specs.declared.reads.Event as declared
use Rattle.reads.specs.declared.reads.Event.TheVariants.{Replied, Newer, Collected}
use Rattle.reads.specs.declared.reads.Sought.{Sought}
use Rattle.reads.specs.declared.reads.Sought.TheVariants as sought
use Rattle.reads.specs.declared.reads.Reads.{Reads}

abbrev pub asking : Asking → rules.Asking
asking a = record {
  number = a.number;
  object = a.object;
  tags = λ x. slice_index_or a.tags x zero_tag;
  hand = member a.hand;
  symbols = λ j. slice_index_or (map items a.symbols) j (items a.own);
}

abbrev pub given : Given → rules.Given
given r = record { number = r.number; value = items r.value; tag = r.tag; way = r.way }

abbrev pub read : Read → rules.Read
read ReadOf.Free = rules.Free
read (ReadOf.Open a) = rules.Open (asking a)
read (ReadOf.Answered r) = rules.Answered (given r)

-- the read at each place; there is none past the last
abbrev pub reads : Reads → ℕ → rules.Read
reads rs i = slice_index_or (map read (vec_items rs.places)) i rules.Free

-- What may happen to a read, with values as lists.
pub data Event : Type 0 where
  replied : (value : List ℕ) → Event
  newer_write : (all : Bool) (object : ℕ) (tag : Tag) (value : List ℕ) → Event
  collected : Event

abbrev pub event_of : declared.Event → Event
event_of (Replied v) = replied (items v)
event_of (Newer all x t v) = newer_write all x t (items v)
event_of Collected = collected

-- an open read is answered by a reply, under its own tag (way 3)
abbrev pub replied_to : List ℕ → rules.Read → rules.Read
replied_to v rules.Free = rules.Free
replied_to v (rules.Open a) = answered a v (a.tags a.object) 3
replied_to v (rules.Answered r) = rules.Answered r

-- an answered read is free once it is collected
abbrev pub collected_from : rules.Read → rules.Read
collected_from rules.Free = rules.Free
collected_from (rules.Open a) = rules.Open a
collected_from (rules.Answered r) = rules.Free

abbrev pub next : rules.Read → Event → rules.Read
next r (replied v) = replied_to v r
next r (newer_write all x t v) = newer all x t v r
next r collected = collected_from r

-- the read is what is looked for
abbrev pub passes : Sought → rules.Read → Bool
passes sought.Free r = is_free r
passes (sought.Numbered m) r = has_number m r
passes (sought.OpenAs m) r = is_open_as m r
