-- What happened in a run, told by its events alone: the writes accepted and applied, and the reads. Assumes nothing.
use Rattle.std.specs.Prelude.{ℕ, suc, Bool, true, false, cond, not, ◌&&◌, List, [], ◌∷◌, ◌++◌, Some, None, Option, ◌==◌}
use Rattle.message.specs.declared.tag.Tag.{Tag}
use Rattle.message.specs.Tags.{zero_tag, lower}
use Rattle.message.specs.Meanings.{Meaning, write_notice, tag_notice, question, plain_reply, coded_reply}
use Rattle.rules.specs.Words.{upd}
use Rattle.rules.specs.Histories.{Entry, has_entry, value_under, later}
use Rattle.rules.specs.State.{Layout, State}
use Rattle.rules.specs.Turns.{Call, Write, Read, Collect, Deliver, Apply, Encode, Sweep, Answer, Refused, Tagged, Valued, Numbered, StillOpen, NothingReady, Outcome, Removed}
use Rattle.rules.specs.Runs.{Move, step, after}

-- An event of a run: a call, its answer, and the oldest message of its lane if it was a deliver.
pub record Event : Type 0 where
  pub call : Call
  pub answer : Answer
  pub oldest : Option Meaning

-- the oldest of some messages
abbrev pub first_of : List Meaning → Option Meaning
first_of [] = None
first_of (m ∷ ms) = Some m

-- the oldest message of the lane of a deliver
abbrev pub oldest_of : State → Call → Option Meaning
oldest_of S (Write s x v) = None
oldest_of S (Read s x cells) = None
oldest_of S (Collect s m cells) = None
oldest_of S (Deliver a b) = first_of (S.lanes a b)
oldest_of S (Apply s) = None
oldest_of S (Encode s x) = None
oldest_of S (Sweep s x) = None

-- the event of a call
abbrev pub event : Layout → State → Move → Event
event l S m = record { call = m.call; answer = (step l S m.call m.found).answer; oldest = oldest_of S m.call }

-- the events of a run from the state S
abbrev pub events : Layout → State → List Move → List Event
events l S [] = []
events l S (m ∷ ms) = event l S m ∷ events l (after l S m) ms

-- ---- what an answer tells

-- the tag that a write or an apply answered
abbrev pub tag_told : Answer → Option Tag
tag_told (Refused r) = None
tag_told (Tagged t) = Some t
tag_told (Valued v t w) = None
tag_told (Numbered m) = None
tag_told StillOpen = None
tag_told NothingReady = None
tag_told (Outcome o) = None
tag_told (Removed c) = None

-- the call opened a read
abbrev pub opened_read : Answer → Bool
opened_read (Refused r) = false
opened_read (Tagged t) = false
opened_read (Valued v t w) = false
opened_read (Numbered m) = true
opened_read StillOpen = false
opened_read NothingReady = false
opened_read (Outcome o) = o == 4
opened_read (Removed c) = false

-- outcome 4
abbrev pub is_outcome_4 : Answer → Bool
is_outcome_4 (Refused r) = false
is_outcome_4 (Tagged t) = false
is_outcome_4 (Valued v t w) = false
is_outcome_4 (Numbered m) = false
is_outcome_4 StillOpen = false
is_outcome_4 NothingReady = false
is_outcome_4 (Outcome o) = o == 4
is_outcome_4 (Removed c) = false

-- the call was refused
abbrev pub is_refused : Answer → Bool
is_refused (Refused r) = true
is_refused (Tagged t) = false
is_refused (Valued v t w) = false
is_refused (Numbered m) = false
is_refused StillOpen = false
is_refused NothingReady = false
is_refused (Outcome o) = false
is_refused (Removed c) = false

-- ---- accepted writes

-- a write that answered a tag
abbrev pub accepted_by : Call → Option Tag → List Entry
accepted_by (Write s x v) (Some t) = record { object = x; tag = t; value = v } ∷ []
accepted_by (Write s x v) None = []
accepted_by (Read s x cells) told = []
accepted_by (Collect s m cells) told = []
accepted_by (Deliver a b) told = []
accepted_by (Apply s) told = []
accepted_by (Encode s x) told = []
accepted_by (Sweep s x) told = []

-- the accepted writes in order, by object, tag and value
abbrev pub accepted : List Event → List Entry
accepted [] = []
accepted (e ∷ es) = accepted_by e.call (tag_told e.answer) ++ accepted es

-- the record given to x under t: the zero record for the zero tag, and else the value of the accepted write of x with that tag
abbrev pub given : Layout → List Event → ℕ → Tag → List ℕ
given l es x t = value_under l.code.cells (accepted es) x t

-- ---- applied writes, named by their tags: no two accepted writes share one

-- the write that a call made s apply: its own that it accepted, or the one that apply there answered
abbrev pub applied_by : ℕ → Call → Option Tag → List Tag
applied_by s (Write i x v) (Some t) = cond (i == s) (t ∷ []) []
applied_by s (Write i x v) None = []
applied_by s (Apply i) (Some t) = cond (i == s) (t ∷ []) []
applied_by s (Apply i) None = []
applied_by s (Read i x cells) told = []
applied_by s (Collect i m cells) told = []
applied_by s (Deliver a b) told = []
applied_by s (Encode i x) told = []
applied_by s (Sweep i x) told = []

-- the writes applied at s, in order
abbrev pub applied : ℕ → List Event → List Tag
applied s [] = []
applied s (e ∷ es) = applied_by s e.call (tag_told e.answer) ++ applied s es

-- the highest of some tags that are those of writes to x, or zero
abbrev pub highest_of : List Entry → ℕ → List Tag → Tag
highest_of writes x [] = zero_tag
highest_of writes x (t ∷ ts) = cond (has_entry writes x t) (later t (highest_of writes x ts)) (highest_of writes x ts)

-- the tag of the latest of x at s: of the highest write to x among those applied there, or zero
abbrev pub latest : ℕ → ℕ → List Event → Tag
latest s x es = highest_of (accepted es) x (applied s es)

-- ---- reads

-- A read as the events tell it.
pub record Followed : Type 0 where
  pub object : ℕ
  -- a client's, or an internal one
  pub client : Bool
  pub is_open : Bool
  -- the servers whose replies were taken while it was open
  pub repliers : ℕ → Bool
  -- where it is closed: the latest of its object at its server at the call that closed it
  pub tag : Tag
  pub value : List ℕ

-- a read of x that was just opened
abbrev pub just_opened : ℕ → Bool → Followed
just_opened x client = record { object = x; client = client; is_open = true; repliers = λ _. false; tag = zero_tag; value = [] }

-- the read that a call opened at s: a read that answered a number, or an encode that answered 4
abbrev pub opened_by : ℕ → Call → Answer → List Followed
opened_by s (Read i x cells) a = cond (i == s && opened_read a) (just_opened x true ∷ []) []
opened_by s (Encode i x) a = cond (i == s && opened_read a) (just_opened x false ∷ []) []
opened_by s (Write i x v) a = []
opened_by s (Collect i m cells) a = []
opened_by s (Deliver i j) a = []
opened_by s (Apply i) a = []
opened_by s (Sweep i x) a = []

-- the message is a reply to the read with the number m
abbrev pub replies_to : ℕ → Option Meaning → Bool
replies_to m None = false
replies_to m (Some (write_notice x v h clock)) = false
replies_to m (Some (tag_notice x t)) = false
replies_to m (Some (question p x ts)) = false
replies_to m (Some (plain_reply p v)) = p == m
replies_to m (Some (coded_reply p v ts)) = p == m

module _ (l : Layout) where
  -- the read at s is closed, after the events es
  abbrev pub closed : ℕ → List Event → Followed → Followed
  closed s es r =
      let t = latest s r.object es in
      record { object = r.object; client = r.client; is_open = false; repliers = r.repliers; tag = t; value = given l es r.object t }

  -- a reply from a was taken
  abbrev pub replied : ℕ → Followed → Followed
  replied a r = record { object = r.object; client = r.client; is_open = r.is_open; repliers = upd r.repliers a true; tag = r.tag; value = r.value }

  -- one of the tags is that of a write to x, and above all that were applied at s by the events es
  abbrev pub is_newer : ℕ → ℕ → List Event → List Entry → List Tag → Bool
  is_newer s x es writes [] = false
  is_newer s x es writes (t ∷ ts) = has_entry writes x t && lower (latest s x es) t

  -- after the events es, the event e comes to the read at s with the number m
  abbrev pub follow_deliver : ℕ → ℕ → List Event → Event → ℕ → ℕ → Followed → Followed
  follow_deliver s m es e a b r =
      cond (b == s && (replies_to m e.oldest && (r.is_open && not (is_refused e.answer))))
      (cond (is_outcome_4 e.answer) (closed s (es ++ e ∷ []) (replied a r)) (replied a r))
      r

  -- a write or an apply comes to a read
  abbrev pub follow_write : ℕ → List Event → Event → Followed → Followed
  follow_write s es e r =
      let after = es ++ e ∷ [] in
      cond (r.client && (r.is_open && is_newer s r.object es (accepted after) (applied_by s e.call (tag_told e.answer)))) (closed s after r) r

  -- a deliver may bring a reply, which is taken while the read is open, and closes it if it answers 4;
  -- a write or an apply closes a client's read if it is newer than all that were applied there to its object
  abbrev pub follow_call : ℕ → ℕ → List Event → Event → Call → Followed → Followed
  follow_call s m es e (Deliver a b) r = follow_deliver s m es e a b r
  follow_call s m es e (Write i x v) r = follow_write s es e r
  follow_call s m es e (Apply i) r = follow_write s es e r
  follow_call s m es e (Read i x cells) r = r
  follow_call s m es e (Collect i p cells) r = r
  follow_call s m es e (Encode i x) r = r
  follow_call s m es e (Sweep i x) r = r

  -- the same for each read, the first of them with the number m
  abbrev pub follow_all : ℕ → ℕ → List Event → Event → List Followed → List Followed
  follow_all s m es e [] = []
  follow_all s m es e (r ∷ rs) = follow_call s m es e e.call r ∷ follow_all s (suc m) es e rs

  -- the reads at s, which are rs after the events es, after the later events too
  abbrev pub follow : ℕ → List Event → List Event → List Followed → List Followed
  follow s es [] rs = rs
  follow s es (e ∷ later) rs = follow s (es ++ e ∷ []) later (follow_all s 1 es e rs ++ opened_by s e.call e.answer)

  -- the reads opened at s, in the order of their numbers, the first of which is 1
  abbrev pub reads_of : ℕ → List Event → List Followed
  reads_of s es = follow s [] es []
