-- The law over all runs. Assumes nothing.
use Rattle.std.specs.Prelude.{◌≡◌, ℕ, suc, ◌<◌, Bool, true, false, ◌||◌, List, ◌∷◌, ◌++◌, length, ◌==◌, ◌≢◌, slice_index_or}
use Rattle.std.specs.List.{ContainsAt, AllByRecursion}
use Rattle.terms.specs.Limits.{max_client_reads}
use Rattle.message.specs.declared.tag.Tag.{Tag}
use Rattle.field.specs.Laws.{Ring}
use Rattle.code.specs.Codings.{symbol}
use Rattle.code.specs.Recovery.{Recovers}
use Rattle.code.specs.Layout.{Accepted}
use Rattle.rules.specs.Histories.{Entry, has_entry, holds}
use Rattle.rules.specs.State.{Layout, State, Given, Answered, new_group}
use Rattle.rules.specs.Turns.{Write, Read, Collect, Deliver, Tagged, Valued, Numbered, Outcome}
use Rattle.rules.specs.Runs.{Move, run, AllowedRun}
use Rattle.rules.specs.Events.{Event, events, accepted, applied, latest, given, Followed, just_opened, reads_of}

-- a server with the repliers
abbrev pub with_own : ℕ → (ℕ → Bool) → ℕ → Bool
with_own s repliers j = j == s || repliers j

module _ (l : Layout) where
  -- P holds of each event and of those before it
  abbrev pub EachEvent : List Event → (List Event → Event → Type 0) → Type 0
  EachEvent es P = (before : List Event) (e : Event) (later : List Event) → es ≡ before ++ e ∷ later → P before e

  -- (a) Each server's symbol is the code's of the records given to the objects under the server's own tags, which are zero or tags of accepted writes.
  pub record Encoded (es : List Event) (S : State) : Type 0 where
    pub tags_accepted : (s x : ℕ) → s < l.code.servers → holds (accepted es) x ((S.servers s).own x) ≡ true
    pub symbols_right : (s : ℕ) → s < l.code.servers → (S.servers s).symbol ≡ symbol l.code s (λ x. given l es x ((S.servers s).own x))

  -- (b) No deliver answered 6.
  abbrev pub RepliesUsable : List Event → Type 0
  RepliesUsable es = EachEvent es (λ before e. (a b : ℕ) → e.call ≡ Deliver a b → e.answer ≢ Outcome 6)

  -- Of no open read do its server and its repliers together recover its object.
  abbrev pub OpenReadsWait : List Event → Type 0
  OpenReadsWait es = (s : ℕ) → s < l.code.servers → AllByRecursion (λ r. r.is_open ≡ true → Recovers l.code (with_own s r.repliers) r.object → ⊥) (reads_of l s es)

  -- (c) A read that gave a value at once gave that of the latest of its object at its server.
  abbrev pub ReadAtOnce : List Event → Type 0
  ReadAtOnce es = EachEvent es (λ before e. (s x cells : ℕ) (v : List ℕ) (t : Tag) (way : ℕ) → e.call ≡ Read s x cells → e.answer ≡ Valued v t way
      → (t ≡ latest s x before) × (v ≡ given l before x t))

  -- A read that was opened has the next number.
  abbrev pub ReadsNumbered : List Event → Type 0
  ReadsNumbered es = EachEvent es (λ before e. (s x cells m : ℕ) → e.call ≡ Read s x cells → e.answer ≡ Numbered m → m ≡ suc (length (reads_of l s before)))

  -- the read with the number p + 1
  abbrev pub read_at : ℕ → List Event → ℕ → Followed
  read_at s es p = slice_index_or (reads_of l s es) p (just_opened 0 false)

  -- The read number m at s is a client's that is closed, and v and t are the value and the tag of the latest of its object where it was closed.
  pub record ClosedWith (es : List Event) (s m : ℕ) (v : List ℕ) (t : Tag) : Type 0 where
    pub before_it : ℕ
    pub number : m ≡ suc before_it
    pub among : before_it < length (reads_of l s es)
    pub client : (read_at s es before_it).client ≡ true
    pub closed : (read_at s es before_it).is_open ≡ false
    pub tag : t ≡ (read_at s es before_it).tag
    pub value : v ≡ (read_at s es before_it).value

  -- What collect gives is that of the read with that number.
  abbrev pub Collected : List Event → Type 0
  Collected es = EachEvent es (λ before e. (s m cells : ℕ) (v : List ℕ) (t : Tag) (way : ℕ) → e.call ≡ Collect s m cells → e.answer ≡ Valued v t way → ClosedWith before s m v t)

  -- What a group keeps for an answered read is that of the read with that number.
  abbrev pub Kept : List Event → State → Type 0
  Kept es S = (s i : ℕ) (r : Given) → s < l.code.servers → i < max_client_reads → (S.servers s).reads i ≡ Answered r → ClosedWith es s r.number r.value r.tag

  -- An applied write brings its past: where it is applied, every write that its server had applied when it made it is applied.
  abbrev pub PastApplied : List Event → Type 0
  PastApplied es = EachEvent es (λ before e. (j x : ℕ) (v : List ℕ) (t : Tag) → e.call ≡ Write j x v → e.answer ≡ Tagged t
      → (s : ℕ) → s < l.code.servers → ContainsAt (applied s es) t → (u : Tag) → ContainsAt (applied j before) u → ContainsAt (applied s es) u)

  -- No two accepted writes share a tag.
  abbrev pub TagsDiffer : List Event → Type 0
  TagsDiffer es = (before : List Entry) (w : Entry) (later : List Entry) → accepted es ≡ before ++ w ∷ later → (x : ℕ) → has_entry before x w.tag ≡ false

  -- The law, of the events of a run and the state after them.
  pub record Law (es : List Event) (S : State) : Type 0 where
    pub encoded : Encoded es S
    pub replies_usable : RepliesUsable es
    pub open_reads_wait : OpenReadsWait es
    pub read_at_once : ReadAtOnce es
    pub reads_numbered : ReadsNumbered es
    pub collected : Collected es
    pub kept : Kept es S
    pub past_applied : PastApplied es
    pub tags_differ : TagsDiffer es

-- P holds after each call of the run ms: of the events and of the state after the calls done so far, whichever come later.
abbrev pub AfterEach : (Layout → List Event → State → Type 0) → Layout → List Move → Type 0
AfterEach P l ms = (done later : List Move) → ms ≡ done ++ later → P l (events l (new_group l) done) (run l (new_group l) done)

-- The run law: over every field, every accepted code and every run of a new group, the law holds after each call.
abbrev pub RunLaw : Type 0
RunLaw = (l : Layout) → Ring l.code.arithmetic → Accepted l.code → (ms : List Move) → AllowedRun l (new_group l) ms → AfterEach Law l ms
