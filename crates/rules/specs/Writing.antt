-- Write, apply, and the applying of a write. Assumes nothing.
use Rattle.std.specs.Prelude.{ℕ, zero, suc, ◌+◌, Bool, true, false, cond, ◌&&◌, ltb, List, [], ◌++◌, length, take, drop, Some, None, Option, ◌==◌, nat_le, nat_lt, slice_index, slice_index_or}
use Rattle.terms.specs.Limits.{max_count, max_height, max_entries}
use Rattle.terms.specs.Lists.{listed, every}
use Rattle.terms.specs.declared.refusal.Refusal.{Refusal}
use Rattle.terms.specs.declared.refusal.Refusal.TheVariants.{NoSuchServer, NoSuchObject, WrongLength, NoElement, NumbersUsedUp, HistoryFull, LaneFull}
use Rattle.message.specs.declared.tag.Tag.{Tag}
use Rattle.message.specs.Tags.{zero_tag, lower}
use Rattle.message.specs.Meanings.{Meaning, write_notice}
use Rattle.rules.specs.Words.{upd}
use Rattle.rules.specs.Lanes.{Lanes, spread, free}
use Rattle.rules.specs.State.{Layout, Waiting, Server, State}
use Rattle.rules.specs.Updates.{entered, counted, queued, reading, overtaken}
use Rattle.rules.specs.Turns.{Turn, turn, check, unless, Tagged, NothingReady}

-- the server s becomes p, and the lanes become L
abbrev pub put : State → ℕ → Server → Lanes Meaning → State
put S s p L = record { servers = upd S.servers s p; lanes = L }

-- the history of s has a free place
abbrev pub history_room : State → ℕ → Bool
history_room S s = nat_lt (length (S.servers s).history) max_entries

-- one higher than every write that the server has applied
abbrev pub write_tag : Server → ℕ → Tag
write_tag p s = record { height = p.top + 1; server = s }

-- what stands past the waiting writes
abbrev pub no_write : Waiting
no_write = record { object = 0; tag = zero_tag; value = []; clock = [] }

-- the waiting write at the place i
abbrev pub write_at : List Waiting → ℕ → Waiting
write_at ws i = slice_index_or ws i no_write

-- of a place found before, if any, and the place i: that of the lower tag
abbrev pub better : List Waiting → Option ℕ → ℕ → Option ℕ
better ws None i = Some i
better ws (Some b) i = cond (lower (write_at ws i).tag (write_at ws b).tag) (Some i) (Some b)

-- the waiting writes but the one at the place i
abbrev pub without : List Waiting → ℕ → List Waiting
without ws i = take i ws ++ drop (suc i) ws

module _ (l : Layout) where
  -- each lane from s to another server has a free place
  abbrev pub room : State → ℕ → Bool
  room S s = free l.places S.lanes s l.code.servers

  -- each cell is an element
  abbrev pub elements : List ℕ → Bool
  elements v = every l.code.cells (λ c. ltb (slice_index v c) l.code.arithmetic.size)

  -- ---- write

  -- what an accepted write leaves
  unfoldable pub write_done : State → ℕ → ℕ → List ℕ → State
  write_done S s x v =
      let p = S.servers s in
      let t = write_tag p s in
      let c = counted p s (p.clock s + 1) (p.top + 1) in
      put S s (reading (entered c (record { object = x; tag = t; value = v })) (overtaken p.reads true x t v))
      (spread S.lanes s l.code.servers (write_notice x v (p.top + 1) (listed l.code.servers c.clock)))

  -- why a write is refused
  unfoldable pub write_refusal : State → ℕ → ℕ → List ℕ → Option Refusal
  write_refusal S s x v =
      check (nat_lt s l.code.servers) NoSuchServer
      (check (nat_lt x l.code.objects) NoSuchObject
      (check (length v == l.code.cells) WrongLength
      (check (elements v) NoElement
      (check (nat_lt ((S.servers s).clock s) max_count && nat_lt (S.servers s).top max_height) NumbersUsedUp
      (check (history_room S s) HistoryFull
      (check (room S s) LaneFull
      None))))))

  -- the call
  unfoldable pub write : State → ℕ → ℕ → List ℕ → Turn
  write S s x v = unless (write_refusal S s x v) S (turn (Tagged (write_tag (S.servers s) s)) (write_done S s x v))

  -- ---- apply

  -- a write of j is ready if its count for j is the server's plus 1, and its other counts are not above the server's
  abbrev pub fits_at : Server → Waiting → ℕ → Bool
  fits_at p w j = cond (j == w.tag.server) (slice_index w.clock j == p.clock j + 1) (nat_le (slice_index w.clock j) (p.clock j))

  -- the write w is ready at p
  abbrev pub is_ready : Server → Waiting → Bool
  is_ready p w = every l.code.servers (fits_at p w)

  -- the place of the lowest tag among the first n waiting writes that are ready
  unfoldable pub next_ready : Server → List Waiting → ℕ → Option ℕ
  next_ready p ws zero = None
  next_ready p ws (suc i) = cond (is_ready p (write_at ws i)) (better ws (next_ready p ws i) i) (next_ready p ws i)

  -- the waiting write w is applied, and ws wait besides
  unfoldable pub apply_done : State → ℕ → Waiting → List Waiting → State
  apply_done S s w ws =
      let p = S.servers s in
      let j = w.tag.server in
      put S s (reading (entered (counted (queued p ws) j (slice_index w.clock j) w.tag.height) (record { object = w.object; tag = w.tag; value = w.value }))
      (overtaken p.reads false w.object w.tag w.value)) S.lanes

  -- the write at a place is applied, if there is one
  abbrev pub apply_at : State → ℕ → Option ℕ → Turn
  apply_at S s None = turn NothingReady S
  apply_at S s (Some i) =
      let ws = (S.servers s).waiting in
      unless (check (history_room S s) HistoryFull None) S (turn (Tagged (write_at ws i).tag) (apply_done S s (write_at ws i) (without ws i)))

  -- the call
  unfoldable pub apply : State → ℕ → Turn
  apply S s = let p = S.servers s in
      unless (check (nat_lt s l.code.servers) NoSuchServer None) S (apply_at S s (next_ready p p.waiting (length p.waiting)))
