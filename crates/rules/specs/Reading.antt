-- Read and collect, and the opening of a read. Assumes nothing.
use Rattle.std.specs.Prelude.{ℕ, ◌+◌, Bool, cond, not, ◌&&◌, ◌||◌, is_some, Some, None, Option, ◌==◌, nat_lt}
use Rattle.terms.specs.Limits.{max_read, max_client_reads}
use Rattle.terms.specs.Lists.{listed}
use Rattle.terms.specs.declared.refusal.Refusal.{Refusal}
use Rattle.terms.specs.declared.refusal.Refusal.TheVariants.{NoSuchServer, NoSuchObject, WrongLength, NoSuchRead, NumbersUsedUp, ReadsFull, LaneFull}
use Rattle.message.specs.Tags.{lower}
use Rattle.message.specs.Meanings.{question}
use Rattle.rules.specs.Words.{upd, first_below}
use Rattle.rules.specs.Lanes.{spread}
use Rattle.rules.specs.Histories.{highest_held, value_under}
use Rattle.rules.specs.State.{Layout, Read, Free, Open, Answered, Server, State}
use Rattle.rules.specs.Updates.{opening, reading, is_free, has_number}
use Rattle.rules.specs.Turns.{Found, Turn, turn, check, unless, Valued, Numbered, StillOpen}
use Rattle.rules.specs.Writing.{put, room}

-- the first free place of a client
abbrev pub free_place : Server → Option ℕ
free_place p = first_below max_client_reads (λ i. is_free (p.reads i))

-- the place of the client's read with the number m
abbrev pub client_place : Server → ℕ → Option ℕ
client_place p m = first_below max_client_reads (λ i. has_number m (p.reads i))

module _ (l : Layout) where
  -- ---- read

  -- a read of x is opened at the place i, and a question goes to every other server
  unfoldable pub open_done : State → ℕ → ℕ → ℕ → State
  open_done S s i x =
      let p = S.servers s in
      put S s (opening p s i x) (spread S.lanes s l.code.servers (question (p.opened + 1) x (listed l.code.objects p.own)))

  -- why a read is not opened
  abbrev pub open_refusal : State → ℕ → Option ℕ → Option Refusal
  open_refusal S s place =
      check (nat_lt (S.servers s).opened max_read) NumbersUsedUp (check (is_some place) ReadsFull (check (room l S s) LaneFull None))

  -- the read is opened at a place, if there is one
  abbrev pub opened_at : State → ℕ → ℕ → Option ℕ → State
  opened_at S s x None = S
  opened_at S s x (Some i) = open_done S s i x

  -- a read that cannot be answered at once
  unfoldable pub open_read : State → ℕ → ℕ → Turn
  open_read S s x =
      let place = free_place (S.servers s) in
      unless (open_refusal S s place) S (turn (Numbered ((S.servers s).opened + 1)) (opened_at S s x place))

  -- way 1: the highest held tag is not below the own tag
  abbrev pub from_history : Server → ℕ → Bool
  from_history p x = not (lower (highest_held p.history x) (p.own x))

  -- way 2: the own tag is not below the highest held one, and the server alone recovers the object
  abbrev pub from_symbol : Server → ℕ → Found → Bool
  from_symbol p x f = not (lower (p.own x) (highest_held p.history x)) && f.recovered

  -- why a read is refused
  unfoldable pub read_refusal : ℕ → ℕ → ℕ → Option Refusal
  read_refusal s x cells =
      check (nat_lt s l.code.servers) NoSuchServer (check (nat_lt x l.code.objects) NoSuchObject (check (cells == l.code.cells) WrongLength None))

  -- a read that is not refused: answered by one of the two ways, or opened
  unfoldable pub read_found : State → ℕ → ℕ → Found → Turn
  read_found S s x f =
      let p = S.servers s in
      let t = highest_held p.history x in
      cond (from_history p x && (not (from_symbol p x f) || f.first_way)) (turn (Valued (value_under l.code.cells p.history x t) t 1) S)
      (cond (from_symbol p x f) (turn (Valued f.value (p.own x) 2) S)
      (open_read S s x))

  -- the call
  unfoldable pub read : State → ℕ → ℕ → ℕ → Found → Turn
  read S s x cells f = unless (read_refusal s x cells) S (read_found S s x f)

  -- ---- collect

  -- the place i is free again
  unfoldable pub collect_done : State → ℕ → ℕ → State
  collect_done S s i = put S s (reading (S.servers s) (upd (S.servers s).reads i Free)) S.lanes

  -- by what is at the place
  abbrev pub collect_read : State → ℕ → ℕ → Read → Turn
  collect_read S s i Free = turn StillOpen S
  collect_read S s i (Open a) = turn StillOpen S
  collect_read S s i (Answered r) = turn (Valued r.value r.tag r.way) (collect_done S s i)

  -- by the place, if there is one
  abbrev pub collect_at : State → ℕ → Option ℕ → Turn
  collect_at S s None = turn StillOpen S
  collect_at S s (Some i) = collect_read S s i ((S.servers s).reads i)

  -- why a collect is refused
  abbrev pub collect_refusal : ℕ → ℕ → Option ℕ → Option Refusal
  collect_refusal s cells place =
      check (nat_lt s l.code.servers) NoSuchServer (check (cells == l.code.cells) WrongLength (check (is_some place) NoSuchRead None))

  -- the call
  unfoldable pub collect : State → ℕ → ℕ → ℕ → Turn
  collect S s m cells = let place = client_place (S.servers s) m in unless (collect_refusal s cells place) S (collect_at S s place)
