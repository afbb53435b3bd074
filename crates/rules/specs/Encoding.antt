-- Encode and sweep. Assumes nothing.
use Rattle.std.specs.Prelude.{ℕ, zero, suc, ◌-◌, Bool, false, cond, not, ◌&&◌, ◌||◌, List, length, None, filter, Option, ◌==◌, nat_lt}
use Rattle.terms.specs.Limits.{max_read}
use Rattle.terms.specs.declared.refusal.Refusal.{Refusal}
use Rattle.terms.specs.declared.refusal.Refusal.TheVariants.{NoSuchServer, NoSuchObject, NumbersUsedUp, HistoryFull, LaneFull}
use Rattle.message.specs.declared.tag.Tag.{Tag}
use Rattle.message.specs.Tags.{lower, same}
use Rattle.message.specs.Meanings.{tag_notice}
use Rattle.code.specs.Codings.{contains, re_encoded}
use Rattle.rules.specs.Words.{some}
use Rattle.terms.specs.Lists.{every}
use Rattle.rules.specs.Lanes.{spread}
use Rattle.rules.specs.Histories.{Entry, is_entry, holds, value_under, highest, highest_held, earlier}
use Rattle.rules.specs.State.{Layout, Read, Free, Open, Answered, Server, State, all_reads, internal}
use Rattle.rules.specs.Updates.{entered, sifted, moved, is_open}
use Rattle.rules.specs.Turns.{Found, Turn, turn, check, unless, Outcome, Removed}
use Rattle.rules.specs.Writing.{put, history_room, room}
use Rattle.rules.specs.Reading.{open_done}

-- the lowest of f 0, .., f (n - 1)
unfoldable pub lowest : ℕ → (ℕ → Tag) → Tag
lowest zero f = f 0
lowest (suc n) f = earlier (f n) (lowest n f)

-- t is the read's tag of x, and the read is open
abbrev pub asks : ℕ → Tag → Read → Bool
asks x t Free = false
asks x t (Open a) = same (a.tags x) t
asks x t (Answered r) = false

module _ (l : Layout) where
  -- why a call on an object is refused
  unfoldable pub object_refusal : ℕ → ℕ → Option Refusal
  object_refusal s x = check (nat_lt s l.code.servers) NoSuchServer (check (nat_lt x l.code.objects) NoSuchObject None)

  -- ---- encode

  -- the own tag of x becomes t, with the symbol v, and a tag notice goes to all others
  unfoldable pub move_done : State → ℕ → ℕ → Tag → List ℕ → State
  move_done S s x t v = put S s (moved (S.servers s) s x t v) (spread S.lanes s l.code.servers (tag_notice x t))

  -- an entry more
  unfoldable pub enter_done : State → ℕ → Entry → State
  enter_done S s e = put S s (entered (S.servers s) e) S.lanes

  -- the symbol of the server s where its value of x under the tag t gives way to that under u
  abbrev pub turned : ℕ → Server → ℕ → Tag → Tag → List ℕ → List ℕ
  turned s p x t u symbol = re_encoded l.code s x symbol (value_under l.code.cells p.history x t) (value_under l.code.cells p.history x u)

  -- an object that the server contains
  unfoldable pub encode_contained : State → ℕ → ℕ → Found → Turn
  encode_contained S s x f =
      let p = S.servers s in
      let t = highest_held p.history x in
      cond (lower (p.own x) t)
      (cond (holds p.history x (p.own x))
      (unless (check (room l S s) LaneFull None) S (turn (Outcome 1) (move_done S s x t (turned s p x (p.own x) t p.symbol))))
      (cond (is_open (p.reads (internal x))) (turn (Outcome 2) S)
      (cond f.recovered
      (unless (check (history_room S s) HistoryFull None) S (turn (Outcome 3) (enter_done S s (record { object = x; tag = p.own x; value = f.value }))))
      (unless (check (nat_lt p.opened max_read) NumbersUsedUp (check (room l S s) LaneFull None)) S (turn (Outcome 4) (open_done l S s (internal x) x))))))
      (turn (Outcome 0) S)

  -- t is not above the told tag of any server that contains x
  abbrev pub within : Server → ℕ → Tag → Bool
  within p x t = every l.code.servers (λ j. not (contains l.code j x) || not (lower (p.told x j) t))

  -- an object that it does not contain
  unfoldable pub encode_other : State → ℕ → ℕ → Turn
  encode_other S s x =
      let p = S.servers s in
      let t = highest (within p x) x p.history in
      cond (lower (p.own x) t) (unless (check (room l S s) LaneFull None) S (turn (Outcome 1) (move_done S s x t p.symbol))) (turn (Outcome 0) S)

  -- the call
  unfoldable pub encode : State → ℕ → ℕ → Found → Turn
  encode S s x f = unless (object_refusal s x) S (cond (contains l.code s x) (encode_contained S s x f) (encode_other S s x))

  -- ---- sweep

  -- the lowest tag of x that any server has told
  abbrev pub floor : Server → ℕ → Tag
  floor p x = lowest l.code.servers (p.told x)

  -- an open read has t among its tags
  abbrev pub wanted : Server → ℕ → Tag → Bool
  wanted p x t = some all_reads (λ i. asks x t (p.reads i))

  -- an entry stays at first unless it is one of x below the floor that no open read wants
  abbrev pub stays : Server → ℕ → Entry → Bool
  stays p x e = not (e.object == x && (lower e.tag (floor p x) && not (wanted p x e.tag)))

  -- all told tags of x equal the own tag, and no entry is higher
  abbrev pub settled : Server → ℕ → List Entry → Bool
  settled p x es = every l.code.servers (λ j. same (p.told x j) (p.own x)) && not (lower (p.own x) (highest_held es x))

  -- what stays of the history: where x is settled, its own tag's entry goes too
  unfoldable pub swept : Server → ℕ → List Entry
  swept p x =
      let es = filter (stays p x) p.history in
      cond (settled p x es) (filter (λ e. not (is_entry x (p.own x) e)) es) es

  -- what a sweep leaves
  unfoldable pub sweep_done : State → ℕ → ℕ → State
  sweep_done S s x = put S s (sifted (S.servers s) (swept (S.servers s) x)) S.lanes

  -- the call
  unfoldable pub sweep : State → ℕ → ℕ → Turn
  sweep S s x = unless (object_refusal s x) S (turn (Removed (length (S.servers s).history - length (swept (S.servers s) x))) (sweep_done S s x))
