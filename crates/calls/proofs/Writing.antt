-- A write, by what its server does. Assumes nothing.
use Rattle.std.proofs.Common.{◌≡◌, ℕ, Bool, true, false, ◌&&◌, eqb, ltb, List, length, Some, None, Option, refl, ap, ◌∙◌}
use Rattle.terms.specs.Limits.{max_count, max_height}
use Rattle.terms.specs.declared.refusal.Refusal.{Refusal}
use Rattle.terms.specs.declared.refusal.Refusal.TheVariants.{NoSuchServer, NoSuchObject, WrongLength, NoElement, NumbersUsedUp, HistoryFull, LaneFull}
use Rattle.carrier.specs.Lanes.{or_else}
use Rattle.rules.specs.Runs.{step}
use Rattle.rules.specs.State.{Layout, State, Server}
use Rattle.rules.specs.Turns.{Found, Turn, turn, check, unless, Tagged, Write}
use Rattle.rules.specs.Updates.{reading, entered, counted}
use Rattle.rules.specs.Writing.{write, elements, room, history_room, write_refusal, write_tag, write_done}
use Rattle.server.specs.Steps as own
use Rattle.server.specs.Steps.{taken_in}
use Rattle.steps.specs.Local.{refused_or}
use Rattle.calls.specs.News.{HasRoom}
use Rattle.calls.specs.Refusing.{object_why, value_why, beside}
use Rattle.calls.specs.Writing.{write_local, written_local}
use Rattle.calls.proofs.Joining.{joined, joined_unless, free_room}

-- why a write is refused before it comes to its server
abbrev pub write_why : Layout → ℕ → ℕ → List ℕ → Option Refusal
write_why l s x v = or_else (object_why l s x) (value_why l v)

by_stages : (a b c d e f g : Bool) (S : State) (t : Turn)
    → unless (check a NoSuchServer (check b NoSuchObject (check c WrongLength (check d NoElement (check e NumbersUsedUp (check f HistoryFull (check g LaneFull None))))))) S t
    ≡ unless (or_else (check a NoSuchServer (check b NoSuchObject None)) (check c WrongLength (check d NoElement None))) S (unless (or_else (check e NumbersUsedUp (check f HistoryFull None)) (check g LaneFull None)) S t)
by_stages false b c d e f g S t = refl
by_stages true false c d e f g S t = refl
by_stages true true false d e f g S t = refl
by_stages true true true false e f g S t = refl
by_stages true true true true false f g S t = refl
by_stages true true true true true false g S t = refl
by_stages true true true true true true g S t = refl

module _ (l : Layout) (S : State) (s x : ℕ) (v : List ℕ) where
  done_is : turn (Tagged (write_tag (S.servers s) s)) (write_done l S s x v) ≡ joined S s l.code.servers (written_local l (S.servers s) s x v)
  unfolding write_done taken_in reading entered counted
  done_is = refl

  pub write_joined : (f : Found) → step l S (Write s x v) f ≡ unless (write_why l s x v) S (joined S s l.code.servers (write_local l (S.servers s) s x v (room l S s)))
  unfolding write write_refusal
  write_joined f =
      let p = S.servers s in
      by_stages (ltb s l.code.servers) (ltb x l.code.objects) (eqb (length v) l.code.cells) (elements l v) (ltb (p.clock s) max_count && ltb p.top max_height) (history_room S s) (room l S s) S
      (turn (Tagged (write_tag p s)) (write_done l S s x v))
      ∙ ap (unless (write_why l s x v) S)
      (joined_unless S s l.code.servers (or_else (own.write_refusal p s) (check (room l S s) LaneFull None)) (turn (Tagged (write_tag p s)) (write_done l S s x v)) (written_local l p s x v) done_is)

  -- there is no such server or object
  pub no_aim : (enough : Bool) (e : Refusal) → beside enough (object_why l s x) ≡ Some e → beside enough (write_why l s x v) ≡ Some e
  no_aim true e there = ap (λ (o : Option Refusal). or_else o (value_why l v)) there
  no_aim false e there = there

  -- there are both, and the rest depends on the value
  pub by_value : (enough : Bool) → beside enough (object_why l s x) ≡ None → beside enough (write_why l s x v) ≡ value_why l v
  by_value true there = ap (λ (o : Option Refusal). or_else o (value_why l v)) there
  by_value false there = cc

-- there is news only if the lanes are free
pub write_news : (l : Layout) (p : Server) (s x : ℕ) (v : List ℕ) (free : Bool) → HasRoom (write_local l p s x v free).news free
write_news l p s x v true = free_room (write_local l p s x v true).news
write_news l p s x v false = by_why (own.write_refusal p s)
  where
    by_why : (o : Option Refusal) → HasRoom (refused_or (or_else o (Some LaneFull)) p (written_local l p s x v)).news false
    by_why None = tt
    by_why (Some r) = tt
