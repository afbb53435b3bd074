-- Apply, by what its server does. Assumes nothing.
use Rattle.std.proofs.Common.{◌≡◌, ℕ, Bool, true, false, cond, length, Some, None, Ok, Err, Option, sym, refl, ap, ◌∙◌}
use Rattle.terms.specs.declared.refusal.Refusal.TheVariants.{HistoryFull}
use Rattle.rules.specs.Runs.{step}
use Rattle.rules.specs.State.{Layout, State, Server}
use Rattle.rules.specs.Turns.{Found, turn, check, unless, Tagged, Refused, NothingReady, Apply}
use Rattle.rules.specs.Updates.{queued}
use Rattle.rules.specs.Writing.{apply, apply_at, apply_done, next_ready, write_at, without}
use Rattle.server.specs.Steps.{has_room, taken_in, applied, apply_answer, apply_after, chosen}
use Rattle.steps.specs.Local.{Local, local}
use Rattle.waiting.proofs.Choosing.{next_is}
use Rattle.calls.specs.Refusing.{server_why}
use Rattle.calls.specs.Told.{apply_told}
use Rattle.calls.proofs.Joining.{joined, joined_same}

-- by the place of the write that is next
abbrev pub apply_by : Server → Option ℕ → Local
apply_by p o = local (apply_told (apply_answer p o)) (apply_after p o) None

module _ (l : Layout) (S : State) (s : ℕ) where
  by_room : (i : ℕ) (b : Bool)
      → unless (check b HistoryFull None) S (turn (Tagged (write_at (S.servers s).waiting i).tag) (apply_done l S s (write_at (S.servers s).waiting i) (without (S.servers s).waiting i)))
      ≡ joined S s l.code.servers (local (apply_told (cond b (Ok (Some (write_at (S.servers s).waiting i).tag)) (Err HistoryFull))) (cond b (applied (S.servers s) i) (S.servers s)) None)
  unfolding apply_done taken_in queued
  by_room i true = refl
  by_room i false = joined_same S s l.code.servers (Refused HistoryFull)

  by_choice : (o : Option ℕ) → apply_at l S s o ≡ joined S s l.code.servers (apply_by (S.servers s) o)
  by_choice None = joined_same S s l.code.servers NothingReady
  by_choice (Some i) = by_room i (has_room (S.servers s))

  pub apply_joined : (f : Found) → step l S (Apply s) f ≡ unless (server_why l s) S (joined S s l.code.servers (apply_by (S.servers s) (chosen l.code.servers (S.servers s))))
  unfolding apply
  apply_joined f =
      let p = S.servers s in
      ap (unless (server_why l s) S)
      (by_choice (next_ready l p p.waiting (length p.waiting)) ∙ ap (λ (o : Option ℕ). joined S s l.code.servers (apply_by p o)) (sym (next_is l p p.waiting (length p.waiting))))
