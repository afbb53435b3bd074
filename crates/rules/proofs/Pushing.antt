-- One call more: for who makes a run call by call.
use Rattle.std.proofs.Common.{◌≡◌, List, [], ◌∷◌, ◌++◌, sym, refl, ap, append-nil}
use Rattle.rules.specs.State.{Layout, State, new_group}
use Rattle.rules.specs.Runs.{Move, after, run, Allowed, AllowedRun}
use Rattle.rules.specs.Events.{event, events}
use Rattle.rules.specs.Law.{Law}
use Rattle.field.specs.Laws.{Ring}
use Rattle.code.specs.Layout.{Accepted}
use Rattle.rules.proofs.Standing.{run_law}

module _ (l : Layout) where
  pub run_push : (S : State) (ms : List Move) (m : Move) → run l S (ms ++ m ∷ []) ≡ after l (run l S ms) m
  run_push S [] m = refl
  run_push S (n ∷ ms) m = run_push (after l S n) ms m

  pub events_push : (S : State) (ms : List Move) (m : Move) → events l S (ms ++ m ∷ []) ≡ events l S ms ++ event l (run l S ms) m ∷ []
  events_push S [] m = refl
  events_push S (n ∷ ms) m = ap (λ es. event l S n ∷ es) (events_push (after l S n) ms m)

  pub allowed_push : (S : State) (ms : List Move) (m : Move) → AllowedRun l S ms → Allowed l (run l S ms) m.call m.found → AllowedRun l S (ms ++ m ∷ [])
  allowed_push S [] m ok new = (new, tt)
  allowed_push S (n ∷ ms) m ok new = (ok.0, allowed_push (after l S n) ms m ok.1 new)

  -- the law of a whole run
  pub law_now : Ring l.code.arithmetic → Accepted l.code → (ms : List Move) → AllowedRun l (new_group l) ms → Law l (events l (new_group l) ms) (run l (new_group l) ms)
  law_now r a ms ok = run_law l r a ms ok ms [] (sym (append-nil ms))
