-- What every call promises. Assumes nothing.
use Rattle.std.specs.Prelude.{◌≡◌, Bool, true}
use Rattle.rules.specs.Runs.{step, Allowed}
use Rattle.rules.specs.State.{Layout, State}
use Rattle.rules.specs.Turns.{Call, Answer, Found}
use Rattle.group.specs.Reached.{reached}

-- The call c in the state S took the rules' step, finding what it may, answered a and left T; beside a carrier of too few servers it was refused.
pub record Took (l : Layout) (enough : Bool) (S : State) (c : Call) (a : Answer) (T : State) : Type 0 where
  pub found : Found
  pub allowed : enough ≡ true → Allowed l S c found
  pub answer : a ≡ (reached enough S (step l S c found)).answer
  pub next : T ≡ (reached enough S (step l S c found)).next
