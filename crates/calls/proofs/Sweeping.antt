-- Sweep, by what its server does. Assumes nothing.
use Rattle.std.proofs.Common.{◌≡◌, ℕ, ◌-◌, length, None, refl}
use Rattle.rules.specs.Encoding.{object_refusal, swept, sweep, sweep_done}
use Rattle.rules.specs.Runs.{step}
use Rattle.rules.specs.State.{Layout, State, Server}
use Rattle.rules.specs.Turns.{Found, unless, Removed, Sweep}
use Rattle.rules.specs.Updates.{sifted}
use Rattle.steps.specs.Local.{Local, local}
use Rattle.calls.specs.Refusing.{object_why}
use Rattle.calls.proofs.Joining.{joined}

abbrev pub sweep_local : Layout → Server → ℕ → Local
sweep_local l p x = local (Removed (length p.history - length (swept l p x))) (sifted p (swept l p x)) None

pub sweep_joined : (l : Layout) (S : State) (s x : ℕ) (f : Found) → step l S (Sweep s x) f ≡ unless (object_why l s x) S (joined S s l.code.servers (sweep_local l (S.servers s) x))
unfolding sweep object_refusal sweep_done
sweep_joined l S s x f = refl
