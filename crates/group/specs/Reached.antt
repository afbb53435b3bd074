-- A call beside a carrier. Assumes nothing.
use Rattle.std.specs.Prelude.{Bool, cond}
use Rattle.terms.specs.declared.refusal.Refusal.TheVariants.{NoSuchServer}
use Rattle.rules.specs.State.{State}
use Rattle.rules.specs.Turns.{Turn, turn, Refused}

-- a call beside a carrier that has too few servers is refused
abbrev pub reached : Bool → State → Turn → Turn
reached enough S t = cond enough t (turn (Refused NoSuchServer) S)
