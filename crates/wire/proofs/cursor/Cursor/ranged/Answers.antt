use Rattle.std.proofs.Common.{true, false, Ok, Err, refl, ap}
use Rattle.wire.specs.declared.faults.MessageFault.TheVariants.{OutOfRange}
use Rattle.wire.proofs.cursor.Cursor.ranged.Goals as goal

pub returns-then-not-passes : goal.returns-then-not-passes
returns-then-not-passes g c = record { ranged = (Ok c.in_ok-x.x, record { shown = _; shows = refl; left = _; met = c.in_ok-x.ensures; leaves = refl }, (false, (_, c.if-not-passes.ensures, refl), ap (λ at. Err (OutOfRange at)) c.at-at.ensures.start)) }

pub returns : goal.returns
returns g c = record { ranged = (Ok c.in_ok-x.x, record { shown = _; shows = refl; left = _; met = c.in_ok-x.ensures; leaves = refl }, (true, (_, c.if-not-passes.ensures, refl), refl)) }
