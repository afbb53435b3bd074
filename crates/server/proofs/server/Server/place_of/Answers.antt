use Rattle.std.proofs.Common.{Some, ap, ◌∙◌}
use Rattle.server.proofs.server.Server.place_of.Goals as goal

pub returns-in_err-number : goal.returns-in_err-number
returns-in_err-number g c p h = rw c.from_residual.ensures (c.in_err-number.ensures.place p h)

pub returns : goal.returns
returns g c p h = ap Some c.known.ensures.same ∙ c.in_ok-number.ensures.place p h
