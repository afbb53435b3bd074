use Rattle.std.proofs.Common.{sym, subst}
use Rattle.server.specs.Servers.{server}
use Rattle.teller.specs.InRange.{InRange}
use Rattle.teller.proofs.Kept.{hearing_kept}
use Rattle.teller.proofs.teller.Teller.hear.Goals as goal

pub invariant_of-self : goal.invariant_of-self
invariant_of-self c =
    let old = c.args.self.now in
    record { in_range = subst InRange (sym c.hear.ensures.after) (hearing_kept (server old.server) old.in_range c.args.object.number c.args.j.number c.args.tag) }
