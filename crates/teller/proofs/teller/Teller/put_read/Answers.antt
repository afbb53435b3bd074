use Rattle.std.proofs.Common.{sym, subst}
use Rattle.reads.specs.Readings.{read}
use Rattle.server.specs.Servers.{server}
use Rattle.teller.specs.InRange.{InRange}
use Rattle.teller.proofs.Kept.{upd_kept}
use Rattle.teller.proofs.teller.Teller.put_read.Goals as goal

pub invariant_of-self : goal.invariant_of-self
invariant_of-self c =
    let old = c.args.self.now in
    record { in_range = subst InRange (sym c.put_read.ensures.after) (upd_kept (server old.server) old.in_range c.args.i.number (read c.args.r) c.requires) }
