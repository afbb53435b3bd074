use Rattle.std.proofs.Common.{sym, subst}
use Rattle.server.specs.Servers.{server}
use Rattle.teller.specs.InRange.{InRange}
use Rattle.teller.proofs.Kept.{apply_kept}
use Rattle.teller.proofs.teller.Teller.apply.Goals as goal

pub invariant_of-self : goal.invariant_of-self
invariant_of-self c =
    let old = c.args.self.now in
    record { in_range = subst InRange (sym c.apply.ensures.after) (apply_kept c.args.n (server old.server) old.in_range) }
