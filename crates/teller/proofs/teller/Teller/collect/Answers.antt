use Rattle.std.proofs.Common.{sym, subst}
use Rattle.server.specs.Servers.{server}
use Rattle.teller.specs.InRange.{InRange}
use Rattle.teller.proofs.Kept.{collected_kept}
use Rattle.teller.proofs.teller.Teller.collect.Goals as goal

pub invariant_of-self : goal.invariant_of-self
invariant_of-self c =
    let old = c.args.self.now in
    let p = server old.server in
    let i = c.args.i.number in
    record { in_range = subst InRange (sym c.collect.ensures.after) (collected_kept p old.in_range i (p.reads i)) }
