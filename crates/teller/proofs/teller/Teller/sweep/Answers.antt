use Rattle.std.proofs.Common.{sym, subst}
use Rattle.code.specs.Meaning.{meaning}
use Rattle.server.specs.Servers.{server}
use Rattle.server.specs.Steps.{laid}
use Rattle.teller.specs.InRange.{InRange}
use Rattle.teller.proofs.Kept.{swept_kept}
use Rattle.teller.proofs.teller.Teller.sweep.Goals as goal

pub invariant_of-self : goal.invariant_of-self
invariant_of-self g c =
    let old = c.args.self.now in
    let l = laid (meaning g.F.Field.arithmetic c.args.code.now) 0 in
    record { in_range = subst InRange (sym (c.sweep.ensures.after 0)) (swept_kept l (server old.server) old.in_range c.args.object.number) }
