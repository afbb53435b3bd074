use Rattle.std.proofs.Common.{sym, subst}
use Rattle.rules.specs.Updates.{opening}
use Rattle.server.specs.Servers.{server}
use Rattle.server.specs.Steps.{open_refusal}
use Rattle.teller.specs.InRange.{InRange}
use Rattle.teller.proofs.Kept.{opening_kept, refused_kept}
use Rattle.teller.proofs.teller.Teller.open.Goals as goal

pub invariant_of-self : goal.invariant_of-self
invariant_of-self c =
    let old = c.args.self.now in
    let p = server old.server in
    let s = c.args.me.number in
    let i = c.args.i.number in
    let x = c.args.object in
    record { in_range = subst InRange (sym c.open.ensures.after) (refused_kept (open_refusal p) p (opening p s i x) old.in_range (λ _. opening_kept p old.in_range s i x)) }
