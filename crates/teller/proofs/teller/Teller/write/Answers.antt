use Rattle.std.proofs.Common.{sym, subst, length}
use Rattle.std.proofs.lemmas.Bool.{le-leb}
use Rattle.terms.specs.Items.{items}
use Rattle.server.specs.Servers.{server}
use Rattle.server.specs.Steps.{write_refusal, written}
use Rattle.teller.specs.InRange.{InRange}
use Rattle.teller.proofs.Kept.{written_kept, heights_left, refused_kept}
use Rattle.teller.proofs.teller.Teller.write.Goals as goal

pub invariant_of-self : goal.invariant_of-self
invariant_of-self c =
    let old = c.args.self.now in
    let p = server old.server in
    let s = c.args.me.number in
    let x = c.args.object in
    let v = items c.args.value.cells in
    record {
      in_range = subst InRange (sym c.write.ensures.after)
          (refused_kept (write_refusal p s) p (written p s x v) old.in_range
          (λ none. written_kept p old.in_range s x v c.args.me.within (heights_left p s none) (le-leb 1 (length v) c.args.value.some_cells)));
    }
