use Rattle.std.proofs.Common.{sym, subst, length}
use Rattle.std.proofs.lemmas.Bool.{le-leb}
use Rattle.terms.specs.Items.{items}
use Rattle.server.specs.Servers.{server}
use Rattle.teller.specs.InRange.{InRange}
use Rattle.teller.proofs.Kept.{moved_kept}
use Rattle.teller.proofs.teller.Teller.move_to.Goals as goal

pub invariant_of-self : goal.invariant_of-self
invariant_of-self c =
    let old = c.args.self.now in
    let to = c.args.to in
    record {
      in_range = subst InRange (sym c.move_to.ensures.after)
          (moved_kept (server old.server) old.in_range c.args.me.number c.args.object.number to.tag (items to.symbol.cells) to.tag_in_range (le-leb 1 (length (items to.symbol.cells)) to.symbol.some_cells));
    }
