use Rattle.std.proofs.Common.{sym, subst}
use Rattle.teller.specs.InRange.{InRange}
use Rattle.teller.proofs.Kept.{new_kept}
use Rattle.teller.proofs.teller.Teller.new.Goals as goal

pub invariant_of-result : goal.invariant_of-result
invariant_of-result g c = record { in_range = subst InRange (sym c.in_ok-new.ensures.new) (new_kept c.args.code.now.cells c.args.code.now.least_cells) }
