use Rattle.matrix.specs.Matrices.{entry}
use Rattle.matrix.proofs.Clearing.{Clearing}
use Rattle.matrix.proofs.elimination.clear.Given as goal

abbrev pub invariant-loop-i : goal.invariant-loop-i
invariant-loop-i g l =
    let a = g.F.Field.arithmetic in
    let rows = l.fn.rows in
    Clearing a (λ i. a.minus (a.times (entry rows i l.c) (g.F.Field.inverse (entry rows l.p l.c)))) rows l.row-items l.p l.i
