use Rattle.matrix.proofs.Reducing.{Reducing}
use Rattle.matrix.proofs.elimination.reduce.Given as goal

abbrev pub invariant-loop-c : goal.invariant-loop-c
invariant-loop-c g l = Reducing g.F.Field.arithmetic l.k l.initial.rows l.rows l.leads l.c
