use Rattle.code.specs.Meaning.{meaning}
use Rattle.terms.specs.Sets.{member}
use Rattle.code.proofs.Choosing.{Choosing}
use Rattle.code.proofs.code.Code.rows_of.Given as goal

abbrev pub invariant-loop-s : goal.invariant-loop-s
invariant-loop-s g l = Choosing (meaning g.F.Field.arithmetic l.self) (member l.set) l.s l.rows
