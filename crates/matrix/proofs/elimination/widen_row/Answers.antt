use Rattle.std.proofs.Common.{rules}
use Rattle.matrix.proofs.elimination.widen_row.Goals as goal

pub returns : goal.returns
returns g c = record {
  coefficients = search rules;
  unit = search rules;
  others = search rules;
}
