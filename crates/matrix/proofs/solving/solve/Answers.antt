use Rattle.matrix.proofs.Decides.{past_undetermined}
use Rattle.matrix.proofs.solving.solve.Goals as goal

pub returns-else-k-lt-COLUMNS : goal.returns-else-k-lt-COLUMNS
returns-else-k-lt-COLUMNS g c = record { exact = past_undetermined g.met.F.Field.ring c.args.rows c.args.k c.if-k-lt-COLUMNS.false }
