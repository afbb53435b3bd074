use Rattle.rules.proofs.Standing.{run_law}
use Rattle.rules.proofs.run_law_stands.Goals as goal

pub returns : goal.returns
returns c = record { run_law = run_law }
