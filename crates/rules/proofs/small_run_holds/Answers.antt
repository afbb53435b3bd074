use Rattle.rules.proofs.Figures.{small_run}
use Rattle.rules.proofs.small_run_holds.Goals as goal

pub returns : goal.returns
returns c = record { small_run = small_run }
