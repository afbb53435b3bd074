use Rattle.rules.proofs.Refusing as refusing
use Rattle.rules.proofs.refusals_change_nothing.Goals as goal

pub returns : goal.returns
returns c = record { refusals = refusing.refusals_change_nothing }
