use Rattle.std.proofs.Common.{rules}
use Rattle.std.proofs.lemmas.Fn.{always_returns_same}
use Rattle.reads.specs.Readings.{passes}
use Rattle.reads.proofs.reads.Reads.find.Goals as goal

pub returns-clause-place : goal.returns-clause-place
returns-clause-place c = c.find_where.ensures.place (passes c.args.sought) (always_returns_same _ _ _ (λ a r f' k. search rules))
