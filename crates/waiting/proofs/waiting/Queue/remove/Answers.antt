use Rattle.std.proofs.Common.{map, vec_items, ap, ◌∙◌}
use Rattle.waiting.specs.Writes.{write}
use Rattle.reads.proofs.Lists.{map_removed}
use Rattle.waiting.proofs.waiting.Queue.remove.Goals as goal

pub returns-clause-rest : goal.returns-clause-rest
returns-clause-rest c = ap (map write) c.remove.ensures.items ∙ map_removed write c.args.at (vec_items c.args.self.now.writes)
