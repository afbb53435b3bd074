use Rattle.std.proofs.Common.{sym, ◌∙◌}
use Rattle.reads.specs.Readings.{reads}
use Rattle.group.proofs.InUse.{in_use_counted}
use Rattle.group.proofs.group.lookups.used_by_clients.Goals as goal

pub returns : goal.returns
returns c = c.used_below.ensures ∙ sym (in_use_counted (reads c.args.reads.now) 8)
