use Rattle.std.proofs.Common.{◌≡◌, vec_items, vec_len}
use Rattle.group.specs.States.{AllNew}
use Rattle.group.proofs.group.layout.new_servers.Given as goal

abbrev pub invariant-loop : goal.invariant-loop
invariant-loop g l = (vec_len l.servers ≡ l.counter) × AllNew l.code.cells (vec_items l.servers)
