use Rattle.std.proofs.Common.{false, sym, ◌∙◌, arith, le-ltb}
use Rattle.std.proofs.lemmas.List.{get_or_past}
use Rattle.terms.proofs.servers.ServerSet.has.Goals as goal

pub returns-else-server-lt-MAX_SERVERS : goal.returns-else-server-lt-MAX_SERVERS
returns-else-server-lt-MAX_SERVERS c = record {
  told = le-ltb c.args.server 6 c.if-server-lt-MAX_SERVERS.false
      ∙ sym (get_or_past c.args.self.now.members c.args.server false (omega arith));
}
