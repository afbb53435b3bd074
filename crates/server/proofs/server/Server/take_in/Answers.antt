use Rattle.std.proofs.Common.{◌∙◌}
use Rattle.history.specs.Entries.{entry}
use Rattle.server.specs.Servers.{server}
use Rattle.server.proofs.Steps.{took_is}
use Rattle.server.proofs.server.Server.take_in.Goals as goal

pub returns : goal.returns
returns c =
    c.overtake.ensures.after
    ∙ took_is (server c.args.self.now) (server c.count.new.self) (server c.enter.new.self) c.args.j.number c.args.count c.args.all (entry c.args.e)
    c.count.ensures.after c.enter.ensures.after
