use Rattle.std.proofs.Common.{ap}
use Rattle.rules.specs.Updates.{sifted}
use Rattle.server.specs.Servers.{server}
use Rattle.server.proofs.server.Server.forget_below.Goals as goal

pub returns : goal.returns
unfolding sifted
returns c = ap (sifted (server c.args.self.now)) c.forget_below.ensures.rest
