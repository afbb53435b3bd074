use Rattle.rules.specs.Updates.{reading}
use Rattle.reads.specs.Readings.{reads, given}
use Rattle.server.specs.Servers.{server}
use Rattle.server.proofs.Steps.{collect_answered, collect_freed}
use Rattle.server.proofs.server.Server.collect.Goals as goal

pub returns : goal.returns
unfolding reading
returns c =
    let p = server c.args.self.now in
    let i = c.args.i.number in
    let g = given c.in-Answered.given in
    record { answer = collect_answered (p.reads i) g c.in-Answered.ensures.found; after = collect_freed p i g (reads c.tell.new.self) c.in-Answered.ensures.found c.tell.ensures.after }
