use Rattle.std.proofs.Common.{ltb, length}
use Rattle.rules.specs.Updates.{queued}
use Rattle.terms.specs.Limits.{max_waiting}
use Rattle.server.specs.Servers.{server}
use Rattle.waiting.specs.Writes.{write, writes}
use Rattle.server.proofs.Parts.{queued_is}
use Rattle.server.proofs.server.Server.queue.Goals as goal

pub returns : goal.returns
unfolding queued
returns c =
    let p = server c.args.self.now in
    record { after = queued_is p (write c.args.w) (ltb (length p.waiting) max_waiting) (writes c.enter.new.self) c.enter.ensures.entered_if_room }
