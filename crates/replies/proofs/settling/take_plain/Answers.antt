use Rattle.terms.specs.Items.{items}
use Rattle.reads.specs.Readings.{asking}
use Rattle.rules.specs.Delivering.{open_place}
use Rattle.server.specs.Servers.{server}
use Rattle.replies.proofs.Answering.{plain_at}
use Rattle.replies.proofs.settling.take_plain.Goals as goal

pub returns : goal.returns
returns c l =
    let p = server c.args.p.now.server in
    plain_at l p c.in-Some.i.number (items c.args.value.cells) (open_place p c.args.number) (asking c.in-Some.read.asking) _ c.in-Some.ensures.0 c.in-Some.ensures.1 (c.settle.ensures l)
