use Rattle.std.proofs.Common.{sym, refl}
use Rattle.terms.specs.Items.{items}
use Rattle.code.specs.Meaning.{meaning}
use Rattle.reads.specs.Readings.{asking}
use Rattle.server.specs.Servers.{server}
use Rattle.replies.proofs.Taken.{coded_nowhere, coded_open}
use Rattle.replies.proofs.seats.Seat.take_coded.Goals as goal

pub returns-in_default : goal.returns-in_default
returns-in_default g c =
    let sender = c.args.self.now in
    coded_nowhere (meaning g.F.Field.arithmetic sender.code.now) (server c.args.p.now.server) sender.server.number c.args.number (items c.args.symbol) (items c.args.stated.now) _ (sym c.in_default.ensures) refl

pub returns : goal.returns
returns g c =
    let sender = c.args.self.now in
    coded_open (meaning g.F.Field.arithmetic sender.code.now) (server c.args.p.now.server) sender.server.number c.args.number (items c.args.symbol) (items c.args.stated.now) _
    c.in-Some.i.number (sym c.in-Some.ensures.0) (asking c.in-Some.read.asking) c.in-Some.ensures.1 c.take_symbol.ensures
