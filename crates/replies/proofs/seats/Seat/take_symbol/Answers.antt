use Rattle.std.proofs.Common.{None, refl, ap, arith}
use Rattle.terms.specs.Items.{items}
use Rattle.code.specs.Meaning.{meaning}
use Rattle.reads.specs.Readings.{asking}
use Rattle.server.specs.Servers.{server}
use Rattle.steps.specs.Local.{local}
use Rattle.rules.specs.Turns.{Outcome}
use Rattle.replies.proofs.Taken.{symbol_unusable, symbol_waits, symbol_settles}
use Rattle.replies.proofs.seats.Seat.take_symbol.Goals as goal

pub returns-in_default : goal.returns-in_default
returns-in_default g c =
    symbol_unusable (meaning g.F.Field.arithmetic c.args.self.now.code.now) (server c.args.p.now.server) c.args.self.now.server.number c.args.i.number (asking c.args.read.asking) (items c.args.symbol) (items c.args.stated.now) _
    c.in_default.ensures refl

pub returns-in_default-decoded : goal.returns-in_default-decoded
returns-in_default-decoded g c =
    symbol_waits (meaning g.F.Field.arithmetic c.args.self.now.code.now) (server c.args.p.now.server) c.args.self.now.server.number c.args.i.number (asking c.args.read.asking) (items c.args.symbol) (items c.args.stated.now) _
    (items c.in-Some.symbol) (asking c.in_hand-holding.result.asking) c.in-Some.ensures c.in_hand-holding.ensures c.in_default-decoded.ensures
    (ap (λ q. local (Outcome 3) q None) c.put_read.ensures.after)

pub returns : goal.returns
returns g c =
    symbol_settles (meaning g.F.Field.arithmetic c.args.self.now.code.now) (server c.args.p.now.server) c.args.self.now.server.number c.args.i.number (asking c.args.read.asking) (items c.args.symbol) (items c.args.stated.now) _
    (items c.in-Some.symbol) (asking c.in_hand-holding.result.asking) c.in-Some.ensures c.in_hand-holding.ensures (items c.in-Some-decoded.value) c.in-Some-decoded.ensures c.settle.ensures

pub invariant_of-settle : goal.invariant_of-settle
invariant_of-settle g c =
    let long = c.in-Some-decoded.ensures.1.value.long in
    let one = c.args.self.now.code.now.least_cells in record { some_cells = omega (arith, long, one) }
