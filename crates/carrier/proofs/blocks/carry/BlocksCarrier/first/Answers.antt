use Rattle.std.proofs.Common.{arith}
use Rattle.carrier.specs.Calls.{inside, empty, front, may_take}
use Rattle.carrier.proofs.blocks.carry.BlocksCarrier.first.Goals as goal

pub returns-then-self-k-eq0 : goal.returns-then-self-k-eq0
returns-then-self-k-eq0 g c =
    let told = c.in_ok-k.ensures.answer in
    record { answer = empty g.P.Place.held c.args.self.now _ _ _ told.1 told.0 c.if-self-k-eq0.true }

pub index-requires : goal.index-requires
index-requires g c =
    let told = c.in_ok-k.ensures.answer in
    let b = c.args.self.now in
    omega (arith, inside g.P.Place.held b _ _ _ told.1 told.0, b.some_places)

pub returns : goal.returns
returns g c =
    let told = c.in_ok-k.ensures.answer in
    let b = c.args.self.now in
    let held = g.P.Place.held in
    let lane = front held b _ _ _ told.1 told.0 _ _ c.message.ensures.as_put c.if-self-k-eq0.false c.index.ensures in
    record { answer = (may_take held b _ _ _ told.1 told.0 _ lane, lane) }
