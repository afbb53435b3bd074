use Rattle.std.proofs.Common.{refl, ◌∙◌, arith}
use Rattle.std.proofs.lemmas.List.{with_items_is}
use Rattle.carrier.specs.Calls.{inside, empty, front, may_take, removed, left}
use Rattle.carrier.proofs.blocks.carry.BlocksCarrier.take.Goals as goal

pub returns-then-count-eq0 : goal.returns-then-count-eq0
returns-then-count-eq0 g c =
    let told = c.in_ok-k.ensures.answer in
    let e = empty g.P.Place.held c.args.self.now _ _ _ told.1 told.0 c.if-count-eq0.true in
    record { answer = e; lanes_after = left _ _ _ _ e; same_servers = refl; same_places = refl }

pub index-requires : goal.index-requires
index-requires g c =
    let told = c.in_ok-k.ensures.answer in
    let b = c.args.self.now in
    omega (arith, inside g.P.Place.held b _ _ _ told.1 told.0, b.some_places)

pub shift-requires : goal.shift-requires
shift-requires g c =
    let told = c.in_ok-k.ensures.answer in
    let b = c.args.self.now in
    (omega (arith, inside g.P.Place.held b _ _ _ told.1 told.0, b.within c.in_ok-k.k, c.as_mut_slice.ensures.len), omega (arith, c.if-count-eq0.false))

pub returns : goal.returns
returns g c =
    let told = c.in_ok-k.ensures.answer in
    let b = c.args.self.now in
    let held = g.P.Place.held in
    let is = with_items_is b.memory c.shift.new.places (c.shift.auto.places ∙ c.as_mut_slice.ensures.len) in
    let lane = front held b _ _ _ told.1 told.0 _ _ c.message-m.ensures.as_put c.if-count-eq0.false c.index.ensures in
    record {
      answer = (may_take held b _ _ _ told.1 told.0 _ lane, lane);
      lanes_after = removed held b _ _ _ told.1 told.0 _ lane _ _ _ is c.as_mut_slice.ensures.value c.shift.ensures.below c.shift.ensures.above c.shift.ensures.moved;
      same_servers = refl;
      same_places = refl;
    }
