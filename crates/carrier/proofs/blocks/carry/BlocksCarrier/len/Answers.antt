use Rattle.std.proofs.Common.{sym}
use Rattle.carrier.specs.Calls.{lane_long}
use Rattle.carrier.proofs.blocks.carry.BlocksCarrier.len.Goals as goal

pub returns : goal.returns
returns g c =
    let told = c.in_ok-k.ensures.answer in
    record { answer = (told.0, sym (lane_long g.P.Place.held c.args.self.now _ _ _ told.1 told.0)) }
