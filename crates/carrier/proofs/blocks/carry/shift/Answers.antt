use Rattle.std.proofs.Common.{◌+◌, ◌-◌, arith}
use Rattle.carrier.proofs.Shift.{above_kept}
use Rattle.carrier.proofs.blocks.carry.shift.Goals as goal

pub returns-clause-above : goal.returns-clause-above
returns-clause-above g c =
    let at = c.args.at in
    let count = c.args.count in
    above_kept c.args.places.now c.rotate_left.new.self at count (at + count - at) c.requires.0 (omega arith) c.rotate_left.ensures.len
