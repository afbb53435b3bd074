use Rattle.std.proofs.Common.{◌+◌, ◌≤◌, length, ap, arith}
use Rattle.std.specs.List.{flat_map}
use Rattle.terms.specs.Limits.{max_body_bytes}
use Rattle.wire.specs.Bodies.{body_so_far}
use Rattle.wire.proofs.Puts.{next_fits}
use Rattle.wire.proofs.body.Body.put_list.Goals as goal

pub put-requires : goal.put-requires
put-requires g c =
    let f = g.T.Item.bytes in
    let room : length (body_so_far c.put_number.new.self) + length (flat_map f c.args.list.now) ≤ max_body_bytes = omega (arith, c.put_number.ensures.len) in
    omega (arith, ap (λ x. length (f x)) c.x-item.is, next_fits f (body_so_far c.put_number.new.self) (body_so_far c.loop-x.self) c.args.list.now c.loop-x.x-index c.x-item.result max_body_bytes c.loop-x-test.true c.loop-x.invariant room)
