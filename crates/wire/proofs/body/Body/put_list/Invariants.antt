use Rattle.std.proofs.Common.{◌≡◌, ◌++◌, take}
use Rattle.std.specs.List.{flat_map}
use Rattle.wire.specs.Bodies.{body_so_far}
use Rattle.wire.proofs.body.Body.put_list.Given as goal

abbrev pub invariant-loop-x : goal.invariant-loop-x
invariant-loop-x g l = body_so_far l.self ≡ body_so_far l.initial.self ++ flat_map g.T.Item.bytes (take l.x-index l.list)
