use Rattle.std.proofs.Common.{◌≡◌}
use Rattle.message.specs.Meanings.{meaning}
use Rattle.rules.specs.Lanes.{spread}
use Rattle.calls.proofs.post.Sender.post_all.Given as goal

abbrev pub invariant-loop-to : goal.invariant-loop-to
invariant-loop-to g l =
    (g.C.Carrier.lanes l.carrier ≡ spread (g.C.Carrier.lanes l.initial.carrier) l.self.from l.to (meaning l.m))
    × (g.C.Carrier.n l.carrier ≡ g.C.Carrier.n l.initial.carrier)
    × (g.C.Carrier.p l.carrier ≡ g.C.Carrier.p l.initial.carrier)
