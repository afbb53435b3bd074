use Rattle.std.proofs.Common.{◌≡◌, ◌++◌, map, take, drop}
use Rattle.reads.specs.Readings.{read, event_of, next}
use Rattle.reads.proofs.reads.places.tell_clients.Given as goal

abbrev pub invariant-loop-read : goal.invariant-loop-read
invariant-loop-read l =
    let all = map read l.initial.read-items in
    map read l.read-items ≡ map (λ r. next r (event_of l.event)) (take l.read-index all) ++ drop l.read-index all
