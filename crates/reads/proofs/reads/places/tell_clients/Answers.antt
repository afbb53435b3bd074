use Rattle.std.proofs.Common.{◌++◌, map, length, take, set, sym, ap, ◌∙◌, ◌≤◌, ap₂, arith}
use Rattle.std.proofs.lemmas.List.{length-map, map-set, map-append, take_all, drop_all, append-nil}
use Rattle.std.proofs.lemmas.List.Edits.{map_over_more}
use Rattle.rules.specs.State as rules
use Rattle.reads.specs.declared.reads.Read.{Read}
use Rattle.reads.specs.Readings.{read, event_of, next}
use Rattle.reads.proofs.Lists.{map_at, map_take, map_drop}
use Rattle.reads.proofs.reads.places.tell_clients.Goals as goal

pub loop-read-preserved : goal.loop-read-preserved
loop-read-preserved c =
    let g : rules.Read → rules.Read = λ r. next r (event_of c.args.event) in
    let now = c.loop-read.read-items in
    let i = c.loop-read.read-index in
    let x = c.read-item.result in
    let front = take 8 c.args.places.now in
    map-set read now i c.next.result ∙ ap (set (map read now) i) (c.next.ensures.after ∙ ap (λ (z : Read). g (read z)) (sym c.read-item.is))
    ∙ map_over_more g (map read front) (map read now) i (read x) (omega (arith, length-map front read)) c.loop-read.invariant (map_at read now i x (read x) (omega arith) c.read-item.is)

pub returns : goal.returns
returns c =
    let g : rules.Read → rules.Read = λ r. next r (event_of c.args.event) in
    let old = c.args.places.now in
    let i = c.loop-read.read-index in
    let front = map read (take 8 old) in
    let all : length front ≤ i = omega (arith, length-map (take 8 old) read) in
    let turned = c.loop-read.invariant ∙ ap₂ (λ xs ys. map g xs ++ ys) (take_all i front all ∙ map_take read 8 old) (drop_all i front all) ∙ append-nil (map g (take 8 (map read old))) in
    map-append read c.loop-read.read-items _ ∙ ap₂ (λ xs ys. xs ++ ys) turned (map_drop read 8 old)
