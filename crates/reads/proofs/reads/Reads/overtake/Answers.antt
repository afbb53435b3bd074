use Rattle.std.proofs.Common.{ℕ, ◌≤◌, List, ◌++◌, map, length, get_or, take, drop, vec_items, ap, ◌∙◌, arith}
use Rattle.std.proofs.lemmas.List.{length-map, with_items_is}
use Rattle.terms.specs.Items.{items}
use Rattle.rules.specs.State as rules
use Rattle.rules.specs.Updates.{newer, overtaken}
use Rattle.reads.specs.declared.reads.Read.{Read}
use Rattle.reads.specs.Readings.{read}
use Rattle.reads.proofs.Words.{turned_front}
use Rattle.reads.proofs.reads.Reads.overtake.Goals as goal

pub returns : goal.returns
unfolding overtaken
returns c =
    let g : rules.Read → rules.Read = newer c.args.all c.args.object c.args.tag (items c.args.value) in
    let see : List rules.Read → ℕ → rules.Read = λ xs k. get_or xs k rules.Free in
    let v = c.args.self.now.places in
    let old = map read (vec_items v) in
    let long : 8 ≤ length old = omega (arith, length-map (vec_items v) read, c.args.self.now.whole) in
    let told = c.tell_clients.ensures ∙ ap (λ (rs : List Read). map g (take 8 (map read rs)) ++ drop 8 (map read rs)) c.as_mut_slice.ensures.value in
    let kept = with_items_is v c.tell_clients.new.places (omega (arith, c.tell_clients.auto.places, c.as_mut_slice.ensures.len)) in
    record { after = ap see (ap (map read) kept ∙ told) ∙ turned_front g old 8 rules.Free long }
