use Rattle.std.proofs.Common.{◌≡◌, ◌<◌, ◌≤◌, List, length, get_or, vec_items, sym, ap, ◌∙◌, arith, ltb-true, ltb-false}
use Rattle.std.proofs.lemmas.List.{length-map}
use Rattle.history.specs.declared.history.Entry.{Entry}
use Rattle.history.specs.Entries.{entry, entries}
use Rattle.reads.proofs.Lists.{map_at}
use Rattle.history.proofs.Held.{value_in, value_past}
use Rattle.history.proofs.history.History.value_at.Goals as goal

pub returns-in-Some : goal.returns-in-Some
returns-in-Some g c =
    let found = c.in-Some.ensures.lookup in
    let es = vec_items c.args.self.now.entries in
    let e = c.in-Some.entry.now in
    let lt : c.args.at < length es = omega (arith, ltb-true, sym found.0, ap length c.deref.ensures.value) in
    let is : e ≡ get_or es c.args.at e = found.1 ∙ ap (λ (xs : List Entry). get_or xs c.args.at e) c.deref.ensures.value in
    let lt' : c.args.at < length (entries c.args.self.now) = omega (arith, length-map es entry) in
    record { value = value_in c.args.code.now.cells (entries c.args.self.now) c.args.at (entry e) lt' (map_at entry es c.args.at e (entry e) lt is) }

pub returns-in-None : goal.returns-in-None
returns-in-None g c =
    let es = vec_items c.args.self.now.entries in
    let past : length (entries c.args.self.now) ≤ c.args.at = omega (arith, ltb-false, sym c.in-None.ensures.lookup.0, ap length c.deref.ensures.value, length-map es entry) in
    record { value = c.zero_cells.ensures.value ∙ value_past c.args.code.now.cells (entries c.args.self.now) c.args.at past }
