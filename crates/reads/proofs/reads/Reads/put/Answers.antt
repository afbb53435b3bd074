use Rattle.std.proofs.Common.{ℕ, ◌<◌, List, map, length, get_or, vec_items, ap, ◌∙◌, arith}
use Rattle.std.proofs.lemmas.List.{length-map, map-set}
use Rattle.rules.specs.State as rules
use Rattle.reads.specs.Readings.{read}
use Rattle.reads.proofs.Words.{get_or_upd}
use Rattle.reads.proofs.reads.Reads.put.Goals as goal

pub returns : goal.returns
returns c =
    let rs = vec_items c.args.self.now.places in
    let i = c.args.i.number in
    let lt : i < length (map read rs) = omega (arith, length-map rs read, c.args.i.within, c.args.self.now.whole) in
    let see : List rules.Read → ℕ → rules.Read = λ xs k. get_or xs k rules.Free in
    record { after = ap see (map-set read rs i c.args.r) ∙ get_or_upd (map read rs) i (read c.args.r) rules.Free lt }
