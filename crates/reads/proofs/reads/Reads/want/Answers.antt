use Rattle.std.proofs.Common.{map, vec_items, ◌∙◌, rules, tests, arith}
use Rattle.std.proofs.lemmas.Iterator.{YieldsList-from_slice}
use Rattle.std.proofs.lemmas.Iterator.Search.{any_from_yields_List}
use Rattle.std.proofs.lemmas.List.{length-map}
use Rattle.rules.specs.State.{Free}
use Rattle.rules.specs.Encoding.{asks}
use Rattle.reads.specs.declared.reads.Read.{Read}
use Rattle.reads.specs.Readings.{read}
use Rattle.reads.proofs.Words.{any_map, some_listed}
use Rattle.reads.proofs.reads.Reads.want.Goals as goal

pub returns : goal.returns
returns c =
    let rs = vec_items c.args.self.now.places in
    let some = some_listed (asks c.args.object c.args.tag) (map read rs) Free 14 (omega (arith, length-map rs read, c.args.self.now.whole)) in
    let any = any_from_yields_List (λ (r : Read). asks c.args.object c.args.tag (read r)) _ _ _ c.any.ensures.ran (YieldsList-from_slice rs cc) (λ x b q k. search (rules, tests)) in
    record { decided = any ∙ any_map (asks c.args.object c.args.tag) read rs ∙ some }
