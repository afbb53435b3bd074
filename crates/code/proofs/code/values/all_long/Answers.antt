use Rattle.std.proofs.Common.{eqb, length, sym, ◌∙◌, rules}
use borrow.Author.Tests.{tests}
use Rattle.std.proofs.lemmas.Iterator.{YieldsList-from_slice}
use Rattle.std.proofs.lemmas.Iterator.Search.{all_from_yields_List}
use Rattle.terms.specs.Items.{items}
use Rattle.std.proofs.lemmas.List.Folds.{list_all-map}
use Rattle.code.proofs.code.values.all_long.Goals as goal

pub returns : goal.returns
returns c =
    let w = c.args.w in
    let values = c.args.values.now in
    all_from_yields_List (λ v. eqb (length (items v)) w) _ _ c.all.result c.all.ensures.ran (YieldsList-from_slice values cc) (λ x b q k. search (rules, tests))
    ∙ sym (list_all-map (λ v. eqb (length v) w) items values)
