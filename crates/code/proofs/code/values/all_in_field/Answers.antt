use Rattle.std.proofs.Common.{sym, ◌∙◌, rules}
use borrow.Author.Tests.{tests}
use Rattle.std.proofs.lemmas.Iterator.{YieldsList-from_slice}
use Rattle.std.proofs.lemmas.Iterator.Search.{all_from_yields_List}
use Rattle.terms.specs.Items.{items}
use Rattle.std.proofs.lemmas.List.Folds.{list_all-map}
use Rattle.code.specs.Layout.{all_elements}
use Rattle.code.proofs.code.values.all_in_field.Goals as goal

pub returns : goal.returns
returns g c =
    let q = g.F.Field.arithmetic.size in
    let values = c.args.values.now in
    all_from_yields_List (λ v. all_elements q (items v)) _ _ c.all.result c.all.ensures.ran (YieldsList-from_slice values cc) (λ x b q k. search (rules, tests))
    ∙ sym (list_all-map (all_elements q) items values)
