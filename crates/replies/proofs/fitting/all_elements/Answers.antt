use Rattle.std.proofs.Common.{ℕ, Bool, ltb, get_or, sym, refl, ◌∙◌, rules, arith}
use borrow.Author.Tests.{tests}
use Rattle.std.proofs.lemmas.Iterator.{YieldsList-from_range}
use Rattle.std.proofs.lemmas.Iterator.Search.{all_from_yields_List}
use Rattle.terms.proofs.Every.{every_listed}
use Rattle.replies.proofs.fitting.all_elements.Goals as goal

pub returns : goal.returns
returns g c =
    let f : ℕ → Bool = λ k. ltb (get_or c.args.value.now k 0) g.F.Field.arithmetic.size in
    record {
      decided = all_from_yields_List f _ _ c.all.result c.all.ensures.ran (YieldsList-from_range 0 c.args.cells c.args.cells refl (omega arith)) (λ x b q k. search (rules, tests)) ∙ sym (every_listed c.args.cells f);
    }
