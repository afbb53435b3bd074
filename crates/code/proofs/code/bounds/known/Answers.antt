use Rattle.std.proofs.Common.{ℕ, Bool, not, ◌||◌, ltb, sym, refl, ◌∙◌, rules}
use borrow.Author.Tests.{tests}
use Rattle.std.proofs.lemmas.Iterator.{YieldsList-from_range}
use Rattle.std.proofs.lemmas.Iterator.Search.{all_from_yields_List}
use Rattle.terms.proofs.Every.{every_listed}
use Rattle.terms.specs.Sets.{member}
use Rattle.code.proofs.code.bounds.known.Goals as goal

pub returns : goal.returns
returns c =
    let f : ℕ → Bool = λ s. not (member c.args.set.now s) || ltb s c.args.n in
    all_from_yields_List f _ _ c.all.result c.all.ensures.ran (YieldsList-from_range 0 6 6 (cc) refl) (λ x b q k. search (rules, tests))
    ∙ sym (every_listed 6 f)
