use Rattle.std.proofs.Common.{ℕ, Bool, refl, ◌∙◌, rules, tests, arith}
use Rattle.std.proofs.lemmas.Iterator.{YieldsList-from_range}
use Rattle.std.proofs.lemmas.Iterator.Search.{position_from_yields_List}
use Rattle.reads.specs.Readings.{reads}
use Rattle.reads.proofs.Words.{position_first}
use Rattle.reads.proofs.reads.Reads.find_where.Goals as goal

pub returns-clause-place : goal.returns-clause-place
returns-clause-place g c p h =
    let test : ℕ → Bool = λ i. p (reads c.args.self.now i) in
    position_from_yields_List test _ _ _ c.position.ensures.ran (YieldsList-from_range 0 c.args.n c.args.n refl (omega arith)) (λ x b q k. (search rules, search (rules, tests))) ∙ position_first c.args.n test
