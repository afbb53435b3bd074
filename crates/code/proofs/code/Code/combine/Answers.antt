use Rattle.std.proofs.Common.{ℕ, rules, map, get_or}
use Rattle.terms.specs.Items.{items}
use Rattle.terms.proofs.Listed.{listed_by}
use Rattle.code.specs.Codings.{combination, value_at}
use Rattle.code.specs.Meaning.{meaning}
use Rattle.code.proofs.code.Code.combine.Goals as goal

pub returns : goal.returns
returns g c =
    let f : ℕ → ℕ = λ i. combination (meaning g.F.Field.arithmetic c.args.self.now) c.args.server (λ x. get_or (value_at (map items c.args.values.now) x) i 0) in
    listed_by (items c.from_fn.result) c.args.self.now.cells f 0 c.from_fn.ensures.counted (λ i h. let made = c.from_fn.ensures.made i h in search rules)
