use Rattle.std.proofs.Common.{ℕ, rules, map, get_or}
use Rattle.field.specs.Sums.{dot}
use Rattle.terms.specs.Items.{items}
use Rattle.terms.specs.Sets.{member}
use Rattle.terms.proofs.Listed.{listed_by}
use Rattle.code.specs.Chosen.{shown}
use Rattle.code.specs.Codings.{value_at}
use Rattle.code.proofs.code.Code.weigh.Goals as goal

pub returns : goal.returns
returns g c =
    let f : ℕ → ℕ = λ i. dot g.F.Field.arithmetic 6 (λ s. get_or c.args.factors s 0) (shown (member c.args.set.now) (value_at (map items c.args.symbols.now)) i) in
    listed_by (items c.from_fn.result) c.args.self.now.cells f 0 c.from_fn.ensures.counted (λ i h. let made = c.from_fn.ensures.made i h in search rules)
