use Rattle.std.proofs.Common.{ℕ, rules, get_or}
use Rattle.terms.specs.Items.{items}
use Rattle.terms.proofs.Listed.{listed_by}
use Rattle.code.specs.Codings.{re_encoded_cell}
use Rattle.code.specs.Meaning.{meaning}
use Rattle.code.proofs.code.Code.turned.Goals as goal

pub returns : goal.returns
returns g c =
    let f : ℕ → ℕ = λ i. re_encoded_cell (meaning g.F.Field.arithmetic c.args.self.now) c.args.server c.args.object
    (get_or (items c.args.symbol.now) i 0) (get_or (items c.args.old.now) i 0) (get_or (items c.args.new.now) i 0) in
    listed_by (items c.from_fn.result) c.args.self.now.cells f 0 c.from_fn.ensures.counted (λ i h. let made = c.from_fn.ensures.made i h in search rules)
