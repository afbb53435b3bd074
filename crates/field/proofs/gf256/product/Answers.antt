use Rattle.std.proofs.Common.{◌<◌, sym, ◌∙◌, rules}
use Rattle.field.specs.Binary.{multiply}
use Rattle.field.specs.Totals.{in₂}
use Rattle.field.specs.Polynomials.{by_logarithms}
use Rattle.field.proofs.gf256.product.Goals as goal

pub returns : goal.returns
returns c =
    let x = c.args.x in
    let y = c.args.y in
    let h : x < 256 = search rules in
    let k : y < 256 = search rules in
    c.power.ensures
    ∙ sym (in₂ 256 multiply x y h k ∙ by_logarithms c.logarithm.result c.logarithm-2.result x y c.logarithm.ensures.1 c.logarithm-2.ensures.1 k)
