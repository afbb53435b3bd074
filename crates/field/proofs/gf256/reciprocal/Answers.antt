use Rattle.std.proofs.Common.{◌<◌, sym, ◌∙◌, rules}
use Rattle.field.specs.Polynomials.{inverse_by_logarithm}
use Rattle.field.proofs.gf256.reciprocal.Goals as goal

pub returns : goal.returns
returns c =
    let x = c.args.x in
    let h : x < 256 = search rules in
    c.power.ensures ∙ sym (inverse_by_logarithm c.logarithm.result x c.logarithm.ensures.0 h c.requires c.logarithm.ensures.1)
