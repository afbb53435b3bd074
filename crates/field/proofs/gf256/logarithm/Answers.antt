use Rattle.std.proofs.Common.{◌≡◌, ℕ, ◌<◌, sym, subst, rules}
use Rattle.field.specs.Binary.{double, doubles}
use Rattle.field.specs.Computed.{tabled}
use Rattle.field.specs.Polynomials.{logarithm as by_search, logarithm_right}
use Rattle.field.proofs.gf256.logarithm.Goals as goal

pub returns : goal.returns
unfolding double
returns c =
    let x = c.args.x in
    let h : x < 256 = search rules in
    subst (λ (l : ℕ). (l < 255) × (doubles l 1 ≡ x)) (sym (tabled by_search 256 x h)) (logarithm_right x h c.requires)
