use Rattle.std.proofs.Common.{◌≡◌, ◌<◌, ◌⊎◌, sym, inl, inr, rules}
use Rattle.field.specs.Polynomials.{zero_product}
use Rattle.field.proofs.gf256.Gf256Field.mul.Goals as goal

pub returns-then-y-eq0 : goal.returns-then-y-eq0
returns-then-y-eq0 c =
    let x = c.args.x in
    let y = c.args.y in
    let h : x < 256 = search rules in
    let k : y < 256 = search rules in
    let zero : (x ≡ 0) ⊎ (y ≡ 0) = elim c.if-y-eq0.either [ inl e ↦ inl e | inr e ↦ inr e.1 ] in
    record { product = sym (zero_product x y h k zero) }
