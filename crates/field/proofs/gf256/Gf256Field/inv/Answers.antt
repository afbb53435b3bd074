use Rattle.std.proofs.Common.{sym, ap, ◌∙◌}
use Rattle.field.specs.Binary.{inverse_gf256}
use Rattle.field.specs.Polynomials.{inverses}
use Rattle.field.proofs.gf256.Gf256Field.inv.Goals as goal

pub returns-then-x-eq0 : goal.returns-then-x-eq0
returns-then-x-eq0 c = record { inverted = sym (ap inverse_gf256 c.if-x-eq0.true ∙ inverses.inverse_zero) }
