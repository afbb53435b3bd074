use Rattle.field.specs.Computed.{tabled}
use Rattle.field.specs.Modular.{inverse_modulo}
use Rattle.field.proofs.mod251.Mod251Field.inv.Goals as goal

pub returns-then-x-lt-MODULUS : goal.returns-then-x-lt-MODULUS
returns-then-x-lt-MODULUS c = record { inverted = tabled (inverse_modulo 251) 251 c.args.x c.if-x-lt-MODULUS.true }
