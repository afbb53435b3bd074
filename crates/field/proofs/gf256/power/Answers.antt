use Rattle.field.specs.Binary.{double, doubles}
use Rattle.field.specs.Computed.{tabled}
use Rattle.field.proofs.gf256.power.Goals as goal

pub returns : goal.returns
unfolding double doubles
returns c = tabled (λ n. doubles n 1) 510 c.args.n c.requires
