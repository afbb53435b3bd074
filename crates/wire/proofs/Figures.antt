-- The two messages as bytes, by computation. Assumes nothing.
use Rattle.std.proofs.Common.{refl}
use Rattle.wire.specs.Examples.{ByteFigures}

pub byte_figures : ByteFigures
byte_figures = (refl, refl, refl, refl)
