use Rattle.std.proofs.Common.{arith}
use Rattle.std.proofs.lemmas.List.{length-take-le, take_more_set}
use Rattle.terms.proofs.bounded.Bounded.append.Goals as goal

pub returns : goal.returns
returns g c =
    let b = c.args.self.now in
    take_more_set b.places b.len c.args.x (omega (arith, b.whole, b.fits, length-take-le b.len b.places, c.requires))
