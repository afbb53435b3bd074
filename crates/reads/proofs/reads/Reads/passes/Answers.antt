use Rattle.std.proofs.Common.{[], ◌∷◌, ap, ◌∙◌}
use denote.Param.Members.{post_steps}
use Rattle.reads.proofs.reads.Reads.passes.Goals as goal

pub returns : goal.returns
returns g c p h =
    let s = post_steps g.F.Fn _ _ _ g.met.F.FnMut.1 c.test.ensures in
    (h.at (_ ∷ []) c.test.result s.0 s.1).0 ∙ ap p c.at.ensures.found
