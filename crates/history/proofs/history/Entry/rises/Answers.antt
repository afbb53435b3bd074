use Rattle.std.proofs.Common.{◌≡◌, true, [], ◌∷◌, ◌&&◌, ap, ◌∙◌}
use denote.Param.Members.{post_steps}
use Rattle.history.specs.Entries.{entry, raises}
use Rattle.history.proofs.history.Entry.rises.Goals as goal

pub returns-then-raises : goal.returns-then-raises
returns-then-raises g c p h =
    let s = post_steps g.F.Fn _ _ _ g.met.F.FnMut.1 c.test.ensures in
    let up : true ≡ raises c.args.object c.args.tag (entry c.args.self.now) = cc in
    (h.at (_ ∷ []) c.test.result s.0 s.1).0 ∙ ap (λ b. b && p c.args.self.now.tag) up
