use Rattle.std.proofs.Common.{◌≡◌, true, sym, subst}
use Rattle.code.specs.Meaning.{meaning}
use Rattle.message.specs.Ranges.{tag_ok}
use Rattle.message.specs.declared.tag.Tag.{Tag}
use Rattle.rules.specs.Encoding.{within}
use Rattle.server.specs.Servers.{server}
use Rattle.server.specs.Steps.{laid}
use Rattle.steps.proofs.Facts.{highest_ok}
use Rattle.steps.proofs.shares.Share.encode_other.Goals as goal

pub invariant_of-move_own : goal.invariant_of-move_own
invariant_of-move_own g c =
    let p = server c.args.p.now.server in
    let x = c.args.self.now.object.number in
    record {
      tag_in_range = subst (λ (t : Tag). tag_ok t ≡ true) (sym (c.highest_within-tag.ensures 0)) (highest_ok p.history c.args.p.now.in_range.entries (within (laid (meaning g.F.Field.arithmetic c.args.self.now.code.now) 0) p x) x);
    }
