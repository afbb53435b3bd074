use Rattle.std.proofs.Common.{ℕ, Bool, cond, not, ◌&&◌, List, Some, None, Option, ap, ◌∙◌, ap₂}
use Rattle.terms.specs.Items.{items}
use Rattle.message.specs.declared.tag.Tag.{Tag}
use Rattle.message.specs.Tags.{same}
use Rattle.code.specs.Codings.{contains}
use Rattle.code.specs.Meaning.{meaning}
use Rattle.reads.specs.Readings.{asking}
use Rattle.rules.specs.Encoding.{turned}
use Rattle.rules.specs.Histories.{holds}
use Rattle.server.specs.Servers.{server}
use Rattle.server.specs.Steps.{laid}
use Rattle.replies.proofs.mending.mended_at.Goals as goal

pub returns : goal.returns
returns g c places ts e =
    let code = meaning g.F.Field.arithmetic c.args.share.now.code.now in
    let l = laid code places in
    let p = server c.args.p.now in
    let r = asking c.args.asking.now in
    let a = c.args.share.now.server.number in
    let y = c.args.share.now.object.number in
    let v = items c.args.symbol in
    let wanted = c.tag_of-wanted.ensures.found in
    let both = c.if-not-holds_both.ensures ∙ ap (λ (t : Tag). holds p.history y c.args.stated && holds p.history y t) wanted in
    let out : Tag → Option (List ℕ) = λ t. Some (turned l a p y t (r.tags y) v) in
    let by : Tag → Option (List ℕ) = λ t. cond (contains code a y && not (same t (r.tags y))) (cond (holds p.history y t && holds p.history y (r.tags y)) (out t) None) (Some v) in
    ap Some (c.turned.ensures.symbol places ∙ ap (λ (t : Tag). turned l a p y c.args.stated t v) wanted)
    ∙ ap₂ (λ (b d : Bool). cond b (cond d (out c.args.stated) None) (Some v)) c.if-not-differs.ensures both ∙ ap by e
