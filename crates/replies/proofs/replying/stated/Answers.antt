use Rattle.std.proofs.Common.{cond, List, ap, ◌∙◌, ap₂}
use Rattle.message.specs.Tags.{zero_tag}
use Rattle.rules.specs.Histories as rules
use Rattle.rules.specs.Histories.{holds, value_under}
use Rattle.rules.specs.Delivering.{stated}
use Rattle.server.specs.Servers.{server}
use Rattle.replies.proofs.replying.stated.Goals as goal

pub returns-then-not-exchanges : goal.returns-then-not-exchanges
unfolding stated
returns-then-not-exchanges g c places =
    let p = server c.args.p.now in
    let y = c.args.share.now.object.number in
    c.own_tag.ensures.told ∙ ap (λ b. cond b (cond (holds p.history y c.args.asked) c.args.asked zero_tag) (p.own y)) (c.if-not-exchanges.ensures places)

pub returns-then-holds : goal.returns-then-holds
unfolding stated
returns-then-holds g c places =
    let p = server c.args.p.now in
    let y = c.args.share.now.object.number in
    ap₂ (λ b d. cond b (cond d c.args.asked zero_tag) (p.own y)) (c.if-not-exchanges.ensures places) (c.if-holds.ensures.decided ∙ ap (λ (es : List rules.Entry). holds es y c.args.asked) c.history.ensures.told)

pub returns-else-holds : goal.returns-else-holds
unfolding stated
returns-else-holds g c places =
    let p = server c.args.p.now in
    let y = c.args.share.now.object.number in
    c.zero.ensures.zero
    ∙ ap₂ (λ b d. cond b (cond d c.args.asked zero_tag) (p.own y)) (c.if-not-exchanges.ensures places) (c.if-holds.ensures.decided ∙ ap (λ (es : List rules.Entry). holds es y c.args.asked) c.history.ensures.told)
