use Rattle.std.proofs.Common.{◌≡◌, ℕ, ◌+◌, ◌<◌, List, ap, ◌∙◌, ap₂, arith}
use Rattle.terms.specs.Items.{items}
use Rattle.terms.specs.Limits.{max_read}
use Rattle.terms.specs.Lists.{listed}
use Rattle.message.specs.declared.tag.Tag.{Tag}
use Rattle.message.specs.Meanings.{question}
use Rattle.message.specs.Ranges.{in_range}
use Rattle.message.specs.Tags.{zero_tag}
use Rattle.server.specs.Servers.{server}
use Rattle.steps.proofs.Ranges.{question_range}
use Rattle.steps.proofs.asking.open.Goals as goal

pub invariant_of-result : goal.invariant_of-result
invariant_of-result g c =
    let p = server c.args.p.now.server in
    let code = c.args.code.now in
    let x = c.args.x.number in
    let left : p.opened < max_read = omega (arith, c.opened.ensures.told) in
    let number = c.in_ok-number.ensures.answer.1 in
    let tags : items c.own_tags-tags.result ≡ listed code.objects p.own = c.own_tags-tags.ensures ∙ ap (λ (n : ℕ). listed n p.own) c.objects.ensures.counted in
    let said = ap₂ (λ (n : ℕ) (ts : List Tag). question n x ts) number tags in
    record { sendable = ap in_range said ∙ question_range (p.opened + 1) x code.objects p.own zero_tag (omega arith) (omega arith) c.args.x.within code.least_objects code.most_objects c.args.p.now.in_range.own_tags }
