use Rattle.std.proofs.Common.{◌≡◌, ℕ, length, get_or, sym, ap, ◌∙◌, ap₂, rules, arith}
use Rattle.std.proofs.lemmas.List.{get_or_default}
use Rattle.message.specs.declared.tag.Tag.{Tag}
use Rattle.message.specs.Tags.{zero_tag}
use Rattle.rules.specs.Encoding.{lowest}
use Rattle.rules.specs.Histories.{earlier}
use Rattle.server.proofs.Steps.{lowest_none, lowest_more}
use Rattle.server.proofs.server.sweeping.lowest.Goals as goal

pub loop-tag-init : goal.loop-tag-init
loop-tag-init c = search rules ∙ sym (lowest_none (λ (j : ℕ). get_or c.args.told.now j zero_tag))

pub loop-tag-preserved : goal.loop-tag-preserved
loop-tag-preserved c =
    let f : ℕ → Tag = λ j. get_or c.args.told.now j zero_tag in
    let i = c.loop-tag.tag-index in
    c.earlier-floor.ensures ∙ ap₂ earlier (get_or_default c.args.told.now i _ zero_tag c.loop-tag-test.true) c.loop-tag.invariant ∙ sym (lowest_more i f)

pub returns : goal.returns
returns c =
    let end : c.loop-tag.tag-index ≡ length c.args.told.now = omega arith in
    c.loop-tag.invariant ∙ ap (λ (n : ℕ). lowest n (λ (j : ℕ). get_or c.args.told.now j zero_tag)) end
