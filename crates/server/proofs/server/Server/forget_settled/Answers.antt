use Rattle.std.proofs.Common.{Bool, cond, not, filter, ap, ◌∙◌}
use Rattle.message.specs.declared.tag.Tag.{Tag}
use Rattle.rules.specs.Histories as rules
use Rattle.rules.specs.Histories.{is_entry}
use Rattle.rules.specs.State as state
use Rattle.rules.specs.Updates.{sifted}
use Rattle.server.specs.Servers.{server}
use Rattle.server.specs.Steps.{without_own}
use Rattle.server.proofs.server.Server.forget_settled.Goals as goal

pub returns-then-is_settled : goal.returns-then-is_settled
unfolding sifted
returns-then-is_settled c =
    let p = server c.args.self.now in
    let gone : Tag → state.Server = λ t. sifted p (filter (λ (e : rules.Entry). not (is_entry c.args.object.number t e)) p.history) in
    ap (sifted p) c.forget.ensures.rest ∙ ap gone c.own_tag-tag.ensures.told
    ∙ ap (λ (b : Bool). cond b (without_own p c.args.object.number) p) c.if-is_settled.ensures
