use Rattle.std.proofs.Common.{ap, ◌∙◌}
use Rattle.terms.specs.Items.{items}
use Rattle.server.specs.Servers.{server}
use Rattle.replies.proofs.Answering.{entered_freed}
use Rattle.message.specs.declared.tag.Tag.{Tag}
use Rattle.rules.specs.Histories.{Entry}
use Rattle.rules.specs.Updates.{entered, reading}
use Rattle.rules.specs.Words.{upd}
use Rattle.rules.specs.State.{Free}
use Rattle.replies.proofs.settling.enter_answer.Goals as goal

pub returns : goal.returns
returns c l =
    let p = server c.args.p.now.server in
    let i = c.args.i.number in
    let x = c.args.read.asking.object in
    let entry : Tag → Entry = λ t. record { object = x; tag = t; value = items c.args.value.cells } in
    c.put_read.ensures.after ∙ entered_freed p (server c.enter.new.self.server) (entry c.tag_of-tag.result) i c.requires c.enter.ensures.after
    ∙ ap (λ (t : Tag). reading (entered p (entry t)) (upd p.reads i Free)) c.tag_of-tag.ensures.found
