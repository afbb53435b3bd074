use Rattle.std.proofs.Common.{◌≡◌, false, ltb, List, length, sym, ap, ◌∙◌, arith}
use Rattle.terms.specs.Items.{items}
use Rattle.reads.specs.Readings.{asking}
use Rattle.server.specs.Servers.{server}
use Rattle.replies.proofs.Answering.{settled_inside}
use Rattle.std.proofs.lemmas.Bool.{le-ltb}
use Rattle.terms.specs.Limits.{max_client_reads}
use Rattle.rules.specs.Histories as rules
use Rattle.terms.specs.Limits.{max_entries}
use Rattle.replies.proofs.settling.settle.Goals as goal

pub returns : goal.returns
returns c l =
    let p = server c.args.p.now.server in
    let i = c.args.i.number in
    let inside : ltb i max_client_reads ≡ false = le-ltb i max_client_reads (omega arith) in
    settled_inside l p (server c.enter_answer.new.p.server) i (asking c.args.read.asking) (items c.args.value.cells) inside
    (sym (c.if-not-has_room.ensures.decided ∙ ap (λ (es : List rules.Entry). ltb (length es) max_entries) c.history.ensures.told)) (c.enter_answer.ensures l)
