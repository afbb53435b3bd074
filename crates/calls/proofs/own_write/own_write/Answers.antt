use Rattle.std.proofs.Common.{ℕ, ◌+◌, ◌<◌, List, ap, ◌∙◌, ap₂, arith}
use Rattle.terms.specs.Items.{items}
use Rattle.terms.specs.Limits.{max_height}
use Rattle.message.specs.declared.tag.Tag.{Tag}
use Rattle.message.specs.Meanings.{write_notice}
use Rattle.message.specs.Ranges.{in_range}
use Rattle.code.specs.Meaning.{meaning}
use Rattle.server.specs.Servers.{server}
use Rattle.server.specs.Steps.{laid}
use Rattle.steps.proofs.Ranges.{notice_range}
use Rattle.calls.proofs.Noticing.{few, height_left, written_is}
use Rattle.calls.proofs.own_write.own_write.Goals as goal

pub invariant_of-result : goal.invariant_of-result
invariant_of-result g c =
    let p = server c.args.p.now.server in
    let code = c.args.code.now in
    let s = c.args.aim.server.number in
    let x = c.args.aim.object.number in
    let v = items c.args.value.cells in
    let tag = c.in_ok-tag.tag in
    let new = c.write.new.self.server in
    let may = c.in_ok-tag.ensures.answer.0 in
    let tag_is = c.in_ok-tag.ensures.answer.1 in
    let top : p.top < max_height = height_left p s may in
    record {
      sendable =
          ap₂ (λ (h : ℕ) (clock : List ℕ). in_range (write_notice x v h clock)) (ap (λ (t : Tag). t.height) tag_is) c.clock_of.ensures.counts
          ∙ notice_range x v (p.top + 1) code.servers (server new).clock c.args.aim.object.within c.args.value.some_cells (few c.args.value.cells) (omega arith) (omega (arith, top)) code.least_servers
          code.most_servers new.counts_in_range;
    }

pub returns : goal.returns
returns g c =
    let p = server c.args.p.now.server in
    let code = c.args.code.now in
    let s = c.args.aim.server.number in
    let x = c.args.aim.object.number in
    let v = items c.args.value.cells in
    let tag = c.in_ok-tag.tag in
    let new = c.write.new.self.server in
    let may = c.in_ok-tag.ensures.answer.0 in
    let tag_is = c.in_ok-tag.ensures.answer.1 in
    let top : p.top < max_height = height_left p s may in
    record {
      step = λ places.
          written_is (laid (meaning g.F.Field.arithmetic code) places) p (server new) s x v tag (items c.clock_of.result) c.args.lanes_free c.if-not-lanes_free.false may tag_is c.write.ensures.after
          c.clock_of.ensures.counts;
    }
