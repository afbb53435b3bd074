use Rattle.std.proofs.Common.{◌+◌, ◌<◌, length, ap, ◌∙◌, arith}
use Rattle.std.proofs.lemmas.List.{length_push}
use Rattle.std.proofs.lemmas.Result.{err_from_is_err_and}
use Rattle.terms.specs.Items.{items}
use Rattle.wire.proofs.Many.{many_next, many_stop, many_done, counted_is, within, room_of}
use Rattle.wire.proofs.cursor.Cursor.list.Goals as goal

pub returns-in_err-x : goal.returns-in_err-x
returns-in_err-x g c =
    let h = c.in_err-x.ensures in
    let m = c.in_ok-n.ensures in
    let t = c.if-not-contains.ensures.cases in
    let w = within _ _ _ c.args.low g.row.MAX t.0 t.1 c.new.ensures.start c.new.ensures.end in
    let inv = c.loop.invariant in
    let p = err_from_is_err_and c.from_residual-in_err-x.result c.from_residual-in_err-x.ensures.1 in
    record {
      reads = rw (p.1, p.2) (counted_is c.args.low g.row.MAX g.T.Item.SIZE g.T.Item.item c.args.self.now.end c.in_ok-n.field-0 c.args.self.now.left.now c.number.new.self.left.now m.reads.0 (room_of _ _ _ _ c.if-self-n.false c.SIZE.ensures) w.0 w.1 c.number.new.self.end m.reads.1 ∙ many_stop g.T.Item.item c.number.new.self.end c.in_ok-n.field-0 c.loop.counter c.loop.self.left.now _ _ inv.2 c.loop-test.true c.loop.self.end inv.0 _ h.reads.0, h.reads.1 ∙ inv.0 ∙ m.reads.1);
    }

pub loop-preserved : goal.loop-preserved
loop-preserved g c =
    let h = c.in_ok-x.ensures in
    let inv = c.loop.invariant in
    let t = c.if-not-contains.ensures.cases in
    let w = within _ _ _ c.args.low g.row.MAX t.0 t.1 c.new.ensures.start c.new.ensures.end in
    let room : length (items c.loop.all) < g.row.MAX = omega (arith, w.1) in
    let added = c.push.ensures.added room in
    (h.reads.1 ∙ inv.0, ap length added ∙ length_push _ _ ∙ ap (λ k. k + 1) inv.1, many_next g.T.Item.item c.number.new.self.end c.in_ok-n.field-0 c.loop.counter c.loop.self.left.now _ _ inv.2 c.loop-test.true c.loop.self.end inv.0 _ _ h.reads.0 _ added)

pub returns : goal.returns
returns g c =
    let m = c.in_ok-n.ensures in
    let t = c.if-not-contains.ensures.cases in
    let w = within _ _ _ c.args.low g.row.MAX t.0 t.1 c.new.ensures.start c.new.ensures.end in
    let inv = c.loop.invariant in
    record {
      reads = (counted_is c.args.low g.row.MAX g.T.Item.SIZE g.T.Item.item c.args.self.now.end c.in_ok-n.field-0 c.args.self.now.left.now c.number.new.self.left.now m.reads.0 (room_of _ _ _ _ c.if-self-n.false c.SIZE.ensures) w.0 w.1 c.number.new.self.end m.reads.1 ∙ many_done g.T.Item.item c.number.new.self.end c.in_ok-n.field-0 c.loop.counter c.loop.self.left.now _ _ inv.2 c.loop-test.false, inv.0 ∙ m.reads.1);
    }
