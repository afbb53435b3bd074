use Rattle.std.proofs.Common.{◌≡◌, sym, ◌∙◌}
use Rattle.message.specs.Meanings.{meaning}
use Rattle.calls.proofs.Posting.{post_free, post_is, post_self}
use Rattle.calls.proofs.post.post_one.Goals as goal

pub returns-then-from-to-clause-lanes_after : goal.returns-then-from-to-clause-lanes_after
returns-then-from-to-clause-lanes_after g c =
    let m = c.args.carrier.now in
    let L = g.C.Carrier.lanes m in
    let x = meaning c.args.m in
    let ne : c.args.to ≡ c.args.from → ⊥ = λ e. c.if-from-to.true (sym e) in
    c.post.ensures.lanes_after
    ∙ post_is L c.args.from c.args.to x _ (post_free L c.args.from c.args.to x (g.C.Carrier.n m) (g.C.Carrier.p m) c.requires.from_within c.requires.to_within ne c.requires.room c.requires.range) ne

pub returns-else-from-to-clause-lanes_after : goal.returns-else-from-to-clause-lanes_after
returns-else-from-to-clause-lanes_after g c = post_self (g.C.Carrier.lanes c.args.carrier.now) c.args.from c.args.to (meaning c.args.m) (sym c.if-from-to.false)
