use Rattle.std.proofs.Common.{refl, arith}
use Rattle.std.proofs.lemmas.Result.{err_from_is_err_and}
use Rattle.message.specs.Meanings.{meaning}
use Rattle.carrier.specs.Calls.{inside, full, refused, unused, may_post, added, left}
use Rattle.carrier.proofs.blocks.carry.BlocksCarrier.post.Goals as goal

pub returns-then-count-self : goal.returns-then-count-self
returns-then-count-self g c =
    let told = c.in_ok-k.ensures.answer in
    let e = full g.P.Place.held c.args.self.now _ _ _ told.1 told.0 (meaning c.args.m) c.if-count-self.true in
    record { answer = e; lanes_after = left _ _ _ _ e; same_servers = refl; same_places = refl }

pub index_mut-requires : goal.index_mut-requires
index_mut-requires g c =
    let told = c.in_ok-k.ensures.answer in
    omega (arith, inside g.P.Place.held c.args.self.now _ _ _ told.1 told.0, c.if-count-self.false)

pub returns-in_err-put-clause-answer : goal.returns-in_err-put-clause-answer
returns-in_err-put-clause-answer g c =
    let told = c.in_ok-k.ensures.answer in
    let p = err_from_is_err_and c.from_residual-in_err-put.result c.from_residual-in_err-put.ensures.1 in
    rw (p.1, p.2) (refused g.P.Place.held c.args.self.now _ _ _ told.1 told.0 (meaning c.args.m) _ c.if-count-self.false c.in_err-put.ensures.answer)

pub returns-in_err-put-clause-lanes_after : goal.returns-in_err-put-clause-lanes_after
returns-in_err-put-clause-lanes_after g c =
    let told = c.in_ok-k.ensures.answer in
    unused g.P.Place.held c.args.self.now _ _ _ told.1 told.0 c.put.new.self (meaning c.args.m) _ c.if-count-self.false c.in_err-put.ensures.answer

pub returns-clause-answer : goal.returns-clause-answer
returns-clause-answer g c =
    let told = c.in_ok-k.ensures.answer in
    (may_post g.P.Place.held c.args.self.now _ _ _ told.1 told.0 (meaning c.args.m) c.if-count-self.false c.in_ok-put.ensures.answer.0, tt)

pub returns-clause-lanes_after : goal.returns-clause-lanes_after
returns-clause-lanes_after g c =
    let told = c.in_ok-k.ensures.answer in
    added g.P.Place.held c.args.self.now _ _ _ told.1 told.0 c.put.new.self _ (meaning c.args.m) c.in_ok-put.ensures.after c.if-count-self.false c.in_ok-put.ensures.answer.0
