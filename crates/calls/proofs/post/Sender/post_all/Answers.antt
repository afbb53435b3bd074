use Rattle.std.proofs.Common.{◌≡◌, ℕ, ◌||◌, eqb, ltb, List, length, refl, ap, ◌∙◌, ap₂, arith}
use Rattle.message.specs.Meanings.{Meaning, meaning}
use Rattle.rules.specs.Lanes.{Lanes, spread}
use Rattle.calls.proofs.Posting.{every_at, spread_none, spread_more, spread_next}
use Rattle.calls.proofs.post.Sender.post_all.Goals as goal

pub loop-to-init : goal.loop-to-init
loop-to-init g c = (spread_none (g.C.Carrier.lanes c.args.carrier.now) c.args.self.from (meaning c.args.m), refl, refl)

pub post_one-requires : goal.post_one-requires
post_one-requires g c =
    let L = g.C.Carrier.lanes c.args.carrier.now in
    let from = c.args.self.from in
    let to = c.loop-to.to in
    let now_lane : g.C.Carrier.lanes c.loop-to.carrier from to ≡ L from to = ap (λ (M : Lanes Meaning). M from to) c.loop-to.invariant.0 ∙ spread_next L from to (meaning c.args.m) in
    record {
      from_within = omega (arith, c.loop-to.invariant.1, c.args.self.within, c.requires.carried);
      to_within = omega (arith, c.loop-to.invariant.1, c.requires.carried);
      room =
          ap₂ (λ (l : List Meaning) (p : ℕ). eqb to from || ltb (length l) p) now_lane c.loop-to.invariant.2
          ∙ every_at c.args.self.servers (λ (j : ℕ). eqb j from || ltb (length (L from j)) (g.C.Carrier.p c.args.carrier.now)) c.requires.room to (omega arith);
      range = c.requires.range;
    }

pub loop-to-preserved : goal.loop-to-preserved
loop-to-preserved g c =
    let L = g.C.Carrier.lanes c.args.carrier.now in (
      c.post_one.ensures.lanes_after ∙ spread_more L c.args.self.from c.loop-to.to (meaning c.args.m) (g.C.Carrier.lanes c.loop-to.carrier) c.loop-to.invariant.0,
      c.post_one.ensures.same_sizes.0 ∙ c.loop-to.invariant.1,
      c.post_one.ensures.same_sizes.1 ∙ c.loop-to.invariant.2,
    )

pub returns : goal.returns
returns g c =
    let end : c.loop-to.to ≡ c.args.self.servers = omega arith in
    record {
      lanes_after = c.loop-to.invariant.0 ∙ ap (λ (k : ℕ). spread (g.C.Carrier.lanes c.args.carrier.now) c.args.self.from k (meaning c.args.m)) end;
      same_sizes = (c.loop-to.invariant.1, c.loop-to.invariant.2);
    }
