use Rattle.std.proofs.Common.{◌≡◌, None, vec_items, refl, subst, arith}
use Rattle.carrier.specs.Laid.{layout_refusal}
use Rattle.terms.specs.Limits.{max_lanes}
use Rattle.carrier.specs.Calls.{zero_at, empty_lanes, within_bounds}
use Rattle.carrier.proofs.blocks.Blocks.new.Goals as goal

pub invariant_of-result : goal.invariant_of-result
invariant_of-result g c =
    let w = within_bounds c.args.n c.args.p c.len.result c.in-Ok.ensures.answer.0 in
    record {
      enough_servers = w.enough_servers;
      few_servers = w.few_servers;
      some_places = w.some_places;
      few_places = w.few_places;
      room = omega (arith, w.room, c.len.ensures);
      counted = refl;
      within = λ k. omega (arith, zero_at max_lanes k);
    }

pub returns-in-Ok : goal.returns-in-Ok
returns-in-Ok g c = record {
  laid = (
    subst (λ k. layout_refusal c.args.n c.args.p k ≡ None) c.len.ensures c.in-Ok.ensures.answer.0,
    refl,
    refl,
    λ from to. empty_lanes g.P.Place.held c.args.n c.args.p max_lanes (vec_items c.args.memory) from to,
    refl,
  );
}
