use Rattle.std.proofs.Common.{ℕ, ◌<◌, length, None, vec_items, refl, ap, ◌∙◌, ap₂, arith}
use Rattle.rules.specs.State as rules
use Rattle.rules.specs.Turns.{Removed}
use Rattle.teller.specs.Tellers.{teller}
use Rattle.steps.specs.Local.{local}
use Rattle.group.specs.States.{state, layout}
use Rattle.group.proofs.Places.{at_server, put_is}
use Rattle.calls.specs.Refusing.{object_why}
use Rattle.calls.specs.Told.{sweep_told}
use Rattle.calls.proofs.Sweeping.{sweep_local, sweep_joined}
use Rattle.steps.proofs.Refused.{broke}
use Rattle.calls.proofs.Taking.{nothing, took_refused, took_joined}
use Rattle.calls.proofs.sweep.sweep.Goals as goal

pub returns-in_err-aim : goal.returns-in_err-aim
returns-in_err-aim g c =
    let q = c.args.group.now in
    let m = c.args.carrier.now in
    let l = layout g.F.Field.arithmetic q (g.C.Carrier.p m) in
    let e = c.in_err-aim.field-0.0 in
    record {
      step = took_refused nothing (λ _. tt) (object_why l c.args.server c.args.object) _ e _ (sweep_joined l (state q (g.C.Carrier.lanes m)) c.args.server c.args.object nothing) c.in_err-aim.ensures.answer
          (ap sweep_told (broke c.from_residual.result e c.from_residual.ensures.1));
      same_code = refl;
    }

pub index_mut-requires : goal.index_mut-requires
index_mut-requires g c = omega (arith, c.in_ok-aim.ensures.within, c.args.group.now.server_each)

pub returns : goal.returns
returns g c =
    let q = c.args.group.now in
    let m = c.args.carrier.now in
    let l = layout g.F.Field.arithmetic q (g.C.Carrier.p m) in
    let s = c.args.server in
    let x = c.args.object in
    let L = g.C.Carrier.lanes m in
    let items = vec_items q.servers in
    let cells = q.code.cells in
    let lt : s < length items = omega (arith, c.in_ok-aim.ensures.within, q.server_each, q.servers.ok.0) in
    let new = c.sweep.new.self in
    let here = at_server cells items s lt c.index_mut.result.now c.index_mut.ensures.value in
    let places = g.C.Carrier.p m in
    record {
      step = took_joined nothing (λ _. tt) (object_why l s x) s q.code.servers (local (Removed c.sweep.result) (teller new) None) _ _ _ (sweep_joined l (state q L) s x nothing) c.in_ok-aim.ensures.answer.0
          (ap₂ (λ (k : ℕ) (t : rules.Server). local (Removed k) t None) (c.sweep.ensures.removed places) (c.sweep.ensures.after places)
          ∙ ap₂ (λ (y : ℕ) (t : rules.Server). sweep_local l t y) c.in_ok-aim.ensures.answer.1.1 here)
          refl (put_is cells items s lt new L L);
      same_code = refl;
    }
