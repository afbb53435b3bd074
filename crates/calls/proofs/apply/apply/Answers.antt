use Rattle.std.proofs.Common.{ℕ, ◌<◌, length, None, vec_items, refl, ap, ◌∙◌, ap₂, arith}
use Rattle.rules.specs.State as rules
use Rattle.teller.specs.Tellers.{teller}
use Rattle.server.specs.Steps.{chosen}
use Rattle.steps.specs.Local.{local}
use Rattle.group.specs.States.{state, layout}
use Rattle.group.proofs.Places.{at_server, put_is}
use Rattle.calls.specs.Refusing.{server_why}
use Rattle.calls.specs.Told.{apply_told}
use Rattle.calls.proofs.Applying.{apply_by, apply_joined}
use Rattle.steps.proofs.Refused.{broke}
use Rattle.calls.proofs.Taking.{nothing, took_refused, took_joined}
use Rattle.calls.proofs.apply.apply.Goals as goal

pub returns-in_err-reach : goal.returns-in_err-reach
returns-in_err-reach g c =
    let q = c.args.group.now in
    let m = c.args.carrier.now in
    let l = layout g.F.Field.arithmetic q (g.C.Carrier.p m) in
    let e = c.in_err-reach.field-0.0 in
    record {
      step = took_refused nothing (λ _. tt) (server_why l c.args.server) _ e _ (apply_joined l (state q (g.C.Carrier.lanes m)) c.args.server nothing) c.in_err-reach.ensures.answer
          (ap apply_told (broke c.from_residual.result e c.from_residual.ensures.1));
      same_code = refl;
    }

pub index_mut-requires : goal.index_mut-requires
index_mut-requires g c = omega (arith, c.in_ok-reach.ensures.within, c.args.group.now.server_each)

pub returns : goal.returns
returns g c =
    let q = c.args.group.now in
    let m = c.args.carrier.now in
    let l = layout g.F.Field.arithmetic q (g.C.Carrier.p m) in
    let s = c.args.server in
    let L = g.C.Carrier.lanes m in
    let items = vec_items q.servers in
    let cells = q.code.cells in
    let lt : s < length items = omega (arith, c.in_ok-reach.ensures.within, q.server_each, q.servers.ok.0) in
    let p = teller c.index_mut.result.now in
    let new = c.apply.new.self in
    let here = at_server cells items s lt c.index_mut.result.now c.index_mut.ensures.value in
    record {
      step = took_joined nothing (λ _. tt) (server_why l s) s q.code.servers (local (apply_told c.apply.result) (teller new) None) _ _ _ (apply_joined l (state q L) s nothing)
          c.in_ok-reach.ensures.answer.0
          (ap₂ (λ (r : _) (t : rules.Server). local (apply_told r) t None) c.apply.ensures.answer c.apply.ensures.after
          ∙ ap₂ (λ (n : ℕ) (t : rules.Server). apply_by t (chosen n t)) c.servers-servers.ensures.counted here)
          refl (put_is cells items s lt new L L);
      same_code = refl;
    }
