use Rattle.std.proofs.Common.{◌≡◌, ℕ, ◌<◌, Bool, leb, length, None, vec_items, sym, refl, ap, ◌∙◌, subst, arith}
use Rattle.std.specs.Option.{option_map}
use Rattle.message.specs.Meanings.{Meaning, meaning}
use Rattle.rules.specs.Lanes.{Lanes, free}
use Rattle.rules.specs.Turns.{Refused, Tagged}
use Rattle.rules.specs.Writing.{put, room}
use Rattle.teller.specs.Tellers.{teller}
use Rattle.steps.specs.Local.{Local, local}
use Rattle.group.specs.States.{state, layout}
use Rattle.group.proofs.Places.{at_server, put_is}
use Rattle.calls.specs.News.{HasRoom, spread_news}
use Rattle.calls.specs.Told.{write_told}
use Rattle.calls.specs.Writing.{write_local}
use Rattle.calls.proofs.Joining.{same_five}
use Rattle.steps.proofs.Refused.{broke}
use Rattle.calls.proofs.Taking.{nothing, took_refused, took_joined}
use Rattle.calls.proofs.Writing.{write_why, write_joined, no_aim, by_value, write_news}
use Rattle.calls.proofs.write.write.Goals as goal

pub returns-in_err-aim : goal.returns-in_err-aim
returns-in_err-aim g c =
    let q = c.args.group.now in
    let m = c.args.carrier.now in
    let l = layout g.F.Field.arithmetic q (g.C.Carrier.p m) in
    let s = c.args.server in
    let x = c.args.object in
    let v = c.args.value.now in
    let e = c.in_err-aim.field-0.0 in
    record {
      step = took_refused nothing (λ _. tt) (write_why l s x v) _ e _ (write_joined l (state q (g.C.Carrier.lanes m)) s x v nothing)
          (no_aim l (state q (g.C.Carrier.lanes m)) s x v (leb q.code.servers (g.C.Carrier.n m)) e c.in_err-aim.ensures.answer) (ap write_told (broke c.from_residual.result e c.from_residual.ensures.1));
      same_code = refl;
      same_servers = refl;
      same_places = refl;
    }

pub returns-in_err-value : goal.returns-in_err-value
returns-in_err-value g c =
    let q = c.args.group.now in
    let m = c.args.carrier.now in
    let l = layout g.F.Field.arithmetic q (g.C.Carrier.p m) in
    let s = c.args.server in
    let x = c.args.object in
    let v = c.args.value.now in
    let e = c.in_err-value.field-0.0 in
    record {
      step = took_refused nothing (λ _. tt) (write_why l s x v) _ e _ (write_joined l (state q (g.C.Carrier.lanes m)) s x v nothing)
          (by_value l (state q (g.C.Carrier.lanes m)) s x v (leb q.code.servers (g.C.Carrier.n m)) c.in_ok-aim.ensures.answer.0 ∙ c.in_err-value.ensures (g.C.Carrier.p m))
          (ap write_told (broke c.from_residual-in_err-value.result e c.from_residual-in_err-value.ensures.1));
      same_code = refl;
      same_servers = refl;
      same_places = refl;
    }

pub index_mut-requires : goal.index_mut-requires
index_mut-requires g c = omega (arith, c.in_ok-aim.ensures.within, c.args.group.now.server_each)

pub returns-in_err-written : goal.returns-in_err-written
returns-in_err-written g c =
    let q = c.args.group.now in
    let m = c.args.carrier.now in
    let l = layout g.F.Field.arithmetic q (g.C.Carrier.p m) in
    let s = c.args.server in
    let x = c.args.object in
    let v = c.args.value.now in
    let L = g.C.Carrier.lanes m in
    let S = state q L in
    let places = g.C.Carrier.p m in
    let items = vec_items q.servers in
    let cells = q.code.cells in
    let lt : s < length items = omega (arith, c.in_ok-aim.ensures.within, q.server_each, q.servers.ok.0) in
    let new = c.own_write.new.p in
    let aimed = c.in_ok-aim.ensures.answer in
    let valued = c.in_ok-value.ensures places in
    let e = c.in_err-written.field-0.0 in
    let room_is : c.all_free-lanes_free.result ≡ room l S s = c.all_free-lanes_free.ensures ∙ ap (free places L s) c.servers.ensures.counted in
    record {
      step = took_joined nothing (λ _. tt) (write_why l s x v) s q.code.servers (local (Refused e) (teller new) None) _ _ _ (write_joined l S s x v nothing)
          (by_value l S s x v (leb q.code.servers (g.C.Carrier.n m)) aimed.0 ∙ valued.0)
          (c.in_err-written.ensures.step places
          ∙ same_five (write_local l) (at_server cells items s lt c.index_mut.result.now c.index_mut.ensures.value) aimed.1.0 aimed.1.1 valued.1 room_is)
          (ap write_told (broke c.from_residual-in_err-written.result e c.from_residual-in_err-written.ensures.1)) (put_is cells items s lt new L L);
      same_code = refl;
      same_servers = refl;
      same_places = refl;
    }

pub invariant_of-sender : goal.invariant_of-sender
invariant_of-sender g c = record { within = omega (arith, c.in_ok-aim.ensures.within, c.servers.ensures.counted) }

pub tell_all-requires : goal.tell_all-requires
tell_all-requires g c =
    let q = c.args.group.now in
    let m = c.args.carrier.now in
    let l = layout g.F.Field.arithmetic q (g.C.Carrier.p m) in
    let s = c.args.server in
    let L = g.C.Carrier.lanes m in
    let places = g.C.Carrier.p m in
    let n_is = c.servers.ensures.counted in
    let is_free = c.all_free-lanes_free.ensures in
    let wrote = c.in_ok-written.ensures in
    let lanes = c.all_free-lanes_free.result in
    record {
      carried = omega (arith, c.in_ok-aim.ensures.carried, n_is);
      room =
          subst (λ (b : Bool). HasRoom (option_map meaning c.in_ok-written.written.news) b) is_free
          (subst (λ (t : Local). HasRoom t.news lanes) (sym (wrote.step places))
          (write_news l (teller c.index_mut.result.now) c.in_ok-aim.aim.server.number c.in_ok-aim.aim.object.number _ lanes));
    }

pub returns : goal.returns
returns g c =
    let q = c.args.group.now in
    let m = c.args.carrier.now in
    let l = layout g.F.Field.arithmetic q (g.C.Carrier.p m) in
    let s = c.args.server in
    let x = c.args.object in
    let v = c.args.value.now in
    let L = g.C.Carrier.lanes m in
    let M = g.C.Carrier.lanes c.tell_all.new.carrier in
    let S = state q L in
    let places = g.C.Carrier.p m in
    let items = vec_items q.servers in
    let cells = q.code.cells in
    let lt : s < length items = omega (arith, c.in_ok-aim.ensures.within, q.server_each, q.servers.ok.0) in
    let new = c.own_write.new.p in
    let n_is = c.servers.ensures.counted in
    let aimed = c.in_ok-aim.ensures.answer in
    let valued = c.in_ok-value.ensures places in
    let wrote = c.in_ok-written.ensures.step places in
    let news = option_map meaning c.in_ok-written.written.news in
    let room_is : c.all_free-lanes_free.result ≡ room l S s = c.all_free-lanes_free.ensures ∙ ap (free places L s) n_is in
    record {
      step = took_joined nothing (λ _. tt) (write_why l s x v) s q.code.servers (local (Tagged c.in_ok-written.written.answer) (teller new) news) _ _ _ (write_joined l S s x v nothing)
          (by_value l S s x v (leb q.code.servers (g.C.Carrier.n m)) aimed.0 ∙ valued.0)
          (wrote ∙ same_five (write_local l) (at_server cells items s lt c.index_mut.result.now c.index_mut.ensures.value) aimed.1.0 aimed.1.1 valued.1 room_is)
          refl (put_is cells items s lt new L M ∙ ap (λ (N : Lanes Meaning). put S s (teller new) N) (c.tell_all.ensures.lanes_after ∙ ap (λ (n : ℕ). spread_news L s n news) n_is));
      same_code = refl;
      same_servers = c.tell_all.ensures.same_sizes.0;
      same_places = c.tell_all.ensures.same_sizes.1;
    }
