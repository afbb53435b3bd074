use Rattle.std.proofs.Common.{List, vec_items, sym, refl, subst, arith}
use Rattle.teller.specs.declared.teller.Teller.{Teller}
use Rattle.group.specs.States.{AllNew}
use Rattle.group.proofs.Places.{new_more}
use Rattle.group.proofs.group.layout.new_servers.Goals as goal

pub loop-init : goal.loop-init
loop-init g c =
    let P : List Teller → Type 0 = AllNew c.args.code.now.cells in
    (c.new-servers.ensures.len, subst P (sym c.new-servers.ensures.items) (λ i. refl))

pub loop-preserved : goal.loop-preserved
loop-preserved g c =
    let cells = c.args.code.now.cells in
    let P : List Teller → Type 0 = AllNew cells in (
      omega (arith, c.in_ok-push.ensures.len),
      subst P (sym c.in_ok-push.ensures.items) (new_more cells (vec_items c.loop.servers) c.in_ok-new.field-0 c.in_ok-new.ensures.new c.loop.invariant.1),
    )

pub returns : goal.returns
returns g c = (omega (arith, c.loop.invariant.0, c.servers-end.ensures.counted), c.loop.invariant.1)
