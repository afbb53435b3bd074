use Rattle.std.proofs.Common.{◌≤◌, length, refl, ap, arith}
use Rattle.std.specs.List.{flat_map}
use Rattle.terms.specs.Items.{items}
use Rattle.terms.specs.Limits.{max_servers}
use Rattle.wire.specs.Words.{four}
use Rattle.wire.proofs.Puts.{few_items}
use Rattle.wire.proofs.Whole.{joined_long}
use Rattle.wire.proofs.write.write_notice.Goals as goal

pub put_list-requires : goal.put_list-requires
put_list-requires c =
    let l = items c.args.clock.now in
    let few : length l ≤ max_servers = few_items c.args.clock.now in
    let shown = c.as_slice.ensures.shown in
    (omega (arith, ap length c.of-out.ensures.begun, c.put_number.ensures.len, c.put_opaque.ensures.len, c.put_number-2.ensures.len, ap (λ k. length (flat_map four k)) shown, joined_long four 4 (λ x. refl) l max_servers few), omega (arith, ap length shown))
