use Rattle.std.proofs.Common.{◌≤◌, length, refl, ap, arith}
use Rattle.std.specs.List.{flat_map}
use Rattle.terms.specs.Items.{items}
use Rattle.terms.specs.Limits.{max_objects}
use Rattle.wire.specs.Writing.{tag_bytes}
use Rattle.wire.proofs.Puts.{few_items}
use Rattle.wire.proofs.Whole.{joined_long}
use Rattle.wire.proofs.write.question.Goals as goal

pub put_list-requires : goal.put_list-requires
put_list-requires c =
    let l = items c.args.tags.now in
    let few : length l ≤ max_objects = few_items c.args.tags.now in
    let shown = c.as_slice.ensures.shown in
    (omega (arith, ap length c.of-out.ensures.begun, c.put_number.ensures.len, c.put_number-2.ensures.len, ap (λ k. length (flat_map tag_bytes k)) shown, joined_long tag_bytes 8 (λ x. refl) l max_objects few), omega (arith, ap length shown))
