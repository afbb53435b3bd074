use Rattle.std.proofs.Common.{refl}
use Rattle.terms.specs.Items.{items}
use Rattle.wire.specs.Bodies.{body_so_far}
use Rattle.wire.proofs.Puts.{opaque_put, few_items}
use Rattle.wire.proofs.body.Body.put_opaque.Goals as goal

pub returns-clause-added : goal.returns-clause-added
returns-clause-added c = opaque_put (body_so_far c.args.self.now) (body_so_far c.put_number.new.self) (body_so_far c.put_bytes.new.self) _ (items c.args.cells.now) _ c.len-n.result _ c.len-n.ensures.counted (few_items c.args.cells.now) c.as_slice.ensures.shown refl c.put_number.ensures.added c.put_bytes.ensures.added c.put_bytes-2.ensures.added
