use Rattle.std.proofs.Common.{◌∙◌, Err}
use Rattle.std.proofs.lemmas.Result.{err_from_is_err_and}
use Rattle.message.specs.Meanings.{meaning}
use Rattle.carrier.proofs.Parcels.{put_after}
use Rattle.carrier.proofs.parcel.bytes.ParcelPlace.put.Goals as goal

pub invariant_of-self : goal.invariant_of-self
invariant_of-self c =
    let s = c.args.self.now in
    let after = put_after (meaning c.args.m.now) s.bytes c.write_message.new.place s.whole c.write_message.result s.record_inside c.write_message.ensures.written_or_unchanged in
    record { whole = c.write_message.auto.place ∙ s.whole; record_inside = after.inside }

pub returns-in_err-write_message-clause-answer : goal.returns-in_err-write_message-clause-answer
returns-in_err-write_message-clause-answer c =
    let s = c.args.self.now in
    let after = put_after (meaning c.args.m.now) s.bytes c.write_message.new.place s.whole (Err _) s.record_inside c.in_err-write_message.ensures.written_or_unchanged in
    let p = err_from_is_err_and c.from_residual.result c.from_residual.ensures.1 in
    rw (p.1, p.2) after.told

pub returns-in_err-write_message-clause-after : goal.returns-in_err-write_message-clause-after
returns-in_err-write_message-clause-after c =
    let s = c.args.self.now in
    (put_after (meaning c.args.m.now) s.bytes c.write_message.new.place s.whole c.write_message.result s.record_inside c.write_message.ensures.written_or_unchanged).holds

pub returns-clause-after : goal.returns-clause-after
returns-clause-after c =
    let s = c.args.self.now in
    (put_after (meaning c.args.m.now) s.bytes c.write_message.new.place s.whole c.write_message.result s.record_inside c.write_message.ensures.written_or_unchanged).holds
