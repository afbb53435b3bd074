use Rattle.std.proofs.Common.{Err, sym, ap, ◌∙◌}
use Rattle.wire.specs.declared.faults.MessageFault.TheVariants.{UnknownKind}
use Rattle.wire.specs.Reading.{bind, up, by_kind, start}
use Rattle.wire.proofs.Bodies.{no_kind}
use Rattle.wire.proofs.read.message_in.Goals as goal

pub returns-in-Err : goal.returns-in-Err
returns-in-Err c =
    let e = c.args.c.now.end in
    let xs = c.args.c.now.left.now in
    record {
      reads = (
        ap (λ r. bind (up r) (λ kind ys. by_kind kind (start e xs) e ys)) c.in_ok-number.ensures.reads.0
            ∙ no_kind c.in_ok-number.field-0 (start e xs) e c.number.new.self.left.now c.in-Err.ensures
            ∙ ap (λ o. Err (UnknownKind o)) (sym c.at-at.ensures.start),
        c.in_ok-number.ensures.reads.1,
      );
    }
