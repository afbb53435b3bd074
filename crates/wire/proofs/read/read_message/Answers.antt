use Rattle.std.proofs.Common.{arith}
use Rattle.wire.proofs.Whole.{tells, bytes_from}
use Rattle.wire.proofs.read.read_message.Goals as goal

pub returns-clause-undoes_writing : goal.returns-clause-undoes_writing
returns-clause-undoes_writing c = tells c.args.bytes.now c.read_record.result (bytes_from c.args.bytes.now (λ i. omega (arith, c.type_inv.bytes i))) c.read_record.ensures.answer
