use Rattle.std.proofs.Common.{◌≡◌, ℕ, Some}
use Rattle.terms.specs.Items.{items}
use Rattle.code.specs.Meaning.{meaning}
use Rattle.reads.specs.Readings.{asking}
use Rattle.rules.specs.Delivering.{mended}
use Rattle.server.specs.Servers.{server}
use Rattle.server.specs.Steps.{laid}
use Rattle.replies.proofs.seats.Seat.mended.Given as goal

abbrev pub invariant-loop-y : goal.invariant-loop-y
invariant-loop-y g l =
    (places : ℕ) → Some (items l.symbol) ≡ mended (laid (meaning g.F.Field.arithmetic l.self.code.now) places) (server l.p) l.self.server.number (asking l.asking) (items l.initial.symbol) (items l.stated) l.y
