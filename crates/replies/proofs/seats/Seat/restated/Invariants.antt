use Rattle.std.proofs.Common.{◌≡◌, ℕ}
use Rattle.terms.specs.Items.{items}
use Rattle.code.specs.Meaning.{meaning}
use Rattle.rules.specs.Delivering.{restated}
use Rattle.server.specs.Servers.{server}
use Rattle.server.specs.Steps.{laid}
use Rattle.replies.proofs.seats.Seat.restated.Given as goal

abbrev pub invariant-loop-y : goal.invariant-loop-y
invariant-loop-y g l = (places : ℕ) → items l.symbol.cells ≡ restated (laid (meaning g.F.Field.arithmetic l.self.code.now) places) l.self.server.number (server l.p.server) (items l.asked) l.y
