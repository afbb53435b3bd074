use Rattle.std.proofs.Common.{◌≡◌, ℕ, take, fold}
use Rattle.message.specs.Tags.{zero_tag}
use Rattle.code.specs.Meaning.{meaning}
use Rattle.rules.specs.Encoding.{within}
use Rattle.rules.specs.Histories.{raised}
use Rattle.history.specs.Entries.{entry}
use Rattle.server.specs.Servers.{server}
use Rattle.server.specs.Steps.{laid}
use Rattle.steps.proofs.shares.Share.highest_within.Given as goal

abbrev pub invariant-loop-e : goal.invariant-loop-e
invariant-loop-e g l = (places : ℕ) → l.best ≡ fold (λ t e. raised (within (laid (meaning g.F.Field.arithmetic l.self.code.now) places) (server l.p) l.self.object.number) l.self.object.number t (entry e)) zero_tag (take l.e-index l.e-items)
