use Rattle.std.proofs.Common.{ℕ, ap, ◌∙◌}
use Rattle.rules.specs.State.{Read, internal}
use Rattle.rules.specs.Updates.{is_open}
use Rattle.steps.proofs.encoding.is_asking.Goals as goal

pub returns : goal.returns
returns c = c.is_open.ensures.decided ∙ ap is_open c.at.ensures.found ∙ ap (λ (rs : ℕ → Read). is_open (rs (internal c.args.x.number))) c.reads.ensures.told
