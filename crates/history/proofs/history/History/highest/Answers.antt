use Rattle.std.proofs.Common.{true, rules}
use Rattle.std.proofs.lemmas.Fn.{always_returns_same}
use Rattle.history.proofs.history.History.highest.Goals as goal

pub returns : goal.returns
returns c = record { highest = c.highest_where.ensures.highest (λ t. true) (always_returns_same _ _ _ (λ a r f' k. search rules)) }
