use Rattle.std.proofs.Common.{rules}
use Rattle.std.proofs.lemmas.Fn.{always_returns_same}
use Rattle.rules.specs.Updates.{is_open_as}
use Rattle.server.proofs.server.Server.open_place.Goals as goal

pub returns : goal.returns
returns c = record { place = c.place_of.ensures (is_open_as c.args.number) (always_returns_same _ _ _ (λ a r f' k. search rules)) }
