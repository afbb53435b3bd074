use Rattle.std.proofs.Common.{rules}
use Rattle.std.proofs.lemmas.Fn.{always_returns_same}
use Rattle.rules.specs.Updates.{has_number}
use Rattle.server.proofs.server.Server.client_place.Goals as goal

pub returns : goal.returns
returns c = record { place = c.place_of.ensures (has_number c.args.number) (always_returns_same _ _ _ (λ a r f' k. search rules)) }
