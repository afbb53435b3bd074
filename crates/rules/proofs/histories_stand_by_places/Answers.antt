use Rattle.rules.proofs.Placing.{places_right, swept_at_once}
use Rattle.rules.proofs.histories_stand_by_places.Goals as goal

pub returns : goal.returns
returns c = record { places = places_right; swept_at_once = swept_at_once }
