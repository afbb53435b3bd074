use Rattle.std.proofs.Common.{ap, ◌∙◌}
use Rattle.history.specs.Entries.{entries}
use Rattle.history.proofs.Held.{found_value, place_value}
use Rattle.history.proofs.history.History.value_under.Goals as goal

pub returns : goal.returns
returns g c =
    let es = entries c.args.self.now in
    let cells = c.args.code.now.cells in
    record { value = c.value_at.ensures.value ∙ ap (found_value cells es) c.in-Some.ensures.place ∙ place_value cells es c.args.object c.args.tag }

pub returns-in_default : goal.returns-in_default
returns-in_default g c =
    let es = entries c.args.self.now in
    let cells = c.args.code.now.cells in
    record { value = c.zero_cells.ensures.value ∙ ap (found_value cells es) c.in_default.ensures.place ∙ place_value cells es c.args.object c.args.tag }
