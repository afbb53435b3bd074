use Rattle.std.proofs.Common.{ℕ, ap, ◌∙◌, rules}
use Rattle.terms.specs.Items.{items}
use Rattle.terms.specs.Lists.{listed}
use Rattle.terms.proofs.Listed.{listed_by}
use Rattle.history.proofs.history.lookup.zero_cells.Goals as goal

pub returns : goal.returns
returns g c =
    let zeros = listed_by (items c.from_fn.result) c.cells.result (λ _. 0) 0 c.from_fn.ensures.counted (λ i h. search (rules, c.from_fn.ensures.made i h)) in
    record { value = zeros ∙ ap (λ (n : ℕ). listed n (λ _. 0)) c.cells.ensures.counted }
