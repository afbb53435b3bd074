-- Elements, one after the other. Assumes nothing.
use Rattle.std.proofs.Common.{◌≡◌, ℕ, ltb, List, length, get_or, sym, refl, ap, ◌∙◌}
use Rattle.std.proofs.lemmas.List.Folds.{list_all-map}
use Rattle.std.specs.List.{range_with_len}
use Rattle.terms.specs.Lists.{every}
use Rattle.terms.proofs.Every.{every_listed}
use Rattle.terms.proofs.Listed.{listed_by}
use Rattle.code.specs.Layout.{all_elements}

-- each cell of n is an element where each number of a list of n is
pub each_element : (q n : ℕ) (v : List ℕ) → length v ≡ n → all_elements q v ≡ every n (λ c. ltb (get_or v c 0) q)
each_element q n v long =
    let cell : ℕ → ℕ = λ c. get_or v c 0 in
    ap (all_elements q) (listed_by v n cell 0 long (λ i h. refl)) ∙ list_all-map (λ x. ltb x q) cell (range_with_len 0 n) ∙ sym (every_listed n (λ c. ltb (cell c) q))
