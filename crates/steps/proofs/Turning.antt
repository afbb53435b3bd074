-- A re-encoded symbol. Assumes nothing.
use Rattle.std.proofs.Common.{ℕ, ◌≤◌, List, length, get_or, sym, subst}
use Rattle.terms.proofs.Listed.{length_listed}
use Rattle.code.specs.Codings.{Coding, re_encoded, re_encoded_cell}

-- it has as many cells as a value
pub re_encoded_some : (g : Coding) (s x : ℕ) (symbol old new : List ℕ) → 1 ≤ g.cells → 1 ≤ length (re_encoded g s x symbol old new)
re_encoded_some g s x symbol old new one =
    subst (λ (n : ℕ). 1 ≤ n) (sym (length_listed g.cells (λ c. re_encoded_cell g s x (get_or symbol c 0) (get_or old c 0) (get_or new c 0)))) one
