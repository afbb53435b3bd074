-- Which servers a set has. Assumes nothing.
use Rattle.std.specs.Prelude.{ℕ, Bool, false, ◌||◌, List, [], ◌∷◌, ◌==◌, slice_index_or}
use Rattle.terms.specs.declared.servers.ServerSet.{ServerSet}

abbrev pub member : ServerSet → ℕ → Bool
member set s = slice_index_or set.members s false

-- s is one of the numbers
abbrev pub among : List ℕ → ℕ → Bool
among [] s = false
among (t ∷ ts) s = s == t || among ts s
