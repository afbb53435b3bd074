-- Which codes are accepted at layout, and the refusal of any other. Assumes nothing.
use Rattle.std.specs.Prelude.{◌≡◌, ℕ, ◌+◌, ◌*◌, ◌<◌, ◌≤◌, Bool, true, cond, ◌&&◌, ◌⊎◌, List, length, Some, None, Option, ◌==◌, nat_le, nat_lt, slice_index}
use Rattle.terms.specs.declared.refusal.Refusal.{Refusal}
use Rattle.terms.specs.declared.refusal.Refusal.TheVariants.{ServersOutOfBounds, ObjectsOutOfBounds, CellsOutOfBounds, NoTable, ObjectNotRecovered}
use Rattle.terms.specs.Limits.{min_servers, max_servers, max_objects, max_cells}
use Rattle.std.specs.List.{list_all}
use Rattle.field.specs.Arithmetic.{Arithmetic}
use Rattle.code.specs.Codings.{Coding}
use Rattle.code.specs.Recovery.{Recovers}

-- the code of a table that has the servers' rows of coefficients one after the other
abbrev pub coding : Arithmetic → ℕ → ℕ → ℕ → List ℕ → Coding
coding a n k w table = record {
  arithmetic = a;
  servers = n;
  objects = k;
  cells = w;
  coefficient = λ s x. slice_index table (s * k + x);
}

abbrev pub everyone : ℕ → Bool
everyone s = true

-- all servers together recover every object
abbrev pub AllRecovered : Coding → Type 0
AllRecovered g = (x : ℕ) → x < g.objects → Recovers g everyone x

-- A code that layout accepts.
pub record Accepted (g : Coding) : Type 0 where
  pub least_servers : min_servers ≤ g.servers
  pub most_servers : g.servers ≤ max_servers
  pub least_objects : 1 ≤ g.objects
  pub most_objects : g.objects ≤ max_objects
  pub least_cells : 1 ≤ g.cells
  pub most_cells : g.cells ≤ max_cells
  pub elements : (s x : ℕ) → s < g.servers → x < g.objects → g.coefficient s x < g.arithmetic.size
  pub all_recovered : AllRecovered g

abbrev pub within : ℕ → ℕ → ℕ → Bool
within least most n = nat_le least n && nat_le n most

-- each number of the list is an element
abbrev pub all_elements : ℕ → List ℕ → Bool
all_elements q xs = list_all (λ x. nat_lt x q) xs

-- n rows of k elements
abbrev pub is_table : ℕ → ℕ → ℕ → List ℕ → Bool
is_table q n k table = length table == n * k && all_elements q table

-- the first bound that the sizes or the table break
abbrev pub size_refusal : ℕ → ℕ → ℕ → ℕ → List ℕ → Option Refusal
size_refusal q n k w table =
    cond (within min_servers max_servers n)
    (cond (within 1 max_objects k)
    (cond (within 1 max_cells w)
    (cond (is_table q n k table)
    None
    (Some NoTable))
    (Some CellsOutOfBounds))
    (Some ObjectsOutOfBounds))
    (Some ServersOutOfBounds)

-- The code is refused by e: by the first bound that is broken, or else since some object is not recovered by all servers together.
abbrev pub Refused : ℕ → ℕ → ℕ → ℕ → List ℕ → Coding → Refusal → Type 0
Refused q n k w table g e =
    (size_refusal q n k w table ≡ Some e)
    ⊎ ((size_refusal q n k w table ≡ None) × (e ≡ ObjectNotRecovered) × (AllRecovered g → ⊥))
