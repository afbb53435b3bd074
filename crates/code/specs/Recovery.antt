-- What it is to recover an object from the symbols of some servers. Assumes nothing.
use Rattle.std.specs.Prelude.{◌≡◌, ℕ, ◌<◌, Bool, true, List}
use Rattle.code.specs.Codings.{Coding, Value, Values, symbol}

-- The servers of the set recover the object x: any two lists of values with equal symbols at all these servers agree on x.
abbrev pub Recovers : Coding → (ℕ → Bool) → ℕ → Type 0
Recovers g set x =
    (v w : ℕ → List ℕ) → Values g v → Values g w
    → ((s : ℕ) → s < g.servers → set s ≡ true → symbol g s v ≡ symbol g s w)
    → v x ≡ w x

-- The value r is decoded for x from the symbols of the servers of the set: every list of values that has these symbols there has r at x.
-- Where no list has them, r is some value; which one is left open.
pub record Decoded (g : Coding) (set : ℕ → Bool) (symbols : ℕ → List ℕ) (x : ℕ) (r : List ℕ) : Type 0 where
  pub value : Value g r
  pub agrees : (v : ℕ → List ℕ) → Values g v
      → ((s : ℕ) → s < g.servers → set s ≡ true → symbols s ≡ symbol g s v)
      → r ≡ v x
