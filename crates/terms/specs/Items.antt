-- What a bounded list holds. Assumes nothing.
use Rattle.std.specs.Prelude.{ℕ, List, take}
use Rattle.terms.specs.declared.bounded.Bounded.{Bounded}

module _ {T : Type 0} {MAX : ℕ} where
  abbrev pub items : Bounded T MAX → List T
  items b = take b.len b.places
