-- Small words of the ranked model: those of the rules, and searches and lowest by number.
use Rattle.std.proofs.Common.{ℕ, zero, suc, min, Bool, cond, ltb}
use Rattle.rules.specs.Lanes as lanes
use Rattle.rules.proofs.RankedMessages.{Message}
pub use Rattle.terms.specs.Lists.{listed}
unfoldable pub use Rattle.rules.specs.Words.{upd, some}
unfoldable pub use Rattle.terms.specs.Lists.{every}
unfoldable pub use Rattle.rules.specs.Lanes.{posted, spread, taken}
pub use Rattle.rules.specs.Lanes.{free}

-- the first number below n that passes, or n
unfoldable pub seek : ℕ → (ℕ → Bool) → ℕ
seek zero f = 0
seek (suc n) f = cond (ltb (seek n f) n) (seek n f) (cond (f n) n (suc n))

-- the lowest of f 0, .., f (n - 1)
unfoldable pub lowest : ℕ → (ℕ → ℕ) → ℕ
lowest zero f = f 0
lowest (suc n) f = min (f n) (lowest n f)

abbrev pub Lanes : Type 0
Lanes = lanes.Lanes Message
