-- What a call answers that may be refused. Assumes nothing.
use Rattle.std.specs.Prelude.{◌≡◌, Bool, cond, Some, None, Ok, Err, Option, Result}
use Rattle.terms.specs.declared.refusal.Refusal.{Refusal}

-- refused by e unless the test passes; then as the rest says
abbrev pub unless : Bool → Refusal → Option Refusal → Option Refusal
unless test e rest = cond test rest (Some e)

-- The call is refused exactly where there is a refusal, and by it; otherwise P holds of what it answers.
abbrev pub Answered : {A : Type 0} → Option Refusal → (A → Type 0) → Result A Refusal → Type 0
Answered refusal P (Ok v) = (refusal ≡ None) × P v
Answered refusal P (Err e) = refusal ≡ Some e
