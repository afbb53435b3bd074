-- What writing leaves. Assumes nothing.
use Rattle.std.specs.Prelude.{◌≡◌, ℕ, cond, List, ◌++◌, length, drop, Some, None, Ok, Err, Option, Result, nat_lt}
use Rattle.terms.specs.declared.refusal.Refusal.{Refusal}
use Rattle.terms.specs.declared.refusal.Refusal.TheVariants as refusal
use Rattle.message.specs.Meanings.{Meaning}
use Rattle.message.specs.Ranges.{in_range}
use Rattle.wire.specs.Writing.{encode}

-- why writing bytes into a place of so many is refused, if it is
abbrev pub room_refusal : List ℕ → ℕ → Option Refusal
room_refusal bytes size = cond (nat_lt size (length bytes)) (Some refusal.PlaceTooShort) None

abbrev pub write_refusal : Meaning → ℕ → Option Refusal
write_refusal m size = cond (in_range m) (room_refusal (encode m) size) (Some refusal.OutOfRange)

-- bytes were to be put at the start of a place, which was xs and is ys; it is refused so, or not
abbrev pub Placed : Option Refusal → List ℕ → List ℕ → List ℕ → Result ℕ Refusal → Type 0
Placed refused bytes xs ys (Ok n) = (refused ≡ None) × (n ≡ length bytes) × (ys ≡ bytes ++ drop n xs)
Placed refused bytes xs ys (Err e) = (refused ≡ Some e) × (ys ≡ xs)
