-- That reading undoes writing, and nothing else. Assumes nothing.
use Rattle.std.specs.Prelude.{◌≡◌, ℕ, ◌≤◌, true, List, length, take, Ok, Err, Result}
use Rattle.message.specs.declared.kinds.Message.{Message}
use Rattle.message.specs.Meanings.{Meaning, meaning}
use Rattle.message.specs.Ranges.{in_range}
use Rattle.wire.specs.declared.faults.MessageFault.{MessageFault}
use Rattle.wire.specs.Writing.{encode}

-- the first n of the bytes are m, written, and m is within its ranges
pub record Written (bytes : List ℕ) (m : Meaning) (n : ℕ) : Type 0 where
  pub range : in_range m ≡ true
  pub within : n ≤ length bytes
  pub written : take n bytes ≡ encode m

-- an answer of reading: the message that the bytes begin with, the only one, or a fault where they begin with none
abbrev pub Tells : List ℕ → Result (Message × ℕ) MessageFault → Type 0
Tells bytes (Ok p) = Written bytes (meaning p.0) p.1 × ((m : Meaning) (n : ℕ) → Written bytes m n → (m ≡ meaning p.0) × (n ≡ p.1))
Tells bytes (Err f) = (m : Meaning) (n : ℕ) → Written bytes m n → ⊥
