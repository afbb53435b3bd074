-- Numbers as four bytes, and lengths in fours. Assumes nothing.
use Rattle.std.specs.Prelude.{ℕ, ◌+◌, ◌*◌, ◌/◌, ◌%◌, ◌<◌, List, [], ◌∷◌}

-- the number that four bytes stand for, the highest first
abbrev pub big : ℕ → ℕ → ℕ → ℕ → ℕ
big a b c d = a * 16777216 + b * 65536 + c * 256 + d

-- a number as four bytes, the highest first
abbrev pub four : ℕ → List ℕ
four n = (n / 16777216 % 256) ∷ (n / 65536 % 256) ∷ (n / 256 % 256) ∷ (n % 256) ∷ []

-- n bytes and their padding: the next multiple of 4
abbrev pub padded : ℕ → ℕ
padded n = (n + 3) / 4 * 4

-- the highest bit of a record's mark: no other fragment follows
abbrev pub last_fragment : ℕ
last_fragment = 2147483648

-- each is a byte
abbrev pub Bytes : List ℕ → Type 0
Bytes [] = Unit {0}
Bytes (x ∷ xs) = (x < 256) × Bytes xs
