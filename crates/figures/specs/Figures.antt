-- The worked figures. Assumes nothing.
use Rattle.std.specs.Prelude.{◌≡◌, ℕ, List, [], ◌∷◌}
use Rattle.terms.specs.Sets.{among}
use Rattle.field.specs.Modular.{modulo, inverse_modulo}
use Rattle.field.specs.Binary.{gf256}
use Rattle.code.specs.Codings.{Coding, symbol, value_at}
use Rattle.code.specs.Layout.{coding}
use Rattle.code.specs.Recovery.{Recovers}
use Rattle.wire.specs.Examples.{ByteFigures}
use Rattle.rules.specs.Figures.{SmallRun}

-- five servers and three objects of one cell: each object by itself, their sum, and the sum with the middle one twice
abbrev pub five_by_three : Coding
five_by_three = coding (modulo 251) 5 3 1 (1 ∷ 0 ∷ 0 ∷ 0 ∷ 1 ∷ 0 ∷ 0 ∷ 0 ∷ 1 ∷ 1 ∷ 1 ∷ 1 ∷ 1 ∷ 2 ∷ 1 ∷ [])

-- the values 100, 200 and 250
abbrev pub three_values : ℕ → List ℕ
three_values = value_at ((100 ∷ []) ∷ (200 ∷ []) ∷ (250 ∷ []) ∷ [])

pub record Figures : Type 0 where
  pub inverse_of_2 : inverse_modulo 251 2 ≡ 126
  pub product_of_2_and_128 : gf256.times 2 128 ≡ 29
  pub symbol_at_3 : symbol five_by_three 3 three_values ≡ 48 ∷ []
  pub symbol_at_4 : symbol five_by_three 4 three_values ≡ 248 ∷ []
  pub servers_3_and_4_recover_1 : Recovers five_by_three (among (3 ∷ 4 ∷ [])) 1
  pub servers_3_and_4_do_not_recover_0 : Recovers five_by_three (among (3 ∷ 4 ∷ [])) 0 → ⊥
  -- two messages, byte for byte, written and read back
  pub messages_as_bytes : ByteFigures
  -- a write, a read, a delivery, an apply and an encode in a group of three
  pub a_small_run : SmallRun
