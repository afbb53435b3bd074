-- Lanes as blocks of one memory. Assumes nothing.
use Rattle.std.specs.Prelude.{◌≡◌, ℕ, ◌+◌, ◌-◌, ◌*◌, ◌/◌, ◌%◌, ◌<◌, ◌≤◌, true, cond, ◌≢◌, List, take, drop, nat_lt}
use Rattle.std.proofs.Common.{sym, ap, ◌∙◌, ⊎_elim, mul-le-mul_right, add-mul, one-mul, arith}
use Rattle.std.proofs.lemmas.Nat.{div-mul-add, mod-mul-add}
use Rattle.std.proofs.lemmas.List.{take-take, drop-drop, drop-take}
use Rattle.std.proofs.lemmas.Bool.{cases_order}
use Rattle.std.proofs.lemmas.Bool.Decides.{nat_tests}
use Rattle.carrier.specs.Blocks.{lane_number, is_lane}

-- xs and ys are the same but from a to e
pub record Outside {A : Type 0} (a e : ℕ) (xs ys : List A) : Type 0 where
  pub below : take a ys ≡ take a xs
  pub above : drop e ys ≡ drop e xs

module _ {A : Type 0} (p : ℕ) (mem mem' : List A) (k j n : ℕ) (n≤ : n ≤ p) (out : Outside (k * p) (k * p + p) mem mem') where
  lower : j < k → take n (drop (j * p) mem') ≡ take n (drop (j * p) mem)
  lower h =
      let far : j * p + p ≤ k * p = omega (arith, mul-le-mul_right p h, add-mul j 1 p, one-mul p) in
      let cut : (l : List A) → take n (drop (j * p) l) ≡ drop (j * p) (take (j * p + n) (take (k * p) l)) = λ l. sym (drop-take (j * p) n l) ∙ ap (drop (j * p)) (sym (take-take (j * p + n) (k * p) l (omega arith))) in
      cut mem' ∙ ap (λ l. drop (j * p) (take (j * p + n) l)) out.below ∙ sym (cut mem)

  higher : k < j → take n (drop (j * p) mem') ≡ take n (drop (j * p) mem)
  higher h =
      let far : k * p + p ≤ j * p = omega (arith, mul-le-mul_right p h, add-mul k 1 p, one-mul p) in
      let back : k * p + p + (j * p - (k * p + p)) ≡ j * p = omega arith in
      let cut : (l : List A) → drop (j * p) l ≡ drop (j * p - (k * p + p)) (drop (k * p + p) l) = λ l. ap (λ i. drop i l) (sym back) ∙ sym (drop-drop (j * p - (k * p + p)) (k * p + p) l) in
      ap (take n) (cut mem' ∙ ap (drop (j * p - (k * p + p))) out.above ∙ sym (cut mem))

  pub apart : (j ≢ k) → take n (drop (j * p) mem') ≡ take n (drop (j * p) mem)
  apart ne = ⊎_elim (λ e. absurd (ne e)) (⊎_elim lower higher) (cases_order j k)

-- two lanes of one number are one
module _ (n f t g u : ℕ) (one : is_lane n f t ≡ true) (two : is_lane n g u ≡ true) where
  pub same_lane : lane_number n f t ≡ lane_number n g u → (f ≡ g) × (t ≡ u)
  same_lane e =
      let b1 : cond (nat_lt t f) t (t - 1) < n - 1 = grind (arith, nat_tests) in
      let b2 : cond (nat_lt u g) u (u - 1) < n - 1 = grind (arith, nat_tests) in
      let ef : f ≡ g = sym (div-mul-add f (n - 1) _ b1) ∙ ap (λ x. x / (n - 1)) e ∙ div-mul-add g (n - 1) _ b2 in
      let et : cond (nat_lt t f) t (t - 1) ≡ cond (nat_lt u g) u (u - 1) = sym (mod-mul-add f (n - 1) _ b1) ∙ ap (λ x. x % (n - 1)) e ∙ mod-mul-add g (n - 1) _ b2 in
      (ef, grind (arith, nat_tests))
