-- Places that are not free, counted. Assumes nothing.
use Rattle.std.proofs.Common.{◌≡◌, ℕ, zero, suc, ◌+◌, Bool, true, false, cond, not, List, map, sym, refl, ap, ◌∙◌, ap₂, add-one, zero-add}
use Rattle.std.specs.List.{range_with_len, sum_by, count_by}
use Rattle.std.proofs.lemmas.List.FromFn.{sum_by-map-range_with_len_more}
use Rattle.history.proofs.Folds.{folded_map}
use Rattle.rules.specs.State.{Read}
use Rattle.rules.specs.Updates.{is_free}
use Rattle.group.specs.Lookups.{in_use}

by_use : (b : Bool) → cond {A = ℕ} b 0 1 ≡ cond (not b) 1 0
by_use true = refl
by_use false = refl

-- how many of the first n places are not free, as a count over their list
pub in_use_counted : (rs : ℕ → Read) (n : ℕ) → in_use n rs ≡ count_by (λ i. not (is_free (rs i))) (range_with_len 0 n)
unfolding in_use
in_use_counted rs zero = refl
in_use_counted rs (suc n) =
    let used : ℕ → ℕ = λ i. cond (not (is_free (rs i))) 1 0 in
    let as_map : (xs : List ℕ) → sum_by used xs ≡ sum_by (λ (x : ℕ). x) (map used xs) = folded_map used (λ (a x : ℕ). a + x) 0 in
    ap₂ (λ (a b : ℕ). a + b) (in_use_counted rs n ∙ as_map (range_with_len 0 n)) (by_use (is_free (rs n))) ∙ sym (sum_by-map-range_with_len_more (λ (x : ℕ). x) used 0 n n (zero-add n))
    ∙ sym (as_map (range_with_len 0 (n + 1))) ∙ ap (λ (m : ℕ). sum_by used (range_with_len 0 m)) (add-one n)
