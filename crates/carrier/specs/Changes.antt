-- What a change of one lane's block is to the lanes, over any kind of place. Assumes nothing.
use Rattle.std.specs.Prelude.{◌≡◌, ℕ, suc, ◌+◌, ◌-◌, ◌*◌, ◌<◌, ◌≤◌, Bool, true, false, cond, not, ◌&&◌, List, [], ◌∷◌, ◌++◌, map, length, get_or, take, drop, Some, None, ◌==◌, ◌≢◌, nat_lt, slice_index, slice_index_or, slice_set, refl}
use Rattle.std.proofs.Math.Path.{sym, ap, fun_ext}
use Rattle.std.proofs.Common.{◌∙◌, mul-le-mul_right, add-mul, one-mul, arith}
use Rattle.std.proofs.Math.Logic.{⊎_elim}
use Rattle.std.proofs.lemmas.List.{length-take-le, length-drop, length-map, take-set-le, drop-set-lt, drop-set-add, drop-drop, take_more_set, get_or-set_same, get_or-set_other, map_push, drop_more}
use Rattle.std.proofs.lemmas.Bool.{cases_Bool, cond-true, cond-false, and_from, and_parts, eqb-true, eq-eqb}
use Rattle.terms.specs.declared.refusal.Refusal.{Refusal}
use Rattle.message.specs.Meanings.{Meaning}
use Rattle.carrier.specs.Lanes.{Lanes, with_lane, ends_refusal}
use Rattle.carrier.specs.Blocks.{lane_number, is_lane, lanes_over, Found}
use Rattle.carrier.specs.Places.{Outside, apart, same_lane}

pub some_none : {X : Type 0} (x : X) → Some x ≢ None
some_none x e = let z : ◌≡◌ {A = ℕ} 0 1 = cc in omega arith

tested : (a b c : Bool) (x y : Refusal) → cond (a && b) (cond c (Some x) None) (Some y) ≡ None → (a && b && not c) ≡ true
tested true true true x y e = absurd (some_none x e)
tested true true false x y e = refl
tested true false c x y e = absurd (some_none y e)
tested false b c x y e = absurd (some_none y e)

is_lane_from : (n from to : ℕ) → ends_refusal n from to ≡ None → is_lane n from to ≡ true
is_lane_from n from to ok = tested (nat_lt from n) (nat_lt to n) (from == to) _ _ ok

true_false : true ≡ false → ⊥
true_false e = let z : ◌≡◌ {A = ℕ} 0 1 = cc in omega arith

-- lanes that differ in one
with_lane_is : (L M : Lanes) (from to : ℕ) (l : List Meaning) → M from to ≡ l → ((f t : ℕ) → (f ≡ from → t ≢ to) → M f t ≡ L f t) → M ≡ with_lane L from to l
unfolding with_lane
with_lane_is L M from to l here other =
    fun_ext (λ f. fun_ext (λ t.
    ⊎_elim
    (λ same. let p = and_parts _ _ same in (λ i. M (eqb-true f from p.0 i) (eqb-true t to p.1 i)) ∙ here ∙ sym (cond-true _ _ _ same))
    (λ differ. other f t (λ ef et. true_false (sym (and_from _ _ (eq-eqb f from ef) (eq-eqb t to et)) ∙ differ)) ∙ sym (cond-false _ _ _ differ))
    (cases_Bool (f == from && t == to))))

module _ {A : Type 0} (held : A → Meaning) (n p : ℕ) (mem : List A) (used : List ℕ) (from to k : ℕ) (at : Found n from to k) (ok : ends_refusal n from to ≡ None) where
  pub at_lane : lanes_over held n p mem used from to ≡ map held (take (slice_index used k) (drop (k * p) mem))
  unfolding lanes_over
  at_lane = cond-true _ _ _ (is_lane_from n from to ok) ∙ ap (λ j. map held (take (slice_index used j) (drop (j * p) mem))) (sym at.is)

  module _ (room : n * (n - 1) * p ≤ length mem) (within : (j : ℕ) → slice_index used j ≤ p) where
    pub inside : k * p + p ≤ length mem
    inside = omega (arith, mul-le-mul_right p at.below, add-mul k 1 p, one-mul p)

    pub lane_long : length (lanes_over held n p mem used from to) ≡ slice_index used k
    lane_long =
        let w = inside in
        let h = within k in
        ap length at_lane ∙ length-map _ held ∙ length-take-le _ _ (rw (length-drop) (omega arith))

    pub changed : (mem' : List A) (used' : List ℕ) → Outside (k * p) (k * p + p) mem mem' → ((j : ℕ) → (j ≢ k) → slice_index used' j ≡ slice_index used j) → (l : List Meaning) → map held (take (slice_index used' k) (drop (k * p) mem')) ≡ l → lanes_over held n p mem' used' ≡ with_lane (lanes_over held n p mem used) from to l
    unfolding lanes_over
    changed mem' used' out same l here =
        with_lane_is (lanes_over held n p mem used) (lanes_over held n p mem' used') from to l
        (cond-true _ _ _ (is_lane_from n from to ok) ∙ ap (λ j. map held (take (slice_index used' j) (drop (j * p) mem'))) (sym at.is) ∙ here)
        (λ f t ne.
        ⊎_elim
        (λ lane.
        let j : ℕ = lane_number n f t in
        let differ : j ≡ k → ⊥ = λ e. let s = same_lane n f t from to lane (is_lane_from n from to ok) (e ∙ at.is) in ne s.0 s.1 in
        cond-true _ _ _ lane
        ∙ ap (map held) (ap (λ c. take c (drop (j * p) mem')) (same j differ) ∙ apart p mem mem' k j (slice_index used j) (within j) out differ)
        ∙ sym (cond-true _ _ _ lane))
        (λ none. cond-false _ _ _ none ∙ sym (cond-false _ _ _ none))
        (cases_Bool (is_lane n f t)))

    -- one more at the end
    pub added : (x : A) → slice_index used k < p → k < length used → lanes_over held n p (slice_set mem (k * p + slice_index used k) x) (slice_set used k (slice_index used k + 1)) ≡ with_lane (lanes_over held n p mem used) from to (lanes_over held n p mem used from to ++ held x ∷ [])
    added x free known =
        let w = inside in
        let h : ℕ = get_or used k 0 in
        let place : ℕ = k * p + h in
        let low : k * p ≤ place = omega arith in
        let high : place < k * p + p = omega arith in
        let long : h < length (drop (k * p) mem) = rw (length-drop) (omega arith) in
        changed _ _
        (record { below = take-set-le _ mem place x low; above = drop-set-lt _ mem place x high })
        (λ j ne. get_or-set_other used k j _ 0 ne)
        _
        (ap (λ c. map held (take c (drop (k * p) (slice_set mem place x)))) (get_or-set_same used k _ 0 known)
        ∙ ap (λ l. map held (take (h + 1) l)) (drop-set-add (k * p) mem h x)
        ∙ ap (map held) (take_more_set (drop (k * p) mem) h x long)
        ∙ map_push held _ x
        ∙ ap (λ l. l ++ held x ∷ []) (sym at_lane))

    -- a place that is not in use
    pub unused : (x : A) → slice_index used k < p → lanes_over held n p (slice_set mem (k * p + slice_index used k) x) used ≡ lanes_over held n p mem used
    unused x free =
        let h : ℕ = get_or used k 0 in
        let place : ℕ = k * p + h in
        let low : k * p ≤ place = omega arith in
        let high : place < k * p + p = omega arith in
        let here : h ≤ h = omega arith in
        changed _ used
        (record { below = take-set-le _ mem place x low; above = drop-set-lt _ mem place x high })
        (λ j ne. refl)
        (lanes_over held n p mem used from to)
        (ap (λ l. map held (take h l)) (drop-set-add (k * p) mem h x) ∙ ap (map held) (take-set-le h (drop (k * p) mem) h x here) ∙ sym at_lane)
        ∙ sym (with_lane_is (lanes_over held n p mem used) (lanes_over held n p mem used) from to _ refl (λ f t ne. refl))

    -- the first of a lane that holds some
    pub front : (x : A) → (slice_index used k ≢ 0) → x ≡ slice_index_or mem (k * p) x → lanes_over held n p mem used from to ≡ held x ∷ drop 1 (lanes_over held n p mem used from to)
    front x ne is =
        let w = inside in
        let h = within k in
        let c : ℕ = get_or used k 0 in
        let one : c ≡ suc (c - 1) = omega arith in
        let known : k * p < length mem = omega arith in
        let cut : drop (k * p) mem ≡ x ∷ drop (k * p + 1) mem = drop_more mem (k * p) x known ∙ ap (λ y. y ∷ drop (k * p + 1) mem) (sym is) in
        let split : lanes_over held n p mem used from to ≡ held x ∷ map held (take (c - 1) (drop (k * p + 1) mem)) = at_lane ∙ ap (λ i. map held (take i (drop (k * p) mem))) one ∙ ap (λ l. map held (take (suc (c - 1)) l)) cut in
        split ∙ sym (ap (λ l. held x ∷ drop 1 l) split)

    map_rest : (l : List A) → map held (drop 1 l) ≡ drop 1 (map held l)
    map_rest [] = refl
    map_rest (x ∷ l) = refl

    -- the block after its first place was moved behind the others
    pub removed : (mem' : List A) → k < length used → take (k * p) mem' ≡ take (k * p) mem → drop (k * p + slice_index used k) mem' ≡ drop (k * p + slice_index used k) mem → take (slice_index used k - 1) (drop (k * p) mem') ≡ drop 1 (take (slice_index used k) (drop (k * p) mem)) → lanes_over held n p mem' (slice_set used k (slice_index used k - 1)) ≡ with_lane (lanes_over held n p mem used) from to (drop 1 (lanes_over held n p mem used from to))
    removed mem' known below above moved =
        let h = within k in
        let c : ℕ = get_or used k 0 in
        let back : k * p + c + (p - c) ≡ k * p + p = omega arith in
        let far : (l : List A) → drop (k * p + p) l ≡ drop (p - c) (drop (k * p + c) l) = λ l. ap (λ i. drop i l) (sym back) ∙ sym (drop-drop (p - c) (k * p + c) l) in
        changed mem' (slice_set used k (c - 1))
        (record { below = below; above = far mem' ∙ ap (drop (p - c)) above ∙ sym (far mem) })
        (λ j ne. get_or-set_other used k j _ 0 ne)
        _
        (ap (λ i. map held (take i (drop (k * p) mem'))) (get_or-set_same used k (c - 1) 0 known) ∙ ap (map held) moved ∙ map_rest (take c (drop (k * p) mem)) ∙ ap (drop 1) (sym at_lane))
