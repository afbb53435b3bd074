-- A delivery keeps the values right.
use Rattle.std.proofs.Common.{◌≡◌, ℕ, zero, suc, ◌<◌, ◌≤◌, Bool, true, false, cond, not, ◌&&◌, ◌||◌, eqb, ◌⊎◌, List, [], ◌∷◌, get_or, sym, refl, ap, ◌∙◌, subst, inl, inr, ⊎_elim, arith}
use Rattle.std.specs.List.{AllByRecursion}
use Rattle.std.proofs.lemmas.Bool.{both_ways, cases_eq, eqb-true, and_parts, and_cases, or_cases, or_left, or_right, not-true, not-false, cond_both, cond-false}
use Rattle.rules.proofs.RankedWords.{upd, listed}
use Rattle.rules.proofs.Ranked.{Code, Entry, Read, Server, has, holds, enters, same_entry, kept, swap}
use Rattle.std.proofs.lemmas.List.FromFn.{get_or-map-range_with_len}
use Rattle.rules.proofs.RankedSteps.{exchanges, states, mixed, mendable, mended}
use Rattle.rules.proofs.Words.{upd_same, upd_other, every_at, upto, upto_none, upto_all, upto_here, upto_next, upto_else}
use Rattle.rules.proofs.RankedFacts.{Lawful}
use Rattle.rules.proofs.Source.{Owner}
use Rattle.rules.proofs.Algebra.{Cells, Mix, mix_tags, swap_mix}
use Rattle.rules.proofs.Values.{OfEntry, OfTag, kept_right}

no_coefficient : (g : Code) (s y : ℕ) → has g s y ≡ false → g.coefficient s y ≡ 0
no_coefficient g s y i = eqb-true (g.coefficient s y) 0 (not-false (eqb (g.coefficient s y) 0) i)

module _ (g : Code) (R : Lawful g) (L : List Entry) (cells : Cells g R L) where
  -- the tags up to y, and then one more
  next_tags : (s y : ℕ) (A B : ℕ → ℕ) (v : List ℕ) (T : ℕ → ℕ) → ((z : ℕ) → (z ≡ y → ⊥) → T z ≡ upto y A B z) → (T y ≡ A y) ⊎ (g.coefficient s y ≡ 0) → Mix g R L s T v → Mix g R L s (upto (suc y) A B) v
  next_tags s y A B v T else here h = mix_tags g R L s T (upto (suc y) A B) v cells (λ z zk. elim (cases_eq z y) [
    | inl e ↦ rw e (⊎_elim (λ q. inl (q ∙ sym (upto_next y A B))) (λ q. inr q) here)
    | inr ne ↦ inl (else z ne ∙ sym (upto_else y A B z ne))
  ]) h

  -- ---- the symbol of a reply
  module _ (s : ℕ) (p : Server) (T : List ℕ) (sn : s < g.n) (sym_right : Mix g R L s p.own p.symbol) (hist : AllByRecursion (OfEntry g R L) p.history) where
    A : ℕ → ℕ
    A y = states g s p y (get_or T y 0)

    states_own : (y : ℕ) → exchanges g s p y (get_or T y 0) ≡ false → states g s p y (get_or T y 0) ≡ p.own y
    unfolding states
    states_own y e = cond-false (exchanges g s p y (get_or T y 0)) _ (p.own y) e

    states_held : (y : ℕ) → exchanges g s p y (get_or T y 0) ≡ true → holds p.history y (states g s p y (get_or T y 0)) ≡ true
    unfolding states
    states_held y e = rw e (cond_both (holds p.history y (get_or T y 0)) (get_or T y 0) 0 (λ u. holds p.history y u ≡ true) (λ q. q) (λ _. refl))

    mixed_step : (y : ℕ) (v : List ℕ) → y < g.k → Mix g R L s (upto y A p.own) v → Mix g R L s (upto (suc y) A p.own)
        (cond (exchanges g s p y (get_or T y 0)) (swap g s y (kept g p.history y (p.own y)) (kept g p.history y (states g s p y (get_or T y 0))) v) v)
    unfolding A
    mixed_step y v yk h =
        let u = get_or T y 0 in
        let U = upto y A p.own in
        let w = states g s p y u in
        let out = swap g s y (kept g p.history y (p.own y)) (kept g p.history y w) v in
        cond_both (exchanges g s p y u) out v (Mix g R L s (upto (suc y) A p.own))
        (λ e.
        let a = and_parts (has g s y) (not (eqb u (p.own y)) && holds p.history y (p.own y)) e in
        let b = and_parts (not (eqb u (p.own y))) (holds p.history y (p.own y)) a.1 in
        next_tags s y A p.own out (upd U y w) (λ z ne. upd_other U y z w ne) (inl (upd_same U y w))
        (swap_mix g R L s y w U (kept g p.history y (p.own y)) (kept g p.history y w) v cells sn yk
        (kept_right g R L p.history y (p.own y) cells hist b.1 ∙ ap (kept g L y) (sym (upto_here y A p.own)))
        (kept_right g R L p.history y w cells hist (states_held y e)) h))
        (λ e. next_tags s y A p.own v U (λ z ne. refl) (inl (upto_here y A p.own ∙ sym (states_own y e))) h)

    mixed_mix : (y : ℕ) → y ≤ g.k → Mix g R L s (upto y A p.own) (mixed g s p T y)
    unfolding mixed
    mixed_mix zero le = mix_tags g R L s p.own (upto 0 A p.own) p.symbol cells (λ z zk. inl (upto_none A p.own z)) sym_right
    mixed_mix (suc y) le = mixed_step y (mixed g s p T y) (omega arith) (mixed_mix y (omega arith))

    pub reply_right : Mix g R L s (λ y. get_or (listed g.k (λ y. states g s p y (get_or T y 0))) y 0) (mixed g s p T g.k)
    unfolding A
    reply_right = mix_tags g R L s (upto g.k A p.own) (λ y. get_or (listed g.k (λ y. states g s p y (get_or T y 0))) y 0) (mixed g s p T g.k) cells
        (λ z zk. inl (upto_all g.k A p.own z zk ∙ sym (get_or-map-range_with_len (λ y. states g s p y (get_or T y 0)) 0 g.k z z 0 zk (omega arith)))) (mixed_mix g.k (omega arith))

  -- what is stated is zero, asked and held, or the own tag
  pub states_of : (s : ℕ) (p : Server) (y u : ℕ) → Owner g (OfEntry g R L) (OfTag g R L) p → (holds p.history y u ≡ true → OfTag g R L y u) → OfTag g R L y (states g s p y u)
  unfolding states
  states_of s p y u o asked =
      cond_both (exchanges g s p y u) (cond (holds p.history y u) u 0) (p.own y) (OfTag g R L y)
      (λ _. cond_both (holds p.history y u) u 0 (OfTag g R L y) asked (λ _. refl)) (λ _. o.own y)

  -- what a history holds is of the log
  pub held_of : (es : List Entry) (x t : ℕ) → AllByRecursion (OfEntry g R L) es → holds es x t ≡ true → OfTag g R L x t
  unfolding enters
  held_of [] x t all e = ⊎_elim (λ q. or_left (eqb t 0) (enters L x t) q) (λ q. absurd (both_ways false refl q)) (or_cases (eqb t 0) false e)
  held_of (d ∷ es) x t all e = ⊎_elim (λ q. or_left (eqb t 0) (enters L x t) q)
      (λ q. ⊎_elim (λ w. let p = and_parts (eqb d.object x) (eqb d.tag t) w in subst (λ z. holds L x z ≡ true) (eqb-true d.tag t p.1) (subst (λ z. holds L z d.tag ≡ true) (eqb-true d.object x p.0) all.0.0))
      (λ w. held_of es x t all.1 (or_right (eqb t 0) (enters es x t) w)) (or_cases (same_entry x t d) (enters es x t) q))
      (or_cases (eqb t 0) (same_entry x t d || enters es x t) e)

  -- ---- the symbol of a reply, mended for a read
  module _ (p : Server) (a : ℕ) (r : Read) (v st : List ℕ) (an : a < g.n) (hist : AllByRecursion (OfEntry g R L) p.history) (mend : mendable g p a r st ≡ true) (coded : Mix g R L a (λ y. get_or st y 0) v) where
    B : ℕ → ℕ
    B y = get_or st y 0

    mended_mix : (y : ℕ) → y ≤ g.k → Mix g R L a (upto y r.tags B) (mended g p a r v st y)
    unfolding mended B
    mended_mix zero le = mix_tags g R L a B (upto 0 r.tags B) v cells (λ z zk. inl (upto_none r.tags B z)) coded
    mended_mix (suc y) le =
        let ih = mended_mix y (omega arith) in
        let U = upto y r.tags B in
        let old = kept g p.history y (get_or st y 0) in
        let new = kept g p.history y (r.tags y) in
        let w = mended g p a r v st y in
        let test : Bool = not (has g a y) || (eqb (get_or st y 0) (r.tags y) || (holds p.history y (get_or st y 0) && holds p.history y (r.tags y))) in
        let ok : test ≡ true = every_at g.k (λ y. not (has g a y) || (eqb (get_or st y 0) (r.tags y) || (holds p.history y (get_or st y 0) && holds p.history y (r.tags y)))) mend y (omega arith) in
        cond_both (has g a y && not (eqb (get_or st y 0) (r.tags y))) (swap g a y old new w) w (Mix g R L a (upto (suc y) r.tags B))
        (λ e.
        let q = and_parts (has g a y) (not (eqb (get_or st y 0) (r.tags y))) e in
        let both = held_both y q.0 (not-true (eqb (get_or st y 0) (r.tags y)) q.1) ok in
        next_tags a y r.tags B (swap g a y old new w) (upd U y (r.tags y)) (λ z ne. upd_other U y z (r.tags y) ne) (inl (upd_same U y (r.tags y)))
        (swap_mix g R L a y (r.tags y) U old new w cells an (omega arith)
        (kept_right g R L p.history y (get_or st y 0) cells hist both.0 ∙ ap (kept g L y) (sym (upto_here y r.tags B)))
        (kept_right g R L p.history y (r.tags y) cells hist both.1) ih))
        (λ e. next_tags a y r.tags B w U (λ z ne. refl)
        (⊎_elim (λ q. inr (no_coefficient g a y q)) (λ q. inl (upto_here y r.tags B ∙ eqb-true (get_or st y 0) (r.tags y) (not-false (eqb (get_or st y 0) (r.tags y)) q)))
        (and_cases (has g a y) (not (eqb (get_or st y 0) (r.tags y))) e)) ih)
      where
        held_both : (y : ℕ) → has g a y ≡ true → eqb (get_or st y 0) (r.tags y) ≡ false
            → (not (has g a y) || (eqb (get_or st y 0) (r.tags y) || (holds p.history y (get_or st y 0) && holds p.history y (r.tags y)))) ≡ true
            → (holds p.history y (get_or st y 0) ≡ true) × (holds p.history y (r.tags y) ≡ true)
        held_both y i ne ok = ⊎_elim (λ q. absurd (both_ways (has g a y) (not-true (has g a y) q) i))
            (λ q. ⊎_elim (λ z. absurd (both_ways (eqb (get_or st y 0) (r.tags y)) ne z)) (λ z. and_parts (holds p.history y (get_or st y 0)) (holds p.history y (r.tags y)) z)
            (or_cases (eqb (get_or st y 0) (r.tags y)) (holds p.history y (get_or st y 0) && holds p.history y (r.tags y)) q))
            (or_cases (not (has g a y)) (eqb (get_or st y 0) (r.tags y) || (holds p.history y (get_or st y 0) && holds p.history y (r.tags y))) ok)

    pub mended_right : Mix g R L a r.tags (mended g p a r v st g.k)
    unfolding B
    mended_right = mix_tags g R L a (upto g.k r.tags B) r.tags (mended g p a r v st g.k) cells (λ z zk. inl (upto_all g.k r.tags B z zk)) (mended_mix g.k (omega arith))
