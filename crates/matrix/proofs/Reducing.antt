-- The loop over the columns. Assumes nothing.
use Rattle.std.proofs.Common.{◌≡◌, ℕ, zero, suc, ◌+◌, ◌<◌, List, length, get_or, set, replicate, None, Some, Option, sym, refl, ◌∙◌, subst, arith, length-set}
use Rattle.std.proofs.lemmas.Option.{none-some}
use Rattle.field.specs.Arithmetic.{Arithmetic}
use Rattle.field.specs.Laws.{Ring, Inverses}
use Rattle.matrix.specs.Matrices.{entry}
use Rattle.matrix.specs.Elimination.{Elements, Cleared, IsPivot, NoPivot, Echelon, Kept, ReducedTo}
use Rattle.matrix.proofs.Steps as steps

pub record Reducing (ar : Arithmetic) (k : ℕ) (start rows : List (List ℕ)) (leads : List (Option ℕ)) (c : ℕ) : Type 0 where
  pub long : length leads ≡ 6
  pub elements : Elements ar.size rows
  pub kept : Kept ar start rows
  pub echelon : Echelon k rows leads c

none_leads : (n i : ℕ) → get_or {A = Option ℕ} (replicate n None) i None ≡ None
none_leads zero i = refl
none_leads (suc n) zero = refl
none_leads (suc n) (suc i) = none_leads n i

pub reducing_none : (ar : Arithmetic) (k : ℕ) (start : List (List ℕ)) → Elements ar.size start → Reducing ar k start start (replicate 6 None) 0
reducing_none ar k start el = record {
  long = refl;
  elements = el;
  kept = steps.kept_none ar start;
  echelon = record {
    led = λ p l h is. absurd (none-some l (sym (none_leads 6 p) ∙ is));
    clear = λ j h. absurd (omega arith);
  };
}

module _ {ar : Arithmetic} {inverse : ℕ → ℕ} (R : Ring ar) (I : Inverses ar inverse)
    (k : ℕ) (start rows : List (List ℕ)) (leads : List (Option ℕ)) (c : ℕ) (hc : c < 6) (r : Reducing ar k start rows leads c) where
  pub reducing_skip : c ≡ k → Reducing ar k start rows leads (c + 1)
  reducing_skip is = record { long = r.long; elements = r.elements; kept = r.kept; echelon = steps.echelon_skip k rows leads c is r.echelon }

  pub reducing_free : NoPivot rows leads c → Reducing ar k start rows leads (c + 1)
  reducing_free none = record { long = r.long; elements = r.elements; kept = r.kept; echelon = steps.echelon_none k rows leads c none r.echelon }

  pub reducing_more : (p : ℕ) (next : List (List ℕ)) → (c ≡ k → ⊥) → IsPivot rows leads c p
      → Cleared ar (λ i. ar.minus (ar.times (entry rows i c) (inverse (entry rows p c)))) rows next p
      → Reducing ar k start next (set leads p (Some c)) (c + 1)
  reducing_more p next ne found cl =
      let factor : ℕ → ℕ = λ i. ar.minus (ar.times (entry rows i c) (inverse (entry rows p c))) in
      let factors : (i : ℕ) → factor i < ar.size = λ i. R.minus_below (ar.times (entry rows i c) (inverse (entry rows p c))) in
      record {
        long = length-set leads p (Some c) ∙ r.long;
        elements = steps.elements_more R factor rows next p r.elements cl;
        kept = steps.kept_more R factor factors rows next p found.within r.elements cl start r.kept;
        echelon = steps.echelon_more R I k rows next leads p c r.long hc ne r.elements cl found r.echelon;
      }

pub reducing_all : {ar : Arithmetic} {k : ℕ} {start rows : List (List ℕ)} {leads : List (Option ℕ)} {c : ℕ} → c ≡ 6 → Reducing ar k start rows leads c → ReducedTo ar k start rows leads
reducing_all {k = k} {rows = rows} {leads = leads} is r = record {
  elements = r.elements;
  kept = r.kept;
  echelon = subst (λ (v : ℕ). Echelon k rows leads v) is r.echelon;
}
