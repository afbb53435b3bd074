use Rattle.std.proofs.Common.{◌≡◌, ℕ, ◌<◌, Bool, true, false, length, get_or, Decides, MatchBool, sym, refl, subst, ap₂, ◌∙◌, zero-add, arith}
use borrow.Author.Tests.{both_ways}
use Rattle.std.specs.List.{range_with_len, AllWithin, HoldsAt}
use Rattle.std.proofs.lemmas.List.FromFn.{length-range_with_len, get_or-range_with_len}
use Rattle.std.proofs.lemmas.Iterator.{YieldsList-from_range, cases_from_all}
use Rattle.code.specs.Meaning.{meaning}
use Rattle.code.specs.Recovery.{Recovers}
use Rattle.terms.specs.Sets.{member}
use Rattle.code.proofs.Everyone.{everyone_from_full, full_from_everyone}
use Rattle.code.proofs.code.Code.all_recovered.Goals as goal

number_at : (n x : ℕ) → x < n → get_or (range_with_len 0 n) x 0 ≡ x
number_at n x h = get_or-range_with_len 0 n x 0 h ∙ zero-add x

-- what a test of the numbers below n tells
decided : (n : ℕ) (P : ℕ → Type 0) (b : Bool)
    → MatchBool b (AllWithin P (range_with_len 0 n) 0 (length (range_with_len 0 n))) ((k : ℕ) × (k < length (range_with_len 0 n)) × HoldsAt (λ x. P x → ⊥) (range_with_len 0 n) k)
    → Decides b ((x : ℕ) → x < n → P x)
decided n P true all = (
  λ _ x h. subst P (number_at n x h) (all x 0 (omega arith) (omega (arith, length-range_with_len 0 n))),
  λ _. refl,
)
decided n P false some = (
  λ e. absurd (both_ways false refl e),
  λ all.
      let inside : some.0 < n = omega (arith, some.1, length-range_with_len 0 n) in
      absurd (some.2 0 (subst P (sym (number_at n some.0 inside)) (all some.0 inside))),
)

pub returns : goal.returns
returns g c =
    let code = c.args.self.now in
    let meant = meaning g.F.Field.arithmetic code in
    let full = member c.full-everyone.result in
    let P : ℕ → Type 0 = λ x. Recovers meant full x in
    let told =
    decided code.objects P c.all.result
    (cases_from_all _ _ c.all.result P (λ x. P x → ⊥) c.all.ensures.ran (YieldsList-from_range 0 code.objects code.objects (cc) (omega arith))
    (λ x q k. (ap₂ (λ s f. (s, f)) k.met.0.0 k.met.0.1, k.met.1.0 refl)) (λ x q k r. both_ways false refl (k.met.1.1 r))) in (
      λ t x h. everyone_from_full meant code.most_servers full c.full-everyone.ensures.everybody x (told.0 t x h),
      λ all. told.1 (λ x h. full_from_everyone meant code.most_servers full c.full-everyone.ensures.everybody x (all x h)),
    )
