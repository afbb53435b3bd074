use Rattle.std.proofs.Common.{◌≡◌, ℕ, ◌<◌, Bool, ◌||◌, eqb, ltb, List, [], map, ap, ◌∙◌, ltb-true}
use mathlib.Core.Bool.{or-false}
use Rattle.terms.specs.declared.bounded.Bounded.{Bounded}
use Rattle.terms.specs.Items.{items}
use Rattle.terms.specs.Sets.{member}
use Rattle.code.specs.Codings.{value_at}
use Rattle.code.specs.Meaning.{meaning}
use Rattle.code.proofs.Alone.{answered_alone, copies}
use Rattle.code.proofs.Sizes.{passed}
use Rattle.code.proofs.code.Code.decode_alone.Goals as goal

pub returns : goal.returns
returns g c =
    let a = c.args in
    let told = c.in_ok-alone.ensures.added_or_refused in
    let low : a.server < 6 = ltb-true a.server 6 (passed (ltb a.server 6) _ _ told.0).0 in
    let is : (s : ℕ) → member c.in_ok-alone.alone s ≡ eqb s a.server =
    λ s. told.1 s ∙ ap (λ (b : Bool). eqb s a.server || b) (c.empty.ensures.nobody s) ∙ or-false (eqb s a.server) in
    record {
      decoded_or_refused = answered_alone a.server (member c.in_ok-alone.alone) is (meaning g.F.Field.arithmetic a.self.now) a.object
          (value_at (map items c.copies.result)) (items a.symbol.now) items low
          (ap (λ (xs : List (Bounded ℕ 16)). value_at (map items xs) a.server) c.copies.ensures ∙ copies items a.symbol.now [] 6 a.server low)
          c.decode_any.result c.decode_any.ensures.decoded_or_refused;
    }
