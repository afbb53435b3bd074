-- A message put into a place of bytes. Assumes nothing.
use Rattle.std.proofs.Common.{◌≡◌, ℕ, ◌≤◌, true, cond, List, length, drop, is_ok, None, Ok, Err, Result, sym, ap, ◌∙◌, ⊎_elim, arith}
use Rattle.std.specs.Prelude.{⊤}
use Rattle.std.proofs.lemmas.Bool.{cases_Bool, le-ltb, cond-true, cond-false}
use Rattle.terms.specs.declared.refusal.Refusal.{Refusal}
use Rattle.terms.specs.declared.refusal.Refusal.TheVariants.{OutOfRange}
use Rattle.terms.specs.Limits.{max_record_bytes}
use Rattle.message.specs.Meanings.{Meaning}
use Rattle.message.specs.Ranges.{in_range}
use Rattle.wire.specs.Placed.{Placed, write_refusal}
use Rattle.wire.specs.Reading.{reading}
use Rattle.wire.specs.Writing.{encode}
use Rattle.wire.proofs.Whole.{reading_there, short}
use Rattle.terms.specs.Answers.{Answered}
use Rattle.carrier.specs.Lanes.{range_refusal}
use Rattle.carrier.specs.Changes.{some_none}
use Rattle.carrier.specs.Parcels.{is_record, message_of, message_in}

-- a message in range is refused nowhere in a place of the longest record
module _ (m : Meaning) (xs ys : List ℕ) (whole : length xs ≡ max_record_bytes) where
  fits : in_range m ≡ true → write_refusal m (length xs) ≡ None
  fits yes_range =
      let room : length (encode m) ≤ length xs = omega (arith, short m yes_range) in
      cond-true _ _ _ yes_range ∙ cond-false _ _ _ (le-ltb _ _ room)

  -- what the place holds then
  pub record After (r : Result ℕ Refusal) : Type 0 where
    pub inside : is_record ys ≡ true
    pub told : Answered (range_refusal m) (λ _. ⊤) r
    pub holds : message_in ys ≡ cond (in_range m) m (message_in xs)

  pub put_after : (r : Result ℕ Refusal) → is_record xs ≡ true → Placed (write_refusal m (length xs)) (encode m) xs ys r → After r
  put_after (Ok n) before told =
      ⊎_elim
      (λ good.
      let is : reading ys ≡ Ok (m, length (encode m)) = ap reading told.2 ∙ reading_there m (drop n xs) good in
      record {
        inside = ap is_ok is;
        told = (cond-true _ _ _ good, tt);
        holds = ap message_of is ∙ sym (cond-true _ _ _ good);
      })
      (λ bad. absurd (some_none OutOfRange (sym (cond-false _ _ _ bad) ∙ told.0)))
      (cases_Bool (in_range m))
  put_after (Err e) before told =
      ⊎_elim
      (λ good. absurd (some_none e (sym told.0 ∙ fits good)))
      (λ bad.
      record {
        inside = ap is_record told.1 ∙ before;
        told = cond-false _ _ _ bad ∙ sym (cond-false _ _ _ bad) ∙ told.0;
        holds = ap message_in told.1 ∙ sym (cond-false _ _ _ bad);
      })
      (cases_Bool (in_range m))
