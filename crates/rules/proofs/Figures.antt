-- The worked run, by computation.
use Rattle.std.proofs.Common.{◌≡◌, ℕ, zero, suc, ◌<◌, false, cond, eqb, List, [], ◌∷◌, get_or, take, sym, refl, subst, arith}
use Rattle.std.proofs.lemmas.Bool.{cond_both, eqb-true, both_ways}
use Rattle.message.specs.Meanings.{Meaning, write_notice}
use Rattle.field.specs.Sums.{sum}
use Rattle.code.specs.Codings.{Value, symbol}
use Rattle.code.specs.Recovery.{Recovers}
use Rattle.rules.specs.Words.{upd, some, first_below}
use Rattle.terms.specs.Lists.{every}
use Rattle.rules.specs.Lanes.{posted, spread, taken}
use Rattle.rules.specs.Histories.{has_entry, entered_value, value_under, highest}
use Rattle.rules.specs.State.{Server, new_group}
use Rattle.rules.specs.Updates.{entered, counted, queued, sifted, reading, hearing, moved, opening, overtaken}
use Rattle.rules.specs.Writing.{write_done, write_refusal, write, next_ready, apply_done, apply}
use Rattle.rules.specs.Reading.{open_done, open_read, read_refusal, read_found, read, collect_done, collect}
use Rattle.rules.specs.Encoding.{lowest, object_refusal, move_done, enter_done, encode_contained, encode_other, encode, swept, sweep_done, sweep}
use Rattle.rules.specs.Delivering.{fits_group, fits, take_done, stated, restated, question_done, settle, mended, got, oldest, lane_refusal, deliver}
use Rattle.rules.specs.Runs.{Tested, AllowedMessage, run}
use Rattle.rules.specs.Figures.{three_by_two, nothing_found, five_moves, SmallRun}

-- ---- the sum alone does not tell an object

zeros : ℕ → List ℕ
zeros x = 0 ∷ []

opposite : ℕ → List ℕ
opposite x = cond (eqb x 0) (1 ∷ []) (250 ∷ [])

one_cell : (n c : ℕ) → n < 251 → c < 1 → get_or (n ∷ []) c 0 < 251
one_cell n zero lt h = lt
one_cell n (suc c) lt h = absurd (omega arith)

same_symbol : symbol three_by_two.code 2 zeros ≡ symbol three_by_two.code 2 opposite
unfolding sum zeros opposite
same_symbol = refl

not_alone : Recovers three_by_two.code (λ j. eqb j 2) 0 → ⊥
unfolding zeros opposite
not_alone h =
    let e : zeros 0 ≡ opposite 0 = h zeros opposite
    (λ x xk. record { long = refl; elements = λ c lt. one_cell 0 c (omega arith) lt })
    (λ x xk. cond_both (eqb x 0) (1 ∷ []) (250 ∷ []) (Value three_by_two.code)
    (λ _. record { long = refl; elements = λ c lt. one_cell 1 c (omega arith) lt }) (λ _. record { long = refl; elements = λ c lt. one_cell 250 c (omega arith) lt }))
    (λ s sn q. subst (λ k. symbol three_by_two.code k zeros ≡ symbol three_by_two.code k opposite) (sym (eqb-true s 2 q)) same_symbol) in
    let z : ◌≡◌ {A = ℕ} 0 1 = cc in omega arith

tested : (symbols : ℕ → List ℕ) → Tested three_by_two (λ j. eqb j 2) symbols 0 nothing_found
tested symbols = record { test = ((λ e. absurd (both_ways false refl e)), (λ r. absurd (not_alone r))); decoded = λ e. absurd (both_ways false refl e) }

-- a write notice tests nothing
notice : (p : Server) (ms : List Meaning) (x : ℕ) (v : List ℕ) (h : ℕ) (ck : List ℕ) (m : Meaning) → write_notice x v h ck ∷ [] ≡ m ∷ ms → AllowedMessage three_by_two p 0 m nothing_found
notice p ms x v h ck m e = let q : write_notice x v h ck ≡ m = cc in subst (λ z. AllowedMessage three_by_two p 0 z nothing_found) q tt

pub small_run : SmallRun
unfolding sum upd every some first_below posted spread taken has_entry entered_value value_under highest entered counted queued sifted reading hearing moved opening overtaken write_done write_refusal write next_ready apply_done apply open_done open_read read_refusal read_found read collect_done collect lowest object_refusal move_done enter_done encode_contained encode_other encode swept sweep_done sweep fits_group fits take_done stated restated question_done settle mended got oldest lane_refusal deliver
small_run = record {
  allowed = (tt, ((λ _ _. tested _), ((λ m ms e _ _. notice ((run three_by_two (new_group three_by_two) (take 2 five_moves)).servers 2) ms 0 (100 ∷ []) 1 (1 ∷ 0 ∷ 0 ∷ []) m e), (tt, ((λ _ _. tested _), tt)))));
  answers = refl;
  symbol_at_2 = refl;
}
