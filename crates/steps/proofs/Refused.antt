-- A refusal that is passed up. Assumes nothing.
use Rattle.std.proofs.Common.{◌≡◌, Some, Ok, Err, Option, Result, IsErrAnd, ap, ◌∙◌}
use Rattle.std.proofs.lemmas.Result.{err_from_is_err_and}
use Rattle.std.specs.Result.{result_unwrap_or}
use Rattle.terms.specs.Answers.{Answered}
use Rattle.terms.specs.declared.refusal.Refusal.{Refusal}

pub broke : {A : Type 0} (r : Result A Refusal) (e : Refusal) → IsErrAnd r (λ y. y ≡ e) → r ≡ Err e
broke r e h = let p = err_from_is_err_and r h in p.1 ∙ ap Err p.2

-- what an answer has, its default has where the call is refused
pub answered_or : {A : Type 0} (refusal : Option Refusal) (P : A → Type 0) (r : Result A Refusal) (d : A) → ((e : Refusal) → refusal ≡ Some e → P d) → Answered refusal P r → P (result_unwrap_or r d)
answered_or refusal P (Ok v) d refused h = h.1
answered_or refusal P (Err e) d refused h = refused e h
