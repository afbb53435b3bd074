-- How it is shown that a call took the rules' step. Assumes nothing.
use Rattle.std.proofs.Common.{◌≡◌, ℕ, Bool, true, false, Some, None, Option, sym, refl, ap, ◌∙◌}
use Rattle.terms.specs.declared.refusal.Refusal.{Refusal}
use Rattle.terms.specs.declared.refusal.Refusal.TheVariants.{NoSuchServer}
use Rattle.rules.specs.Runs.{step, Allowed}
use Rattle.rules.specs.State.{Layout, State}
use Rattle.rules.specs.Turns.{Call, Answer, Found, Turn, turn, unless, Refused}
use Rattle.steps.specs.Local.{Local}
use Rattle.steps.specs.Reading.{found_of}
use Rattle.group.specs.Reached.{reached}
use Rattle.calls.specs.Refusing.{beside}
use Rattle.calls.specs.Took.{Took}
use Rattle.calls.proofs.Joining.{joined}

-- what a call finds that looks for nothing
abbrev pub nothing : Found
nothing = found_of None

refused_is : (enough : Bool) (S : State) (why : Option Refusal) (t : Turn) (e : Refusal) → beside enough why ≡ Some e → reached enough S (unless why S t) ≡ turn (Refused e) S
refused_is true S None t e h = cc
refused_is true S (Some r) t e h = let same : r ≡ e = cc in ap (λ q. turn (Refused q) S) same
refused_is false S why t e h = let same : NoSuchServer ≡ e = cc in ap (λ q. turn (Refused q) S) same

passed_is : (enough : Bool) (S : State) (why : Option Refusal) (t : Turn) → beside enough why ≡ None → reached enough S (unless why S t) ≡ t
passed_is true S None t h = refl
passed_is true S (Some r) t h = cc
passed_is false S why t h = cc

module _ {l : Layout} {enough : Bool} {S : State} {c : Call} (f : Found) (may : enough ≡ true → Allowed l S c f) (why : Option Refusal) where
  -- it is refused
  pub took_refused : (t : Turn) (e : Refusal) (a : Answer) → step l S c f ≡ unless why S t → beside enough why ≡ Some e → a ≡ Refused e → Took l enough S c a S
  took_refused t e a is no_way told =
      let whole : reached enough S (step l S c f) ≡ turn (Refused e) S = ap (reached enough S) is ∙ refused_is enough S why t e no_way in
      record { found = f; allowed = may; answer = told ∙ sym (ap (λ (u : Turn). u.answer) whole); next = sym (ap (λ (u : Turn). u.next) whole) }

  -- its server does what is said
  pub took_joined : (s n : ℕ) (said does : Local) (a : Answer) (T : State) → step l S c f ≡ unless why S (joined S s n does) → beside enough why ≡ None → said ≡ does
      → a ≡ said.answer → T ≡ (joined S s n said).next → Took l enough S c a T
  took_joined s n said does a T is may_go same told end =
      let whole : reached enough S (step l S c f) ≡ joined S s n said =
      ap (reached enough S) is ∙ passed_is enough S why (joined S s n does) may_go ∙ sym (ap (joined S s n) same) in
      record { found = f; allowed = may; answer = told ∙ sym (ap (λ (u : Turn). u.answer) whole); next = end ∙ sym (ap (λ (u : Turn). u.next) whole) }
