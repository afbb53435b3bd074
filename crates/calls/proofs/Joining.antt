-- What a call makes of a group, by what it makes of one server. Assumes nothing.
use Rattle.std.proofs.Common.{◌≡◌, ℕ, true, Some, None, Option, sym, refl, ap, ◌∙◌, ap₂}
use Rattle.terms.specs.declared.refusal.Refusal.{Refusal}
use Rattle.message.specs.Meanings.{Meaning}
use Rattle.rules.specs.State.{State}
use Rattle.rules.specs.Turns.{Answer, Turn, turn, unless}
use Rattle.rules.specs.Writing.{put}
use Rattle.steps.specs.Local.{Local, local, refused_or}
use Rattle.group.proofs.Places.{put_self}
use Rattle.calls.specs.News.{spread_news, HasRoom}

-- the server s of n answers, becomes another, and tells its news
abbrev pub joined : State → ℕ → ℕ → Local → Turn
joined S s n q = turn q.answer (put S s q.next (spread_news S.lanes s n q.news))

-- nothing changes
pub joined_same : (S : State) (s n : ℕ) (a : Answer) → turn a S ≡ joined S s n (local a (S.servers s) None)
joined_same S s n a = ap (turn a) (sym (put_self S s))

-- a refusal, or what the server does
pub joined_unless : (S : State) (s n : ℕ) (why : Option Refusal) (t : Turn) (q : Local) → t ≡ joined S s n q → unless why S t ≡ joined S s n (refused_or why (S.servers s) q)
joined_unless S s n None t q e = e
joined_unless S s n (Some r) t q e = joined_same S s n _

-- free lanes have room for any news
pub free_room : (m : Option Meaning) → HasRoom m true
free_room None = tt
free_room (Some m) = refl

-- equal arguments
pub same_five : {A B C D E R : Type 0} (f : A → B → C → D → E → R) {a a' : A} {b b' : B} {c c' : C} {d d' : D} {e e' : E} → a ≡ a' → b ≡ b' → c ≡ c' → d ≡ d' → e ≡ e' → f a b c d e ≡ f a' b' c' d' e'
same_five {A} {B} {C} {D} {E} f {a} {a'} {b} {b'} {c} {c'} {d} {d'} {e} {e'} ea eb ec ed ee =
    ap₂ (λ (x : A) (y : B). f x y c d e) ea eb ∙ ap₂ (λ (x : C) (y : D). f a' b' x y e) ec ed ∙ ap (f a' b' c' d') ee
