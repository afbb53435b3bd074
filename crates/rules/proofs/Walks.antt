-- Along a lane: what is appended, what is taken.
use Rattle.std.proofs.Common.{◌≡◌, ℕ, ◌≤◌, ◌⊎◌, List, [], ◌∷◌, ◌++◌, refl, ap, ◌∙◌, inl, inr, ⊎_elim, arith}
use Rattle.rules.proofs.RankedMessages.{Message}
use Rattle.rules.proofs.Core.{heard, after, Chain, On}

-- the last of a chain
pub chain_after : (x c : ℕ) (ms : List Message) (o : ℕ) → Chain x c ms o → after x c ms ≡ o
chain_after x c [] o h = h
chain_after x c (m ∷ ms) o h = chain_after x (heard x c m) ms o h.1

pub chain_le : (x c : ℕ) (ms : List Message) (o : ℕ) → Chain x c ms o → c ≤ o
chain_le x c [] o h = omega arith
chain_le x c (m ∷ ms) o h = let e = chain_le x (heard x c m) ms o h.1 in omega arith

-- from the front to a place
pub front_le : (x c : ℕ) (pre post : List Message) (o : ℕ) → Chain x c (pre ++ post) o → c ≤ after x c pre
front_le x c [] post o h = omega arith
front_le x c (m ∷ pre) post o h = let e = front_le x (heard x c m) pre post o h.1 in omega arith

pub chain_push : (x c : ℕ) (ms : List Message) (o : ℕ) (m : Message) (p : ℕ) → Chain x c ms o → heard x o m ≡ p → o ≤ p → Chain x c (ms ++ m ∷ []) p
chain_push x c [] o m p h e le =
    let g : heard x c m ≡ p = ap (λ z. heard x z m) h ∙ e in
    (omega arith, g)
chain_push x c (d ∷ ms) o m p h e le = (h.0, chain_push x (heard x c d) ms o m p h.1 e le)

pub on_front : (x c : ℕ) (ms : List Message) → On x c ms c
on_front x c [] = refl
on_front x c (m ∷ ms) = inl refl

pub on_le : (x c : ℕ) (ms : List Message) (o u : ℕ) → Chain x c ms o → On x c ms u → u ≤ o
on_le x c [] o u h on = omega arith
on_le x c (m ∷ ms) o u h (inl e) = let l = chain_le x c (m ∷ ms) o h in omega arith
on_le x c (m ∷ ms) o u h (inr on) = on_le x (heard x c m) ms o u h.1 on

pub on_push : (x c : ℕ) (ms : List Message) (o : ℕ) (m : Message) (u : ℕ) → Chain x c ms o → On x c (ms ++ m ∷ []) u → On x c ms u ⊎ (u ≡ heard x o m)
on_push x c [] o m u h (inl e) = inl e
on_push x c [] o m u h (inr e) = inr (e ∙ ap (λ z. heard x z m) h)
on_push x c (d ∷ ms) o m u h (inl e) = inl (inl e)
on_push x c (d ∷ ms) o m u h (inr on) = ⊎_elim (λ e. inl (inr e)) (λ e. inr e) (on_push x (heard x c d) ms o m u h.1 on)

-- a place in a lane with one message more
pub data Place (ms : List Message) (m : Message) (pre : List Message) (z : Message) : Type 0 where
  before : (post : List Message) → ms ≡ pre ++ z ∷ post → Place ms m pre z
  here : ms ≡ pre → m ≡ z → Place ms m pre z

place_next : (d e : Message) (ms : List Message) (m : Message) (pre : List Message) (z : Message) → d ≡ e → Place ms m pre z → Place (d ∷ ms) m (e ∷ pre) z
place_next d e ms m pre z q (before post h) = before post (cc)
place_next d e ms m pre z q (here h g) = here (cc) g

nil_cons : (z : Message) (ms : List Message) → ◌≡◌ {A = List Message} [] (z ∷ ms) → ⊥
nil_cons z ms e = let q : ◌≡◌ {A = ℕ} 0 1 = cc in omega arith

pub place : (ms : List Message) (m : Message) (pre : List Message) (z : Message) (post : List Message) → ms ++ m ∷ [] ≡ pre ++ z ∷ post → Place ms m pre z
place [] m [] z post h = here refl (cc)
place [] m (e ∷ []) z post h = absurd (nil_cons z post (cc))
place [] m (e ∷ f ∷ pre) z post h = absurd (nil_cons f (pre ++ z ∷ post) (cc))
place (d ∷ ms) m [] z post h = before ms (cc)
place (d ∷ ms) m (e ∷ pre) z post h = place_next d e ms m pre z (cc) (place ms m pre z post (cc))
