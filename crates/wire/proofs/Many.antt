-- A loop that reads items one behind another. Assumes nothing.
use Rattle.std.proofs.Common.{◌≡◌, ℕ, suc, ◌+◌, ◌-◌, ◌*◌, ◌<◌, ◌≤◌, List, [], ◌∷◌, ◌++◌, length, Ok, Err, Result, sym, refl, ap, ◌∙◌, append_assoc, append-nil, arith, true, subst, is_le, nat_cmp}
use Rattle.std.proofs.lemmas.Bool.{le-ltb, le-leb, and_from, cond-true, cond-false}
use Rattle.wire.specs.declared.faults.FieldFault.{FieldFault}
use Rattle.wire.specs.Reading.{bind, many, counted, items_of, number, start}

-- what is read so far, and then `more`
abbrev pub after : {A F : Type 0} → List A → Result (List A × List ℕ) F → Result (List A × List ℕ) F
after done r = bind r (λ more zs. Ok (done ++ more, zs))

module _ {A F : Type 0} (f : ℕ → List ℕ → Result (A × List ℕ) F) (e n i : ℕ) (xs : List ℕ) (done : List A) (whole : Result (List A × List ℕ) F) (inv : whole ≡ after done (many f e (n - i) xs)) where
  rejoin : (x : A) (r : Result (List A × List ℕ) F) → after done (bind r (λ more zs. Ok (x ∷ more, zs))) ≡ after (done ++ x ∷ []) r
  rejoin x (Ok p) = ap (λ l. Ok (l, p.1)) (sym (append_assoc done (x ∷ []) p.0))
  rejoin x (Err g) = refl

  left : i < n → many f e (n - i) xs ≡ bind (f e xs) (λ x ys. bind (many f e (n - (i + 1)) ys) (λ more zs. Ok (x ∷ more, zs)))
  left h = let one : n - i ≡ suc (n - (i + 1)) = omega arith in ap (λ k. many f e k xs) one

  -- e' and done' are e and what is read, as the code has them
  pub many_next : i < n → (e' : ℕ) → e' ≡ e → (x : A) (ys : List ℕ) → f e' xs ≡ Ok (x, ys) → (done' : List A) → done' ≡ done ++ x ∷ [] → whole ≡ after done' (many f e (n - (i + 1)) ys)
  many_next h e' same x ys is done' more =
      inv
      ∙ ap (after done) (left h ∙ ap (λ r. bind r (λ x ys. bind (many f e (n - (i + 1)) ys) (λ more zs. Ok (x ∷ more, zs)))) (ap (λ k. f k xs) (sym same) ∙ is))
      ∙ rejoin x (many f e (n - (i + 1)) ys)
      ∙ ap (λ l. after l (many f e (n - (i + 1)) ys)) (sym more)

  pub many_stop : i < n → (e' : ℕ) → e' ≡ e → (g : F) → f e' xs ≡ Err g → whole ≡ Err g
  many_stop h e' same g is = inv ∙ ap (after done) (left h ∙ ap (λ r. bind r (λ x ys. bind (many f e (n - (i + 1)) ys) (λ more zs. Ok (x ∷ more, zs)))) (ap (λ k. f k xs) (sym same) ∙ is))

  pub many_done : n ≤ i → whole ≡ Ok (done, xs)
  many_done h = let none : n - i ≡ 0 = omega arith in inv ∙ ap (λ k. after done (many f e k xs)) none ∙ ap (λ l. Ok (l, xs)) (append-nil done)

pub counted_is : {A : Type 0} (low high size : ℕ) (f : ℕ → List ℕ → Result (A × List ℕ) FieldFault) (e n : ℕ) (xs ys : List ℕ) → number e xs ≡ Ok (n, ys) → n * size ≤ length ys → low ≤ n → n ≤ high → (e' : ℕ) → e' ≡ e → counted low high size f e xs ≡ many f e' n ys
counted_is low high size f e n xs ys is room l h e' same =
    ap (λ r. bind r (items_of low high size f e (start e xs))) is
    ∙ cond-false _ _ _ (le-ltb _ _ room)
    ∙ cond-true _ _ _ (and_from _ _ (le-leb _ _ l) (le-leb _ _ h))
    ∙ ap (λ k. many f k n ys) (sym same)

-- what the tests of the code say
pub within : (a b n low high : ℕ) → is_le (nat_cmp a n) ≡ true → is_le (nat_cmp n b) ≡ true → a ≡ low → b ≡ high → (low ≤ n) × (n ≤ high)
within a b n low high x y p q = (grind arith, grind arith)

pub room_of : (n s size long : ℕ) → n * s ≤ long → s ≡ size → n * size ≤ long
room_of n s size long h is = subst (λ k. n * k ≤ long) is h
