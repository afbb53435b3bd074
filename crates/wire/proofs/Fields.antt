-- Opaque data and counted lists, there and back. Assumes nothing.
use Rattle.std.proofs.Common.{◌≡◌, ℕ, zero, suc, ◌-◌, ◌*◌, ◌<◌, ◌≤◌, true, List, [], ◌∷◌, ◌++◌, length, take, drop, replicate, Ok, Result, sym, refl, ap, ◌∙◌, append_assoc, add-mul, one-mul, arith, length-append}
use Rattle.std.proofs.lemmas.List.{take_at, drop_at, length-replicate, length-take-le}
use Rattle.std.proofs.lemmas.List.Edits.{split_between, length-between}
use Rattle.std.proofs.lemmas.Bool.{le-ltb, ltb-false, leb-true, and_parts, eqb-true, cond-true, cond-false}
use Rattle.std.specs.List.{between as part, flat_map}
use Rattle.terms.specs.Limits.{min_cells, max_cells}
use Rattle.message.specs.Ranges.{between, cells_ok}
use Rattle.wire.specs.declared.faults.FieldFault.{FieldFault}
use Rattle.wire.specs.Reading.{number, opaque, opaque_of, counted, items_of, zeros, start}
use Rattle.wire.specs.Writing.{opaque_bytes, counted_bytes}
use Rattle.wire.specs.Words.{Bytes, four, padded}
use Rattle.wire.proofs.Codec.{Codec, number_codec, ok_same, cond_ok, cond_then, many_there, many_back, Each, seq_there, seq_back}

zeros_replicate : (n : ℕ) → zeros (replicate n 0) ≡ true
zeros_replicate zero = refl
zeros_replicate (suc n) = zeros_replicate n

replicate_zeros : (l : List ℕ) → zeros l ≡ true → l ≡ replicate (length l) 0
replicate_zeros [] h = refl
replicate_zeros (x ∷ l) h = let p = and_parts _ _ h in λ i. eqb-true x 0 p.0 i ∷ replicate_zeros l p.1 i

padded_le : (n : ℕ) → n ≤ padded n
padded_le n = omega arith

abbrev GoodCells : List ℕ → Type 0
GoodCells v = cells_ok v ≡ true

module _ (o : ℕ) (v ys : List ℕ) (h : GoodCells v) where
  there : opaque_of o (length v) ((v ++ replicate (padded (length v) - length v) 0) ++ ys) ≡ Ok (v, ys)
  there =
      let n : ℕ = length v in
      let r : List ℕ = replicate (padded n - n) 0 in
      let le = padded_le n in
      let lr : length r ≡ padded n - n = length-replicate _ 0 in
      let lv : length (v ++ r) ≡ padded n = length-append v r ∙ omega arith in
      let room : padded n ≤ length ((v ++ r) ++ ys) = omega (arith, length-append (v ++ r) ys) in
      let tail : drop n ((v ++ r) ++ ys) ≡ r ++ ys = ap (drop n) (append_assoc v r ys) ∙ drop_at v (r ++ ys) n refl in
      let mid : part n (padded n) ((v ++ r) ++ ys) ≡ r = ap (take (padded n - n)) tail ∙ take_at r ys (padded n - n) lr in
      let front : take n ((v ++ r) ++ ys) ≡ v = ap (take n) (append_assoc v r ys) ∙ take_at v (r ++ ys) n refl in
      let back : drop (padded n) ((v ++ r) ++ ys) ≡ ys = drop_at (v ++ r) ys (padded n) lv in
      cond-false _ _ _ (le-ltb _ _ room)
      ∙ cond-true _ _ _ h
      ∙ cond-true _ _ _ (ap zeros mid ∙ zeros_replicate (padded n - n))
      ∙ (λ i. Ok (front i, back i))

opaque_there : (e : ℕ) (v ys : List ℕ) → GoodCells v → opaque e (opaque_bytes v ++ ys) ≡ Ok (v, ys)
opaque_there e v ys h =
    let high : length v ≤ max_cells = leb-true _ _ (and_parts _ _ h).1 in
    seq_there number four _ number_codec e (opaque_of (start e (opaque_bytes v ++ ys))) (length v) (v ++ replicate (padded (length v) - length v) 0) ys (omega arith)
    ∙ there (start e (opaque_bytes v ++ ys)) v ys h

opaque_back : (e : ℕ) (xs v ys : List ℕ) → Bytes xs → opaque e xs ≡ Ok (v, ys) → (xs ≡ opaque_bytes v ++ ys) × GoodCells v
opaque_back e xs v ys h is =
    let p = seq_back number four _ number_codec e (opaque_of (start e xs)) xs (v, ys) h is in
    let n : ℕ = p.0 in
    let l : List ℕ = p.1 in
    let b = cond_ok _ _ _ _ _ refl p.5 in
    let a = cond_then _ _ _ _ _ refl b.1 in
    let c = cond_then _ _ _ _ _ refl a.1 in
    let z = ok_same c.1 in
    let le = padded_le n in
    let room : padded n ≤ length l = ltb-false _ _ b.0 in
    let long : length (take n l) ≡ n = length-take-le n l (omega arith) in
    let mid : part n (padded n) l ≡ replicate (padded n - n) 0 = replicate_zeros _ c.0 ∙ ap (λ k. replicate k 0) (length-between l n (padded n) room) in
    let all : l ≡ (take n l ++ replicate (padded n - n) 0) ++ drop (padded n) l = split_between l n (padded n) le ∙ ap (λ m. take n l ++ (m ++ drop (padded n) l)) mid ∙ sym (append_assoc (take n l) _ (drop (padded n) l)) in
    let same : four n ++ ((take n l ++ replicate (padded n - n) 0) ++ drop (padded n) l) ≡ opaque_bytes (take n l) ++ drop (padded n) l = ap (λ k. four k ++ ((take n l ++ replicate (padded k - k) 0) ++ drop (padded n) l)) (sym long) in
    (p.2 ∙ ap (λ m. four n ++ m) all ∙ same ∙ (λ i. opaque_bytes (z i).0 ++ (z i).1), ap (λ k. between min_cells max_cells k) (ap length (λ i. (sym z i).0) ∙ long) ∙ a.0)

pub opaque_codec : Codec opaque opaque_bytes GoodCells
opaque_codec = record { there = opaque_there; back = opaque_back }

module _ {A : Type 0} (low high size : ℕ) (f : ℕ → List ℕ → Result (A × List ℕ) FieldFault) (enc : A → List ℕ) (good : A → Type 0) (c : Codec f enc good) (small : high < 4294967296) (sized : (x : A) → length (enc x) ≡ size) where
  abbrev pub GoodList : List A → Type 0
  GoodList l = (between low high (length l) ≡ true) × Each f enc good c l

  long : (l : List A) → length (flat_map enc l) ≡ length l * size
  long [] = omega arith
  long (x ∷ l) = length-append (enc x) (flat_map enc l) ∙ omega (arith, sized x, long l, add-mul 1 (length l) size, one-mul size)

  counted_there : (e : ℕ) (l : List A) (ys : List ℕ) → GoodList l → counted low high size f e (counted_bytes enc l ++ ys) ≡ Ok (l, ys)
  counted_there e l ys h =
      let most : length l ≤ high = leb-true _ _ (and_parts _ _ h.0).1 in
      let room : length l * size ≤ length (flat_map enc l ++ ys) = omega (arith, length-append (flat_map enc l) ys, long l) in
      seq_there number four _ number_codec e (items_of low high size f e (start e (counted_bytes enc l ++ ys))) (length l) (flat_map enc l) ys (omega arith)
      ∙ cond-false _ _ _ (le-ltb _ _ room)
      ∙ cond-true _ _ _ h.0
      ∙ many_there f enc good c e l ys h.1

  counted_back : (e : ℕ) (xs : List ℕ) (l : List A) (ys : List ℕ) → Bytes xs → counted low high size f e xs ≡ Ok (l, ys) → (xs ≡ counted_bytes enc l ++ ys) × GoodList l
  counted_back e xs l ys h is =
      let p = seq_back number four _ number_codec e (items_of low high size f e (start e xs)) xs (l, ys) h is in
      let b = cond_ok _ _ _ _ _ refl p.5 in
      let a = cond_then _ _ _ _ _ refl b.1 in
      let m = many_back f enc good c e p.0 p.1 l ys p.4 a.1 in
      (p.2 ∙ (λ i. four (sym m.2 i) ++ m.0 i), (ap (λ k. between low high k) m.2 ∙ a.0, m.1))

  pub counted_codec : Codec (counted low high size f) (counted_bytes enc) GoodList
  counted_codec = record { there = counted_there; back = counted_back }
