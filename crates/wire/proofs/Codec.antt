-- Readers that undo writers, and all that they undo. Assumes nothing.
use Rattle.std.proofs.Common.{◌≡◌, ℕ, zero, suc, ◌+◌, ◌*◌, ◌/◌, ◌%◌, ◌<◌, ◌≤◌, Bool, true, false, cond, List, [], ◌∷◌, ◌++◌, length, Ok, Err, Result, sym, refl, ap, ◌∙◌, subst, append_assoc, mod-eq_of_lt, arith}
use native.Mathlib.Nat.{div-div-eq-div-mul}
use Rattle.std.proofs.lemmas.Nat.{div_below, div-add-mod'}
use Rattle.std.proofs.lemmas.Bool.{le-ltb, cond-true, cond-false}
use Rattle.std.specs.List.{flat_map}
use Rattle.message.specs.declared.tag.Tag.{Tag}
use Rattle.wire.specs.declared.faults.FieldFault.{FieldFault}
use Rattle.wire.specs.Reading.{bind, number, tag, many, ranged, checked, up, start}
use Rattle.wire.specs.Words.{Bytes, big, four}
use Rattle.wire.specs.Writing.{tag_bytes}

pub ok_same : {A F : Type 0} {x y : A} → ◌≡◌ {A = Result A F} (Ok x) (Ok y) → x ≡ y
ok_same e = cc

pub ok_err : {A F X : Type 0} {x : A} {f : F} → ◌≡◌ {A = Result A F} (Err f) (Ok x) → X
ok_err e = let z : ◌≡◌ {A = ℕ} 0 1 = cc in absurd (omega arith)

pub bytes_after : (xs ys : List ℕ) → Bytes (xs ++ ys) → Bytes ys
bytes_after [] ys b = b
bytes_after (x ∷ xs) ys b = bytes_after xs ys b.1

pub record Codec {A F : Type 0} (f : ℕ → List ℕ → Result (A × List ℕ) F) (enc : A → List ℕ) (good : A → Type 0) : Type 0 where
  pub there : (e : ℕ) (x : A) (ys : List ℕ) → good x → f e (enc x ++ ys) ≡ Ok (x, ys)
  pub back : (e : ℕ) (xs : List ℕ) (x : A) (ys : List ℕ) → Bytes xs → f e xs ≡ Ok (x, ys) → (xs ≡ enc x ++ ys) × good x

glue : (n q r s t u v : ℕ) → q * 256 + t ≡ n → r * 256 + u ≡ q → s * 256 + v ≡ r → s * 16777216 + v * 65536 + u * 256 + t ≡ n
glue n q r s t u v x y z = omega arith

pub big_four : (n : ℕ) → n < 4294967296 → big (n / 16777216 % 256) (n / 65536 % 256) (n / 256 % 256) (n % 256) ≡ n
big_four n h =
    let top : n / 16777216 < 256 = div_below n 16777216 256 (omega arith) h in
    let second : n / 65536 * 256 + n / 256 % 256 ≡ n / 256 = ap (λ k. k * 256 + n / 256 % 256) (sym (div-div-eq-div-mul n 256 256)) ∙ div-add-mod' (n / 256) 256 in
    let third : n / 16777216 * 256 + n / 65536 % 256 ≡ n / 65536 = ap (λ k. k * 256 + n / 65536 % 256) (sym (div-div-eq-div-mul n 65536 256)) ∙ div-add-mod' (n / 65536) 256 in
    ap (λ k. k * 16777216 + n / 65536 % 256 * 65536 + n / 256 % 256 * 256 + n % 256) (mod-eq_of_lt top)
    ∙ glue n (n / 256) (n / 65536) (n / 16777216) (n % 256) (n / 256 % 256) (n / 65536 % 256) (div-add-mod' n 256) second third

module _ (a b c d : ℕ) (ha : a < 256) (hb : b < 256) (hc : c < 256) (hd : d < 256) where
  pub digit_a : a ≡ big a b c d / 16777216 % 256
  digit_a = omega arith

  pub digit_b : b ≡ big a b c d / 65536 % 256
  digit_b = omega arith

  pub digit_c : c ≡ big a b c d / 256 % 256
  digit_c = omega arith

  pub digit_d : d ≡ big a b c d % 256
  digit_d = omega arith

  pub four_big : (ys : List ℕ) → a ∷ b ∷ c ∷ d ∷ ys ≡ four (big a b c d) ++ ys
  four_big ys = λ i. digit_a i ∷ digit_b i ∷ digit_c i ∷ digit_d i ∷ ys

  pub big_below : big a b c d < 4294967296
  big_below = omega arith

number_back : (e : ℕ) (xs : List ℕ) (x : ℕ) (ys : List ℕ) → Bytes xs → number e xs ≡ Ok (x, ys) → (xs ≡ four x ++ ys) × (x < 4294967296)
number_back e [] x ys h is = ok_err is
number_back e (a ∷ []) x ys h is = ok_err is
number_back e (a ∷ b ∷ []) x ys h is = ok_err is
number_back e (a ∷ b ∷ c ∷ []) x ys h is = ok_err is
number_back e (a ∷ b ∷ c ∷ d ∷ zs) x ys h is =
    let p = ok_same is in
    (four_big a b c d h.0 h.1.0 h.1.1.0 h.1.1.1.0 zs ∙ (λ i. four (p i).0 ++ (p i).1), subst (λ n. n < 4294967296) (λ i. (p i).0) (big_below a b c d h.0 h.1.0 h.1.1.0 h.1.1.1.0))

pub number_codec : Codec number four (λ n. n < 4294967296)
number_codec = record { there = λ e x ys h. ap (λ n. Ok (n, ys)) (big_four x h); back = number_back }

pub four_bytes : (n : ℕ) (ys : List ℕ) → Bytes ys → Bytes (four n ++ ys)
four_bytes n ys h = (omega arith, (omega arith, (omega arith, (omega arith, h))))

-- what a sequence of two readers answers
pub bind_ok : {A B F : Type 0} (r : Result (A × List ℕ) F) (k : A → List ℕ → Result (B × List ℕ) F) (q : B × List ℕ) → bind r k ≡ Ok q → (x : A) × (ys : List ℕ) × (r ≡ Ok (x, ys)) × (k x ys ≡ Ok q)
bind_ok (Ok p) k q is = (p.0, p.1, refl, is)
bind_ok (Err f) k q is = ok_err is

-- a test within a reader
pub cond_ok : {A F : Type 0} (b : Bool) (r s : Result A F) (q : A) (f : F) → r ≡ Err f → cond b r s ≡ Ok q → (b ≡ false) × (s ≡ Ok q)
cond_ok true r s q f bad is = ok_err (sym bad ∙ is)
cond_ok false r s q f bad is = (refl, is)

pub cond_then : {A F : Type 0} (b : Bool) (r s : Result A F) (q : A) (f : F) → s ≡ Err f → cond b r s ≡ Ok q → (b ≡ true) × (r ≡ Ok q)
cond_then true r s q f bad is = (refl, is)
cond_then false r s q f bad is = ok_err (sym bad ∙ is)

abbrev pub Numbered : Tag → Type 0
Numbered t = (t.height < 4294967296) × (t.server < 4294967296)

tag_there : (e : ℕ) (t : Tag) (ys : List ℕ) → Numbered t → tag e (tag_bytes t ++ ys) ≡ Ok (t, ys)
tag_there e t ys h =
    let long : 8 ≤ length (tag_bytes t ++ ys) = omega arith in
    cond-false _ _ _ (le-ltb _ _ long)
    ∙ (λ i. Ok (record { height = big_four t.height h.0 i; server = big_four t.server h.1 i }, ys))

tag_back : (e : ℕ) (xs : List ℕ) (t : Tag) (ys : List ℕ) → Bytes xs → tag e xs ≡ Ok (t, ys) → (xs ≡ tag_bytes t ++ ys) × Numbered t
tag_back e xs t ys h is =
    let c = cond_ok _ _ _ _ _ refl is in
    let p = bind_ok _ _ _ c.1 in
    let q = bind_ok _ _ _ p.3 in
    let a = number_codec.back e xs p.0 p.1 h p.2 in
    let b = number_codec.back e p.1 q.0 q.1 (bytes_after (four p.0) p.1 (subst Bytes a.0 h)) q.2 in
    let z = ok_same q.3 in
    (a.0 ∙ ap (λ l. four p.0 ++ l) b.0 ∙ (λ i. tag_bytes (z i).0 ++ (z i).1), subst Numbered (λ i. (z i).0) (a.1, b.1))

pub tag_codec : Codec tag tag_bytes Numbered
tag_codec = record { there = tag_there; back = tag_back }

inverse : {A : Type 0} (test : A → Bool) (o : ℕ) (r : Result (A × List ℕ) FieldFault) (q : A × List ℕ) → checked test o r ≡ Ok q → (r ≡ Ok q) × (test q.0 ≡ true)
inverse test o (Ok p) q is =
    let t = cond_then (test p.0) _ _ _ _ refl is in
    let z = ok_same t.1 in
    (ap Ok z, ap (λ y. test y.0) (sym z) ∙ t.0)
inverse test o (Err g) q is = ok_err is

downed : {A : Type 0} (r : Result A FieldFault) (q : A) → up r ≡ Ok q → r ≡ Ok q
downed (Ok p) q is = ap Ok (ok_same is)
downed (Err g) q is = ok_err is

pub ranged_codec : {A : Type 0} (f : ℕ → List ℕ → Result (A × List ℕ) FieldFault) (enc : A → List ℕ) (good : A → Type 0) (test : A → Bool) → Codec f enc good → ((x : A) → test x ≡ true → good x) → Codec (ranged test f) enc (λ x. test x ≡ true)
ranged_codec f enc good test c fits = record {
  there = λ e x ys h. ap (λ r. checked test (start e (enc x ++ ys)) r) (c.there e x ys (fits x h)) ∙ cond-true _ _ _ h;
  back = λ e xs x ys h is. let p = inverse test (start e xs) (f e xs) (x, ys) is in ((c.back e xs x ys h p.0).0, p.1);
}

pub up_codec : {A : Type 0} (f : ℕ → List ℕ → Result (A × List ℕ) FieldFault) (enc : A → List ℕ) (good : A → Type 0) → Codec f enc good → Codec (λ e xs. up (f e xs)) enc good
up_codec f enc good c = record {
  there = λ e x ys h. ap up (c.there e x ys h);
  back = λ e xs x ys h is. c.back e xs x ys h (downed (f e xs) (x, ys) is);
}

module _ {A F : Type 0} (f : ℕ → List ℕ → Result (A × List ℕ) F) (enc : A → List ℕ) (good : A → Type 0) (c : Codec f enc good) where
  abbrev pub Each : List A → Type 0
  Each [] = Unit {0}
  Each (x ∷ xs) = good x × Each xs

  pub many_there : (e : ℕ) (l : List A) (ys : List ℕ) → Each l → many f e (length l) (flat_map enc l ++ ys) ≡ Ok (l, ys)
  many_there e [] ys h = refl
  many_there e (x ∷ l) ys h =
      ap (λ zs. many f e (suc (length l)) zs) (append_assoc (enc x) (flat_map enc l) ys)
      ∙ ap (λ r. bind r (λ x ys. bind (many f e (length l) ys) (λ more zs. Ok (x ∷ more, zs)))) (c.there e x (flat_map enc l ++ ys) h.0)
      ∙ ap (λ r. bind r (λ more zs. Ok (x ∷ more, zs))) (many_there e l ys h.1)

  pub many_back : (e n : ℕ) (xs : List ℕ) (l : List A) (ys : List ℕ) → Bytes xs → many f e n xs ≡ Ok (l, ys) → (xs ≡ flat_map enc l ++ ys) × Each l × (length l ≡ n)
  many_back e zero xs l ys h is =
      let z = ok_same is in
      ((λ i. flat_map enc (z i).0 ++ (z i).1), subst Each (λ i. (z i).0) tt, ap length (λ i. (sym z i).0))
  many_back e (suc n) xs l ys h is =
      let p = bind_ok _ _ _ is in
      let q = bind_ok _ _ _ p.3 in
      let a = c.back e xs p.0 p.1 h p.2 in
      let b = many_back e n p.1 q.0 q.1 (bytes_after (enc p.0) p.1 (subst Bytes a.0 h)) q.2 in
      let z = ok_same q.3 in
      (a.0 ∙ ap (λ l. enc p.0 ++ l) b.0 ∙ sym (append_assoc (enc p.0) (flat_map enc q.0) q.1) ∙ (λ i. flat_map enc (z i).0 ++ (z i).1), subst Each (λ i. (z i).0) (a.1, b.1), ap length (λ i. (sym z i).0) ∙ ap suc b.2)

module _ {A B F : Type 0} (f : ℕ → List ℕ → Result (A × List ℕ) F) (enc : A → List ℕ) (good : A → Type 0) (c : Codec f enc good) (e : ℕ) (k : A → List ℕ → Result (B × List ℕ) F) where
  -- one of several fields, and the last one
  pub seq_there : (x : A) (more ys : List ℕ) → good x → bind (f e ((enc x ++ more) ++ ys)) k ≡ k x (more ++ ys)
  seq_there x more ys h = ap (λ l. bind (f e l) k) (append_assoc (enc x) more ys) ∙ ap (λ r. bind r k) (c.there e x (more ++ ys) h)

  pub last_there : (x : A) (ys : List ℕ) → good x → bind (f e (enc x ++ ys)) k ≡ k x ys
  last_there x ys h = ap (λ r. bind r k) (c.there e x ys h)

  pub seq_back : (xs : List ℕ) (q : B × List ℕ) → Bytes xs → bind (f e xs) k ≡ Ok q → (x : A) × (ys : List ℕ) × (xs ≡ enc x ++ ys) × good x × Bytes ys × (k x ys ≡ Ok q)
  seq_back xs q h is =
      let p = bind_ok _ _ _ is in
      let a = c.back e xs p.0 p.1 h p.2 in
      (p.0, p.1, a.0, a.1, bytes_after (enc p.0) p.1 (subst Bytes a.0 h), p.3)
