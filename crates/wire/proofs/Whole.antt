-- Reading undoes writing. Assumes nothing.
use Rattle.std.proofs.Common.{◌≡◌, ℕ, zero, suc, ◌+◌, ◌-◌, ◌*◌, ◌/◌, ◌%◌, ◌<◌, ◌≤◌, true, ◌&&◌, leb, List, [], ◌∷◌, ◌++◌, length, get_or, take, drop, replicate, Ok, Err, Result, sym, refl, ap, ◌∙◌, subst, append-nil, add-mul, one-mul, add-one, arith, length-append}
use Rattle.std.proofs.lemmas.List.{take_at, take-append-drop, length-take-le, length-replicate, nil_from_length}
use Rattle.std.proofs.lemmas.Bool.{leb-true, le-ltb, ltb-false, and_parts, eqb-true, cond-false}
use Rattle.std.specs.List.{flat_map, list_all}
use Rattle.message.specs.declared.tag.Tag.{Tag}
use Rattle.message.specs.Meanings.{Meaning, meaning, write_notice, tag_notice, question, plain_reply, coded_reply}
use Rattle.terms.specs.Limits.{min_cells, max_cells, min_servers, max_servers, min_objects, max_objects, max_body_bytes}
use Rattle.message.specs.Ranges.{in_range, between, object_ok, height_ok, read_ok, count_ok, tag_ok, cells_ok, clock_ok, tags_ok}
use Rattle.wire.specs.declared.faults.MarkFault.{MarkFault}
use Rattle.wire.specs.declared.faults.MessageFault.{MessageFault}
use Rattle.wire.specs.Reading.{mark, marked_off, body, finish, reading, reading_of, ReadAs}
use Rattle.wire.specs.Writing.{tag_bytes, opaque_bytes, counted_bytes, body_bytes, marked, encode}
use Rattle.wire.specs.Exact.{Written, Tells}
use Rattle.message.specs.declared.kinds.Message.{Message}
use Rattle.wire.proofs.Codec.{ok_same, ok_err, big_four, four_big, cond_ok, cond_then, bytes_after}
use Rattle.wire.specs.Words.{Bytes, big, four, padded, last_fragment}
use Rattle.wire.proofs.Bodies.{body_there, body_back}

-- how long a body is

pub joined_long : {A : Type 0} (f : A → List ℕ) (size : ℕ) → ((x : A) → length (f x) ≡ size) → (l : List A) (n : ℕ) → length l ≤ n → length (flat_map f l) ≤ n * size
joined_long f size each [] n h = omega arith
joined_long f size each (x ∷ l) zero h = absurd (omega arith)
joined_long f size each (x ∷ l) (suc n) h =
    let less : length l ≤ n = omega arith in
    omega (arith, length-append (f x) (flat_map f l), each x, joined_long f size each l n less, add-mul n 1 size, one-mul size, add-one n)

opaque_long : (v : List ℕ) → length v ≤ max_cells → length (opaque_bytes v) ≤ 4 + padded max_cells
opaque_long v h = omega (arith, length-append v (replicate (padded (length v) - length v) 0), length-replicate {A = ℕ} (padded (length v) - length v) 0)

value_long : (v : List ℕ) → cells_ok v ≡ true → length v ≤ max_cells
value_long v h = leb-true _ _ (and_parts (leb min_cells (length v)) (leb (length v) max_cells) h).1

clock_long : (c : List ℕ) → clock_ok c ≡ true → length c ≤ max_servers
clock_long c h = leb-true _ _ (and_parts (leb min_servers (length c)) (leb (length c) max_servers) (and_parts (between min_servers max_servers (length c)) (list_all count_ok c) h).0).1

tags_long : (ts : List Tag) → tags_ok ts ≡ true → length ts ≤ max_objects
tags_long ts h = leb-true _ _ (and_parts (leb min_objects (length ts)) (leb (length ts) max_objects) (and_parts (between min_objects max_objects (length ts)) (list_all tag_ok ts) h).0).1

pub short : (m : Meaning) → in_range m ≡ true → length (body_bytes m) ≤ max_body_bytes
short (write_notice o v k c) h =
    let p = and_parts (object_ok o && cells_ok v && height_ok k) (clock_ok c) h in
    let r = and_parts (object_ok o) (cells_ok v) (and_parts (object_ok o && cells_ok v) (height_ok k) p.0).0 in
    omega (arith, length-append (opaque_bytes v) (four k ++ counted_bytes four c), opaque_long v (value_long v r.1), joined_long four 4 (λ x. refl) c max_servers (clock_long c p.1))
short (tag_notice o t) h = omega arith
short (question i o ts) h =
    omega (arith, joined_long tag_bytes 8 (λ x. refl) ts max_objects (tags_long ts (and_parts (read_ok i && object_ok o) (tags_ok ts) h).1))
short (plain_reply i v) h = omega (arith, opaque_long v (value_long v (and_parts (read_ok i) (cells_ok v) h).1))
short (coded_reply i v ts) h =
    let p = and_parts (read_ok i && cells_ok v) (tags_ok ts) h in
    omega (arith, length-append (opaque_bytes v) (counted_bytes tag_bytes ts), opaque_long v (value_long v (and_parts (read_ok i) (cells_ok v) p.0).1), joined_long tag_bytes 8 (λ x. refl) ts max_objects (tags_long ts p.1))

-- the mark

bit : (n a b c d : ℕ) → a * 16777216 + b * 65536 + c * 256 + d ≡ last_fragment + n → n < last_fragment → b < 256 → c < 256 → d < 256 → (128 ≤ a) × (big (a % 128) b c d ≡ n)
bit n a b c d e small hb hc hd = let le : 128 ≤ a = omega arith in (le, omega arith)

mark_there : (xs rest : List ℕ) → length xs ≤ max_body_bytes → mark (marked xs ++ rest) ≡ Ok xs
mark_there xs rest h =
    let n : ℕ = length xs in
    let w : ℕ = last_fragment + n in
    let t = bit n (w / 16777216 % 256) (w / 65536 % 256) (w / 256 % 256) (w % 256) (big_four w (omega arith)) (omega arith) (omega arith) (omega arith) (omega arith) in
    let room : n ≤ length (xs ++ rest) = omega (arith, length-append xs rest) in
    ap (λ k. marked_off (w / 16777216 % 256) k (xs ++ rest)) t.1
    ∙ cond-false _ _ _ (le-ltb _ _ room)
    ∙ cond-false _ _ _ (le-ltb _ _ t.0)
    ∙ ap Ok (take_at xs rest n refl)

mark_back : (bs xs : List ℕ) → Bytes bs → mark bs ≡ Ok xs → (rest : List ℕ) × (bs ≡ four (last_fragment + length xs) ++ (xs ++ rest))
mark_back [] xs h is = ok_err is
mark_back (a ∷ []) xs h is = ok_err is
mark_back (a ∷ b ∷ []) xs h is = ok_err is
mark_back (a ∷ b ∷ c ∷ []) xs h is = ok_err is
mark_back (a ∷ b ∷ c ∷ d ∷ l) xs h is =
    let n : ℕ = big (a % 128) b c d in
    let q = cond_ok _ _ _ _ _ refl is in
    let p = cond_ok _ _ _ _ _ refl q.1 in
    let top : 128 ≤ a = ltb-false _ _ p.0 in
    let room : n ≤ length l = ltb-false _ _ q.0 in
    let z : take n l ≡ xs = ok_same p.1 in
    let long : length xs ≡ n = ap length (sym z) ∙ length-take-le n l room in
    let whole : big a b c d ≡ last_fragment + length xs = omega (arith, long) in
    (drop n l, four_big a b c d h.0 h.1.0 h.1.1.0 h.1.1.1.0 l ∙ (λ i. four (whole i) ++ l) ∙ ap (λ k. four (last_fragment + length xs) ++ k) (sym (take-append-drop n l) ∙ ap (λ k. k ++ drop n l) z))

pub reading_there : (m : Meaning) (rest : List ℕ) → in_range m ≡ true → reading (encode m ++ rest) ≡ Ok (m, length (encode m))
reading_there m rest h =
    let xs : List ℕ = body_bytes m in
    let e : ℕ = length xs + 4 in
    let long : e ≡ length (encode m) = omega arith in
    ap reading_of (mark_there xs rest (short m h))
    ∙ ap (finish e) (ap (body e) (sym (append-nil xs)) ∙ body_there e m [] h)
    ∙ ap (λ k. Ok (m, k)) long

finish_ok : (e : ℕ) (r : Result (Meaning × List ℕ) MessageFault) (m : Meaning) (n : ℕ) → finish e r ≡ Ok (m, n) → (r ≡ Ok (m, [])) × (n ≡ e)
finish_ok e (Ok p) m n is =
    let t = cond_then _ _ _ _ _ refl is in
    let z = ok_same t.1 in
    let none : p.1 ≡ [] = nil_from_length p.1 (eqb-true _ 0 t.0) in
    ((λ i. Ok ((z i).0, none i)), λ i. (sym z i).1)
finish_ok e (Err f) m n is = ok_err is

bytes_before : (xs ys : List ℕ) → Bytes (xs ++ ys) → Bytes xs
bytes_before [] ys b = tt
bytes_before (x ∷ xs) ys b = (b.0, bytes_before xs ys b.1)

reading_of_ok : (bs : List ℕ) (r : Result (List ℕ) MarkFault) (m : Meaning) (n : ℕ) → reading_of r ≡ Ok (m, n) → (xs : List ℕ) × (r ≡ Ok xs) × (finish (length xs + 4) (body (length xs + 4) xs) ≡ Ok (m, n))
reading_of_ok bs (Ok xs) m n is = (xs, refl, is)
reading_of_ok bs (Err f) m n is = ok_err is

pub reading_back : (bs : List ℕ) (m : Meaning) (n : ℕ) → Bytes bs → reading bs ≡ Ok (m, n) → (in_range m ≡ true) × (n ≡ length (encode m)) × ((rest : List ℕ) × (bs ≡ encode m ++ rest))
reading_back bs m n h is =
    let p = reading_of_ok bs (mark bs) m n is in
    let xs : List ℕ = p.0 in
    let k = mark_back bs xs h p.1 in
    let f = finish_ok _ _ m n p.2 in
    let all = bytes_before xs k.0 (bytes_after (four (last_fragment + length xs)) (xs ++ k.0) (subst Bytes k.1 h)) in
    let b = body_back _ xs m [] all f.0 in
    let same : xs ≡ body_bytes m = b.0 ∙ append-nil (body_bytes m) in
    let long : length xs ≡ length (body_bytes m) = ap length same in
    (b.1, f.1 ∙ omega arith, (k.0, k.1 ∙ ap (λ l. four (last_fragment + length l) ++ (l ++ k.0)) same))

-- bytes are read as m, of n bytes, exactly when the first n are m, written
pub exact : (bs : List ℕ) (m : Meaning) (n : ℕ) → Bytes bs → (reading bs ≡ Ok (m, n) → Written bs m n) × (Written bs m n → reading bs ≡ Ok (m, n))
exact bs m n h = (
  λ is.
      let b = reading_back bs m n h is in
      record {
        range = b.0;
        within = omega (arith, b.1, ap length b.2.1, length-append (encode m) b.2.0);
        written = ap (take n) b.2.1 ∙ take_at (encode m) b.2.0 n (sym b.1);
      },
  λ w.
      let long : length (encode m) ≡ n = ap length (sym w.written) ∙ length-take-le n bs w.within in
      ap reading (sym (take-append-drop n bs) ∙ ap (λ l. l ++ drop n bs) w.written) ∙ reading_there m (drop n bs) w.range ∙ ap (λ k. Ok (m, k)) long,
)

pub bytes_from : (xs : List ℕ) → ((i : ℕ) → get_or xs i 0 < 256) → Bytes xs
bytes_from [] h = tt
bytes_from (x ∷ xs) h = (h 0, bytes_from xs (λ i. h (suc i)))

pub tells : (bs : List ℕ) (r : Result (Message × ℕ) MessageFault) → Bytes bs → ReadAs (reading bs) r → Tells bs r
tells bs (Ok p) h is = (
  (exact bs (meaning p.0) p.1 h).0 is,
  λ m n w. let z = ok_same (sym ((exact bs m n h).1 w) ∙ is) in ((λ i. (z i).0), (λ i. (z i).1)),
)
tells bs (Err f) h is = λ m n w. ok_err (sym is ∙ (exact bs m n h).1 w)
