-- The bodies of the messages, there and back. Assumes nothing.
use Rattle.std.proofs.Common.{◌≡◌, ℕ, ◌<◌, ◌≤◌, true, false, cond, eqb, List, [], ◌∷◌, ◌++◌, Ok, Err, Result, ◌≢◌, sym, refl, ap, ◌∙◌, subst, ⊎_elim, append_assoc, arith}
use Rattle.std.proofs.lemmas.Bool.{leb-true, and_from, and_parts, eqb-true, ne_eqb, cond-false, cases_Bool}
use Rattle.message.specs.declared.tag.Tag.{Tag}
use Rattle.message.specs.Meanings.{Meaning, write_notice, tag_notice, question, plain_reply, coded_reply}
use Rattle.terms.specs.Limits.{min_servers, max_servers, last_server, min_objects, max_objects, last_object, max_height, max_count, max_read}
use Rattle.std.specs.List.{list_all}
use Rattle.message.specs.Ranges.{between, object_ok, height_ok, read_ok, count_ok, tag_ok, cells_ok, clock_ok, tags_ok, in_range}
use Rattle.wire.specs.declared.faults.MessageFault.{MessageFault}
use Rattle.wire.specs.declared.faults.MessageFault.TheVariants.{UnknownKind}
use Rattle.wire.specs.declared.kind.Kind.{Kind}
use Rattle.wire.specs.declared.kind.Kind.TheVariants.{WriteNotice, TagNotice, Question, PlainReply, CodedReply}
use Rattle.wire.specs.Kinds.{kind_number}
use Rattle.wire.specs.Reading.{number, tag, opaque, clock, tags, ranged, up, write_body, notice_body, question_body, plain_body, coded_body, by_kind, body, start}
use Rattle.wire.specs.Writing.{tag_bytes, opaque_bytes, counted_bytes, body_bytes}
use Rattle.wire.proofs.Codec.{Codec, number_codec, tag_codec, ranged_codec, up_codec, Numbered, Each, ok_same, ok_err, seq_there, last_there, seq_back}
use Rattle.wire.specs.Words.{Bytes, four}
use Rattle.wire.proofs.Fields.{opaque_codec, counted_codec}

number_in : (low high : ℕ) → high < 4294967296 → Codec (ranged (between low high) number) four (λ n. between low high n ≡ true)
number_in low high small = ranged_codec number four (λ n. n < 4294967296) (between low high) number_codec (λ n h. let le : n ≤ high = leb-true _ _ (and_parts _ _ h).1 in omega arith)

numbered : (t : Tag) → tag_ok t ≡ true → Numbered t
numbered t h =
    let p = and_parts _ _ h in
    let q = and_parts _ _ p.0 in
    let a : t.height ≤ max_height = leb-true _ _ q.0 in
    let b : t.server ≤ last_server = leb-true _ _ q.1 in
    (omega arith, omega arith)

tag_in : Codec (ranged tag_ok tag) tag_bytes (λ t. tag_ok t ≡ true)
tag_in = ranged_codec tag tag_bytes Numbered tag_ok tag_codec (λ t h. numbered t h)

each_count : (l : List ℕ) → list_all count_ok l ≡ true → Each number four _ number_codec l
each_count [] h = tt
each_count (x ∷ l) h = let p = and_parts _ _ h in let le : x ≤ max_count = leb-true _ _ p.0 in (omega arith, each_count l p.1)

each_tag : (l : List Tag) → list_all tag_ok l ≡ true → Each tag tag_bytes _ tag_codec l
each_tag [] h = tt
each_tag (x ∷ l) h = let p = and_parts _ _ h in (numbered x p.0, each_tag l p.1)

clock_in : Codec (ranged clock_ok clock) (counted_bytes four) (λ l. clock_ok l ≡ true)
clock_in = ranged_codec clock (counted_bytes four) _ clock_ok (counted_codec min_servers max_servers 4 number four (λ n. n < 4294967296) number_codec (omega arith) (λ x. refl)) (λ l h. let p = and_parts _ _ h in (p.0, each_count l p.1))

tags_in : Codec (ranged tags_ok tags) (counted_bytes tag_bytes) (λ l. tags_ok l ≡ true)
tags_in = ranged_codec tags (counted_bytes tag_bytes) _ tags_ok (counted_codec min_objects max_objects 8 tag tag_bytes Numbered tag_codec (omega arith) (λ x. refl)) (λ l h. let p = and_parts _ _ h in (p.0, each_tag l p.1))

opaque_in : Codec (λ e xs. up (opaque e xs)) opaque_bytes (λ v. cells_ok v ≡ true)
opaque_in = up_codec opaque opaque_bytes _ opaque_codec

object_in : Codec (ranged object_ok number) four (λ n. object_ok n ≡ true)
object_in = number_in 0 last_object (omega arith)

read_in : Codec (ranged read_ok number) four (λ n. read_ok n ≡ true)
read_in = number_in 1 max_read (omega arith)

height_in : Codec (ranged height_ok number) four (λ n. height_ok n ≡ true)
height_in = number_in 1 max_height (omega arith)

pub body_there : (e : ℕ) (m : Meaning) (ys : List ℕ) → in_range m ≡ true → body e (body_bytes m ++ ys) ≡ Ok (m, ys)
body_there e (write_notice object value height counts) ys h =
    let p = and_parts _ _ h in
    let q = and_parts _ _ p.0 in
    let r = and_parts _ _ q.0 in
    seq_there _ _ _ object_in e _ object (opaque_bytes value ++ (four height ++ counted_bytes four counts)) ys r.0
    ∙ seq_there _ _ _ opaque_in e _ value (four height ++ counted_bytes four counts) ys r.1
    ∙ seq_there _ _ _ height_in e _ height (counted_bytes four counts) ys q.1
    ∙ last_there _ _ _ clock_in e _ counts ys p.1
body_there e (tag_notice object t) ys h =
    let p = and_parts _ _ h in
    seq_there _ _ _ object_in e _ object (tag_bytes t) ys p.0
    ∙ last_there _ _ _ tag_in e _ t ys p.1
body_there e (question read object ts) ys h =
    let p = and_parts _ _ h in
    let q = and_parts _ _ p.0 in
    seq_there _ _ _ read_in e _ read (four object ++ counted_bytes tag_bytes ts) ys q.0
    ∙ seq_there _ _ _ object_in e _ object (counted_bytes tag_bytes ts) ys q.1
    ∙ last_there _ _ _ tags_in e _ ts ys p.1
body_there e (plain_reply read value) ys h =
    let p = and_parts _ _ h in
    seq_there _ _ _ read_in e _ read (opaque_bytes value) ys p.0
    ∙ last_there _ _ _ opaque_in e _ value ys p.1
body_there e (coded_reply read symbol ts) ys h =
    let p = and_parts _ _ h in
    let q = and_parts _ _ p.0 in
    seq_there _ _ _ read_in e _ read (opaque_bytes symbol ++ counted_bytes tag_bytes ts) ys q.0
    ∙ seq_there _ _ _ opaque_in e _ symbol (counted_bytes tag_bytes ts) ys q.1
    ∙ last_there _ _ _ tags_in e _ ts ys p.1

join2 : (a b c ys : List ℕ) → a ++ (b ++ (c ++ ys)) ≡ (a ++ (b ++ c)) ++ ys
join2 a b c ys = simp append_assoc

join3 : (a b c d ys : List ℕ) → a ++ (b ++ (c ++ (d ++ ys))) ≡ (a ++ (b ++ (c ++ d))) ++ ys
join3 a b c d ys = simp append_assoc

join4 : (a b c d f ys : List ℕ) → a ++ (b ++ (c ++ (d ++ (f ++ ys)))) ≡ (a ++ (b ++ (c ++ (d ++ f)))) ++ ys
join4 a b c d f ys = simp append_assoc

module _ (e : ℕ) (xs : List ℕ) (m : Meaning) (ys : List ℕ) (h : Bytes xs) where
  abbrev Back : ℕ → Type 0
  Back kind = (four kind ++ xs ≡ body_bytes m ++ ys) × (in_range m ≡ true)

  write_back : write_body e xs ≡ Ok (m, ys) → Back 1
  write_back is =
      let p = seq_back _ _ _ object_in e _ xs (m, ys) h is in
      let q = seq_back _ _ _ opaque_in e _ p.1 (m, ys) p.4 p.5 in
      let r = seq_back _ _ _ height_in e _ q.1 (m, ys) q.4 q.5 in
      let s = seq_back _ _ _ clock_in e _ r.1 (m, ys) r.4 r.5 in
      let z = ok_same s.5 in
      (ap (λ l. four 1 ++ l) (p.2 ∙ ap (λ l. four p.0 ++ l) (q.2 ∙ ap (λ l. opaque_bytes q.0 ++ l) (r.2 ∙ ap (λ l. four r.0 ++ l) s.2))) ∙ join4 (four 1) (four p.0) (opaque_bytes q.0) (four r.0) (counted_bytes four s.0) s.1 ∙ (λ i. body_bytes (z i).0 ++ (z i).1), ap in_range (λ i. (sym z i).0) ∙ and_from _ _ (and_from _ _ (and_from _ _ p.3 q.3) r.3) s.3)

  notice_back : notice_body e xs ≡ Ok (m, ys) → Back 2
  notice_back is =
      let p = seq_back _ _ _ object_in e _ xs (m, ys) h is in
      let q = seq_back _ _ _ tag_in e _ p.1 (m, ys) p.4 p.5 in
      let z = ok_same q.5 in
      (ap (λ l. four 2 ++ l) (p.2 ∙ ap (λ l. four p.0 ++ l) q.2) ∙ join2 (four 2) (four p.0) (tag_bytes q.0) q.1 ∙ (λ i. body_bytes (z i).0 ++ (z i).1), ap in_range (λ i. (sym z i).0) ∙ and_from _ _ p.3 q.3)

  question_back : question_body e xs ≡ Ok (m, ys) → Back 3
  question_back is =
      let p = seq_back _ _ _ read_in e _ xs (m, ys) h is in
      let q = seq_back _ _ _ object_in e _ p.1 (m, ys) p.4 p.5 in
      let r = seq_back _ _ _ tags_in e _ q.1 (m, ys) q.4 q.5 in
      let z = ok_same r.5 in
      (ap (λ l. four 3 ++ l) (p.2 ∙ ap (λ l. four p.0 ++ l) (q.2 ∙ ap (λ l. four q.0 ++ l) r.2)) ∙ join3 (four 3) (four p.0) (four q.0) (counted_bytes tag_bytes r.0) r.1 ∙ (λ i. body_bytes (z i).0 ++ (z i).1), ap in_range (λ i. (sym z i).0) ∙ and_from _ _ (and_from _ _ p.3 q.3) r.3)

  plain_back : plain_body e xs ≡ Ok (m, ys) → Back 4
  plain_back is =
      let p = seq_back _ _ _ read_in e _ xs (m, ys) h is in
      let q = seq_back _ _ _ opaque_in e _ p.1 (m, ys) p.4 p.5 in
      let z = ok_same q.5 in
      (ap (λ l. four 4 ++ l) (p.2 ∙ ap (λ l. four p.0 ++ l) q.2) ∙ join2 (four 4) (four p.0) (opaque_bytes q.0) q.1 ∙ (λ i. body_bytes (z i).0 ++ (z i).1), ap in_range (λ i. (sym z i).0) ∙ and_from _ _ p.3 q.3)

  coded_back : coded_body e xs ≡ Ok (m, ys) → Back 5
  coded_back is =
      let p = seq_back _ _ _ read_in e _ xs (m, ys) h is in
      let q = seq_back _ _ _ opaque_in e _ p.1 (m, ys) p.4 p.5 in
      let r = seq_back _ _ _ tags_in e _ q.1 (m, ys) q.4 q.5 in
      let z = ok_same r.5 in
      (ap (λ l. four 5 ++ l) (p.2 ∙ ap (λ l. four p.0 ++ l) (q.2 ∙ ap (λ l. opaque_bytes q.0 ++ l) r.2)) ∙ join3 (four 5) (four p.0) (opaque_bytes q.0) (counted_bytes tag_bytes r.0) r.1 ∙ (λ i. body_bytes (z i).0 ++ (z i).1), ap in_range (λ i. (sym z i).0) ∙ and_from _ _ (and_from _ _ p.3 q.3) r.3)

  -- kind is i, or the other readers answer
  one_of : (kind i : ℕ) (r s : Result (Meaning × List ℕ) MessageFault) → (r ≡ Ok (m, ys) → Back i) → (s ≡ Ok (m, ys) → Back kind) → cond (eqb kind i) r s ≡ Ok (m, ys) → Back kind
  one_of kind i r s yes_back no_back is =
      ⊎_elim
      (λ t. subst Back (sym (eqb-true kind i t)) (yes_back (ap (λ b. cond b r s) (sym t) ∙ is)))
      (λ f. no_back (ap (λ b. cond b r s) (sym f) ∙ is))
      (cases_Bool (eqb kind i))

  kind_back : (kind o : ℕ) → by_kind kind o e xs ≡ Ok (m, ys) → Back kind
  kind_back kind o =
      one_of kind 1 _ _ write_back (one_of kind 2 _ _ notice_back (one_of kind 3 _ _ question_back (one_of kind 4 _ _ plain_back (one_of kind 5 _ _ coded_back (λ is. ok_err is)))))

pub body_back : (e : ℕ) (xs : List ℕ) (m : Meaning) (ys : List ℕ) → Bytes xs → body e xs ≡ Ok (m, ys) → (xs ≡ body_bytes m ++ ys) × (in_range m ≡ true)
body_back e xs m ys h is =
    let p = seq_back _ _ _ (up_codec number four _ number_codec) e (λ kind zs. by_kind kind (start e xs) e zs) xs (m, ys) h is in
    let b = kind_back e p.1 m ys p.4 p.0 (start e xs) p.5 in
    (p.2 ∙ b.0, b.1)

-- a number that is no kind's
pub no_kind : (n o e : ℕ) (ys : List ℕ) → ((kind : Kind) → kind_number kind ≢ n) → by_kind n o e ys ≡ Err (UnknownKind o)
no_kind n o e ys none =
    let other : (kind : Kind) → eqb n (kind_number kind) ≡ false = λ kind. ne_eqb _ _ (λ is. none kind (sym is)) in
    cond-false _ _ _ (other WriteNotice)
    ∙ cond-false _ _ _ (other TagNotice)
    ∙ cond-false _ _ _ (other Question)
    ∙ cond-false _ _ _ (other PlainReply)
    ∙ cond-false _ _ _ (other CodedReply)
