-- What a list of bytes is read as: the mark, then each field in order, then the end. Assumes nothing.
use Rattle.std.specs.Prelude.{◌≡◌, ℕ, zero, suc, ◌+◌, ◌-◌, ◌*◌, ◌%◌, Bool, cond, List, [], ◌∷◌, length, take, drop, Ok, Err, Result, ◌==◌, nat_eq, nat_lt}
use Rattle.std.specs.Borrow.{Bor}
use Rattle.std.specs.List.{between as part, list_all}
use Rattle.terms.specs.Limits.{min_cells, max_cells, min_servers, max_servers, min_objects, max_objects, mark_bytes}
use Rattle.message.specs.Meanings.{Meaning, meaning, write_notice, tag_notice, question, plain_reply, coded_reply}
use Rattle.message.specs.Ranges.{between, object_ok, height_ok, read_ok, tag_ok, clock_ok, tags_ok}
use Rattle.message.specs.declared.kinds.Message.{Message}
use Rattle.message.specs.declared.tag.Tag.{Tag}
use Rattle.wire.specs.declared.cursor.Cursor.{Cursor}
use Rattle.wire.specs.declared.faults.MarkFault.{MarkFault}
use Rattle.wire.specs.declared.faults.MarkFault.TheVariants as marks
use Rattle.wire.specs.declared.faults.FieldFault.{FieldFault}
use Rattle.wire.specs.declared.faults.FieldFault.TheVariants.{Mark, TooShort, Malformed}
use Rattle.wire.specs.declared.faults.MessageFault.{MessageFault}
use Rattle.wire.specs.declared.faults.MessageFault.TheVariants.{Field, UnknownKind, OutOfRange, BytesLeft}
use Rattle.wire.specs.Words.{big, padded}

-- layer 1: the mark

-- the first four bytes count n bytes of body, or they do not
abbrev pub marked_off : ℕ → ℕ → List ℕ → Result (List ℕ) MarkFault
marked_off a n xs = cond (nat_lt (length xs) n) (Err marks.TooShort) (cond (nat_lt a 128) (Err marks.NotLast) (Ok (take n xs)))

-- the body of the record that the bytes begin with
abbrev pub mark : List ℕ → Result (List ℕ) MarkFault
mark [] = Err marks.TooShort
mark (a ∷ []) = Err marks.TooShort
mark (a ∷ b ∷ []) = Err marks.TooShort
mark (a ∷ b ∷ c ∷ []) = Err marks.TooShort
mark (a ∷ b ∷ c ∷ d ∷ xs) = marked_off a (big (a % 128) b c d) xs

-- layer 2: fields. A field is read from what is left of a record that ends at byte e; the answer has what is left then

-- where the next field starts, with xs left
abbrev pub start : ℕ → List ℕ → ℕ
start e xs = e - length xs

-- one behind the other
abbrev pub bind : {A B F : Type 0} → Result (A × List ℕ) F → (A → List ℕ → Result (B × List ℕ) F) → Result (B × List ℕ) F
bind (Ok p) k = k p.0 p.1
bind (Err f) k = Err f

abbrev pub number : ℕ → List ℕ → Result (ℕ × List ℕ) FieldFault
number e [] = Err (TooShort (start e []))
number e (a ∷ []) = Err (TooShort (start e (a ∷ [])))
number e (a ∷ b ∷ []) = Err (TooShort (start e (a ∷ b ∷ [])))
number e (a ∷ b ∷ c ∷ []) = Err (TooShort (start e (a ∷ b ∷ c ∷ [])))
number e (a ∷ b ∷ c ∷ d ∷ xs) = Ok (big a b c d, xs)

-- a tag is one field, of eight bytes
abbrev pub tag : ℕ → List ℕ → Result (Tag × List ℕ) FieldFault
tag e xs = cond (nat_lt (length xs) 8) (Err (TooShort (start e xs))) (bind (number e xs) (λ height ys. bind (number e ys) (λ server zs. Ok (record { height = height; server = server }, zs))))

abbrev pub zeros : List ℕ → Bool
zeros = list_all (λ b. nat_eq b 0)

-- n bytes with padding of zeros, in a field that starts at byte o
abbrev pub opaque_of : ℕ → ℕ → List ℕ → Result (List ℕ × List ℕ) FieldFault
opaque_of o n ys = cond (nat_lt (length ys) (padded n)) (Err (TooShort o)) (cond (between min_cells max_cells n) (cond (zeros (part n (padded n) ys)) (Ok (take n ys, drop (padded n) ys)) (Err (Malformed o))) (Err (Malformed o)))

abbrev pub opaque : ℕ → List ℕ → Result (List ℕ × List ℕ) FieldFault
opaque e xs = bind (number e xs) (opaque_of (start e xs))

-- n items one behind another
abbrev pub many : {A F : Type 0} → (ℕ → List ℕ → Result (A × List ℕ) F) → ℕ → ℕ → List ℕ → Result (List A × List ℕ) F
many f e zero xs = Ok ([], xs)
many f e (suc n) xs = bind (f e xs) (λ x ys. bind (many f e n ys) (λ more zs. Ok (x ∷ more, zs)))

-- n items of a size each, n from low to high, in a field that starts at byte o
abbrev pub items_of : {A : Type 0} → ℕ → ℕ → ℕ → (ℕ → List ℕ → Result (A × List ℕ) FieldFault) → ℕ → ℕ → ℕ → List ℕ → Result (List A × List ℕ) FieldFault
items_of low high size f e o n ys = cond (nat_lt (length ys) (n * size)) (Err (TooShort o)) (cond (between low high n) (many f e n ys) (Err (Malformed o)))

-- a count, and as many items
abbrev pub counted : {A : Type 0} → ℕ → ℕ → ℕ → (ℕ → List ℕ → Result (A × List ℕ) FieldFault) → ℕ → List ℕ → Result (List A × List ℕ) FieldFault
counted low high size f e xs = bind (number e xs) (items_of low high size f e (start e xs))

abbrev pub clock : ℕ → List ℕ → Result (List ℕ × List ℕ) FieldFault
clock = counted min_servers max_servers 4 number

abbrev pub tags : ℕ → List ℕ → Result (List Tag × List ℕ) FieldFault
tags = counted min_objects max_objects 8 tag

-- layer 3: the message

-- a field with no range but its shape
abbrev pub up : {A : Type 0} → Result A FieldFault → Result A MessageFault
up (Ok x) = Ok x
up (Err f) = Err (Field f)

abbrev pub checked : {A : Type 0} → (A → Bool) → ℕ → Result (A × List ℕ) FieldFault → Result (A × List ℕ) MessageFault
checked ok o (Ok p) = cond (ok p.0) (Ok p) (Err (OutOfRange o))
checked ok o (Err f) = Err (Field f)

-- a field, and then its range
abbrev pub ranged : {A : Type 0} → (A → Bool) → (ℕ → List ℕ → Result (A × List ℕ) FieldFault) → ℕ → List ℕ → Result (A × List ℕ) MessageFault
ranged ok f e xs = checked ok (start e xs) (f e xs)

abbrev pub write_body : ℕ → List ℕ → Result (Meaning × List ℕ) MessageFault
write_body e xs = bind (ranged object_ok number e xs) (λ object ys. bind (up (opaque e ys)) (λ value zs. bind (ranged height_ok number e zs) (λ height us. bind (ranged clock_ok clock e us) (λ counts vs. Ok (write_notice object value height counts, vs)))))

abbrev pub notice_body : ℕ → List ℕ → Result (Meaning × List ℕ) MessageFault
notice_body e xs = bind (ranged object_ok number e xs) (λ object ys. bind (ranged tag_ok tag e ys) (λ t zs. Ok (tag_notice object t, zs)))

abbrev pub question_body : ℕ → List ℕ → Result (Meaning × List ℕ) MessageFault
question_body e xs = bind (ranged read_ok number e xs) (λ read ys. bind (ranged object_ok number e ys) (λ object zs. bind (ranged tags_ok tags e zs) (λ ts us. Ok (question read object ts, us))))

abbrev pub plain_body : ℕ → List ℕ → Result (Meaning × List ℕ) MessageFault
plain_body e xs = bind (ranged read_ok number e xs) (λ read ys. bind (up (opaque e ys)) (λ value zs. Ok (plain_reply read value, zs)))

abbrev pub coded_body : ℕ → List ℕ → Result (Meaning × List ℕ) MessageFault
coded_body e xs = bind (ranged read_ok number e xs) (λ read ys. bind (up (opaque e ys)) (λ symbol zs. bind (ranged tags_ok tags e zs) (λ ts us. Ok (coded_reply read symbol ts, us))))

-- the fields of a message of a kind, whose own field starts at byte o
abbrev pub by_kind : ℕ → ℕ → ℕ → List ℕ → Result (Meaning × List ℕ) MessageFault
by_kind kind o e ys = cond (kind == 1) (write_body e ys) (cond (kind == 2) (notice_body e ys) (cond (kind == 3) (question_body e ys) (cond (kind == 4) (plain_body e ys) (cond (kind == 5) (coded_body e ys) (Err (UnknownKind o))))))

abbrev pub body : ℕ → List ℕ → Result (Meaning × List ℕ) MessageFault
body e xs = bind (up (number e xs)) (λ kind ys. by_kind kind (start e xs) e ys)

-- the end: nothing is left of the record
abbrev pub finish : ℕ → Result (Meaning × List ℕ) MessageFault → Result (Meaning × ℕ) MessageFault
finish e (Ok p) = cond (length p.1 == 0) (Ok (p.0, e)) (Err (BytesLeft (start e p.1)))
finish e (Err f) = Err f

abbrev pub reading_of : Result (List ℕ) MarkFault → Result (Meaning × ℕ) MessageFault
reading_of (Ok xs) = finish (length xs + mark_bytes) (body (length xs + mark_bytes) xs)
reading_of (Err f) = Err (Field (Mark f))

-- the message that the bytes begin with, and how many bytes it takes
abbrev pub reading : List ℕ → Result (Meaning × ℕ) MessageFault
reading bytes = reading_of (mark bytes)

-- answers of the code

-- that of `reading`
abbrev pub ReadAs : Result (Meaning × ℕ) MessageFault → Result (Message × ℕ) MessageFault → Type 0
ReadAs s (Ok p) = s ≡ Ok (meaning p.0, p.1)
ReadAs s (Err f) = s ≡ Err f

-- that of `mark`
abbrev pub Cut : Result (List ℕ) MarkFault → Result (Bor (List ℕ)) MarkFault → Type 0
Cut s (Ok r) = s ≡ Ok r.now
Cut s (Err e) = s ≡ Err e

-- a cursor over the record that the bytes begin with
abbrev pub Opened : List ℕ → Result Cursor FieldFault → Type 0
Opened bytes (Ok c) = (mark bytes ≡ Ok c.left.now) × (c.end ≡ length c.left.now + mark_bytes)
Opened bytes (Err (Mark e)) = mark bytes ≡ Err e
Opened bytes (Err (TooShort n)) = ⊥
Opened bytes (Err (Malformed n)) = ⊥

-- that of the reader f, from a cursor as it was to the cursor as it is, whose record ends where it did
abbrev pub Reads : {A V F : Type 0} → (V → A) → (ℕ → List ℕ → Result (A × List ℕ) F) → Cursor → Cursor → Result V F → Type 0
Reads means f before after (Ok v) = (f before.end before.left.now ≡ Ok (means v, after.left.now)) × (after.end ≡ before.end)
Reads means f before after (Err e) = (f before.end before.left.now ≡ Err e) × (after.end ≡ before.end)

-- that of a field whose value is then tested, in a field that starts at byte o
abbrev pub RangedBy : {V : Type 0} → (V → Bool → Type 0) → ℕ → Result V FieldFault → Result V MessageFault → Type 0
RangedBy tests o (Ok v) r = (passed : Bool) × tests v passed × (r ≡ cond passed (Ok v) (Err (OutOfRange o)))
RangedBy tests o (Err f) r = r ≡ Err (Field f)

abbrev pub itself : {A : Type 0} → A → A
itself x = x
