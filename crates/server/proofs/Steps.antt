-- The steps of one server, from its single changes. Assumes nothing.
use Rattle.std.proofs.Common.{◌≡◌, ℕ, zero, suc, ◌+◌, ◌<◌, ◌≤◌, Bool, true, false, cond, ◌&&◌, not, ltb, List, length, get_or, take, Some, None, filter, Option, sym, refl, ap, ◌∙◌, ap₂, add-one, arith}
use Rattle.std.proofs.lemmas.Bool.{lt-ltb}
use Rattle.std.specs.List.{list_all}
use Rattle.std.proofs.lemmas.List.{length-take-le, get_or-take}
use Rattle.std.proofs.lemmas.List.Folds.{list_all_more}
use Rattle.terms.specs.Lists.{every}
use Rattle.terms.specs.Limits.{max_entries, max_read}
use Rattle.terms.specs.declared.refusal.Refusal.{Refusal}
use Rattle.terms.specs.declared.refusal.Refusal.TheVariants.{NumbersUsedUp}
use Rattle.message.specs.declared.tag.Tag.{Tag}
use Rattle.rules.specs.Histories.{Entry, is_entry, earlier}
use Rattle.rules.specs.State.{Layout, Waiting, Server, Read, Answered, Given}
use Rattle.rules.specs.Turns.{check}
use Rattle.rules.specs.Updates.{entered, counted, queued, sifted, reading, overtaken, opening, new_read}
use Rattle.rules.specs.Words.{upd}
use Rattle.rules.specs.Encoding.{lowest, floor, stays, swept}
use Rattle.rules.specs.Writing.{write_tag, write_at, without}
use Rattle.server.specs.Steps.{has_room, after, write_refusal, taken_in, took_in, written, applied, open_refusal, collect_answer, collect_after, settled_among, without_below, without_own}
use Rattle.reads.specs.Readings.{collected_from}

same_reads : (b : Bool) (q : Server) (all : Bool) (e : Entry)
    → reading (cond b (entered q e) q) (overtaken (cond b (entered q e) q).reads all e.object e.tag e.value)
    ≡ reading (cond b (entered q e) q) (overtaken q.reads all e.object e.tag e.value)
unfolding entered
same_reads true q all e = refl
same_reads false q all e = refl

-- the count, the entry and the news, one after the other
pub took_is : (p q r : Server) (j count : ℕ) (all : Bool) (e : Entry) → q ≡ counted p j count e.tag.height
    → r ≡ cond (ltb (length q.history) max_entries) (entered q e) q
    → reading r (overtaken r.reads all e.object e.tag e.value) ≡ took_in p j count all e
unfolding counted
took_is p q r j count all e eq er =
    let tell : Server → Server = λ s. reading s (overtaken s.reads all e.object e.tag e.value) in
    let enter : Server → Server = λ s. cond (ltb (length s.history) max_entries) (entered s e) s in
    ap tell (er ∙ ap enter eq) ∙ same_reads (has_room p) (counted p j count e.tag.height) all e

pub taken_is : (p : Server) (j count : ℕ) (all : Bool) (e : Entry) → has_room p ≡ true → took_in p j count all e ≡ taken_in p j count all e
unfolding taken_in
taken_is p j count all e room =
    let q = counted p j count e.tag.height in
    ap (λ b. reading (cond b (entered q e) q) (overtaken p.reads all e.object e.tag e.value)) room

passed : (a b : Bool) (r s : Refusal) → None ≡ check a r (check b s None) → b ≡ true
passed true true r s e = refl
passed true false r s e = cc
passed false b r s e = cc

pub written_is : (p q : Server) (s x : ℕ) (v : List ℕ) → None ≡ write_refusal p s
    → q ≡ took_in p s (p.clock s + 1) true (record { object = x; tag = write_tag p s; value = v })
    → q ≡ after (write_refusal p s) p (written p s x v)
written_is p q s x v ok e =
    e ∙ taken_is p s (p.clock s + 1) true (record { object = x; tag = write_tag p s; value = v }) (passed _ _ _ _ ok)
    ∙ ap (λ (o : Option Refusal). after o p (written p s x v)) ok

pub applied_is : (p q r : Server) (i : ℕ) (w : Waiting) → has_room p ≡ true → q ≡ queued p (without p.waiting i) → w ≡ write_at p.waiting i
    → r ≡ took_in q w.tag.server (get_or w.clock w.tag.server 0) false (record { object = w.object; tag = w.tag; value = w.value })
    → r ≡ applied p i
unfolding queued
applied_is p q r i w room eq ew er =
    let step : Server → Waiting → Server = λ s u. took_in s u.tag.server (get_or u.clock u.tag.server 0) false (record { object = u.object; tag = u.tag; value = u.value }) in
    let u = write_at p.waiting i in
    er ∙ ap₂ step eq ew
    ∙ taken_is (queued p (without p.waiting i)) u.tag.server (get_or u.clock u.tag.server 0) false (record { object = u.object; tag = u.tag; value = u.value }) room

-- ---- reads

-- other reads, and one read more opened
abbrev pub numbered : Server → (ℕ → Read) → Server
numbered p rs = record {
  clock = p.clock;
  top = p.top;
  symbol = p.symbol;
  own = p.own;
  told = p.told;
  history = p.history;
  waiting = p.waiting;
  reads = rs;
  opened = p.opened + 1;
}

pub open_passes : (p : Server) → p.opened < max_read → open_refusal p ≡ None
open_passes p lt = ap (λ b. check b NumbersUsedUp None) (lt-ltb p.opened max_read lt)

pub opening_is : (p : Server) (s i x : ℕ) (rs : ℕ → Read) → open_refusal p ≡ None → rs ≡ upd p.reads i (new_read p s x)
    → numbered p rs ≡ after (open_refusal p) p (opening p s i x)
unfolding opening
opening_is p s i x rs passes e = ap (numbered p) e ∙ ap (λ (o : Option Refusal). after o p (opening p s i x)) (sym passes)

pub collect_answered : (r : Read) (g : Given) → Answered g ≡ r → Some g ≡ collect_answer r
collect_answered r g e = ap collect_answer e

pub collect_freed : (p : Server) (i : ℕ) (g : Given) (rs : ℕ → Read) → Answered g ≡ p.reads i → rs ≡ upd p.reads i (collected_from (p.reads i)) → reading p rs ≡ collect_after p i (p.reads i)
collect_freed p i g rs e er =
    ap (reading p) (er ∙ ap (λ (r : Read). upd p.reads i (collected_from r)) (sym e)) ∙ ap (collect_after p i) e

-- ---- sweep

one_sifting : (b : Bool) (p : Server) (es fs : List Entry) → cond b (sifted (sifted p es) fs) (sifted p es) ≡ sifted p (cond b fs es)
unfolding sifted
one_sifting true p es fs = refl
one_sifting false p es fs = refl

pub lowest_none : (f : ℕ → Tag) → lowest 0 f ≡ f 0
unfolding lowest
lowest_none f = refl

pub lowest_more : (n : ℕ) (f : ℕ → Tag) → lowest (n + 1) f ≡ earlier (f n) (lowest n f)
unfolding lowest
lowest_more n f = ap (λ (m : ℕ). lowest m f) (add-one n)

pub lowest_same : (n : ℕ) (f g : ℕ → Tag) → f 0 ≡ g 0 → ((j : ℕ) → j < n → f j ≡ g j) → lowest n f ≡ lowest n g
unfolding lowest
lowest_same zero f g z e = z
lowest_same (suc n) f g z e = ap₂ earlier (e n (omega arith)) (lowest_same n f g z (λ j h. e j (omega arith)))

-- the lowest of the first n tags
pub lowest_take : (n : ℕ) (xs : List Tag) (d : Tag) → 1 ≤ n → n ≤ length xs → lowest (length (take n xs)) (λ j. get_or (take n xs) j d) ≡ lowest n (λ j. get_or xs j d)
lowest_take n xs d some few =
    ap (λ (m : ℕ). lowest m (λ j. get_or (take n xs) j d)) (length-take-le n xs few)
    ∙ lowest_same n (λ j. get_or (take n xs) j d) (λ j. get_or xs j d) (get_or-take n xs 0 d (omega arith)) (λ j h. get_or-take n xs j d h)

-- the test of each of the first n items
pub every_taken : {A : Type 0} (p : A → Bool) (xs : List A) (d : A) (n : ℕ) → n ≤ length xs → every n (λ j. p (get_or xs j d)) ≡ list_all p (take n xs)
unfolding every
every_taken p xs d zero h = refl
every_taken p xs d (suc n) h =
    ap (λ b. b && p (get_or xs n d)) (every_taken p xs d n (omega arith)) ∙ sym (list_all_more p xs n d (omega arith)) ∙ ap (λ (m : ℕ). list_all p (take m xs)) (add-one n)

-- the two removals, one after the other
pub swept_is : (l : Layout) (p q r : Server) (x : ℕ) (low : Tag) → low ≡ floor l p x → q ≡ without_below p x low
    → r ≡ cond (settled_among l.code.servers q x) (without_own q x) q → r ≡ sifted p (swept l p x)
unfolding sifted swept
swept_is l p q r x low ef eq er =
    let es = filter (stays l p x) p.history in
    let n = l.code.servers in
    er ∙ ap (λ (s : Server). cond (settled_among n s x) (without_own s x) s) (eq ∙ ap (without_below p x) ef)
    ∙ one_sifting (settled_among n (sifted p es) x) p es (filter (λ e. not (is_entry x (p.own x) e)) es)
