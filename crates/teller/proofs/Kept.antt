-- What a server may tell stays within the ranges of messages, whatever the server does. Assumes nothing.
use Rattle.std.proofs.Common.{◌≡◌, ℕ, zero, suc, ◌+◌, ◌<◌, ◌≤◌, Bool, true, false, ◌&&◌, ◌||◌, not, eqb, ltb, List, length, filter, slice_index, Option, Some, None, refl, ap, ap₂, arith, rules}
use Rattle.std.specs.List.{list_all}
use Rattle.std.proofs.lemmas.Bool.{cond_both, le-leb, ltb-true, and_parts}
use Rattle.terms.specs.declared.refusal.Refusal.TheVariants.{NumbersUsedUp, HistoryFull}
use Rattle.rules.specs.Turns.{check}
use Rattle.terms.specs.Limits.{max_count, max_height, max_servers, last_server, max_client_reads}
use Rattle.message.specs.declared.tag.Tag.{Tag}
use Rattle.message.specs.Tags.{lower}
use Rattle.message.specs.Ranges.{tag_ok}
use Rattle.rules.specs.Histories.{Entry, is_entry, zero_record}
use Rattle.terms.specs.declared.refusal.Refusal.{Refusal}
use Rattle.terms.proofs.Listed.{length_listed}
use Rattle.rules.specs.Encoding.{stays, settled, swept}
use Rattle.rules.specs.State.{Layout, Waiting, Read, Free, Open, Answered, Server, new_server}
use Rattle.rules.specs.Updates.{entered, counted, queued, sifted, reading, hearing, moved, opening, new_read, answered, newer, overtaken}
use Rattle.rules.specs.Words.{upd}
use Rattle.rules.specs.Writing.{write_tag, write_at, no_write, without, better}
use Rattle.server.specs.Steps.{has_room, write_refusal, after, taken_in, written, applied, chosen, apply_after, collect_after}
use Rattle.teller.specs.InRange.{some_cells, entry_ok, write_ok, asked_ok, InRange}
use Rattle.waiting.specs.Writes.{ready, next_of, Inside}
use Rattle.teller.proofs.Lists.{all_pushed, all_filtered, all_without, all_at}

-- the tag of a write
pub tag_in_range : (h s : ℕ) → 1 ≤ h → h ≤ max_height → s < max_servers → tag_ok (record { height = h; server = s }) ≡ true
tag_in_range h s some high known =
    ap₂ (λ a b. a && b) (ap₂ (λ a b. a && b) (le-leb h max_height high) (le-leb s last_server (omega arith))) (ap (λ a. a || eqb s 0) (le-leb 1 h some))

module _ (p : Server) (r : InRange p) where
  pub entered_kept : (e : Entry) → entry_ok e ≡ true → InRange (entered p e)
  unfolding entered
  entered_kept e ok = record { own_tags = r.own_tags; symbol = r.symbol; entries = all_pushed entry_ok p.history r.entries e ok; writes = r.writes; asked = r.asked }

  pub counted_kept : (j c h : ℕ) → InRange (counted p j c h)
  unfolding counted
  counted_kept j c h = record { own_tags = r.own_tags; symbol = r.symbol; entries = r.entries; writes = r.writes; asked = r.asked }

  pub queued_kept : (ws : List Waiting) → list_all write_ok ws ≡ true → InRange (queued p ws)
  unfolding queued
  queued_kept ws ok = record { own_tags = r.own_tags; symbol = r.symbol; entries = r.entries; writes = ok; asked = r.asked }

  pub sifted_kept : (es : List Entry) → list_all entry_ok es ≡ true → InRange (sifted p es)
  unfolding sifted
  sifted_kept es ok = record { own_tags = r.own_tags; symbol = r.symbol; entries = ok; writes = r.writes; asked = r.asked }

  pub reading_kept : (rs : ℕ → Read) → ((i x : ℕ) → asked_ok (rs i) x ≡ true) → InRange (reading p rs)
  unfolding reading
  reading_kept rs ok = record { own_tags = r.own_tags; symbol = r.symbol; entries = r.entries; writes = r.writes; asked = ok }

  pub hearing_kept : (x j : ℕ) (t : Tag) → InRange (hearing p x j t)
  unfolding hearing
  hearing_kept x j t = record { own_tags = r.own_tags; symbol = r.symbol; entries = r.entries; writes = r.writes; asked = r.asked }

  pub moved_kept : (s x : ℕ) (t : Tag) (v : List ℕ) → tag_ok t ≡ true → some_cells v ≡ true → InRange (moved p s x t v)
  unfolding moved upd
  moved_kept s x t v tag cells = record {
    own_tags = λ y. cond_both (eqb y x) t (p.own y) (λ u. tag_ok u ≡ true) (λ _. tag) (λ _. r.own_tags y);
    symbol = cells;
    entries = r.entries;
    writes = r.writes;
    asked = r.asked;
  }

  -- another read at one place
  pub upd_kept : (i : ℕ) (q : Read) → ((x : ℕ) → asked_ok q x ≡ true) → InRange (reading p (upd p.reads i q))
  unfolding upd
  upd_kept i q ok = reading_kept (upd p.reads i q) (λ k x. cond_both (eqb k i) q (p.reads k) (λ z. asked_ok z x ≡ true) (λ _. ok x) (λ _. r.asked k x))

  pub opening_kept : (s i x : ℕ) → InRange (opening p s i x)
  unfolding opening upd
  opening_kept s i x = record {
    own_tags = r.own_tags;
    symbol = r.symbol;
    entries = r.entries;
    writes = r.writes;
    asked = λ k y. cond_both (eqb k i) (new_read p s x) (p.reads k) (λ z. asked_ok z y ≡ true) (λ _. r.own_tags y) (λ _. r.asked k y);
  }

newer_ok : (all : Bool) (x : ℕ) (t : Tag) (v : List ℕ) (q : Read) (y : ℕ) → asked_ok q y ≡ true → asked_ok (newer all x t v q) y ≡ true
newer_ok all x t v Free y ok = refl
newer_ok all x t v (Open a) y ok = cond_both (eqb a.object x && (all || lower (a.tags x) t)) (answered a v t 4) (Open a) (λ z. asked_ok z y ≡ true) (λ _. refl) (λ _. ok)
newer_ok all x t v (Answered a) y ok = refl

-- news for the clients' reads
overtaken_ok : (rs : ℕ → Read) → ((i x : ℕ) → asked_ok (rs i) x ≡ true) → (all : Bool) (x : ℕ) (t : Tag) (v : List ℕ) (i y : ℕ) → asked_ok (overtaken rs all x t v i) y ≡ true
unfolding overtaken
overtaken_ok rs ok all x t v i y =
    cond_both (ltb i max_client_reads) (newer all x t v (rs i)) (rs i) (λ z. asked_ok z y ≡ true) (λ _. newer_ok all x t v (rs i) y (ok i y)) (λ _. ok i y)

module _ (p : Server) (r : InRange p) where
  -- a write enters
  pub taken_in_kept : (j count : ℕ) (all : Bool) (e : Entry) → entry_ok e ≡ true → InRange (taken_in p j count all e)
  unfolding taken_in
  taken_in_kept j count all e ok =
      let q = counted p j count e.tag.height in
      reading_kept (entered q e) (entered_kept q (counted_kept p r j count e.tag.height) e ok) (overtaken p.reads all e.object e.tag e.value) (overtaken_ok p.reads r.asked all e.object e.tag e.value)

  -- the write of the server itself enters
  pub written_kept : (s x : ℕ) (v : List ℕ) → s < max_servers → p.top < max_height → some_cells v ≡ true → InRange (written p s x v)
  written_kept s x v known low ok =
      let tag = tag_in_range (p.top + 1) s (omega arith) (omega arith) known in
      taken_in_kept (s) (p.clock s + 1) true (record { object = x; tag = write_tag p s; value = v }) (ap₂ ◌&&◌ tag ok)

-- the waiting write at a place is applied
pub applied_kept : (p : Server) → InRange p → (i : ℕ) → i < length p.waiting → InRange (applied p i)
applied_kept p r i lt =
    let w = write_at p.waiting i in
    let ws = without p.waiting i in
    let j = w.tag.server in
    taken_in_kept (queued p ws) (queued_kept p r ws (all_without write_ok p.waiting r.writes i)) j (slice_index w.clock j) false
    (record { object = w.object; tag = w.tag; value = w.value }) (all_at write_ok p.waiting r.writes i no_write lt)

-- the read at a place is collected
pub collected_kept : (p : Server) → InRange p → (i : ℕ) (q : Read) → InRange (collect_after p i q)
collected_kept p r i Free = r
collected_kept p r i (Open a) = r
collected_kept p r i (Answered a) = upd_kept p r i Free (λ x. refl)

-- a sweep takes entries away
pub swept_kept : (l : Layout) (p : Server) → InRange p → (x : ℕ) → InRange (sifted p (swept l p x))
unfolding swept
swept_kept l p r x =
    let es = filter (stays l p x) p.history in
    let few = all_filtered entry_ok p.history r.entries (stays l p x) in
    sifted_kept p r (swept l p x)
    (cond_both (settled l p x es) (filter (λ e. not (is_entry x (p.own x) e)) es) es (λ zs. list_all entry_ok zs ≡ true) (λ _. all_filtered entry_ok es few (λ e. not (is_entry x (p.own x) e))) (λ _. few))

-- a new server
pub new_kept : (cells : ℕ) → 1 ≤ cells → InRange (new_server cells)
new_kept cells some = record {
  own_tags = λ x. refl;
  symbol = le-leb 1 (length (zero_record cells)) (omega (arith, some, length_listed {A = ℕ} cells (λ _. 0)));
  entries = refl;
  writes = refl;
  asked = λ i x. refl;
}

-- refused, a server is as it was
pub refused_kept : (e : Option Refusal) (p q : Server) → InRange p → (e ≡ None → InRange q) → InRange (after e p q)
refused_kept None p q r ok = ok refl
refused_kept (Some e) p q r ok = r

inside_more : (o : Option ℕ) (i : ℕ) → Inside o i → Inside o (suc i)
inside_more None i h = tt
inside_more (Some b) i h = omega (arith, h)

better_inside : (ws : List Waiting) (best : Option ℕ) (i : ℕ) → Inside best i → Inside (better ws best i) (suc i)
better_inside ws None i h = omega arith
better_inside ws (Some b) i h =
    cond_both (lower (write_at ws i).tag (write_at ws b).tag) (Some i) (Some b) (λ o. Inside o (suc i)) (λ _. omega arith) (λ _. omega (arith, h))

-- the write that is next stands in the queue
next_inside : (n : ℕ) (clock : ℕ → ℕ) (ws : List Waiting) (k : ℕ) → Inside (next_of n clock ws k) k
unfolding next_of
next_inside n clock ws zero = tt
next_inside n clock ws (suc i) =
    let best = next_of n clock ws i in
    let before = next_inside n clock ws i in
    cond_both (ready n clock (write_at ws i)) (better ws best i) best (λ o. Inside o (suc i)) (λ _. better_inside ws best i before) (λ _. inside_more best i before)

applied_if_there : (p : Server) → InRange p → (o : Option ℕ) → Inside o (length p.waiting) → InRange (apply_after p o)
applied_if_there p r None inside = r
applied_if_there p r (Some i) inside = cond_both (has_room p) (applied p i) p InRange (λ _. applied_kept p r i inside) (λ _. r)

-- the lowest waiting write that is ready is applied, if there is one
pub apply_kept : (n : ℕ) (p : Server) → InRange p → InRange (apply_after p (chosen n p))
apply_kept n p r = applied_if_there p r (chosen n p) (next_inside n p.clock p.waiting (length p.waiting))

passed : (b : Bool) (e : Refusal) (rest : Option Refusal) → check b e rest ≡ None → b ≡ true
passed true e rest is = refl
passed false e rest is = search rules

-- a server that may write has not used up its heights
pub heights_left : (p : Server) (s : ℕ) → write_refusal p s ≡ None → p.top < max_height
heights_left p s is =
    ltb-true p.top max_height (and_parts (ltb (p.clock s) max_count) (ltb p.top max_height) (passed (ltb (p.clock s) max_count && ltb p.top max_height) NumbersUsedUp (check (has_room p) HistoryFull None) is)).1
