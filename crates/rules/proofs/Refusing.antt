-- A refused call changes nothing.
use Rattle.std.proofs.Common.{◌≡◌, ℕ, Bool, cond, not, ◌&&◌, ◌||◌, ltb, List, [], ◌∷◌, ◌++◌, length, get_or, Some, None, Option, refl, arith}
use Rattle.std.proofs.lemmas.Bool.{cond_both}
use Rattle.terms.specs.Limits.{max_read, max_waiting, max_client_reads}
use Rattle.terms.specs.declared.refusal.Refusal.{Refusal}
use Rattle.terms.specs.declared.refusal.Refusal.TheVariants.{NoSuchServer, LaneEmpty, NumbersUsedUp, HistoryFull, LaneFull, WaitingFull}
use Rattle.message.specs.declared.tag.Tag.{Tag}
use Rattle.message.specs.Tags.{zero_tag, lower}
use Rattle.message.specs.Meanings.{Meaning, write_notice, tag_notice, question, plain_reply, coded_reply}
use Rattle.code.specs.Codings.{contains}
use Rattle.rules.specs.Words.{upd}
use Rattle.rules.specs.Histories.{holds, value_under, highest, highest_held}
use Rattle.rules.specs.State.{Layout, Asking, Read, Free, Open, Answered, State, internal}
use Rattle.rules.specs.Turns.{Write, Read as Ask, Collect, Deliver, Apply, Encode, Sweep, Answer, Refused, Tagged, Valued, Numbered, StillOpen, NothingReady, Outcome, Removed, Found, Turn, turn, check, unless}
use Rattle.rules.specs.Updates.{queued, reading, in_hand, is_open}
use Rattle.rules.specs.Writing.{room, history_room, write, apply, apply_at, next_ready}
use Rattle.rules.specs.Reading.{read, read_refusal, read_found, from_history, from_symbol, open_done, open_read, client_place, collect, collect_refusal, collect_at, collect_read}
use Rattle.rules.specs.Encoding.{object_refusal, encode, encode_contained, encode_other, move_done, enter_done, turned, within, sweep}
use Rattle.rules.specs.Delivering.{open_place, waiting_write, fits, lane_refusal, take_done, question_done, reply, client_answer, internal_answer, deliver, oldest, got, plain_at, plain_to, coded_at, coded_to, by_symbol, settle, mended}
use Rattle.rules.specs.Runs.{RefusalsChangeNothing}

-- if it is refused, nothing changes
record Kept (S : State) (t : Turn) : Type 0 where
  pub same : (r : Refusal) → t.answer ≡ Refused r → t.next ≡ S

unless_kept : (o : Option Refusal) (S : State) (t : Turn) → Kept S t → Kept S (unless o S t)
unless_kept None S t h = h
unless_kept (Some e) S t h = record { same = λ r q. refl }

cond_kept : (S : State) (b : Bool) (t u : Turn) → Kept S t → Kept S u → Kept S (cond b t u)
cond_kept S b t u p q = cond_both b t u (Kept S) (λ _. p) (λ _. q)

outcome_kept : (S T : State) (o : ℕ) → Kept S (turn (Outcome o) T)
outcome_kept S T o = record { same = λ r e. absurd (let z : ◌≡◌ {A = ℕ} 0 1 = cc in omega arith) }

tagged_kept : (S T : State) (t : Tag) → Kept S (turn (Tagged t) T)
tagged_kept S T t = record { same = λ r e. absurd (let z : ◌≡◌ {A = ℕ} 0 1 = cc in omega arith) }

valued_kept : (S T : State) (v : List ℕ) (t : Tag) (w : ℕ) → Kept S (turn (Valued v t w) T)
valued_kept S T v t w = record { same = λ r e. absurd (let z : ◌≡◌ {A = ℕ} 0 1 = cc in omega arith) }

same_kept : (S : State) (a : Answer) → Kept S (turn a S)
same_kept S a = record { same = λ r e. refl }

numbered_kept : (S T : State) (m : ℕ) → Kept S (turn (Numbered m) T)
numbered_kept S T m = record { same = λ r e. absurd (let z : ◌≡◌ {A = ℕ} 0 1 = cc in omega arith) }

removed_kept : (S T : State) (c : ℕ) → Kept S (turn (Removed c) T)
removed_kept S T c = record { same = λ r e. absurd (let z : ◌≡◌ {A = ℕ} 0 1 = cc in omega arith) }

module _ (l : Layout) (S : State) where
  write_kept : (s x : ℕ) (v : List ℕ) → Kept S (write l S s x v)
  unfolding write
  write_kept s x v = unless_kept _ S _ (tagged_kept S _ _)

  apply_at_kept : (s : ℕ) (o : Option ℕ) → Kept S (apply_at l S s o)
  apply_at_kept s None = same_kept S NothingReady
  apply_at_kept s (Some i) = unless_kept _ S _ (tagged_kept S _ _)

  apply_kept : (s : ℕ) → Kept S (apply l S s)
  unfolding apply
  apply_kept s =
      let p = S.servers s in
      let o = next_ready l p p.waiting (length p.waiting) in
      unless_kept (check (ltb s l.code.servers) NoSuchServer None) S (apply_at l S s o) (apply_at_kept s o)

  open_kept : (s x : ℕ) → Kept S (open_read l S s x)
  unfolding open_read
  open_kept s x = unless_kept _ S _ (numbered_kept S _ _)

  read_kept : (s x cells : ℕ) (f : Found) → Kept S (read l S s x cells f)
  unfolding read read_found
  read_kept s x cells f =
      let p = S.servers s in
      let t = highest_held p.history x in
      let one = turn (Valued (value_under l.code.cells p.history x t) t 1) S in
      let two = turn (Valued f.value (p.own x) 2) S in
      let other = cond (from_symbol l p x f) two (open_read l S s x) in
      let first = from_history l p x && (not (from_symbol l p x f) || f.first_way) in
      unless_kept (read_refusal l s x cells) S (cond first one other)
      (cond_kept S first one other (same_kept S one.answer) (cond_kept S (from_symbol l p x f) two (open_read l S s x) (same_kept S two.answer) (open_kept s x)))

  collect_read_kept : (s i : ℕ) (r : Read) → Kept S (collect_read l S s i r)
  collect_read_kept s i Free = same_kept S StillOpen
  collect_read_kept s i (Open a) = same_kept S StillOpen
  collect_read_kept s i (Answered r) = valued_kept S _ _ _ _

  collect_at_kept : (s : ℕ) (o : Option ℕ) → Kept S (collect_at l S s o)
  collect_at_kept s None = same_kept S StillOpen
  collect_at_kept s (Some i) = collect_read_kept s i ((S.servers s).reads i)

  collect_kept : (s m cells : ℕ) → Kept S (collect l S s m cells)
  unfolding collect
  collect_kept s m cells =
      let o = client_place (S.servers s) m in
      unless_kept (collect_refusal l s cells o) S (collect_at l S s o) (collect_at_kept s o)

  contained_kept : (s x : ℕ) (f : Found) → Kept S (encode_contained l S s x f)
  unfolding encode_contained
  contained_kept s x f =
      let p = S.servers s in
      let t = highest_held p.history x in
      let move = turn (Outcome 1) (move_done l S s x t (turned l s p x (p.own x) t p.symbol)) in
      let enter = turn (Outcome 3) (enter_done l S s (record { object = x; tag = p.own x; value = f.value })) in
      let ask = turn (Outcome 4) (open_done l S s (internal x) x) in
      let moves = unless (check (room l S s) LaneFull None) S move in
      let enters = unless (check (history_room S s) HistoryFull None) S enter in
      let asks = unless (check (ltb p.opened max_read) NumbersUsedUp (check (room l S s) LaneFull None)) S ask in
      let late = cond f.recovered enters asks in
      let waits = cond (is_open (p.reads (internal x))) (turn (Outcome 2) S) late in
      let held = holds p.history x (p.own x) in
      cond_kept S (lower (p.own x) t) (cond held moves waits) (turn (Outcome 0) S)
      (cond_kept S held moves waits (unless_kept (check (room l S s) LaneFull None) S move (outcome_kept S move.next 1))
      (cond_kept S (is_open (p.reads (internal x))) (turn (Outcome 2) S) late (same_kept S (Outcome 2))
      (cond_kept S f.recovered enters asks (unless_kept (check (history_room S s) HistoryFull None) S enter (outcome_kept S enter.next 3))
      (unless_kept (check (ltb p.opened max_read) NumbersUsedUp (check (room l S s) LaneFull None)) S ask (outcome_kept S ask.next 4)))))
      (same_kept S (Outcome 0))

  other_kept : (s x : ℕ) → Kept S (encode_other l S s x)
  unfolding encode_other
  other_kept s x =
      let p = S.servers s in
      let t = highest (within l p x) x p.history in
      let move = turn (Outcome 1) (move_done l S s x t p.symbol) in
      cond_kept S (lower (p.own x) t) (unless (check (room l S s) LaneFull None) S move) (turn (Outcome 0) S)
      (unless_kept (check (room l S s) LaneFull None) S move (outcome_kept S move.next 1)) (same_kept S (Outcome 0))

  encode_kept : (s x : ℕ) (f : Found) → Kept S (encode l S s x f)
  unfolding encode
  encode_kept s x f = unless_kept (object_refusal l s x) S (cond (contains l.code s x) (encode_contained l S s x f) (encode_other l S s x))
      (cond_kept S (contains l.code s x) (encode_contained l S s x f) (encode_other l S s x) (contained_kept s x f) (other_kept s x))

  sweep_kept : (s x : ℕ) → Kept S (sweep l S s x)
  unfolding sweep
  sweep_kept s x = unless_kept _ S _ (removed_kept S _ _)

  settle_kept : (a b i : ℕ) (r : Asking) (v : List ℕ) → Kept S (settle l S a b i r v)
  unfolding settle
  settle_kept a b i r v =
      let p = S.servers b in
      let one = turn (Outcome 4) (take_done l S a b (client_answer l p i r v)) in
      let two = turn (Outcome 4) (take_done l S a b (internal_answer l p i r v)) in
      cond_kept S (ltb i max_client_reads) one (unless (check (history_room S b) HistoryFull None) S two) (outcome_kept S one.next 4)
      (unless_kept (check (history_room S b) HistoryFull None) S two (outcome_kept S two.next 4))

  plain_to_kept : (a b i : ℕ) (v : List ℕ) (r : Read) → Kept S (plain_to l S a b i v r)
  plain_to_kept a b i v Free = outcome_kept S _ 5
  plain_to_kept a b i v (Open r) = settle_kept a b i r v
  plain_to_kept a b i v (Answered r) = outcome_kept S _ 5

  plain_at_kept : (a b : ℕ) (v : List ℕ) (o : Option ℕ) → Kept S (plain_at l S a b v o)
  plain_at_kept a b v None = outcome_kept S _ 5
  plain_at_kept a b v (Some i) = plain_to_kept a b i v ((S.servers b).reads i)

  symbol_kept : (a b i : ℕ) (r : Asking) (f : Found) (o : Option (List ℕ)) → Kept S (by_symbol l S a b i r f o)
  symbol_kept a b i r f None = outcome_kept S _ 6
  symbol_kept a b i r f (Some v) =
      let wait = turn (Outcome 3) (take_done l S a b (reading (S.servers b) (upd (S.servers b).reads i (Open (in_hand r a v))))) in
      cond_kept S f.recovered (settle l S a b i (in_hand r a v) f.value) wait (settle_kept a b i (in_hand r a v) f.value) (outcome_kept S wait.next 3)

  coded_to_kept : (a b i : ℕ) (v : List ℕ) (ts : List Tag) (f : Found) (r : Read) → Kept S (coded_to l S a b i v ts f r)
  coded_to_kept a b i v ts f Free = outcome_kept S _ 5
  coded_to_kept a b i v ts f (Open r) = symbol_kept a b i r f (mended l (S.servers b) a r v ts l.code.objects)
  coded_to_kept a b i v ts f (Answered r) = outcome_kept S _ 5

  coded_at_kept : (a b : ℕ) (v : List ℕ) (ts : List Tag) (f : Found) (o : Option ℕ) → Kept S (coded_at l S a b v ts f o)
  coded_at_kept a b v ts f None = outcome_kept S _ 5
  coded_at_kept a b v ts f (Some i) = coded_to_kept a b i v ts f ((S.servers b).reads i)

  got_kept : (a b : ℕ) (m : Meaning) (f : Found) → Kept S (got l S a b m f)
  unfolding got
  got_kept a b (write_notice x v h clock) f =
      let p = S.servers b in
      let t = turn (Outcome 0) (take_done l S a b (queued p (p.waiting ++ waiting_write a x v h clock ∷ []))) in
      unless_kept (check (ltb (length p.waiting) max_waiting) WaitingFull None) S t (outcome_kept S t.next 0)
  got_kept a b (tag_notice x t) f = outcome_kept S _ 0
  got_kept a b (question m x ts) f =
      let p = S.servers b in
      let o = cond (holds p.history x (get_or ts x zero_tag)) 1 2 in
      let t = turn (Outcome o) (question_done l S a b (reply l b p m x ts)) in
      unless_kept (check (ltb (length (S.lanes b a)) l.places) LaneFull None) S t (outcome_kept S t.next o)
  got_kept a b (plain_reply m v) f = plain_at_kept a b v (open_place (S.servers b) m)
  got_kept a b (coded_reply m v ts) f = coded_at_kept a b v ts f (open_place (S.servers b) m)

  oldest_kept : (a b : ℕ) (ms : List Meaning) (f : Found) → Kept S (oldest l S a b ms f)
  unfolding oldest
  oldest_kept a b [] f = same_kept S (Refused LaneEmpty)
  oldest_kept a b (m ∷ ms) f =
      let t = turn (Outcome 7) (take_done l S a b (S.servers b)) in
      cond_kept S (fits l m) (got l S a b m f) t (got_kept a b m f) (outcome_kept S t.next 7)

  deliver_kept : (a b : ℕ) (f : Found) → Kept S (deliver l S a b f)
  unfolding deliver
  deliver_kept a b f = unless_kept (lane_refusal l a b) S (oldest l S a b (S.lanes a b) f) (oldest_kept a b (S.lanes a b) f)

pub refusals_change_nothing : RefusalsChangeNothing
refusals_change_nothing l S (Write s x v) f = (write_kept l S s x v).same
refusals_change_nothing l S (Ask s x cells) f = (read_kept l S s x cells f).same
refusals_change_nothing l S (Collect s m cells) f = (collect_kept l S s m cells).same
refusals_change_nothing l S (Deliver a b) f = (deliver_kept l S a b f).same
refusals_change_nothing l S (Apply s) f = (apply_kept l S s).same
refusals_change_nothing l S (Encode s x) f = (encode_kept l S s x f).same
refusals_change_nothing l S (Sweep s x) f = (sweep_kept l S s x).same
