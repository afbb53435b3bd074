-- A delivery, by what its server does. Assumes nothing.
use Rattle.std.proofs.Common.{◌≡◌, ℕ, Bool, true, false, cond, ltb, List, ◌∷◌, length, Some, None, Option, sym, refl, ap, ◌∙◌}
use Rattle.terms.specs.Limits.{max_client_reads}
use Rattle.terms.specs.declared.refusal.Refusal.{Refusal}
use Rattle.terms.specs.declared.refusal.Refusal.TheVariants.{HistoryFull}
use Rattle.message.specs.declared.tag.Tag.{Tag}
use Rattle.message.specs.Meanings.{Meaning, write_notice, tag_notice, question, plain_reply, coded_reply}
use Rattle.rules.specs.Delivering.{open_place, fits, reply, client_answer, internal_answer, mended, take_done, question_done, settle, by_symbol, plain_to, plain_at, coded_to, coded_at, got, oldest}
use Rattle.rules.specs.Events.{is_refused}
use Rattle.rules.specs.Lanes.{Lanes, taken, posted}
use Rattle.rules.specs.State.{Layout, State, Server, Asking, Read, Free, Open, Answered}
use Rattle.rules.specs.Turns.{Found, Turn, turn, check, unless, Refused, Outcome}
use Rattle.rules.specs.Updates.{queued, reading, in_hand}
use Rattle.rules.specs.Words.{upd}
use Rattle.rules.specs.Writing.{put, history_room}
use Rattle.steps.specs.Local.{Local, local, refused_or}
use Rattle.replies.specs.Receiving.{settle_local, plain_by, plain_from, coded_symbol, coded_by, coded_from, got_local, deliver_local}
use Rattle.group.proofs.Places.{put_self, upd_self}
use Rattle.calls.specs.Delivering.{answered_lanes}

-- the lanes after a delivery: a refused one leaves them
abbrev pub handed : Bool → Lanes Meaning → ℕ → ℕ → Option Meaning → Lanes Meaning
handed true lanes a b m = lanes
handed false lanes a b m = answered_lanes lanes a b m

-- the server b answers, becomes another, and hands its reply over
abbrev pub handled : State → ℕ → ℕ → Local → Turn
handled S a b q = turn q.answer (put S b q.next (handed (is_refused q.answer) S.lanes a b q.news))

module _ (l : Layout) (S : State) (a b : ℕ) where
  abbrev here : Server
  here = S.servers b

  -- a refusal, or what the server does
  handled_unless : (why : Option Refusal) (t : Turn) (q : Local) → t ≡ handled S a b q → unless why S t ≡ handled S a b (refused_or why here q)
  handled_unless None t q e = e
  handled_unless (Some r) t q e = ap (turn (Refused r)) (sym (put_self S b))

  handled_cond : (c : Bool) (t u : Turn) (q r : Local) → t ≡ handled S a b q → u ≡ handled S a b r → cond c t u ≡ handled S a b (cond c q r)
  handled_cond true t u q r e d = e
  handled_cond false t u q r e d = d

  -- the message is taken, and the server becomes another
  took : (o : ℕ) (p : Server) → turn (Outcome o) (take_done l S a b p) ≡ handled S a b (local (Outcome o) p None)
  unfolding take_done
  took o p = refl

  settle_is : (i : ℕ) (r : Asking) (v : List ℕ) → settle l S a b i r v ≡ handled S a b (settle_local l here i r v)
  unfolding settle
  settle_is i r v =
      handled_cond (ltb i max_client_reads) _ _ _ _ (took 4 (client_answer l here i r v))
      (handled_unless (check (history_room S b) HistoryFull None) _ (local (Outcome 4) (internal_answer l here i r v) None) (took 4 (internal_answer l here i r v)))

  plain_read : (i : ℕ) (v : List ℕ) (r : Read) → plain_to l S a b i v r ≡ handled S a b (plain_by l here i v r)
  plain_read i v Free = took 5 here
  plain_read i v (Open r) = settle_is i r v
  plain_read i v (Answered g) = took 5 here

  plain_place : (v : List ℕ) (o : Option ℕ) → plain_at l S a b v o ≡ handled S a b (plain_from l here v o)
  plain_place v None = took 5 here
  plain_place v (Some i) = plain_read i v (here.reads i)

  symbol_is : (i : ℕ) (r : Asking) (f : Found) (o : Option (List ℕ)) → by_symbol l S a b i r f o ≡ handled S a b (coded_symbol l here a i r f o)
  symbol_is i r f None = took 6 here
  symbol_is i r f (Some v) = handled_cond f.recovered _ _ _ _ (settle_is i (in_hand r a v) f.value) (took 3 (reading here (upd here.reads i (Open (in_hand r a v)))))

  coded_read : (i : ℕ) (v : List ℕ) (ts : List Tag) (f : Found) (r : Read) → coded_to l S a b i v ts f r ≡ handled S a b (coded_by l here a i v ts f r)
  coded_read i v ts f Free = took 5 here
  coded_read i v ts f (Open r) = symbol_is i r f (mended l here a r v ts l.code.objects)
  coded_read i v ts f (Answered g) = took 5 here

  coded_place : (v : List ℕ) (ts : List Tag) (f : Found) (o : Option ℕ) → coded_at l S a b v ts f o ≡ handled S a b (coded_from l here a v ts f o)
  coded_place v ts f None = took 5 here
  coded_place v ts f (Some i) = coded_read i v ts f (here.reads i)

  abbrev pub back_free : Bool
  back_free = ltb (length (S.lanes b a)) l.places

  replied : (o : ℕ) (m : Meaning) → turn (Outcome o) (question_done l S a b m) ≡ handled S a b (local (Outcome o) here (Some m))
  unfolding question_done
  replied o m = let whole : (ℕ → Server) → Turn = λ f. turn (Outcome o) (record { servers = f; lanes = posted (taken S.lanes a b) b a m }) in ap whole (sym (upd_self S.servers b))

  got_is : (m : Meaning) (f : Found) → got l S a b m f ≡ handled S a b (got_local l here a b back_free m f)
  unfolding got
  got_is (write_notice x v h clock) f = handled_unless _ _ (local (Outcome 0) (queued here _) None) (took 0 _)
  got_is (tag_notice x t) f = took 0 _
  got_is (question m x ts) f = handled_unless _ _ (local (Outcome _) here (Some (reply l b here m x ts))) (replied _ (reply l b here m x ts))
  got_is (plain_reply m v) f = plain_place v (open_place here m)
  got_is (coded_reply m v ts) f = coded_place v ts f (open_place here m)

  -- the oldest message is delivered
  pub oldest_is : (lane ms : List Meaning) (m : Meaning) (f : Found) → lane ≡ m ∷ ms → oldest l S a b lane f ≡ handled S a b (deliver_local l here a b back_free m f)
  unfolding oldest
  oldest_is lane ms m f e =
      ap (λ (ns : List Meaning). oldest l S a b ns f) e
      ∙ handled_cond (fits l m) (got l S a b m f) (turn (Outcome 7) (take_done l S a b here)) (got_local l here a b back_free m f) (local (Outcome 7) here None) (got_is m f) (took 7 here)
