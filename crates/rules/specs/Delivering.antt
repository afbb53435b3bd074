-- Deliver: what each kind of message does where it arrives. Assumes nothing.
use Rattle.std.specs.Prelude.{ℕ, zero, suc, Bool, cond, not, ◌&&◌, List, [], ◌∷◌, ◌++◌, length, get_or, Some, None, Option, ◌==◌, nat_lt, slice_index_or}
use Rattle.terms.specs.Limits.{max_client_reads, max_waiting}
use Rattle.terms.specs.Lists.{listed}
use Rattle.std.specs.List.{list_all}
use Rattle.terms.specs.declared.refusal.Refusal.{Refusal}
use Rattle.terms.specs.declared.refusal.Refusal.TheVariants.{NoSuchServer, EqualEnds, LaneEmpty, HistoryFull, LaneFull, WaitingFull}
use Rattle.message.specs.declared.tag.Tag.{Tag}
use Rattle.message.specs.Tags.{zero_tag, same}
use Rattle.message.specs.Meanings.{Meaning, write_notice, tag_notice, question, plain_reply, coded_reply}
use Rattle.message.specs.Ranges.{in_range}
use Rattle.code.specs.Codings.{contains}
use Rattle.rules.specs.Words.{upd, first_below}
use Rattle.rules.specs.Lanes.{posted, taken}
use Rattle.rules.specs.Histories.{holds, value_under}
use Rattle.rules.specs.State.{Layout, Waiting, Asking, Read, Free, Open, Answered, Server, State, all_reads}
use Rattle.rules.specs.Updates.{entered, queued, reading, hearing, answered, in_hand, is_open_as}
use Rattle.rules.specs.Turns.{Found, Turn, turn, check, unless, Refused, Outcome}
use Rattle.rules.specs.Writing.{put, history_room, elements}
use Rattle.rules.specs.Encoding.{turned}

-- the place of the open read with the number m
abbrev pub open_place : Server → ℕ → Option ℕ
open_place p m = first_below all_reads (λ i. is_open_as m (p.reads i))

-- the write that a notice from a tells of
abbrev pub waiting_write : ℕ → ℕ → List ℕ → ℕ → List ℕ → Waiting
waiting_write a x v h clock = record { object = x; tag = record { height = h; server = a }; value = v; clock = clock }

module _ (l : Layout) where
  -- ---- whether a message fits the group: the ranges of messages, and the group's own sizes

  -- W elements
  abbrev pub fits_value : List ℕ → Bool
  fits_value v = length v == l.code.cells && elements l v

  -- the tag of one of the group's servers
  abbrev pub fits_tag : Tag → Bool
  fits_tag t = nat_lt t.server l.code.servers

  -- a tag for each object
  abbrev pub fits_tags : List Tag → Bool
  fits_tags ts = length ts == l.code.objects && list_all fits_tag ts

  -- by the group's own sizes
  unfoldable pub fits_group : Meaning → Bool
  fits_group (write_notice x v h clock) = nat_lt x l.code.objects && (fits_value v && length clock == l.code.servers)
  fits_group (tag_notice x t) = nat_lt x l.code.objects && fits_tag t
  fits_group (question m x ts) = nat_lt x l.code.objects && fits_tags ts
  fits_group (plain_reply m v) = fits_value v
  fits_group (coded_reply m v stated) = fits_value v && fits_tags stated

  -- the message fits
  unfoldable pub fits : Meaning → Bool
  fits m = in_range m && fits_group m

  -- the oldest message of the lane from a to b is taken, and the server b becomes p
  unfoldable pub take_done : State → ℕ → ℕ → Server → State
  take_done S a b p = put S b p (taken S.lanes a b)

  -- ---- a question

  -- the server s, asked for the tag u of y, exchanges its own value: it contains y, u is not its own tag, and its own tag is held
  abbrev pub exchanges : ℕ → Server → ℕ → Tag → Bool
  exchanges s p y u = contains l.code s y && (not (same u (p.own y)) && holds p.history y (p.own y))

  -- the tag that it states of y
  unfoldable pub stated : ℕ → Server → ℕ → Tag → Tag
  stated s p y u = cond (exchanges s p y u) (cond (holds p.history y u) u zero_tag) (p.own y)

  -- its symbol, where each object below a number has the value that is stated of it
  unfoldable pub restated : ℕ → Server → List Tag → ℕ → List ℕ
  restated s p ts zero = p.symbol
  restated s p ts (suc y) =
      let u = get_or ts y zero_tag in
      cond (exchanges s p y u) (turned l s p y (p.own y) (stated s p y u) (restated s p ts y)) (restated s p ts y)

  -- the reply to a question
  abbrev pub reply : ℕ → Server → ℕ → ℕ → List Tag → Meaning
  reply s p m x ts =
      cond (holds p.history x (slice_index_or ts x zero_tag))
      (plain_reply m (value_under l.code.cells p.history x (slice_index_or ts x zero_tag)))
      (coded_reply m (restated s p ts l.code.objects) (listed l.code.objects (λ y. stated s p y (slice_index_or ts y zero_tag))))

  -- the oldest message of the lane from a to b is taken, and the reply m goes back
  unfoldable pub question_done : State → ℕ → ℕ → Meaning → State
  question_done S a b m = record { servers = S.servers; lanes = posted (taken S.lanes a b) b a m }

  -- ---- a reply to an open read

  -- an internal read's value enters the history; a client's read is answered under its own tag (way 3)
  abbrev pub internal_answer : Server → ℕ → Asking → List ℕ → Server
  internal_answer p i r v = reading (entered p (record { object = r.object; tag = r.tags r.object; value = v })) (upd p.reads i Free)

  -- a client's
  abbrev pub client_answer : Server → ℕ → Asking → List ℕ → Server
  client_answer p i r v = reading p (upd p.reads i (answered r v (r.tags r.object) 3))

  -- the open read r at the place i is answered by v
  unfoldable pub settle : State → ℕ → ℕ → ℕ → Asking → List ℕ → Turn
  settle S a b i r v =
      let p = S.servers b in
      cond (nat_lt i max_client_reads) (turn (Outcome 4) (take_done S a b (client_answer p i r v)))
      (unless (check (history_room S b) HistoryFull None) S (turn (Outcome 4) (take_done S a b (internal_answer p i r v))))

  -- a symbol from a: at an object that a contains, a stated tag unlike the read's has its value taken out and the read's put in, if both are held
  abbrev pub mended_at : Server → ℕ → Asking → List Tag → ℕ → List ℕ → Option (List ℕ)
  mended_at p a r ts y v =
      let t = get_or ts y zero_tag in
      cond (contains l.code a y && not (same t (r.tags y)))
      (cond (holds p.history y t && holds p.history y (r.tags y)) (Some (turned l a p y t (r.tags y) v)) None)
      (Some v)

  -- one object more, if all before could be mended
  abbrev pub mended_next : Server → ℕ → Asking → List Tag → ℕ → Option (List ℕ) → Option (List ℕ)
  mended_next p a r ts y None = None
  mended_next p a r ts y (Some v) = mended_at p a r ts y v

  -- the symbol v as one of the read's tags, after the objects below a number
  unfoldable pub mended : Server → ℕ → Asking → List ℕ → List Tag → ℕ → Option (List ℕ)
  mended p a r v ts zero = Some v
  mended p a r v ts (suc y) = mended_next p a r ts y (mended p a r v ts y)

  -- a coded reply, by whether its symbol could be mended
  abbrev pub by_symbol : State → ℕ → ℕ → ℕ → Asking → Found → Option (List ℕ) → Turn
  by_symbol S a b i r f None = turn (Outcome 6) (take_done S a b (S.servers b))
  by_symbol S a b i r f (Some v) =
      cond f.recovered (settle S a b i (in_hand r a v) f.value)
      (turn (Outcome 3) (take_done S a b (reading (S.servers b) (upd (S.servers b).reads i (Open (in_hand r a v))))))

  -- the reply is dropped
  abbrev pub dropped : State → ℕ → ℕ → Turn
  dropped S a b = turn (Outcome 5) (take_done S a b (S.servers b))

  -- a plain reply, by the read at the place
  abbrev pub plain_to : State → ℕ → ℕ → ℕ → List ℕ → Read → Turn
  plain_to S a b i v Free = dropped S a b
  plain_to S a b i v (Open r) = settle S a b i r v
  plain_to S a b i v (Answered r) = dropped S a b

  -- a plain reply, by the place of its read
  abbrev pub plain_at : State → ℕ → ℕ → List ℕ → Option ℕ → Turn
  plain_at S a b v None = dropped S a b
  plain_at S a b v (Some i) = plain_to S a b i v ((S.servers b).reads i)

  -- a coded reply, by the read at the place
  abbrev pub coded_to : State → ℕ → ℕ → ℕ → List ℕ → List Tag → Found → Read → Turn
  coded_to S a b i v ts f Free = dropped S a b
  coded_to S a b i v ts f (Open r) = by_symbol S a b i r f (mended (S.servers b) a r v ts l.code.objects)
  coded_to S a b i v ts f (Answered r) = dropped S a b

  -- a coded reply, by the place of its read
  abbrev pub coded_at : State → ℕ → ℕ → List ℕ → List Tag → Found → Option ℕ → Turn
  coded_at S a b v ts f None = dropped S a b
  coded_at S a b v ts f (Some i) = coded_to S a b i v ts f ((S.servers b).reads i)

  -- ---- the message m from a arrives at b

  -- the step of each kind
  unfoldable pub got : State → ℕ → ℕ → Meaning → Found → Turn
  got S a b (write_notice x v h clock) f =
      let p = S.servers b in
      unless (check (nat_lt (length p.waiting) max_waiting) WaitingFull None) S
      (turn (Outcome 0) (take_done S a b (queued p (p.waiting ++ waiting_write a x v h clock ∷ []))))
  got S a b (tag_notice x t) f = turn (Outcome 0) (take_done S a b (hearing (S.servers b) x a t))
  got S a b (question m x ts) f =
      let p = S.servers b in
      unless (check (nat_lt (length (S.lanes b a)) l.places) LaneFull None) S
      (turn (Outcome (cond (holds p.history x (slice_index_or ts x zero_tag)) 1 2)) (question_done S a b (reply b p m x ts)))
  got S a b (plain_reply m v) f = plain_at S a b v (open_place (S.servers b) m)
  got S a b (coded_reply m v ts) f = coded_at S a b v ts f (open_place (S.servers b) m)

  -- by the oldest message of the lane
  unfoldable pub oldest : State → ℕ → ℕ → List Meaning → Found → Turn
  oldest S a b [] f = turn (Refused LaneEmpty) S
  oldest S a b (m ∷ ms) f = cond (fits m) (got S a b m f) (turn (Outcome 7) (take_done S a b (S.servers b)))

  -- why a deliver is refused
  unfoldable pub lane_refusal : ℕ → ℕ → Option Refusal
  lane_refusal a b = check (nat_lt a l.code.servers && nat_lt b l.code.servers) NoSuchServer (check (not (a == b)) EqualEnds None)

  -- the call
  unfoldable pub deliver : State → ℕ → ℕ → Found → Turn
  deliver S a b f = unless (lane_refusal a b) S (oldest S a b (S.lanes a b) f)
