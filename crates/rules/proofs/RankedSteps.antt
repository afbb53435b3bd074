-- The seven calls on ranked states, each as a function of the state and of what was found, in the shape of the rules.
use Rattle.std.proofs.Common.{ℕ, zero, suc, ◌+◌, ◌-◌, max, Bool, true, false, cond, not, ◌&&◌, ◌||◌, eqb, ltb, leb, List, [], ◌∷◌, ◌++◌, length, get_or, take, drop, Some, None, filter, Option}
use Rattle.rules.specs.Delivering as rule
use Rattle.rules.proofs.Unranked.{message_at}
use Rattle.rules.proofs.RankedMessages.{Message, Written, Tagged, Question, Plain, Coded, tag, height, server}
use Rattle.rules.proofs.RankedWords.{upd, listed, every, some, seek, lowest, Lanes, posted, spread, taken, free}
use Rattle.rules.proofs.Ranked.{Code, layout_of, Entry, Waiting, Read, Server, State, clients, slots, depth, queue, most_writes, most_reads, most_height, has, swap, same_entry, holds, kept, highest, top_tag, no_read, is_open}
pub use Rattle.rules.specs.Turns.{Call, Write, Read as Ask, Collect, Deliver, Apply, Encode, Sweep, Found}
pub use Rattle.rules.specs.Runs.{Move}

pub data Answer : Type 0 where
  Refused : ℕ → Answer
  Tag : ℕ → Answer
  -- value, tag, way
  Value : List ℕ → ℕ → ℕ → Answer
  Number : ℕ → Answer
  Still : Answer
  Nothing : Answer
  Outcome : ℕ → Answer
  Count : ℕ → Answer

-- what a call answers, and the state that it leaves
pub record Turn : Type 0 where
  pub answer : Answer
  pub next : State

abbrev pub turn : Answer → State → Turn
turn a S = record { answer = a; next = S }

-- the number of a refusal: r unless b, and then that of the later checks; 0 is none
abbrev pub check : Bool → ℕ → ℕ → ℕ
check b r later = cond b later r

-- refused with r, or done where r is 0
abbrev pub unless : ℕ → State → Turn → Turn
unless r S t = cond (eqb r 0) t (turn (Refused r) S)

-- ---- parts of a step

abbrev pub put : State → ℕ → Server → Lanes → State
put S s p L = record { servers = upd S.servers s p; lanes = L }

unfoldable pub entered : Server → Entry → Server
entered p e = record {
  clock = p.clock;
  top = p.top;
  symbol = p.symbol;
  own = p.own;
  told = p.told;
  history = p.history ++ e ∷ [];
  waiting = p.waiting;
  reads = p.reads;
  opened = p.opened;
}

-- the clock's count of j becomes c, and the greatest height applied is at least h
unfoldable pub counted : Server → ℕ → ℕ → ℕ → Server
counted p j c h = record {
  clock = upd p.clock j c;
  top = max p.top h;
  symbol = p.symbol;
  own = p.own;
  told = p.told;
  history = p.history;
  waiting = p.waiting;
  reads = p.reads;
  opened = p.opened;
}

unfoldable pub queued : Server → List Waiting → Server
queued p ws = record {
  clock = p.clock;
  top = p.top;
  symbol = p.symbol;
  own = p.own;
  told = p.told;
  history = p.history;
  waiting = ws;
  reads = p.reads;
  opened = p.opened;
}

unfoldable pub sifted : Server → List Entry → Server
sifted p es = record {
  clock = p.clock;
  top = p.top;
  symbol = p.symbol;
  own = p.own;
  told = p.told;
  history = es;
  waiting = p.waiting;
  reads = p.reads;
  opened = p.opened;
}

unfoldable pub reading : Server → (ℕ → Read) → Server
reading p rs = record {
  clock = p.clock;
  top = p.top;
  symbol = p.symbol;
  own = p.own;
  told = p.told;
  history = p.history;
  waiting = p.waiting;
  reads = rs;
  opened = p.opened;
}

unfoldable pub tells : Server → ℕ → ℕ → ℕ → Server
tells p x j t = record {
  clock = p.clock;
  top = p.top;
  symbol = p.symbol;
  own = p.own;
  told = upd p.told x (upd (p.told x) j t);
  history = p.history;
  waiting = p.waiting;
  reads = p.reads;
  opened = p.opened;
}

-- the own tag of x becomes t, and the symbol v
unfoldable pub moved : Server → ℕ → ℕ → ℕ → List ℕ → Server
moved p s x t v = record {
  clock = p.clock;
  top = p.top;
  symbol = v;
  own = upd p.own x t;
  told = upd p.told x (upd (p.told x) s t);
  history = p.history;
  waiting = p.waiting;
  reads = p.reads;
  opened = p.opened;
}

-- a new read of x at the place i
abbrev pub new_read : Server → ℕ → ℕ → Read
new_read p s x = record {
  state = 1;
  number = p.opened + 1;
  object = x;
  tags = p.own;
  hand = λ j. eqb j s;
  symbols = λ j. p.symbol;
  value = [];
  tag = 0;
  way = 0;
}

unfoldable pub opening : Server → ℕ → ℕ → ℕ → Server
opening p s i x = record {
  clock = p.clock;
  top = p.top;
  symbol = p.symbol;
  own = p.own;
  told = p.told;
  history = p.history;
  waiting = p.waiting;
  reads = upd p.reads i (new_read p s x);
  opened = p.opened + 1;
}

abbrev pub answered : Read → List ℕ → ℕ → ℕ → Read
answered r v t way = record {
  state = 2;
  number = r.number;
  object = r.object;
  tags = r.tags;
  hand = r.hand;
  symbols = r.symbols;
  value = v;
  tag = t;
  way = way;
}

-- the read with one symbol more in hand
abbrev pub in_hand : Read → ℕ → List ℕ → Read
in_hand r j v = record {
  state = r.state;
  number = r.number;
  object = r.object;
  tags = r.tags;
  hand = upd r.hand j true;
  symbols = upd r.symbols j v;
  value = r.value;
  tag = r.tag;
  way = r.way;
}

-- a write to x with the tag t answers the open client reads of x, all or those with a lower tag
unfoldable pub overtaken : (ℕ → Read) → Bool → ℕ → ℕ → List ℕ → ℕ → Read
overtaken rs all x t v i =
    cond (ltb i clients && (is_open (rs i) && (eqb (rs i).object x && (all || ltb ((rs i).tags x) t)))) (answered (rs i) v t 4) (rs i)

abbrev pub no_write : Waiting
no_write = record { object = 0; tag = 0; value = []; clock = [] }

abbrev pub write_at : List Waiting → ℕ → Waiting
write_at ws i = get_or ws i no_write

-- a waiting write, and those that wait besides
pub record Picked : Type 0 where
  pub write : Waiting
  pub others : List Waiting

module _ (g : Code) where
  abbrev pub room : State → ℕ → Bool
  room S s = free g.places S.lanes s g.n

  abbrev pub history_room : State → ℕ → Bool
  history_room S s = ltb (length (S.servers s).history) depth

  -- ---- write

  abbrev pub elements : List ℕ → Bool
  elements v = every g.w (λ c. ltb (get_or v c 0) g.q)

  abbrev pub write_tag : Server → ℕ → ℕ
  write_tag p s = tag (p.top + 1) s

  unfoldable pub write_done : State → ℕ → ℕ → List ℕ → State
  write_done S s x v =
      let p = S.servers s in
      let t = write_tag p s in
      let c = counted p s (p.clock s + 1) (p.top + 1) in
      put S s (reading (entered c (record { object = x; tag = t; value = v })) (overtaken p.reads true x t v))
      (spread S.lanes s g.n (Written x v (p.top + 1) (listed g.n c.clock)))

  unfoldable pub write_refusal : State → ℕ → ℕ → List ℕ → ℕ
  write_refusal S s x v =
      check (ltb s g.n) 7 (check (ltb x g.k) 8 (check (eqb (length v) g.w) 9 (check (elements v) 11
      (check (ltb ((S.servers s).clock s) most_writes && ltb (S.servers s).top most_height) 14 (check (history_room S s) 15 (check (room S s) 17 0))))))

  unfoldable pub write : State → ℕ → ℕ → List ℕ → Turn
  write S s x v = unless (write_refusal S s x v) S (turn (Tag (write_tag (S.servers s) s)) (write_done S s x v))

  -- ---- reads

  unfoldable pub open_done : State → ℕ → ℕ → ℕ → State
  open_done S s i x =
      let p = S.servers s in
      put S s (opening p s i x) (spread S.lanes s g.n (Question (p.opened + 1) x (listed g.k p.own)))

  -- the first free place of a client
  abbrev pub free_slot : Server → ℕ
  free_slot p = seek clients (λ i. eqb (p.reads i).state 0)

  unfoldable pub open_refusal : State → ℕ → ℕ
  open_refusal S s = check (ltb (S.servers s).opened most_reads) 14 (check (ltb (free_slot (S.servers s)) clients) 16 (check (room S s) 17 0))

  unfoldable pub open_read : State → ℕ → ℕ → Turn
  open_read S s x = unless (open_refusal S s) S (turn (Number ((S.servers s).opened + 1)) (open_done S s (free_slot (S.servers s)) x))

  abbrev pub from_history : Server → ℕ → Bool
  from_history p x = leb (p.own x) (top_tag x p.history)

  abbrev pub from_symbol : Server → ℕ → Found → Bool
  from_symbol p x f = leb (top_tag x p.history) (p.own x) && f.recovered

  unfoldable pub read_refusal : ℕ → ℕ → ℕ → ℕ
  read_refusal s x l = check (ltb s g.n) 7 (check (ltb x g.k) 8 (check (eqb l g.w) 9 0))

  unfoldable pub read_found : State → ℕ → ℕ → Found → Turn
  read_found S s x f =
      let p = S.servers s in
      let t = top_tag x p.history in
      cond (from_history p x && (not (from_symbol p x f) || f.first_way)) (turn (Value (kept g p.history x t) t 1) S)
      (cond (from_symbol p x f) (turn (Value f.value (p.own x) 2) S)
      (open_read S s x))

  unfoldable pub read : State → ℕ → ℕ → ℕ → Found → Turn
  read S s x l f = unless (read_refusal s x l) S (read_found S s x f)

  -- the place of the client's read with a number
  abbrev pub client_slot : Server → ℕ → ℕ
  client_slot p m = seek clients (λ i. not (eqb (p.reads i).state 0) && eqb (p.reads i).number m)

  unfoldable pub collect_done : State → ℕ → ℕ → State
  collect_done S s i = put S s (reading (S.servers s) (upd (S.servers s).reads i no_read)) S.lanes

  unfoldable pub collect_refusal : State → ℕ → ℕ → ℕ → ℕ
  collect_refusal S s m l = check (ltb s g.n) 7 (check (eqb l g.w) 9 (check (ltb (client_slot (S.servers s) m) clients) 10 0))

  unfoldable pub collect_at : State → ℕ → ℕ → Turn
  collect_at S s i =
      let r = (S.servers s).reads i in
      cond (is_open r) (turn Still S) (turn (Value r.value r.tag r.way) (collect_done S s i))

  unfoldable pub collect : State → ℕ → ℕ → ℕ → Turn
  collect S s m l = unless (collect_refusal S s m l) S (collect_at S s (client_slot (S.servers s) m))

  -- ---- apply

  abbrev pub wait_tag : Waiting → ℕ
  wait_tag v = v.tag

  abbrev pub ready : Server → Waiting → Bool
  ready p v = every g.n (λ j. cond (eqb j (server v.tag)) (eqb (get_or v.clock j 0) (p.clock j + 1)) (leb (get_or v.clock j 0) (p.clock j)))

  abbrev pub better : List Waiting → Option ℕ → ℕ → Option ℕ
  better ws None i = Some i
  better ws (Some b) i = cond (ltb (write_at ws i).tag (write_at ws b).tag) (Some i) (Some b)

  -- the place of the lowest tag among the first n waiting writes that are ready
  unfoldable pub next_ready : Server → List Waiting → ℕ → Option ℕ
  next_ready p ws zero = None
  next_ready p ws (suc i) = cond (ready p (write_at ws i)) (better ws (next_ready p ws i) i) (next_ready p ws i)

  abbrev pub pick : List Waiting → Option ℕ → Option Picked
  pick ws None = None
  pick ws (Some i) = Some (record { write = write_at ws i; others = take i ws ++ drop (suc i) ws })

  -- the ready write of the lowest tag, and the other writes
  unfoldable pub picked : Server → List Waiting → Option Picked
  picked p ws = pick ws (next_ready p ws (length ws))

  unfoldable pub apply_done : State → ℕ → Waiting → List Waiting → State
  apply_done S s v vs =
      let p = S.servers s in
      let t = wait_tag v in
      put S s (reading (entered (counted (queued p vs) (server v.tag) (get_or v.clock (server v.tag) 0) (height v.tag)) (record { object = v.object; tag = t; value = v.value })) (overtaken p.reads false v.object t v.value)) S.lanes

  unfoldable pub apply_picked : State → ℕ → Option Picked → Turn
  apply_picked S s None = turn Nothing S
  apply_picked S s (Some b) = unless (check (history_room S s) 15 0) S (turn (Tag (wait_tag b.write)) (apply_done S s b.write b.others))

  unfoldable pub apply : State → ℕ → Turn
  apply S s = unless (check (ltb s g.n) 7 0) S (apply_picked S s (picked (S.servers s) (S.servers s).waiting))

  -- ---- encode

  unfoldable pub object_refusal : ℕ → ℕ → ℕ
  object_refusal s x = check (ltb s g.n) 7 (check (ltb x g.k) 8 0)

  unfoldable pub move_done : State → ℕ → ℕ → ℕ → List ℕ → State
  move_done S s x t v = put S s (moved (S.servers s) s x t v) (spread S.lanes s g.n (Tagged x t))

  unfoldable pub enter_done : State → ℕ → Entry → State
  enter_done S s e = put S s (entered (S.servers s) e) S.lanes

  unfoldable pub encode_contained : State → ℕ → ℕ → Found → Turn
  encode_contained S s x f =
      let p = S.servers s in
      let t = top_tag x p.history in
      cond (leb t (p.own x)) (turn (Outcome 0) S)
      (cond (holds p.history x (p.own x))
      (unless (check (room S s) 17 0) S (turn (Outcome 1) (move_done S s x t (swap g s x (kept g p.history x (p.own x)) (kept g p.history x t) p.symbol))))
      (cond (is_open (p.reads (clients + x))) (turn (Outcome 2) S)
      (cond f.recovered (unless (check (history_room S s) 15 0) S (turn (Outcome 3) (enter_done S s (record { object = x; tag = p.own x; value = f.value }))))
      (unless (check (ltb p.opened most_reads) 14 (check (room S s) 17 0)) S (turn (Outcome 4) (open_done S s (clients + x) x))))))

  -- not above any containing server's told tag
  abbrev pub within : Server → ℕ → ℕ → Bool
  within p x t = every g.n (λ j. not (has g j x) || leb t (p.told x j))

  unfoldable pub encode_other : State → ℕ → ℕ → Turn
  encode_other S s x =
      let p = S.servers s in
      let t = highest (within p x) x p.history in
      cond (leb t (p.own x)) (turn (Outcome 0) S)
      (unless (check (room S s) 17 0) S (turn (Outcome 1) (move_done S s x t p.symbol)))

  unfoldable pub encode : State → ℕ → ℕ → Found → Turn
  encode S s x f = unless (object_refusal s x) S (cond (has g s x) (encode_contained S s x f) (encode_other S s x))

  -- ---- sweep

  abbrev pub floor : Server → ℕ → ℕ
  floor p x = lowest g.n (p.told x)

  abbrev pub wanted : Server → ℕ → ℕ → Bool
  wanted p x t = some slots (λ i. is_open (p.reads i) && eqb ((p.reads i).tags x) t)

  -- what stays of the history at first, and then
  abbrev pub stays : Server → ℕ → Entry → Bool
  stays p x e = not (eqb e.object x && (ltb e.tag (floor p x) && not (wanted p x e.tag)))

  abbrev pub settled : Server → ℕ → List Entry → Bool
  settled p x es = every g.n (λ j. eqb (p.told x j) (p.own x)) && leb (top_tag x es) (p.own x)

  unfoldable pub swept : Server → ℕ → List Entry
  swept p x =
      let es = filter (stays p x) p.history in
      cond (settled p x es) (filter (λ e. not (same_entry x (p.own x) e)) es) es

  unfoldable pub sweep_done : State → ℕ → ℕ → State
  sweep_done S s x = put S s (sifted (S.servers s) (swept (S.servers s) x)) S.lanes

  unfoldable pub sweep : State → ℕ → ℕ → Turn
  sweep S s x = unless (object_refusal s x) S (turn (Count (length (S.servers s).history - length (swept (S.servers s) x))) (sweep_done S s x))

  -- ---- deliver

  abbrev pub tag_fits : ℕ → Bool
  tag_fits t = leb (height t) most_height && (ltb (server t) g.n && (ltb 0 (height t) || eqb (server t) 0))

  abbrev pub fits : Message → Bool
  fits m = rule.fits (layout_of g) (message_at m)

  -- a server that is asked for the tag u of y exchanges its own value
  abbrev pub exchanges : ℕ → Server → ℕ → ℕ → Bool
  exchanges s p y u = has g s y && (not (eqb u (p.own y)) && holds p.history y (p.own y))

  -- the tag that it states of y
  unfoldable pub states : ℕ → Server → ℕ → ℕ → ℕ
  states s p y u = cond (exchanges s p y u) (cond (holds p.history y u) u 0) (p.own y)

  -- the symbol with the values that it states, after the objects below a number
  unfoldable pub mixed : ℕ → Server → List ℕ → ℕ → List ℕ
  mixed s p T zero = p.symbol
  mixed s p T (suc y) =
      let u = get_or T y 0 in
      cond (exchanges s p y u) (swap g s y (kept g p.history y (p.own y)) (kept g p.history y (states s p y u)) (mixed s p T y)) (mixed s p T y)

  abbrev pub reply : ℕ → Server → ℕ → ℕ → List ℕ → Message
  reply s p m x T =
      cond (holds p.history x (get_or T x 0)) (Plain m (kept g p.history x (get_or T x 0)))
      (Coded m (mixed s p T g.k) (listed g.k (λ y. states s p y (get_or T y 0))))

  unfoldable pub question_done : State → ℕ → ℕ → Message → State
  question_done S a b m = record { servers = S.servers; lanes = posted (taken S.lanes a b) b a m }

  -- the place of the open read with a number
  abbrev pub open_slot : Server → ℕ → ℕ
  open_slot p m = seek slots (λ i. is_open (p.reads i) && eqb (p.reads i).number m)

  -- the oldest message of a lane is taken, and the server that gets it becomes p
  unfoldable pub take_done : State → ℕ → ℕ → Server → State
  take_done S a b p = put S b p (taken S.lanes a b)

  -- an open read, at the place i, is answered
  abbrev pub internal_answer : Server → ℕ → Read → List ℕ → Server
  internal_answer p i r v = reading (entered p (record { object = r.object; tag = r.tags r.object; value = v })) (upd p.reads i no_read)

  abbrev pub client_answer : Server → ℕ → Read → List ℕ → Server
  client_answer p i r v = reading p (upd p.reads i (answered r v (r.tags r.object) 3))

  unfoldable pub settle : State → ℕ → ℕ → ℕ → Read → List ℕ → Turn
  settle S a b i r v =
      let p = S.servers b in
      cond (ltb i clients) (turn (Outcome 4) (take_done S a b (client_answer p i r v)))
      (unless (check (history_room S b) 15 0) S (turn (Outcome 4) (take_done S a b (internal_answer p i r v))))

  -- at each object that the sender contains, the stated tag is the read's, or both are held
  abbrev pub mendable : Server → ℕ → Read → List ℕ → Bool
  mendable p a r st = every g.k (λ y. not (has g a y) || (eqb (get_or st y 0) (r.tags y) || (holds p.history y (get_or st y 0) && holds p.history y (r.tags y))))

  unfoldable pub mended : Server → ℕ → Read → List ℕ → List ℕ → ℕ → List ℕ
  mended p a r v st zero = v
  mended p a r v st (suc y) =
      cond (has g a y && not (eqb (get_or st y 0) (r.tags y)))
      (swap g a y (kept g p.history y (get_or st y 0)) (kept g p.history y (r.tags y)) (mended p a r v st y))
      (mended p a r v st y)

  unfoldable pub got : State → ℕ → ℕ → Message → Found → Turn
  got S a b (Written x v h ck) f =
      let p = S.servers b in
      unless (check (ltb (length p.waiting) queue) 18 0) S
      (turn (Outcome 0) (take_done S a b (queued p (p.waiting ++ record { object = x; tag = tag h a; value = v; clock = ck } ∷ []))))
  got S a b (Tagged x t) f = turn (Outcome 0) (take_done S a b (tells (S.servers b) x a t))
  got S a b (Question m x T) f =
      let p = S.servers b in
      unless (check (ltb (length (S.lanes b a)) g.places) 17 0) S
      (turn (Outcome (cond (holds p.history x (get_or T x 0)) 1 2)) (question_done S a b (reply b p m x T)))
  got S a b (Plain m v) f =
      let p = S.servers b in
      let i = open_slot p m in
      cond (ltb i slots) (settle S a b i (p.reads i) v) (turn (Outcome 5) (take_done S a b p))
  got S a b (Coded m v st) f =
      let p = S.servers b in
      let i = open_slot p m in
      let r = p.reads i in
      let r' = in_hand r a (mended p a r v st g.k) in
      cond (ltb i slots)
      (cond (mendable p a r st)
      (cond f.recovered (settle S a b i r' f.value) (turn (Outcome 3) (take_done S a b (reading p (upd p.reads i r')))))
      (turn (Outcome 6) (take_done S a b p)))
      (turn (Outcome 5) (take_done S a b p))

  unfoldable pub oldest : State → ℕ → ℕ → List Message → Found → Turn
  oldest S a b [] f = turn (Refused 13) S
  oldest S a b (m ∷ ms) f = cond (fits m) (got S a b m f) (turn (Outcome 7) (take_done S a b (S.servers b)))

  unfoldable pub lane_refusal : ℕ → ℕ → ℕ
  lane_refusal a b = check (ltb a g.n && ltb b g.n) 7 (check (not (eqb a b)) 12 0)

  unfoldable pub deliver : State → ℕ → ℕ → Found → Turn
  deliver S a b f = unless (lane_refusal a b) S (oldest S a b (S.lanes a b) f)

  -- ---- one call

  abbrev pub step : State → Call → Found → Turn
  step S (Write s x v) f = write S s x v
  step S (Ask s x l) f = read S s x l f
  step S (Collect s m l) f = collect S s m l
  step S (Deliver a b) f = deliver S a b f
  step S (Apply s) f = apply S s
  step S (Encode s x) f = encode S s x f
  step S (Sweep s x) f = sweep S s x

  abbrev pub after : State → Move → State
  after S m = (step S m.call m.found).next
