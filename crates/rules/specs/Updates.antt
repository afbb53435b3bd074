-- The changes of one server that the calls are made of. Assumes nothing.
use Rattle.std.specs.Prelude.{ℕ, ◌+◌, max, Bool, true, false, cond, ◌&&◌, ◌||◌, List, [], ◌∷◌, ◌++◌, ◌==◌, nat_lt}
use Rattle.terms.specs.Limits.{max_client_reads}
use Rattle.message.specs.declared.tag.Tag.{Tag}
use Rattle.message.specs.Tags.{lower}
use Rattle.rules.specs.Words.{upd}
use Rattle.rules.specs.Histories.{Entry}
use Rattle.rules.specs.State.{Waiting, Asking, Read, Free, Open, Answered, Server}

-- an entry more in the history
unfoldable pub entered : Server → Entry → Server
entered p e = record {
  clock = p.clock;
  top = p.top;
  symbol = p.symbol;
  own = p.own;
  told = p.told;
  history = p.history ++ e ∷ [];
  waiting = p.waiting;
  reads = p.reads;
  opened = p.opened;
}

-- a write of j is applied: the clock's count of j becomes c, and the greatest height applied is at least h
unfoldable pub counted : Server → ℕ → ℕ → ℕ → Server
counted p j c h = record {
  clock = upd p.clock j c;
  top = max p.top h;
  symbol = p.symbol;
  own = p.own;
  told = p.told;
  history = p.history;
  waiting = p.waiting;
  reads = p.reads;
  opened = p.opened;
}

-- the waiting writes become ws
unfoldable pub queued : Server → List Waiting → Server
queued p ws = record {
  clock = p.clock;
  top = p.top;
  symbol = p.symbol;
  own = p.own;
  told = p.told;
  history = p.history;
  waiting = ws;
  reads = p.reads;
  opened = p.opened;
}

-- the history becomes es
unfoldable pub sifted : Server → List Entry → Server
sifted p es = record {
  clock = p.clock;
  top = p.top;
  symbol = p.symbol;
  own = p.own;
  told = p.told;
  history = es;
  waiting = p.waiting;
  reads = p.reads;
  opened = p.opened;
}

-- the reads become rs
unfoldable pub reading : Server → (ℕ → Read) → Server
reading p rs = record {
  clock = p.clock;
  top = p.top;
  symbol = p.symbol;
  own = p.own;
  told = p.told;
  history = p.history;
  waiting = p.waiting;
  reads = rs;
  opened = p.opened;
}

-- j told the tag t of x
unfoldable pub hearing : Server → ℕ → ℕ → Tag → Server
hearing p x j t = record {
  clock = p.clock;
  top = p.top;
  symbol = p.symbol;
  own = p.own;
  told = upd p.told x (upd (p.told x) j t);
  history = p.history;
  waiting = p.waiting;
  reads = p.reads;
  opened = p.opened;
}

-- the own tag of x at the server s becomes t, and the symbol v
unfoldable pub moved : Server → ℕ → ℕ → Tag → List ℕ → Server
moved p s x t v = record {
  clock = p.clock;
  top = p.top;
  symbol = v;
  own = upd p.own x t;
  told = upd p.told x (upd (p.told x) s t);
  history = p.history;
  waiting = p.waiting;
  reads = p.reads;
  opened = p.opened;
}

-- ---- reads

-- the next read of x at the server s: with its own tags, and its own symbol in hand
abbrev pub new_read : Server → ℕ → ℕ → Read
new_read p s x = Open (record { number = p.opened + 1; object = x; tags = p.own; hand = λ j. (j == s); symbols = λ j. p.symbol })

-- the next read is opened at the place i
unfoldable pub opening : Server → ℕ → ℕ → ℕ → Server
opening p s i x = record {
  clock = p.clock;
  top = p.top;
  symbol = p.symbol;
  own = p.own;
  told = p.told;
  history = p.history;
  waiting = p.waiting;
  reads = upd p.reads i (new_read p s x);
  opened = p.opened + 1;
}

-- the read is answered by v under t
abbrev pub answered : Asking → List ℕ → Tag → ℕ → Read
answered a v t way = Answered (record { number = a.number; value = v; tag = t; way = way })

-- one symbol more in hand, from j
abbrev pub in_hand : Asking → ℕ → List ℕ → Asking
in_hand a j v = record { number = a.number; object = a.object; tags = a.tags; hand = upd a.hand j true; symbols = upd a.symbols j v }

-- what a newer write of x makes of a client's read: one of x that is open is answered (way 4) if its tag of x is lower, or if all are
abbrev pub newer : Bool → ℕ → Tag → List ℕ → Read → Read
newer all x t v Free = Free
newer all x t v (Open a) = cond (a.object == x && (all || lower (a.tags x) t)) (answered a v t 4) (Open a)
newer all x t v (Answered r) = Answered r

-- a newer write of x at each place of a client
unfoldable pub overtaken : (ℕ → Read) → Bool → ℕ → Tag → List ℕ → ℕ → Read
overtaken rs all x t v i = cond (nat_lt i max_client_reads) (newer all x t v (rs i)) (rs i)

-- ---- which reads

-- the place is free
abbrev pub is_free : Read → Bool
is_free Free = true
is_free (Open a) = false
is_free (Answered r) = false

-- the place has an open read
abbrev pub is_open : Read → Bool
is_open Free = false
is_open (Open a) = true
is_open (Answered r) = false

-- a read with the number m that is not collected yet
abbrev pub has_number : ℕ → Read → Bool
has_number m Free = false
has_number m (Open a) = a.number == m
has_number m (Answered r) = r.number == m

-- an open read with the number m
abbrev pub is_open_as : ℕ → Read → Bool
is_open_as m Free = false
is_open_as m (Open a) = a.number == m
is_open_as m (Answered r) = false
