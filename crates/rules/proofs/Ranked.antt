-- A group as functions of numbers: its code, its servers, its lanes.
use Rattle.std.proofs.Common.{ℕ, max, Bool, true, false, cond, not, ◌&&◌, ◌||◌, eqb, ltb, List, [], ◌∷◌, get_or}
use Rattle.field.specs.Arithmetic.{Arithmetic}
use Rattle.code.specs.Codings.{Coding}
use Rattle.rules.specs.State.{Layout}
use Rattle.rules.proofs.Core.{Core}
use Rattle.rules.proofs.RankedWords.{listed, Lanes}

-- the sizes, the field's operations, and the coefficient of a server and an object
pub record Code : Type 0 where
  pub n : ℕ
  pub k : ℕ
  pub w : ℕ
  pub places : ℕ
  pub q : ℕ
  pub plus : ℕ → ℕ → ℕ
  pub minus : ℕ → ℕ
  pub times : ℕ → ℕ → ℕ
  pub coefficient : ℕ → ℕ → ℕ

abbrev pub field_of : Code → Arithmetic
field_of g = record { size = g.q; plus = g.plus; minus = g.minus; times = g.times }

abbrev pub coding_of : Code → Coding
coding_of g = record { arithmetic = field_of g; servers = g.n; objects = g.k; cells = g.w; coefficient = g.coefficient }

abbrev pub layout_of : Code → Layout
layout_of g = record { code = coding_of g; places = g.places }

pub record Entry : Type 0 where
  pub object : ℕ
  pub tag : ℕ
  pub value : List ℕ

-- a write that waits to be applied
pub record Waiting : Type 0 where
  pub object : ℕ
  pub tag : ℕ
  pub value : List ℕ
  pub clock : List ℕ

-- a place for a read. Its state is 0 where it is free, 1 where a read is open, 2 where one is answered
pub record Read : Type 0 where
  pub state : ℕ
  pub number : ℕ
  pub object : ℕ
  pub tags : ℕ → ℕ
  pub hand : ℕ → Bool
  pub symbols : ℕ → List ℕ
  pub value : List ℕ
  pub tag : ℕ
  pub way : ℕ

pub record Server : Type 0 where
  pub clock : ℕ → ℕ
  pub top : ℕ
  pub symbol : List ℕ
  pub own : ℕ → ℕ
  -- by object and teller
  pub told : ℕ → ℕ → ℕ
  pub history : List Entry
  pub waiting : List Waiting
  -- the places 0 to 7 are the clients', the place 8 + x is that of the internal read of x
  pub reads : ℕ → Read
  pub opened : ℕ

pub record State : Type 0 where
  pub servers : ℕ → Server
  pub lanes : Lanes

abbrev pub clients : ℕ
clients = 8

abbrev pub slots : ℕ
slots = 14

abbrev pub depth : ℕ
depth = 64

abbrev pub queue : ℕ
queue = 32

abbrev pub most_writes : ℕ
most_writes = 1000000

abbrev pub most_reads : ℕ
most_reads = 1000000

abbrev pub most_height : ℕ
most_height = 6000000

-- ---- what a code says

abbrev pub has : Code → ℕ → ℕ → Bool
has g s x = not (eqb (g.coefficient s x) 0)

abbrev pub zeros : Code → List ℕ
zeros g = listed g.w (λ _. 0)

-- the symbol of the server s, where the value of x gives way to another
unfoldable pub swap : Code → ℕ → ℕ → List ℕ → List ℕ → List ℕ → List ℕ
swap g s x old new symbol =
    listed g.w (λ c. g.plus (get_or symbol c 0) (g.times (g.coefficient s x) (g.plus (get_or new c 0) (g.minus (get_or old c 0)))))

-- ---- histories

abbrev pub same_entry : ℕ → ℕ → Entry → Bool
same_entry x t e = eqb e.object x && eqb e.tag t

unfoldable pub enters : List Entry → ℕ → ℕ → Bool
enters [] x t = false
enters (e ∷ es) x t = same_entry x t e || enters es x t

abbrev pub holds : List Entry → ℕ → ℕ → Bool
holds es x t = eqb t 0 || enters es x t

-- the value entered under a tag: the earliest entered counts
unfoldable pub entered_value : Code → List Entry → ℕ → ℕ → List ℕ
entered_value g [] x t = zeros g
entered_value g (e ∷ es) x t = cond (same_entry x t e) e.value (entered_value g es x t)

-- the value held under a tag
unfoldable pub kept : Code → List Entry → ℕ → ℕ → List ℕ
kept g es x t = cond (eqb t 0) (zeros g) (entered_value g es x t)

-- the highest tag of x that passes, or 0
unfoldable pub highest : (ℕ → Bool) → ℕ → List Entry → ℕ
highest f x [] = 0
highest f x (e ∷ es) = cond (eqb e.object x && f e.tag) (max e.tag (highest f x es)) (highest f x es)

abbrev pub top_tag : ℕ → List Entry → ℕ
top_tag x es = highest (λ _. true) x es

-- ---- a new group

abbrev pub no_read : Read
no_read = record { state = 0; number = 0; object = 0; tags = λ _. 0; hand = λ _. false; symbols = λ _. []; value = []; tag = 0; way = 0 }

abbrev pub no_server : Code → Server
no_server g = record {
  clock = λ _. 0;
  top = 0;
  symbol = zeros g;
  own = λ _. 0;
  told = λ _ _. 0;
  history = [];
  waiting = [];
  reads = λ _. no_read;
  opened = 0;
}

abbrev pub fresh : Code → State
fresh g = record { servers = λ _. no_server g; lanes = λ _ _. [] }

abbrev pub is_open : Read → Bool
is_open r = eqb r.state 1

-- ---- what the order of tags rests on
abbrev pub core : State → Core
core S = record {
  own = λ s x. (S.servers s).own x;
  told = λ s x j. (S.servers s).told x j;
  held = λ s x t. holds (S.servers s).history x t;
  lane = S.lanes;
  live = λ s i. ltb i slots && is_open ((S.servers s).reads i);
  num = λ s i. ((S.servers s).reads i).number;
  want = λ s i y. ((S.servers s).reads i).tags y;
  last = λ s. (S.servers s).opened;
}
