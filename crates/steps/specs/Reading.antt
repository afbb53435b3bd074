-- Read and collect at one server. Assumes nothing.
use Rattle.std.specs.Prelude.{ℕ, Bool, true, false, cond, not, List, [], Some, None, Option}
use Rattle.terms.specs.declared.refusal.Refusal.TheVariants.{NoSuchRead}
use Rattle.message.specs.Tags.{lower}
use Rattle.rules.specs.Histories.{highest_held, value_under}
use Rattle.rules.specs.Reading.{from_history, free_place, client_place}
use Rattle.rules.specs.State.{Layout, Server, Read, Free, Open, Answered}
use Rattle.rules.specs.Turns.{Answer, Found, Refused, Valued, Numbered, StillOpen}
use Rattle.rules.specs.Updates.{reading}
use Rattle.rules.specs.Words.{upd}
use Rattle.steps.specs.Local.{Local, local}
use Rattle.steps.specs.Opening.{open_local}

-- what a step finds, by the value that its symbols recover, if they do; of two ways of reading, the first is told
abbrev pub found_of : Option (List ℕ) → Found
found_of None = record { recovered = false; value = []; first_way = true }
found_of (Some v) = record { recovered = true; value = v; first_way = true }

module _ (l : Layout) where
  -- from its own symbol, which recovers the value alone, if it does
  abbrev pub from_own : Server → ℕ → Option (List ℕ) → Option Answer
  from_own p x None = None
  from_own p x (Some v) = cond (not (lower (p.own x) (highest_held p.history x))) (Some (Valued v (p.own x) 2)) None

  -- what a read gives at once
  abbrev pub at_once : Server → ℕ → Option (List ℕ) → Option Answer
  at_once p x alone =
      let t = highest_held p.history x in
      cond (from_history l p x) (Some (Valued (value_under l.code.cells p.history x t) t 1)) (from_own p x alone)

  -- a read of x at the server s, by what it gives at once
  abbrev pub read_by : Server → ℕ → ℕ → Bool → Option Answer → Local
  read_by p s x lanes_free (Some a) = local a p None
  read_by p s x lanes_free None = open_local l p s x (free_place p) lanes_free Numbered

  -- the call
  abbrev pub read_local : Server → ℕ → ℕ → Option (List ℕ) → Bool → Local
  read_local p s x alone lanes_free = read_by p s x lanes_free (at_once p x alone)

-- ---- collect

-- by the read at the place i
abbrev pub collect_by : Server → ℕ → Read → Local
collect_by p i Free = local StillOpen p None
collect_by p i (Open a) = local StillOpen p None
collect_by p i (Answered r) = local (Valued r.value r.tag r.way) (reading p (upd p.reads i Free)) None

-- by the place, if there is one
abbrev pub collect_from : Server → Option ℕ → Local
collect_from p None = local (Refused NoSuchRead) p None
collect_from p (Some i) = collect_by p i (p.reads i)

-- the call
abbrev pub collect_local : Server → ℕ → Local
collect_local p m = collect_from p (client_place p m)
