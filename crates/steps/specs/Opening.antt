-- The opening of a read at one server. Assumes nothing.
use Rattle.std.specs.Prelude.{ℕ, ◌+◌, Bool, is_some, Some, None, Option, nat_lt}
use Rattle.terms.specs.Limits.{max_read}
use Rattle.terms.specs.declared.refusal.Refusal.{Refusal}
use Rattle.terms.specs.declared.refusal.Refusal.TheVariants.{NumbersUsedUp, ReadsFull, LaneFull}
use Rattle.message.specs.Meanings.{question}
use Rattle.rules.specs.State.{Layout, Server}
use Rattle.rules.specs.Turns.{Answer, check}
use Rattle.rules.specs.Updates.{opening}
use Rattle.terms.specs.Lists.{listed}
use Rattle.steps.specs.Local.{Local, local, refused_or}

-- why a read is not opened: by whether it has a place, and whether the lanes to all others have one
abbrev pub open_why : Server → Bool → Bool → Option Refusal
open_why p placed lanes_free = check (nat_lt p.opened max_read) NumbersUsedUp (check placed ReadsFull (check lanes_free LaneFull None))

-- the server s with a read of x opened at a place, if there is one
abbrev pub opened_server : Server → ℕ → ℕ → Option ℕ → Server
opened_server p s x None = p
opened_server p s x (Some i) = opening p s i x

-- a read of x is opened at the server s, and answered by what `told` makes of its number; a question is there for all others
abbrev pub opened_local : Layout → Server → ℕ → ℕ → Option ℕ → Answer → Local
opened_local l p s x place a = local a (opened_server p s x place) (Some (question (p.opened + 1) x (listed l.code.objects p.own)))

-- the same, unless it is refused
abbrev pub open_local : Layout → Server → ℕ → ℕ → Option ℕ → Bool → (ℕ → Answer) → Local
open_local l p s x place lanes_free told = refused_or (open_why p (is_some place) lanes_free) p (opened_local l p s x place (told (p.opened + 1)))
