-- When the calls are refused before they come to their server. Assumes nothing.
use Rattle.std.specs.Prelude.{ℕ, Bool, List, length, None, Option, ◌==◌, nat_lt}
use Rattle.terms.specs.declared.refusal.Refusal.{Refusal}
use Rattle.terms.specs.declared.refusal.Refusal.TheVariants.{NoSuchServer, NoSuchObject, WrongLength, NoElement}
use Rattle.rules.specs.State.{Layout}
use Rattle.rules.specs.Turns.{check}
use Rattle.rules.specs.Writing.{elements}

-- beside a carrier of too few servers, and otherwise
abbrev pub beside : Bool → Option Refusal → Option Refusal
beside enough why = check enough NoSuchServer why

module _ (l : Layout) where
  -- there is no server s
  abbrev pub server_why : ℕ → Option Refusal
  server_why s = check (nat_lt s l.code.servers) NoSuchServer None

  -- or no object x
  abbrev pub object_why : ℕ → ℕ → Option Refusal
  object_why s x = check (nat_lt s l.code.servers) NoSuchServer (check (nat_lt x l.code.objects) NoSuchObject None)

  -- v is not one element for each cell
  abbrev pub value_why : List ℕ → Option Refusal
  value_why v = check (length v == l.code.cells) WrongLength (check (elements l v) NoElement None)
