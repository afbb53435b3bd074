-- What is looked up in a group, and when that is refused. Assumes nothing.
use Rattle.std.specs.Prelude.{ℕ, zero, suc, ◌+◌, cond, ◌&&◌, None, Option, nat_lt}
use Rattle.terms.specs.Answers.{unless}
use Rattle.terms.specs.declared.refusal.Refusal.{Refusal}
use Rattle.terms.specs.declared.refusal.Refusal.TheVariants.{NoSuchServer, NoSuchObject}
use Rattle.code.specs.Codings.{Coding}
use Rattle.rules.specs.State.{Read}
use Rattle.rules.specs.Updates.{is_free}

-- there is a server s
abbrev pub server_refusal : Coding → ℕ → Option Refusal
server_refusal g s = unless (nat_lt s g.servers) NoSuchServer None

-- there are servers s and j, and an object x
abbrev pub told_refusal : Coding → ℕ → ℕ → ℕ → Option Refusal
told_refusal g s x j = unless (nat_lt s g.servers && nat_lt j g.servers) NoSuchServer (unless (nat_lt x g.objects) NoSuchObject None)

-- how many of the first n places are not free
unfoldable pub in_use : ℕ → (ℕ → Read) → ℕ
in_use zero reads = 0
in_use (suc n) reads = in_use n reads + cond (is_free (reads n)) 0 1
