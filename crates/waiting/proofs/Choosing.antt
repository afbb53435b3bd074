-- One more place in the choice of the next write. Assumes nothing.
use Rattle.std.proofs.Common.{◌≡◌, ℕ, zero, suc, ◌+◌, List, None, refl, ap, add-one}
use Rattle.rules.specs.State as rules
use Rattle.rules.specs.Writing.{next_ready}
use Rattle.waiting.specs.Writes.{better_of, next_of}

pub next_more : (n : ℕ) (clock : ℕ → ℕ) (ws : List rules.Waiting) (i : ℕ) → next_of n clock ws (i + 1) ≡ better_of n clock ws (next_of n clock ws i) i
unfolding next_of
next_more n clock ws i = ap (next_of n clock ws) (add-one i)

pub next_none : (n : ℕ) (clock : ℕ → ℕ) (ws : List rules.Waiting) → next_of n clock ws 0 ≡ None
unfolding next_of
next_none n clock ws = refl

-- the choice by a server's clock is the rules' choice
pub next_is : (l : rules.Layout) (p : rules.Server) (ws : List rules.Waiting) (i : ℕ) → next_of l.code.servers p.clock ws i ≡ next_ready l p ws i
unfolding next_of next_ready
next_is l p ws zero = refl
next_is l p ws (suc i) = ap (λ o. better_of l.code.servers p.clock ws o i) (next_is l p ws i)
