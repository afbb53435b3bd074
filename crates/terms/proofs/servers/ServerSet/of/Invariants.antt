use Rattle.std.proofs.Common.{◌≡◌, ℕ, ltb, take, drop}
use Rattle.std.specs.List.{list_all}
use Rattle.terms.specs.Limits.{max_servers}
use Rattle.terms.specs.Sets.{member, among}
use Rattle.terms.proofs.servers.ServerSet.of.Given as goal

abbrev pub invariant-loop-s : goal.invariant-loop-s
invariant-loop-s l =
    (list_all (λ s. ltb s max_servers) (drop l.s-index l.servers) ≡ list_all (λ s. ltb s max_servers) l.servers)
    × ((t : ℕ) → member l.set t ≡ among (take l.s-index l.servers) t)
