use Rattle.std.proofs.Common.{ℕ, ◌≤◌, arith, length-set}
use Rattle.terms.specs.Limits.{max_count}
use Rattle.server.specs.Servers.{server}
use Rattle.reads.proofs.Words.{get_or_upd, each_set}
use Rattle.server.proofs.Parts.{counted_is}
use Rattle.server.proofs.server.Server.count.Goals as goal

pub returns : goal.returns
returns c =
    let p = c.args.self.now in
    record {
      after =
          counted_is (server p) c.args.j.number c.args.count c.args.height _ c.max-self.result
          (get_or_upd p.clock c.args.j.number c.args.count 0 (omega (arith, c.args.j.within, p.count_each))) c.max-self.ensures;
    }

pub invariant_of-self : goal.invariant_of-self
invariant_of-self c =
    let p = c.args.self.now in
    record {
      counts_in_range =
          each_set (λ (n : ℕ). n ≤ max_count) p.clock c.args.j.number c.args.count 0 (omega (arith, c.args.j.within, p.count_each)) p.counts_in_range
          c.requires;
      count_each = simp length-set p.count_each;
      own_each = p.own_each;
      told_each = p.told_each;
    }
