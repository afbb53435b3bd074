use Rattle.std.proofs.Common.{ℕ, ◌≤◌, sym, refl, subst, arith}
use Rattle.terms.specs.Limits.{max_count}
use Rattle.message.specs.Tags.{zero_tag}
use Rattle.reads.proofs.Words.{row_same, rows_same, same_everywhere}
use Rattle.server.proofs.Parts.{new_is}
use Rattle.server.proofs.server.Server.new.Goals as goal

pub returns : goal.returns
returns g c =
    record {
      new =
          new_is c.args.code.now.cells (row_same 0 0 refl) c.zero_cells.ensures.value (row_same c.zero-2.result zero_tag c.zero-2.ensures.zero)
          (rows_same c.zero.result zero_tag c.zero.ensures.zero)
          c.in_ok-new.ensures.empty c.in_ok-new-2.ensures.empty c.in_ok-new-3.ensures.all_free;
    }

pub invariant_of-result : goal.invariant_of-result
invariant_of-result g c =
    record {
      counts_in_range = λ j. subst (λ (n : ℕ). n ≤ max_count) (sym (same_everywhere 6 0 j)) (omega arith);
      count_each = refl;
      own_each = refl;
      told_each = refl;
    }
