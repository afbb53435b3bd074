use Rattle.std.proofs.Common.{◌≡◌, ℕ, List, sym, refl, ap, subst, inr, rules}
use borrow.Author.Tests.{both_ways}
use Rattle.terms.specs.Items.{items}
use Rattle.code.specs.Layout.{coding, AllRecovered}
use Rattle.code.proofs.Sizes.{sized, accepted}
use Rattle.code.proofs.code.Code.new.Goals as goal

pub returns-then-all_recovered : goal.returns-then-all_recovered
returns-then-all_recovered g c =
    let a = c.args in
    let ar = g.F.Field.arithmetic in
    let made : List ℕ → Type 0 = λ t. AllRecovered (coding ar a.servers a.objects a.cells t) in
    let table : items c.in_ok-table.table ≡ a.table.now = search rules in
    record {
      accepted_or_refused = (
        ap (coding ar a.servers a.objects a.cells) table,
        accepted (sized ar.size a.servers a.objects a.cells a.table.now c.in_ok-check_sizes.ensures.0) ar refl
            (subst made table (c.if-all_recovered.ensures.0 refl)),
      );
    }

pub returns-else-all_recovered : goal.returns-else-all_recovered
returns-else-all_recovered g c =
    let a = c.args in
    let ar = g.F.Field.arithmetic in
    let made : List ℕ → Type 0 = λ t. AllRecovered (coding ar a.servers a.objects a.cells t) in
    let table : items c.in_ok-table.table ≡ a.table.now = search rules in
    record {
      accepted_or_refused = inr (
        c.in_ok-check_sizes.ensures.0,
        refl,
        λ all. both_ways c.all_recovered.result c.if-all_recovered.false (c.all_recovered.ensures.1 (subst made (sym table) all)),
      );
    }
