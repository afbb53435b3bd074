use Rattle.std.proofs.Common.{rules, ◌≡◌, ℕ, ◌≤◌, List, length, sym, subst}
use Rattle.terms.specs.Items.{items}
use Rattle.code.specs.Codings.{re_encoded}
use Rattle.code.specs.Meaning.{meaning}
use Rattle.steps.proofs.Turning.{re_encoded_some}
use Rattle.steps.proofs.shares.Share.exchanged.Goals as goal

pub invariant_of-result : goal.invariant_of-result
invariant_of-result g c =
    let share = c.args.self.now in
    let code = share.code.now in
    let k = meaning g.F.Field.arithmetic code in
    let is : items c.unwrap_or-exchanged.result ≡ re_encoded k share.server.number share.object.number (items c.args.symbol.now) (items c.args.old.now) (items c.args.new.now) = search rules in
    record { some_cells = subst (λ (v : List ℕ). 1 ≤ length v) (sym is) (re_encoded_some k share.server.number share.object.number _ _ _ code.least_cells) }
