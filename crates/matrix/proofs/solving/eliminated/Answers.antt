use Rattle.std.proofs.Common.{ℕ, ◌+◌, List, Option, sym, ap, ◌∙◌, subst, MatchOption}
use Rattle.matrix.specs.Matrices.{entry, Determines, Solves}
use Rattle.matrix.proofs.Pivots.{is_found, is_none_found}
use Rattle.matrix.proofs.Widening.{widened_elements}
use Rattle.matrix.proofs.Decides.{solved, undetermined}
use Rattle.matrix.proofs.solving.eliminated.Goals as goal

pub reduce-reduced-requires : goal.reduce-reduced-requires
reduce-reduced-requires g c = widened_elements g.met.F.Field.ring c.args.rows c.widen.result c.widen.ensures

pub returns-in_err-p : goal.returns-in_err-p
returns-in_err-p g c =
    let end = c.reduce-reduced.result in
    subst (λ (o : Option (List ℕ)). MatchOption o (Determines g.F.Field.arithmetic c.args.rows c.args.k → ⊥) (λ f. Solves g.F.Field.arithmetic c.args.rows c.args.k f)) (sym c.from_residual.ensures)
    (undetermined g.met.F.Field.ring c.args.rows c.widen.result c.widen.ensures g.met.F.Field.inverses
    c.args.k c.requires end.rows end.leads c.reduce-reduced.ensures
    (is_none_found end.rows end.leads c.args.k (sym c.find_pivot.ensures ∙ c.in_err-p.was)))

pub returns : goal.returns
returns g c =
    let end = c.reduce-reduced.result in
    let p = c.in_ok-p.p in
    let found = is_found end.rows end.leads c.args.k p (sym c.find_pivot.ensures ∙ c.in_ok-p.was) in
    solved g.met.F.Field.ring c.args.rows c.widen.result c.widen.ensures g.met.F.Field.inverses
    c.args.k c.requires end.rows end.leads c.reduce-reduced.ensures
    p c.scaled.result found.within found.free found.pivot
    (λ v h. c.scaled.ensures v h ∙ ap (λ (i : ℕ). g.F.Field.arithmetic.times i (entry end.rows p (6 + v))) c.inv.ensures.inverted)
