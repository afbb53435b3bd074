use Rattle.std.proofs.Common.{ℕ, ◌+◌, List, Option, sym, ◌∙◌, subst₂}
use Rattle.matrix.proofs.Pivots.{is_found, is_none_found}
use Rattle.matrix.proofs.Reducing.{Reducing, reducing_more, reducing_free, reducing_skip}
use Rattle.matrix.proofs.elimination.reduce.Goals as goal
use Rattle.matrix.proofs.elimination.reduce.Goals.{then-c-k+in-Some, then-c-k+in_default, else-c-k}

pub loop-c-preserved : goal.loop-c-preserved
loop-c-preserved g c =
    let ring = g.met.F.Field.ring in
    let inverses = g.met.F.Field.inverses in
    let k = c.args.k in
    let start = c.args.start in
    let rows = c.loop-c.rows in
    let leads = c.loop-c.leads in
    let column = c.loop-c.c in
    let within = c.loop-c-test.true in
    let at = c.loop-c.invariant in
    let After : List (List ℕ) → List (Option ℕ) → Type 0 = λ m l. Reducing g.F.Field.arithmetic k start m l (column + 1) in
    elim c.if-c-k.branch [
      | then-c-k+in-Some w ↦
          subst₂ After (sym w.rows-is) (sym w.leads-is)
          (reducing_more ring inverses k start rows leads column within at
          w.in-Some.p w.clear-rows.result w.if-c-k.true (is_found rows leads column w.in-Some.p (sym w.find_pivot.ensures ∙ w.in-Some.is)) w.clear-rows.ensures)
      | then-c-k+in_default w ↦
          subst₂ After (sym w.rows-is) (sym w.leads-is)
          (reducing_free ring inverses k start rows leads column within at (is_none_found rows leads column (sym w.find_pivot.ensures ∙ w.in_default.is)))
      | else-c-k w ↦
          subst₂ After (sym w.rows-is) (sym w.leads-is) (reducing_skip ring inverses k start rows leads column within at w.if-c-k.false)
    ]
