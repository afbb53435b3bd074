use Rattle.std.proofs.Common.{ℕ, sym, refl, ap, ◌∙◌, ap₂, add-one}
use Rattle.field.specs.Sums.{sum}
use Rattle.code.proofs.code.sums.sum.Goals as goal

pub loop-j-init : goal.loop-j-init
unfolding sum
loop-j-init g c terms told = refl

pub loop-j-preserved : goal.loop-j-preserved
unfolding sum
loop-j-preserved g c terms told =
    let a = g.F.Field.arithmetic in
    let j = c.loop-j.j in
    c.add-sum.ensures.sum ∙ ap₂ a.plus (c.loop-j.invariant terms told) (told j c.term.result c.loop-j-test.true c.term.ensures)
    ∙ ap (λ (n : ℕ). sum a n terms) (sym (add-one j))
