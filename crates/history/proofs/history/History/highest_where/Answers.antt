use Rattle.std.proofs.Common.{◌≡◌, Bool, true, false, cond, vec_items, fold, ap, ◌∙◌, take_all}
use Rattle.message.specs.Tags.{zero_tag}
use Rattle.message.specs.declared.tag.Tag.{Tag}
use Rattle.rules.specs.Histories as rules
use Rattle.rules.specs.Histories.{raised, highest}
use Rattle.history.specs.Entries.{entry, rises}
use Rattle.history.specs.declared.history.Entry.{Entry}
use Rattle.history.proofs.Folds.{fold_step, folded_map, raised_by}
use Rattle.history.proofs.history.History.highest_where.Goals as goal
use Rattle.history.proofs.history.History.highest_where.Goals.{then-rises, else-rises}

pub loop-e-preserved : goal.loop-e-preserved
loop-e-preserved g c = (
  c.loop-e.invariant.0,
  λ p h.
      let x = c.args.object in
      let step : Tag → Entry → Tag = λ t e. raised p x t (entry e) in
      let item = c.e-item.result in
      let more = fold_step step zero_tag c.deref-e-items.result.now c.loop-e.e-index item c.loop-e.best c.if-rises.best c.loop-e-test.true (c.loop-e.invariant.1 p h) in
      let at : (r : Bool) → r ≡ rises p x c.loop-e.best (entry item) → cond r item.tag c.loop-e.best ≡ step c.loop-e.best item =
      λ r e. ap (λ (b : Bool). cond b item.tag c.loop-e.best) e ∙ raised_by p x c.loop-e.best (entry item) in
      elim c.if-rises.branch [
        | then-rises w ↦ more (w.best-is ∙ at true (w.if-rises.ensures p h) ∙ ap (step c.loop-e.best) c.e-item.is)
        | else-rises w ↦ more (w.best-is ∙ at false (w.if-rises.ensures p h) ∙ ap (step c.loop-e.best) c.e-item.is)
      ],
)

pub returns : goal.returns
unfolding highest
returns g c = record {
  highest = λ p h.
      let step : Tag → rules.Entry → Tag = raised p c.args.object in
      c.loop-e.invariant.1 p h ∙ ap (fold (λ t (e : Entry). step t (entry e)) zero_tag) (take_all _ _ c.loop-e-test.false ∙ c.deref-e-items.ensures.value)
      ∙ folded_map entry step zero_tag (vec_items c.args.self.now.entries);
}
