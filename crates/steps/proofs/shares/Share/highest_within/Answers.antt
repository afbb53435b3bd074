use Rattle.std.proofs.Common.{◌≡◌, Bool, true, false, cond, fold, ap, ◌∙◌, take_all}
use Rattle.message.specs.Tags.{zero_tag}
use Rattle.message.specs.declared.tag.Tag.{Tag}
use Rattle.code.specs.Meaning.{meaning}
use Rattle.rules.specs.Encoding.{within}
use Rattle.rules.specs.Histories as rules
use Rattle.rules.specs.Histories.{raised, highest}
use Rattle.history.specs.Entries.{entry}
use Rattle.history.specs.declared.history.Entry.{Entry}
use Rattle.history.proofs.Folds.{fold_step, folded_map}
use Rattle.server.specs.Servers.{server}
use Rattle.server.specs.Steps.{laid}
use Rattle.steps.specs.Within.{rises}
use Rattle.steps.proofs.Rising.{raised_within}
use Rattle.steps.proofs.shares.Share.highest_within.Goals as goal
use Rattle.steps.proofs.shares.Share.highest_within.Goals.{then-rises, else-rises}

pub loop-e-preserved : goal.loop-e-preserved
loop-e-preserved g c places =
    let x = c.args.self.now.object.number in
    let test : Tag → Bool = within (laid (meaning g.F.Field.arithmetic c.args.self.now.code.now) places) (server c.args.p.now) x in
    let step : Tag → Entry → Tag = λ t e. raised test x t (entry e) in
    let item = c.e-item.result in
    let more = fold_step step zero_tag c.as_slice-e-items.result.now c.loop-e.e-index item c.loop-e.best c.if-rises.best c.loop-e-test.true (c.loop-e.invariant places) in
    let at : (r : Bool) → r ≡ rises test x c.loop-e.best (entry item) → cond r item.tag c.loop-e.best ≡ step c.loop-e.best item =
    λ r e. ap (λ (b : Bool). cond b item.tag c.loop-e.best) e ∙ raised_within test x c.loop-e.best (entry item) in
    elim c.if-rises.branch [
      | then-rises w ↦ more (w.best-is ∙ at true (w.if-rises.ensures places) ∙ ap (step c.loop-e.best) c.e-item.is)
      | else-rises w ↦ more (w.best-is ∙ at false (w.if-rises.ensures places) ∙ ap (step c.loop-e.best) c.e-item.is)
    ]

pub returns : goal.returns
unfolding highest
returns g c places =
    let x = c.args.self.now.object.number in
    let step : Tag → rules.Entry → Tag = raised (within (laid (meaning g.F.Field.arithmetic c.args.self.now.code.now) places) (server c.args.p.now) x) x in
    c.loop-e.invariant places ∙ ap (fold (λ t (e : Entry). step t (entry e)) zero_tag) (take_all _ _ c.loop-e-test.false)
    ∙ folded_map entry step zero_tag c.as_slice-e-items.result.now
    ∙ ap (fold step zero_tag) (c.as_slice-e-items.ensures.shown ∙ c.history.ensures.told)
