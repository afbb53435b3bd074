use Rattle.std.proofs.Common.{◌≡◌, Bool, take, fold}
use Rattle.std.specs.Fn.{AlwaysReturns}
use Rattle.message.specs.Tags.{zero_tag}
use Rattle.message.specs.declared.tag.Tag.{Tag}
use Rattle.rules.specs.Histories.{raised}
use Rattle.history.specs.Entries.{entry}
use Rattle.history.proofs.history.History.highest_where.Given as goal

abbrev pub invariant-loop-e : goal.invariant-loop-e
invariant-loop-e g l = goal.F-IsAlwaysCallable g l.test × ((p : Tag → Bool) → AlwaysReturns g.F.Fn (λ a b. b ≡ p a.0) l.test → l.best ≡ fold (λ t e. raised p l.object t (entry e)) zero_tag (take l.e-index l.e-items))
