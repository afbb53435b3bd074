use Rattle.std.proofs.Common.{ℕ, Bool, not, ◌||◌, sym, ap, ◌∙◌}
use Rattle.terms.specs.Lists.{every}
use Rattle.terms.proofs.Every.{every_listed}
use Rattle.message.specs.Tags.{lower}
use Rattle.code.specs.Codings.{contains}
use Rattle.code.specs.Meaning.{meaning}
use Rattle.server.specs.Servers.{server}
use Rattle.steps.proofs.shares.Share.may_rise.Goals as goal

pub returns : goal.returns
returns g c places =
    let x = c.args.self.now.object.number in
    let test : ℕ → Bool = λ j. not (contains (meaning g.F.Field.arithmetic c.args.self.now.code.now) j x) || not (lower ((server c.args.p.now).told x j) c.args.tag) in
    c.all_let_rise.ensures ∙ sym (every_listed c.servers.result test) ∙ ap (λ (n : ℕ). every n test) c.servers.ensures.counted
