use Rattle.std.proofs.Common.{rules, ℕ, get_or, ap, ◌∙◌}
use Rattle.terms.specs.Items.{items}
use Rattle.terms.specs.Lists.{listed}
use Rattle.terms.proofs.Listed.{listed_by}
use Rattle.message.specs.declared.tag.Tag.{Tag}
use Rattle.message.specs.Tags.{zero_tag}
use Rattle.code.specs.Meaning.{meaning}
use Rattle.rules.specs.Delivering.{stated}
use Rattle.server.specs.Servers.{server}
use Rattle.server.specs.Steps.{laid}
use Rattle.replies.proofs.seats.Seat.stated_tags.Goals as goal

pub returns : goal.returns
returns g c places =
    let l = laid (meaning g.F.Field.arithmetic c.args.self.now.code.now) places in
    let f : ℕ → Tag = λ y. stated l c.args.self.now.server.number (server c.args.p.now) y (get_or (items c.args.asked.now) y zero_tag) in
    listed_by (items c.from_fn.result) c.objects.result f c.zero.result c.from_fn.ensures.counted (λ i h. let made = c.from_fn.ensures.made i h in search (rules, made))
    ∙ ap (λ (n : ℕ). listed n f) c.objects.ensures.counted
