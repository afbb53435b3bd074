use Rattle.std.proofs.Common.{◌&&◌, ap, ◌∙◌}
use Rattle.code.specs.Meaning.{meaning}
use Rattle.rules.specs.Delivering.{fits_tag}
use Rattle.server.specs.Steps.{laid}
use Rattle.replies.proofs.fitting.fits_notice.Goals as goal

pub returns-then-fits_object : goal.returns-then-fits_object
returns-then-fits_object g c places =
    c.fits_tag.ensures ∙ ap (λ b. b && fits_tag (laid (meaning g.F.Field.arithmetic c.args.code.now) places) c.args.tag) c.if-fits_object.ensures
