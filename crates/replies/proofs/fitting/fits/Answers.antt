use Rattle.std.proofs.Common.{◌&&◌, ap, ◌∙◌}
use Rattle.code.specs.Meaning.{meaning}
use Rattle.message.specs.Meanings as message
use Rattle.rules.specs.Delivering.{fits, fits_group}
use Rattle.server.specs.Steps.{laid}
use Rattle.replies.proofs.fitting.fits.Goals as goal

pub returns-then-is_in_range : goal.returns-then-is_in_range
unfolding fits
returns-then-is_in_range g c = record {
  decided = λ places. c.fits_group.ensures places ∙ ap (λ b. b && fits_group (laid (meaning g.F.Field.arithmetic c.args.code.now) places) (message.meaning c.args.m.now)) c.if-is_in_range.ensures.decided;
}

pub returns-else-is_in_range : goal.returns-else-is_in_range
unfolding fits
returns-else-is_in_range g c = record {
  decided = λ places. c.if-is_in_range.false ∙ ap (λ b. b && fits_group (laid (meaning g.F.Field.arithmetic c.args.code.now) places) (message.meaning c.args.m.now)) c.if-is_in_range.ensures.decided;
}
