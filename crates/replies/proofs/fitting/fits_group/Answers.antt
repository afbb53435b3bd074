use Rattle.std.proofs.Common.{sym, ap, ◌∙◌}
use Rattle.code.specs.Meaning.{meaning}
use Rattle.message.specs.Meanings as message
use Rattle.message.specs.declared.kinds.Message.{Message}
use Rattle.rules.specs.Delivering.{fits_group}
use Rattle.server.specs.Steps.{laid}
use Rattle.replies.proofs.fitting.fits_group.Goals as goal

pub returns-in-WriteNotice : goal.returns-in-WriteNotice
unfolding fits_group
returns-in-WriteNotice g c places =
    c.fits_write.ensures places ∙ ap (λ (m : Message). fits_group (laid (meaning g.F.Field.arithmetic c.args.code.now) places) (message.meaning m)) (sym c.in-WriteNotice.is)

pub returns-in-TagNotice : goal.returns-in-TagNotice
unfolding fits_group
returns-in-TagNotice g c places =
    c.fits_notice.ensures places ∙ ap (λ (m : Message). fits_group (laid (meaning g.F.Field.arithmetic c.args.code.now) places) (message.meaning m)) (sym c.in-TagNotice.is)

pub returns-in-Question : goal.returns-in-Question
unfolding fits_group
returns-in-Question g c places =
    c.fits_question.ensures places ∙ ap (λ (m : Message). fits_group (laid (meaning g.F.Field.arithmetic c.args.code.now) places) (message.meaning m)) (sym c.in-Question.is)

pub returns-in-PlainReply : goal.returns-in-PlainReply
unfolding fits_group
returns-in-PlainReply g c places =
    c.fits_value.ensures places ∙ ap (λ (m : Message). fits_group (laid (meaning g.F.Field.arithmetic c.args.code.now) places) (message.meaning m)) (sym c.in-PlainReply.is)

pub returns-in-CodedReply : goal.returns-in-CodedReply
unfolding fits_group
returns-in-CodedReply g c places =
    c.fits_coded.ensures places ∙ ap (λ (m : Message). fits_group (laid (meaning g.F.Field.arithmetic c.args.code.now) places) (message.meaning m)) (sym c.in-CodedReply.is)
