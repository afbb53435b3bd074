use Rattle.std.proofs.Common.{ℕ, Option, Result, ap, ◌∙◌, ap₂}
use Rattle.std.specs.Option.{option_map}
use Rattle.message.specs.declared.kinds.Message.{Message}
use Rattle.message.specs.Meanings.{meaning as meaning_of}
use Rattle.terms.specs.declared.refusal.Refusal.{Refusal}
use Rattle.code.specs.Meaning.{meaning}
use Rattle.rules.specs.Turns.{Numbered}
use Rattle.server.specs.Servers.{server}
use Rattle.server.specs.Steps.{laid}
use Rattle.steps.specs.Local.{local}
use Rattle.steps.specs.Opening.{open_local}
use Rattle.steps.specs.Reading.{read_by}
use Rattle.steps.specs.Told.{read_answer, read_said}
use Rattle.steps.specs.declared.turns.ReadAnswer.{ReadAnswer}
use Rattle.steps.specs.declared.turns.Turn.{Turn}
use Rattle.steps.proofs.Refused.{broke}
use Rattle.steps.proofs.reading.read.Goals as goal

pub returns-in-Some : goal.returns-in-Some
returns-in-Some g c =
    record {
      step = λ places.
          ap₂ (λ (a : ReadAnswer) (m : Option Message). local (read_answer a) (server c.args.p.now.server) (option_map meaning_of m)) c.quiet.ensures.answer c.quiet.ensures.quiet
          ∙ ap (read_by (laid (meaning g.F.Field.arithmetic c.args.code.now) places) (server c.args.p.now.server) c.args.me.number c.args.x.number c.args.lanes_free) (c.in-Some.ensures places);
    }

pub returns-in_err-asked : goal.returns-in_err-asked
returns-in_err-asked g c =
    record {
      step = λ places.
          let p = server c.args.p.now.server in
          let l = laid (meaning g.F.Field.arithmetic c.args.code.now) places in
          ap (λ (r : Result (Turn ReadAnswer) Refusal). read_said r (server c.open.new.p.server)) (broke c.from_residual.result c.in_err-asked.field-0.0 c.from_residual.ensures.1)
          ∙ c.in_err-asked.ensures.step places Numbered
          ∙ ap (λ (i : Option ℕ). open_local l p c.args.me.number c.args.x.number i c.args.lanes_free Numbered) c.free_place-place.ensures.place
          ∙ ap (read_by l p c.args.me.number c.args.x.number c.args.lanes_free) (c.in_default.ensures places);
    }

pub returns : goal.returns
returns g c =
    record {
      step = λ places.
          let p = server c.args.p.now.server in
          let l = laid (meaning g.F.Field.arithmetic c.args.code.now) places in
          c.in_ok-asked.ensures.step places Numbered
          ∙ ap (λ (i : Option ℕ). open_local l p c.args.me.number c.args.x.number i c.args.lanes_free Numbered) c.free_place-place.ensures.place
          ∙ ap (read_by l p c.args.me.number c.args.x.number c.args.lanes_free) (c.in_default.ensures places);
    }
