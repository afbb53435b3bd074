use Rattle.std.proofs.Common.{Some, None, Result, ap, ◌∙◌}
use Rattle.std.specs.Option.{option_map}
use Rattle.terms.specs.Items.{items}
use Rattle.code.specs.Meaning.{meaning}
use Rattle.rules.specs.Turns.{Outcome}
use Rattle.server.specs.Servers.{server}
use Rattle.server.specs.Steps.{laid}
use Rattle.teller.specs.declared.values.Value.{Value}
use Rattle.terms.specs.declared.refusal.Refusal.{Refusal}
use Rattle.steps.specs.Told.{encode_said}
use Rattle.steps.specs.declared.turns.Encoded.{Encoded}
use Rattle.steps.specs.declared.turns.Turn.{Turn}
use Rattle.steps.proofs.Refused.{broke}
use Rattle.steps.proofs.Asked.{ask_is}
use Rattle.steps.proofs.shares.Share.ask.Goals as goal

pub returns-in-Some : goal.returns-in-Some
returns-in-Some g c =
    record {
      step = λ places.
          let share = c.args.self.now in
          let code = meaning g.F.Field.arithmetic share.code.now in
          let alone = option_map (λ (v : Value). items v.cells) in
          ask_is (laid code places) (server c.args.p.now.server) share.server.number share.object.number (alone c.args.alone) (Some (items c.in-Some.value.cells)) c.args.lanes_free _
          c.if-is_asking.ensures (ap alone c.in-Some.is) (c.enter_own.ensures.step places share.server.number c.args.lanes_free code);
    }

pub returns-in_err-asked : goal.returns-in_err-asked
returns-in_err-asked g c =
    record {
      step = λ places.
          let e = c.in_err-asked.field-0.0 in
          let share = c.args.self.now in
          let code = meaning g.F.Field.arithmetic share.code.now in
          let alone = option_map (λ (v : Value). items v.cells) in
          let q = server c.open.new.p.server in
          ap (λ (r : Result (Turn Encoded) Refusal). encode_said r q) (broke c.from_residual.result e c.from_residual.ensures.1)
          ∙ ask_is (laid code places) (server c.args.p.now.server) share.server.number share.object.number (alone c.args.alone) None c.args.lanes_free _
          c.if-is_asking.ensures (ap alone c.in_default.is) (c.in_err-asked.ensures.step places (λ _. Outcome 4));
    }

pub returns : goal.returns
returns g c =
    record {
      step = λ places.
          let share = c.args.self.now in
          let code = meaning g.F.Field.arithmetic share.code.now in
          let alone = option_map (λ (v : Value). items v.cells) in
          ask_is (laid code places) (server c.args.p.now.server) share.server.number share.object.number (alone c.args.alone) None c.args.lanes_free _
          c.if-is_asking.ensures (ap alone c.in_default.is) (c.in_ok-asked.ensures.step places (λ _. Outcome 4));
    }
