use Rattle.std.proofs.Common.{◌≡◌, Bool, true, false, cond, Option, Result, sym, ap, ◌∙◌, ap₂}
use Rattle.std.specs.Option.{option_map}
use Rattle.terms.specs.Items.{items}
use Rattle.terms.specs.declared.refusal.Refusal.{Refusal}
use Rattle.code.specs.Codings.{contains}
use Rattle.code.specs.declared.code.Code.{Code}
use Rattle.code.specs.Meaning.{meaning}
use Rattle.rules.specs.Encoding.{object_refusal}
use Rattle.server.specs.Servers.{server}
use Rattle.server.specs.Steps.{laid}
use Rattle.teller.specs.declared.values.Value.{Value}
use Rattle.steps.specs.Encoding.{contained_local, other_local}
use Rattle.steps.specs.Local.{refused_or}
use Rattle.steps.specs.Told.{encode_said}
use Rattle.steps.specs.declared.turns.Encoded.{Encoded}
use Rattle.steps.specs.declared.turns.Turn.{Turn}
use Rattle.steps.proofs.Refused.{broke}
use Rattle.steps.proofs.Renamed.{shared}
use Rattle.steps.proofs.encoding.encode.Goals as goal

pub returns-in_err-share : goal.returns-in_err-share
unfolding object_refusal
returns-in_err-share g c =
    record {
      step = λ places.
          let l = laid (meaning g.F.Field.arithmetic c.args.code.now) places in
          let p = server c.args.p.now.server in
          let s = c.args.me.number in
          let x = c.args.x.number in
          let alone = option_map (λ (v : Value). items v.cells) c.args.alone in
          let free = c.args.lanes_free in
          ap (λ (r : Result (Turn Encoded) Refusal). encode_said r p) (broke c.from_residual.result c.in_err-share.field-0.0 c.from_residual.ensures.1)
          ∙ sym (ap (λ (o : Option Refusal). refused_or o p (cond (contains l.code s x) (contained_local l p s x alone free) (other_local l p s x free))) c.in_err-share.ensures.found_or_refused);
    }

pub returns-then-is_contained : goal.returns-then-is_contained
unfolding object_refusal
returns-then-is_contained g c =
    record {
      step = λ places.
          let code = meaning g.F.Field.arithmetic c.args.code.now in
          let p = server c.args.p.now.server in
          let s = c.args.me.number in
          let x = c.args.x.number in
          let alone = option_map (λ (v : Value). items v.cells) c.args.alone in
          let free = c.args.lanes_free in
          let share = c.in_ok-share.share in
          let found = c.in_ok-share.ensures.found_or_refused in
          let one = meaning g.F.Field.arithmetic share.code.now in
          let same : one ≡ code = ap (λ (d : Code g.row.F.Denot). meaning g.F.Field.arithmetic d) found.1.0 in
          let contained : true ≡ contains code s x = sym c.if-is_contained.true ∙ c.is_contained.ensures.decided ∙ shared contains one code share.server.number s share.object.number x same found.1.1 found.1.2 in
          let l = laid code places in
          c.encode_contained.ensures.step places
          ∙ shared (λ g a y. contained_local (laid g places) p a y alone free) one code share.server.number s share.object.number x same found.1.1 found.1.2
          ∙ ap₂ (λ (o : Option Refusal) (b : Bool). refused_or o p (cond b (contained_local l p s x alone free) (other_local l p s x free))) (sym found.0) contained;
    }

pub returns-else-is_contained : goal.returns-else-is_contained
unfolding object_refusal
returns-else-is_contained g c =
    record {
      step = λ places.
          let code = meaning g.F.Field.arithmetic c.args.code.now in
          let p = server c.args.p.now.server in
          let s = c.args.me.number in
          let x = c.args.x.number in
          let alone = option_map (λ (v : Value). items v.cells) c.args.alone in
          let free = c.args.lanes_free in
          let share = c.in_ok-share.share in
          let found = c.in_ok-share.ensures.found_or_refused in
          let one = meaning g.F.Field.arithmetic share.code.now in
          let same : one ≡ code = ap (λ (d : Code g.row.F.Denot). meaning g.F.Field.arithmetic d) found.1.0 in
          let contained : false ≡ contains code s x = sym c.if-is_contained.false ∙ c.is_contained.ensures.decided ∙ shared contains one code share.server.number s share.object.number x same found.1.1 found.1.2 in
          let l = laid code places in
          c.encode_other.ensures.step places
          ∙ shared (λ g a y. other_local (laid g places) p a y free) one code share.server.number s share.object.number x same found.1.1 found.1.2
          ∙ ap₂ (λ (o : Option Refusal) (b : Bool). refused_or o p (cond b (contained_local l p s x alone free) (other_local l p s x free))) (sym found.0) contained;
    }
