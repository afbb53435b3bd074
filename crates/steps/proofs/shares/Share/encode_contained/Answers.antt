use Rattle.std.proofs.Common.{rules as all_rules, ◌≡◌, ℕ, Bool, true, cond, List, Some, None, Option, sym, ap, ◌∙◌, subst, ap₂}
use Rattle.message.specs.Ranges.{tag_ok}
use Rattle.message.specs.declared.tag.Tag.{Tag}
use Rattle.rules.specs.Histories as rules
use Rattle.rules.specs.Histories.{highest_held, value_under}
use Rattle.message.specs.Tags.{lower}
use Rattle.history.specs.Entries.{place_of, value_at}
use Rattle.code.specs.Codings.{re_encoded}
use Rattle.code.specs.Meaning.{meaning}
use Rattle.terms.specs.Items.{items}
use Rattle.server.specs.Servers.{server}
use Rattle.std.specs.Option.{option_map}
use Rattle.rules.specs.Turns.{Outcome}
use Rattle.server.specs.Steps.{laid}
use Rattle.teller.specs.declared.values.Value.{Value}
use Rattle.steps.specs.Encoding.{move_local, raise_by}
use Rattle.steps.specs.Local.{local}
use Rattle.steps.proofs.Facts.{highest_ok}
use Rattle.steps.proofs.shares.Share.encode_contained.Goals as goal

pub invariant_of-move_own : goal.invariant_of-move_own
invariant_of-move_own g c =
    let p = server c.args.p.now.server in
    let x = c.args.self.now.object.number in
    let tag_is : c.highest-tag.result ≡ highest_held p.history x = c.highest-tag.ensures.highest ∙ ap (λ (es : List rules.Entry). highest_held es x) c.history.ensures.told in
    record {
      tag_in_range = subst (λ (t : Tag). tag_ok t ≡ true) (sym tag_is) (highest_ok p.history c.args.p.now.in_range.entries (λ _. true) x);
    }

pub returns : goal.returns
returns g c =
    record {
      step = λ places.
          let p = server c.args.p.now.server in
          let share = c.args.self.now in
          let code = meaning g.F.Field.arithmetic share.code.now in
          let l = laid code places in
          let s = share.server.number in
          let x = share.object.number in
          let free = c.args.lanes_free in
          let alone = option_map (λ (v : Value). items v.cells) c.args.alone in
          let held : c.highest-tag.result ≡ highest_held p.history x = c.highest-tag.ensures.highest ∙ ap (λ (es : List rules.Entry). highest_held es x) c.history.ensures.told in
          let old : items c.value_at-old.result ≡ value_at code.cells p.history c.in-Some.at = c.value_at-old.ensures.value ∙ ap (λ (es : List rules.Entry). value_at code.cells es c.in-Some.at) c.history-3.ensures.told in
          let new : items c.value_under-new.result ≡ value_under code.cells p.history x (highest_held p.history x) =
          c.value_under-new.ensures.value ∙ ap₂ (λ (es : List rules.Entry) (t : Tag). value_under code.cells es x t) c.history-4.ensures.told held in
          let symbol : items c.exchanged-symbol.result.cells ≡ re_encoded code s x p.symbol (value_at code.cells p.history c.in-Some.at) (value_under code.cells p.history x (highest_held p.history x)) =
          c.exchanged-symbol.ensures.symbol ∙ ap (λ (v : List ℕ). re_encoded code s x v (items c.value_at-old.result) (items c.value_under-new.result)) c.symbol.ensures.told
          ∙ ap₂ (re_encoded code s x p.symbol) old new in
          let at : Some c.in-Some.at ≡ place_of p.history x (p.own x) = c.in-Some.ensures.place ∙ ap₂ (λ (es : List rules.Entry) (t : Tag). place_of es x t) c.history-2.ensures.told c.own_tag-own.ensures.told in
          let below : true ≡ lower c.own_tag-own.result c.highest-tag.result = search all_rules in
          let higher : true ≡ lower (p.own x) (highest_held p.history x) = below ∙ ap₂ lower c.own_tag-own.ensures.told held in
          c.move_own.ensures.step
          ∙ ap₂ (λ (t : Tag) (v : List ℕ). move_local p s x t v free) held symbol
          ∙ ap₂ (λ (b : Bool) (i : Option ℕ). cond b (raise_by l p s x alone free i) (local (Outcome 0) p None)) higher at;
    }
