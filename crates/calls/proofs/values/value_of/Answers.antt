use Rattle.std.proofs.Common.{rules, ◌≡◌, Bool, length, None, sym, ◌∙◌, ap₂}
use Rattle.std.proofs.lemmas.Bool.{eq-eqb}
use Rattle.terms.specs.declared.refusal.Refusal.TheVariants.{WrongLength, NoElement}
use Rattle.rules.specs.Turns.{check}
use Rattle.replies.proofs.Elements.{each_element}
use Rattle.calls.proofs.values.value_of.Goals as goal

pub returns-then-not-all_elements : goal.returns-then-not-all_elements
returns-then-not-all_elements g c places =
    let v = c.args.cells.now in
    let q = g.F.Field.arithmetic.size in
    let n = c.args.group.now.code.cells in
    let long : length v ≡ n = c.if-cells.false ∙ c.cells.ensures.counted in
    sym (ap₂ (λ (a b : Bool). check a WrongLength (check b NoElement None)) (sym (eq-eqb (length v) n long)) (c.if-not-all_elements.ensures.told ∙ each_element q n v long))

pub returns : goal.returns
returns g c places =
    let v = c.args.cells.now in
    let q = g.F.Field.arithmetic.size in
    let n = c.args.group.now.code.cells in
    let long : length v ≡ n = c.if-cells.false ∙ c.cells.ensures.counted in (
      sym (ap₂ (λ (a b : Bool). check a WrongLength (check b NoElement None)) (sym (eq-eqb (length v) n long)) (c.if-not-all_elements.ensures.told ∙ each_element q n v long)),
      search rules,
    )
