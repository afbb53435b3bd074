use Rattle.std.proofs.Common.{ℕ, List, [], ◌∷◌, sym, subst, lit<}
use Rattle.terms.specs.Items.{items}
use Rattle.code.specs.Codings.{Turned}
use Rattle.code.specs.Meaning.{meaning}
use Rattle.code.proofs.Turning.{turned}
use Rattle.code.proofs.Valued.{not_refused}
use Rattle.code.proofs.code.Code.re_encode.Goals as goal

pub returns-clause-turns_the_symbol : goal.returns-clause-turns_the_symbol
returns-clause-turns_the_symbol g c =
    let a = c.args in
    let meant = meaning g.F.Field.arithmetic a.self.now in
    let before = items a.symbol.now in
    let old = items a.old.now in
    let new = items a.new.now in
    subst (λ (v : List ℕ). Turned meant a.server a.object before old new v) (sym c.turned.ensures)
    (turned meant g.met.F.Field.ring a.server a.object c.in_ok-check_place.ensures.refused_or_within.1.1 new
    (not_refused meant 3 (before ∷ old ∷ new ∷ []) c.in_ok-check_values.ensures.0 2 (lit< tt)) before old)
