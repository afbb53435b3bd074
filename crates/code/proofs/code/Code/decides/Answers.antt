use Rattle.std.proofs.Common.{false, List, ℕ, None, Some, Option, Decides, MatchOption, sym, refl, ◌∙◌}
use Rattle.std.specs.Option.{is_some}
use borrow.Author.Tests.{both_ways}
use Rattle.code.specs.Meaning.{meaning}
use Rattle.terms.specs.Sets.{member}
use Rattle.matrix.specs.Matrices.{Determines, Solves}
use Rattle.matrix.proofs.Decides.{solved_determines}
use Rattle.code.proofs.Cellwise.{decided}
use Rattle.code.proofs.code.Code.decides.Goals as goal

-- whether there is an answer tells whether there can be one
told : {D : Type 0} (S : List ℕ → Type 0) (o : Option (List ℕ)) → MatchOption o (D → ⊥) S → ((f : List ℕ) → S f → D) → Decides (is_some o) D
told S None never there = (λ e. absurd (both_ways false refl e), λ d. absurd (never d))
told S (Some f) solved there = (λ _. there f solved, λ _. refl)

pub returns : goal.returns
returns g c =
    let code = c.args.self.now in
    let ring = g.met.F.Field.ring in
    let Solved : List ℕ → Type 0 = Solves g.F.Field.arithmetic c.rows_of.result c.args.object in
    let solved = told {D = Determines g.F.Field.arithmetic c.rows_of.result c.args.object} Solved c.solve.result c.solve.ensures.exact (solved_determines ring c.rows_of.result c.args.object) in
    decided (meaning g.F.Field.arithmetic code) ring code.most_servers code.most_objects (member c.args.set.now) c.rows_of.result c.rows_of.ensures
    c.args.object c.requires code.least_cells
    (λ t. solved.0 (sym c.is_some.ensures ∙ t)) (λ d. c.is_some.ensures ∙ solved.1 d)
