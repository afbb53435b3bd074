use Rattle.std.proofs.Common.{◌≡◌, ℕ, false, List, map, None, Option, MatchOption, sym, subst, arith}
use Rattle.std.proofs.lemmas.List.{get_or_past}
use Rattle.terms.specs.Items.{items}
use Rattle.code.specs.Codings.{value_at}
use Rattle.code.specs.Meaning.{meaning}
use Rattle.code.specs.Recovery.{Decoded}
use Rattle.terms.specs.Sets.{member}
use Rattle.matrix.proofs.Decides.{solved_determines}
use Rattle.code.proofs.Cellwise.{rows_from_recovers, recovers_from_rows, decoded_by_rows}
use Rattle.code.proofs.Known.{known_below}
use Rattle.code.proofs.code.Code.decoded.Goals as goal

-- no value, for what is none
none_there : {A P : Type 0} {o : Option A} (Q : A → Type 0) → o ≡ None → P → MatchOption o P Q
none_there {P = P} Q is p = subst (λ o. MatchOption o P Q) (sym is) p

pub returns-in_err-factors : goal.returns-in_err-factors
returns-in_err-factors g c =
    let code = c.args.self.now in
    none_there _ c.from_residual.ensures
    (λ recovers.
    c.in_err-factors.ensures.exact
    (rows_from_recovers (meaning g.F.Field.arithmetic code) g.met.F.Field.ring code.most_servers code.most_objects (member c.args.set.now) c.rows_of.result c.rows_of.ensures
    c.args.object c.requires.object_within code.least_cells recovers))

pub returns : goal.returns
returns g c =
    let code = c.args.self.now in
    let meant = meaning g.F.Field.arithmetic code in
    let chosen = member c.args.set.now in
    let symbols = value_at (map items c.args.symbols.now) in
    let below = known_below code.servers chosen c.requires.known (λ s h. get_or_past c.args.set.now.members s false (omega (arith, c.args.set.now.whole))) in (
      recovers_from_rows meant g.met.F.Field.ring code.most_servers code.most_objects chosen c.rows_of.result c.rows_of.ensures c.args.object c.requires.object_within
          (solved_determines g.met.F.Field.ring c.rows_of.result c.args.object c.in_ok-factors.factors c.in_ok-factors.ensures.exact),
      subst (λ (v : List ℕ). Decoded meant chosen symbols c.args.object v) (sym c.weigh.ensures)
          (decoded_by_rows meant g.met.F.Field.ring code.most_servers code.most_objects chosen c.rows_of.result c.rows_of.ensures
          c.args.object c.requires.object_within
          below
          c.in_ok-factors.factors c.in_ok-factors.ensures.exact symbols),
    )
