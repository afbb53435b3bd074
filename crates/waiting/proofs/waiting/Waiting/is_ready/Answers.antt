use Rattle.std.proofs.Common.{ℕ, Bool, get_or, sym, refl, ◌∙◌, rules, tests, arith}
use Rattle.std.proofs.lemmas.Iterator.{YieldsList-from_range}
use Rattle.std.proofs.lemmas.Iterator.Search.{all_from_yields_List}
use Rattle.terms.proofs.Every.{every_listed}
use Rattle.waiting.specs.Writes.{write, fits_count}
use Rattle.waiting.proofs.waiting.Waiting.is_ready.Goals as goal

pub returns : goal.returns
returns c =
    let fits : ℕ → Bool = fits_count (λ (i : ℕ). get_or c.args.clock.now i 0) (write c.args.self.now) in
    let all = all_from_yields_List fits _ _ _ c.all.ensures.ran (YieldsList-from_range 0 c.args.n c.args.n refl (omega arith)) (λ x b q k. search (rules, tests)) in
    record { decided = all ∙ sym (every_listed c.args.n fits) }
