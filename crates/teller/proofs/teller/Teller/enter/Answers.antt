use Rattle.std.proofs.Common.{sym, subst, ltb, length}
use Rattle.std.proofs.lemmas.Bool.{cond_both}
use Rattle.terms.specs.Limits.{max_entries}
use Rattle.history.specs.Entries.{entry}
use Rattle.rules.specs.Updates.{entered}
use Rattle.server.specs.Servers.{server}
use Rattle.teller.specs.InRange.{InRange}
use Rattle.teller.proofs.Kept.{entered_kept}
use Rattle.teller.proofs.teller.Teller.enter.Goals as goal

pub invariant_of-self : goal.invariant_of-self
invariant_of-self c =
    let old = c.args.self.now in
    let p = server old.server in
    let e = entry c.args.e in
    record {
      in_range = subst InRange (sym c.enter.ensures.after)
          (cond_both (ltb (length p.history) max_entries) (entered p e) p InRange (λ _. entered_kept p old.in_range e c.requires) (λ _. old.in_range));
    }
