use Rattle.std.proofs.Common.{[], ◌∷◌, ◌++◌, sym, subst, ltb, length}
use Rattle.std.proofs.lemmas.Bool.{cond_both}
use Rattle.terms.specs.Limits.{max_waiting}
use Rattle.waiting.specs.Writes.{write}
use Rattle.rules.specs.Updates.{queued}
use Rattle.server.specs.Servers.{server}
use Rattle.teller.specs.InRange.{InRange, write_ok}
use Rattle.teller.proofs.Kept.{queued_kept}
use Rattle.teller.proofs.Lists.{all_pushed}
use Rattle.teller.proofs.teller.Teller.queue.Goals as goal

pub invariant_of-self : goal.invariant_of-self
invariant_of-self c =
    let old = c.args.self.now in
    let p = server old.server in
    let w = write c.args.w in
    let ws = p.waiting ++ w ∷ [] in
    record {
      in_range = subst InRange (sym c.queue.ensures.after)
          (cond_both (ltb (length p.waiting) max_waiting) (queued p ws) p InRange (λ _. queued_kept p old.in_range ws (all_pushed write_ok p.waiting old.in_range.writes w c.requires)) (λ _. old.in_range));
    }
