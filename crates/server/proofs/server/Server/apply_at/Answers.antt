use Rattle.std.proofs.Common.{◌≡◌, ℕ, false, cond, length, get_or, Some, None, sym, ap, ◌∙◌}
use Rattle.std.specs.Option.{option_map}
use Rattle.std.proofs.lemmas.Bool.{lt-ltb}
use Rattle.rules.specs.State as rules
use Rattle.rules.specs.Histories.{Entry}
use Rattle.rules.specs.Updates.{queued}
use Rattle.rules.specs.Writing.{write_at}
use Rattle.server.specs.Servers.{server}
use Rattle.server.specs.Steps.{took_in}
use Rattle.waiting.specs.Writes.{write, writes}
use Rattle.server.proofs.Steps.{applied_is}
use Rattle.server.proofs.server.Server.apply_at.Goals as goal

pub returns : goal.returns
unfolding queued
returns c =
    let p = server c.args.self.now in
    let rest = writes c.remove.new.self in
    let w = write c.unwrap-write.result in
    let i = c.args.at in
    let e : Entry = record { object = w.object; tag = w.tag; value = w.value } in
    let there : Some w ≡ Some (write_at p.waiting i) = ap (option_map write) (sym c.unwrap-write.ensures) ∙ c.remove.ensures.removed ∙ ap (λ b. cond b (Some (write_at p.waiting i)) None) (lt-ltb i (length p.waiting) c.requires.within) in
    let ew : w ≡ write_at p.waiting i = cc in
    record {
      tag = ap (λ (u : rules.Waiting). u.tag) ew;
      after = applied_is p (queued p rest) (server c.take_in.new.self) i w c.requires.room (ap (queued p) c.remove.ensures.rest) ew
          (c.take_in.ensures ∙ ap (λ (n : ℕ). took_in (queued p rest) c.known-from.result.number n false e) c.get_or-count.ensures.found
          ∙ ap (λ (j : ℕ). took_in (queued p rest) j (get_or w.clock j 0) false e) c.known-from.ensures.same);
    }
