use Rattle.std.proofs.Common.{ℕ, ◌+◌, true, sym, refl, ap, ◌∙◌}
use Rattle.terms.specs.Items.{items}
use Rattle.rules.specs.Writing.{write_tag}
use Rattle.server.specs.Servers.{server}
use Rattle.server.specs.Steps.{took_in}
use Rattle.server.proofs.Steps.{written_is}
use Rattle.server.proofs.server.Server.write.Goals as goal

pub returns : goal.returns
returns c =
    let p = server c.args.self.now in
    let s = c.args.me.number in
    let x = c.args.object in
    let v = items c.args.value in
    record {
      answer = (c.in_ok-check_write.ensures.refusal.0, refl);
      after = written_is p (server c.take_in.new.self) s x v (sym c.in_ok-check_write.ensures.refusal.0)
          (c.take_in.ensures ∙ ap (λ (n : ℕ). took_in p s (n + 1) true (record { object = x; tag = write_tag p s; value = v })) c.count_of-count.ensures.counted);
    }
