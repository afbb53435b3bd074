use Rattle.std.proofs.Common.{refl, ap, ◌∙◌}
use Rattle.rules.specs.Words.{upd}
use Rattle.reads.specs.Readings.{reads}
use Rattle.server.specs.Servers.{server}
use Rattle.server.proofs.Steps.{opening_is}
use Rattle.server.proofs.server.Server.open.Goals as goal

pub returns : goal.returns
returns c =
    let p = server c.args.self.now in
    record {
      answer = (c.in_ok-check_open.ensures.refusal.0, refl);
      after =
          opening_is p c.args.me.number c.args.i.number c.args.object (reads c.put.new.self) c.in_ok-check_open.ensures.refusal.0
          (c.put.ensures.after ∙ ap (upd p.reads c.args.i.number) c.next_read-read.ensures);
    }
