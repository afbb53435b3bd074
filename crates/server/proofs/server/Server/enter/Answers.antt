use Rattle.std.proofs.Common.{ltb, length}
use Rattle.rules.specs.Updates.{sifted}
use Rattle.terms.specs.Limits.{max_entries}
use Rattle.history.specs.Entries.{entry, entries}
use Rattle.server.specs.Servers.{server}
use Rattle.server.proofs.Parts.{entered_is}
use Rattle.server.proofs.server.Server.enter.Goals as goal

pub returns : goal.returns
unfolding sifted
returns c =
    let p = server c.args.self.now in
    record { after = entered_is p (entry c.args.e) (ltb (length p.history) max_entries) (entries c.enter.new.self) c.enter.ensures.entered_if_room }
