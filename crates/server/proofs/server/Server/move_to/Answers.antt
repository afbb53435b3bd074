use Rattle.std.proofs.Common.{arith}
use Rattle.message.specs.Tags.{zero_tag}
use Rattle.terms.specs.Items.{items}
use Rattle.server.specs.Servers.{server}
use Rattle.reads.proofs.Words.{get_or_upd}
use Rattle.server.proofs.Parts.{moved_is}
use Rattle.server.proofs.server.Server.move_to.Goals as goal

pub returns : goal.returns
returns c =
    let q = c.hear.new.self in
    let x = c.args.object.number in
    record {
      after =
          moved_is (server c.args.self.now) (server q) c.args.me.number x c.args.tag (items c.args.symbol) _ c.hear.ensures.after
          (get_or_upd q.own x c.args.tag zero_tag (omega (arith, c.args.object.within, q.own_each)));
    }
