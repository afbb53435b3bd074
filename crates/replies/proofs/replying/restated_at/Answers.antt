use Rattle.std.proofs.Common.{cond, ap, ◌∙◌, ap₂}
use Rattle.terms.specs.Items.{items}
use Rattle.message.specs.declared.tag.Tag.{Tag}
use Rattle.code.specs.Meaning.{meaning}
use Rattle.rules.specs.Delivering.{stated}
use Rattle.rules.specs.Encoding.{turned}
use Rattle.server.specs.Servers.{server}
use Rattle.server.specs.Steps.{laid}
use Rattle.replies.proofs.replying.restated_at.Goals as goal

pub returns-then-not-exchanges : goal.returns-then-not-exchanges
returns-then-not-exchanges g c =
    let p = server c.args.p.now in
    let y = c.args.share.now.object.number in
    let s = c.args.share.now.server.number in
    let v = items c.args.symbol.cells in
    record {
      symbol = λ places.
          let l = laid (meaning g.F.Field.arithmetic c.args.share.now.code.now) places in
          ap (λ b. cond b (turned l s p y (p.own y) (stated l s p y c.args.asked) v) v) (c.if-not-exchanges.ensures places);
    }

pub returns : goal.returns
returns g c =
    let p = server c.args.p.now in
    let y = c.args.share.now.object.number in
    let s = c.args.share.now.server.number in
    let v = items c.args.symbol.cells in
    record {
      symbol = λ places.
          let l = laid (meaning g.F.Field.arithmetic c.args.share.now.code.now) places in
          c.turned.ensures.symbol places ∙ ap₂ (λ (t u : Tag). turned l s p y t u v) c.own_tag-own.ensures.told (c.stated-to.ensures places)
          ∙ ap (λ b. cond b (turned l s p y (p.own y) (stated l s p y c.args.asked) v) v) (c.if-not-exchanges.ensures places);
    }
