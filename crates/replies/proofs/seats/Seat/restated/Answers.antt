use Rattle.std.proofs.Common.{◌≡◌, ℕ, cond, List, get_or, sym, ap, ◌∙◌, ap₂, arith}
use Rattle.terms.specs.Items.{items}
use Rattle.message.specs.declared.tag.Tag.{Tag}
use Rattle.message.specs.Tags.{zero_tag}
use Rattle.code.specs.Meaning.{meaning}
use Rattle.code.specs.declared.code.Code.{Code}
use Rattle.rules.specs.Delivering.{exchanges, stated, restated}
use Rattle.rules.specs.Encoding.{turned}
use Rattle.server.specs.Servers.{server}
use Rattle.server.specs.Steps.{laid}
use Rattle.steps.proofs.Renamed.{shared}
use Rattle.replies.proofs.Restating.{restated_none, restated_more}
use Rattle.replies.proofs.seats.Seat.restated.Goals as goal

pub loop-y-init : goal.loop-y-init
loop-y-init g c places =
    c.symbol-symbol.ensures.told ∙ sym (restated_none (laid (meaning g.F.Field.arithmetic c.args.self.now.code.now) places) c.args.self.now.server.number (server c.args.p.now.server) (items c.args.asked.now))

pub loop-y-preserved : goal.loop-y-preserved
loop-y-preserved g c places =
    let code = meaning g.F.Field.arithmetic c.args.self.now.code.now in
    let l = laid code places in
    let p = server c.args.p.now.server in
    let s = c.args.self.now.server.number in
    let ts = items c.args.asked.now in
    let y = c.loop-y.y in
    let share = c.share.result in
    let one = meaning g.F.Field.arithmetic share.code.now in
    let same : one ≡ code = ap (λ (d : Code g.row.F.Denot). meaning g.F.Field.arithmetic d) c.share.ensures.same_code in
    let asked : c.get_or.result ≡ get_or ts y zero_tag = c.get_or.ensures.found ∙ ap (get_or ts y) c.zero.ensures.zero in
    let next : Tag → List ℕ → List ℕ = λ u v. cond (exchanges l s p y u) (turned l s p y (p.own y) (stated l s p y u) v) v in
    c.restated_at-symbol.ensures.symbol places
    ∙ shared
    (λ g a x.
    let m = laid g places in
    cond (exchanges m a p x c.get_or.result) (turned m a p x (p.own x) (stated m a p x c.get_or.result) (items c.loop-y.symbol.cells)) (items c.loop-y.symbol.cells))
    one code share.server.number s share.object.number y same c.share.ensures.same_server c.share.ensures.of_the_object
    ∙ ap₂ next asked (c.loop-y.invariant places) ∙ sym (restated_more l s p ts y)

pub returns : goal.returns
returns g c =
    let end : c.loop-y.y ≡ c.args.self.now.code.now.objects = omega (arith, c.objects-y-end.ensures.counted) in
    record {
      symbol = λ places.
          c.loop-y.invariant places
          ∙ ap (restated (laid (meaning g.F.Field.arithmetic c.args.self.now.code.now) places) c.args.self.now.server.number (server c.args.p.now.server) (items c.args.asked.now)) end;
    }
