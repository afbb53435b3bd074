use Rattle.std.proofs.Common.{◌≡◌, ℕ, ◌+◌, get_or, None, sym, ap, ◌∙◌, arith}
use Rattle.std.specs.Option.{option_map}
use Rattle.terms.specs.Items.{items}
use Rattle.message.specs.Tags.{zero_tag}
use Rattle.code.specs.Meaning.{meaning}
use Rattle.code.specs.declared.code.Code.{Code}
use Rattle.reads.specs.Readings.{asking}
use Rattle.rules.specs.Delivering.{mended, mended_at}
use Rattle.server.specs.Servers.{server}
use Rattle.server.specs.Steps.{laid}
use Rattle.steps.proofs.Renamed.{shared}
use Rattle.replies.proofs.Mended.{mended_none, mended_by, mended_never}
use Rattle.replies.proofs.seats.Seat.mended.Goals as goal

pub loop-y-init : goal.loop-y-init
loop-y-init g c places =
    sym (mended_none (laid (meaning g.F.Field.arithmetic c.args.self.now.code.now) places) (server c.args.p.now) c.args.self.now.server.number (asking c.args.asking.now) (items c.args.symbol) (items c.args.stated.now))

pub returns-in_err-symbol : goal.returns-in_err-symbol
returns-in_err-symbol g c places =
    let code = meaning g.F.Field.arithmetic c.args.self.now.code.now in
    let l = laid code places in
    let p = server c.args.p.now in
    let a = c.args.self.now.server.number in
    let r = asking c.args.asking.now in
    let v = items c.args.symbol in
    let ts = items c.args.stated.now in
    let y = c.loop-y.y in
    let w = items c.loop-y.symbol in
    let share = c.share.result in
    let at = c.share.ensures.of_the_object in
    let one = meaning g.F.Field.arithmetic share.code.now in
    let same : one ≡ code = ap (λ (d : Code g.row.F.Denot). meaning g.F.Field.arithmetic d) c.share.ensures.same_code in
    let tag : c.get_or-tag.result ≡ get_or ts share.object.number zero_tag = c.get_or-tag.ensures.found ∙ ap (get_or ts y) c.zero.ensures.zero ∙ ap (λ (j : ℕ). get_or ts j zero_tag) (sym at) in
    let next = c.in_err-symbol.ensures places ts tag ∙ shared (λ g b x. mended_at (laid g places) p b r ts x w) one code share.server.number a share.object.number y same c.share.ensures.same_server at in
    ap (option_map (items {T = ℕ} {MAX = 16})) c.from_residual.ensures
    ∙ mended_never l p a r v ts (y + 1) c.args.self.now.code.now.objects (omega (arith, c.objects-y-end.ensures.counted)) (mended_by l p a r v ts y w None (c.loop-y.invariant places) next)

pub loop-y-preserved : goal.loop-y-preserved
loop-y-preserved g c places =
    let code = meaning g.F.Field.arithmetic c.args.self.now.code.now in
    let l = laid code places in
    let p = server c.args.p.now in
    let a = c.args.self.now.server.number in
    let r = asking c.args.asking.now in
    let v = items c.args.symbol in
    let ts = items c.args.stated.now in
    let y = c.loop-y.y in
    let w = items c.loop-y.symbol in
    let share = c.share.result in
    let at = c.share.ensures.of_the_object in
    let one = meaning g.F.Field.arithmetic share.code.now in
    let same : one ≡ code = ap (λ (d : Code g.row.F.Denot). meaning g.F.Field.arithmetic d) c.share.ensures.same_code in
    let tag : c.get_or-tag.result ≡ get_or ts share.object.number zero_tag = c.get_or-tag.ensures.found ∙ ap (get_or ts y) c.zero.ensures.zero ∙ ap (λ (j : ℕ). get_or ts j zero_tag) (sym at) in
    let next = c.in_ok-symbol.ensures places ts tag ∙ shared (λ g b x. mended_at (laid g places) p b r ts x w) one code share.server.number a share.object.number y same c.share.ensures.same_server at in
    mended_by l p a r v ts y w _ (c.loop-y.invariant places) next

pub returns : goal.returns
returns g c places =
    let l = laid (meaning g.F.Field.arithmetic c.args.self.now.code.now) places in
    let end : c.loop-y.y ≡ c.args.self.now.code.now.objects = omega (arith, c.objects-y-end.ensures.counted) in
    c.loop-y.invariant places ∙ ap (mended l (server c.args.p.now) c.args.self.now.server.number (asking c.args.asking.now) (items c.args.symbol) (items c.args.stated.now)) end
