use Rattle.std.proofs.Common.{◌≡◌, get_or, ap, ◌∙◌}
use Rattle.terms.specs.Items.{items}
use Rattle.code.specs.Meaning.{meaning}
use Rattle.code.specs.declared.code.Code.{Code}
use Rattle.rules.specs.Delivering.{stated}
use Rattle.server.specs.Servers.{server}
use Rattle.server.specs.Steps.{laid}
use Rattle.steps.proofs.Renamed.{shared}
use Rattle.replies.proofs.seats.Seat.stated_of.Goals as goal

pub returns : goal.returns
returns g c places =
    let seat = c.args.self.now in
    let code = meaning g.F.Field.arithmetic seat.code.now in
    let p = server c.args.p.now in
    let ts = items c.args.asked.now in
    let y = c.args.y in
    let share = c.share.result in
    let one = meaning g.F.Field.arithmetic share.code.now in
    let same : one ≡ code = ap (λ (d : Code g.row.F.Denot). meaning g.F.Field.arithmetic d) c.share.ensures.same_code in
    c.stated.ensures places
    ∙ shared (λ g a x. stated (laid g places) a p x c.get_or.result) one code share.server.number seat.server.number share.object.number y same c.share.ensures.same_server c.share.ensures.of_the_object
    ∙ ap (stated (laid code places) seat.server.number p y) (c.get_or.ensures.found ∙ ap (get_or ts y) c.zero.ensures.zero)
