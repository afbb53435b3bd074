use Rattle.std.proofs.Common.{◌||◌, eqb, ltb, length, sym, ◌∙◌}
use Rattle.terms.proofs.Every.{every_listed}
use Rattle.calls.proofs.post.Sender.all_free.Goals as goal

pub returns : goal.returns
returns g c =
    let m = c.args.carrier.now in
    c.all_have_place.ensures ∙ sym (every_listed c.args.self.servers (λ j. eqb j c.args.self.from || ltb (length (g.C.Carrier.lanes m c.args.self.from j)) (g.C.Carrier.p m)))
