use Rattle.std.proofs.Common.{◌≡◌, ℕ, true, sym, ap, ◌∙◌, subst}
use Rattle.rules.specs.State.{Read, Open}
use Rattle.reads.specs.Readings.{asking}
use Rattle.server.specs.Servers.{server}
use Rattle.teller.specs.InRange.{asked_ok}
use Rattle.replies.proofs.Answering.{place_is_open}
use Rattle.replies.proofs.settling.open_read.Goals as goal

pub returns-in-Open : goal.returns-in-Open
returns-in-Open c = (sym c.in_ok-i.ensures.place, sym (c.in-Open.ensures.found ∙ ap (λ (f : ℕ → Read). f c.in_ok-i.i.number) c.reads.ensures.told))

pub returns-in_default : goal.returns-in_default
returns-in_default c =
    absurd (place_is_open (server c.args.p.now.server) c.args.number c.in_ok-i.i.number c.at.result c.in_ok-i.ensures.place (c.at.ensures.found ∙ ap (λ (f : ℕ → Read). f c.in_ok-i.i.number) c.reads.ensures.told) c.in_default.not-Open)

pub invariant_of-result : goal.invariant_of-result
invariant_of-result c =
    let i = c.in_ok-i.i.number in
    let is : Open (asking c.in-Open.asking) ≡ (server c.args.p.now.server).reads i = c.in-Open.ensures.found ∙ ap (λ (f : ℕ → Read). f i) c.reads.ensures.told in
    record { tags_in_range = λ x. subst (λ (r : Read). asked_ok r x ≡ true) (sym is) (c.args.p.now.in_range.asked i x) }
