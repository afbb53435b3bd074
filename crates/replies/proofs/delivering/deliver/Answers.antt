use Rattle.std.proofs.Common.{◌≡◌, true, false, ◌&&◌, ltb, Option, refl, ap₂, arith}
use Rattle.std.proofs.lemmas.Bool.{lt-ltb, le-ltb, and_left, and_right}
use Rattle.code.specs.Meaning as code
use Rattle.std.specs.Option.{option_map}
use Rattle.message.specs.declared.kinds.Message.{Message}
use Rattle.message.specs.Meanings.{meaning}
use Rattle.rules.specs.Turns.{Outcome}
use Rattle.steps.specs.Local.{local}
use Rattle.replies.specs.declared.turns.Delivered.{Delivered}
use Rattle.replies.specs.Told.{delivered_number}
use Rattle.server.specs.Servers.{server}
use Rattle.replies.proofs.Messages.{delivered_nowhere, delivered_unfit, delivered_fit}
use Rattle.replies.proofs.delivering.deliver.Goals as goal
use Rattle.replies.proofs.delivering.deliver.Goals.{then-from-servers-via-then-from-servers, then-from-servers-via-else-from-servers+then-me-servers}

pub returns-then-from-servers : goal.returns-then-from-servers
returns-then-from-servers g c =
    let k = code.meaning g.F.Field.arithmetic c.args.code.now in
    let a = c.args.from.number in
    let b = c.args.me.number in
    let out : (ltb a k.servers && ltb b k.servers) ≡ false =
    elim c.then-from-servers.branch [
      | then-from-servers-via-then-from-servers w ↦ and_left (ltb a k.servers) (ltb b k.servers) (le-ltb a k.servers (omega (arith, c.servers.ensures.counted, w.if-from-servers.true)))
      | then-from-servers-via-else-from-servers+then-me-servers w ↦ and_right (ltb a k.servers) (ltb b k.servers) (le-ltb b k.servers (omega (arith, w.servers-else-from-servers.ensures.counted, w.if-me-servers.true)))
    ] in
    record { delivered = delivered_nowhere k (server c.args.p.now.server) a b c.args.back_free _ (meaning c.args.m) out refl }

pub returns-then-not-fits : goal.returns-then-not-fits
returns-then-not-fits g c =
    let k = code.meaning g.F.Field.arithmetic c.args.code.now in
    let a = c.args.from.number in
    let b = c.args.me.number in
    let here : (ltb a k.servers && ltb b k.servers) ≡ true =
    ap₂ (λ x y. x && y) (lt-ltb a k.servers (omega (arith, c.servers.ensures.counted, c.if-from-servers.false))) (lt-ltb b k.servers (omega (arith, c.servers-else-from-servers.ensures.counted, c.if-me-servers.false))) in
    record { delivered = delivered_unfit k (server c.args.p.now.server) a b c.args.back_free _ (meaning c.args.m) here c.if-not-fits.ensures.decided (ap₂ (λ (o : Delivered) (m : Option Message). local (Outcome (delivered_number o)) (server c.args.p.now.server) (option_map meaning m)) c.quiet.ensures.answer c.quiet.ensures.quiet) }

pub returns : goal.returns
returns g c =
    let k = code.meaning g.F.Field.arithmetic c.args.code.now in
    let a = c.args.from.number in
    let b = c.args.me.number in
    let here : (ltb a k.servers && ltb b k.servers) ≡ true =
    ap₂ (λ x y. x && y) (lt-ltb a k.servers (omega (arith, c.servers.ensures.counted, c.if-from-servers.false))) (lt-ltb b k.servers (omega (arith, c.servers-else-from-servers.ensures.counted, c.if-me-servers.false))) in
    record {
      delivered = delivered_fit k (server c.args.p.now.server) a b c.args.back_free _ (meaning c.args.m) here c.if-not-fits.ensures.decided c.receive.ensures.taken;
    }
