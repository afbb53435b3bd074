use Rattle.std.proofs.Common.{◌≡◌, ℕ, length, get_or, vec_items, Option, sym, ap, ◌∙◌, arith}
use Rattle.std.proofs.lemmas.List.{length-map}
use Rattle.waiting.specs.Writes.{write, writes, better_of, next_of}
use Rattle.waiting.proofs.Choosing.{next_more, next_none}
use Rattle.waiting.proofs.waiting.Queue.next_ready.Goals as goal

pub loop-i-init : goal.loop-i-init
loop-i-init c = (sym (next_none c.args.n (λ (i : ℕ). get_or c.args.clock.now i 0) (writes c.args.self.now)), tt)

pub better-best-requires : goal.better-best-requires
better-best-requires c = record { within = omega (arith, length-map (vec_items c.args.self.now.writes) write); best_within = c.loop-i.invariant.1 }

pub loop-i-preserved : goal.loop-i-preserved
loop-i-preserved c =
    let clock : ℕ → ℕ = λ i. get_or c.args.clock.now i 0 in
    let ws = writes c.args.self.now in (
      c.better-best.ensures.place ∙ ap (λ (b : Option ℕ). better_of c.args.n clock ws b c.loop-i.i) c.loop-i.invariant.0 ∙ sym (next_more c.args.n clock ws c.loop-i.i),
      c.better-best.ensures.inside,
    )

pub returns : goal.returns
returns c =
    let end : c.loop-i.i ≡ length (writes c.args.self.now) = omega (arith, length-map (vec_items c.args.self.now.writes) write) in
    record { place = c.loop-i.invariant.0 ∙ ap (next_of c.args.n (λ (i : ℕ). get_or c.args.clock.now i 0) (writes c.args.self.now)) end; inside = c.loop-i.invariant.1 }
