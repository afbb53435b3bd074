use Rattle.std.proofs.Common.{ℕ, ◌<◌, Bool, List, map, length, get_or, ap, ◌∙◌, ap₂, arith}
use Rattle.std.proofs.lemmas.List.{length-map, map-set}
use Rattle.terms.specs.Items.{items}
use Rattle.terms.specs.declared.bounded.Bounded.{Bounded}
use Rattle.reads.proofs.Words.{get_or_upd}
use Rattle.reads.specs.Readings.{asking}
use Rattle.rules.specs.State.{Asking}
use Rattle.replies.proofs.mending.in_hand.Goals as goal

abbrev Cells : Type 0
Cells = Bounded ℕ 16

pub returns : goal.returns
returns c =
    let r = c.args.read.now.asking in
    let j = c.args.from.number in
    let old = map (items {T = ℕ} {MAX = 16}) r.symbols in
    let within : j < length old = simp length-map (omega (arith, c.args.from.within, r.symbol_each)) in
    let see : List (List ℕ) → ℕ → List ℕ = λ vs k. get_or vs k (items r.own) in
    let symbols = ap see (map-set (items {T = ℕ} {MAX = 16}) r.symbols j c.args.symbol) ∙ get_or_upd old j (items c.args.symbol) (items r.own) within in
    let whole : (ℕ → Bool) → (ℕ → List ℕ) → Asking = λ h vs. record { number = r.number; object = r.object; tags = (asking r).tags; hand = h; symbols = vs } in
    ap₂ whole c.with-asking.ensures symbols
