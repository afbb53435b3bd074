-- A write that a server makes, and the notice of it. Assumes nothing.
use Rattle.std.proofs.Common.{◌≡◌, ℕ, ◌+◌, ◌<◌, ◌≤◌, Bool, true, false, ◌&&◌, ltb, List, length, Some, None, Option, sym, refl, ap, ◌∙◌, ap₂, arith, length-take}
use Rattle.std.proofs.lemmas.Bool.{ltb-true}
use Rattle.terms.specs.Items.{items}
use Rattle.terms.specs.Limits.{max_count, max_height}
use Rattle.terms.specs.Lists.{listed}
use Rattle.terms.specs.declared.bounded.Bounded.{Bounded}
use Rattle.terms.specs.declared.refusal.Refusal.{Refusal}
use Rattle.terms.specs.declared.refusal.Refusal.TheVariants.{NumbersUsedUp, HistoryFull, LaneFull}
use Rattle.message.specs.declared.tag.Tag.{Tag}
use Rattle.message.specs.Meanings.{write_notice}
use Rattle.carrier.specs.Lanes.{or_else}
use Rattle.rules.specs.State.{Layout, Server}
use Rattle.rules.specs.Turns.{Tagged, check}
use Rattle.rules.specs.Writing.{write_tag}
use Rattle.server.specs.Steps.{write_refusal, written, after, has_room}
use Rattle.steps.specs.Local.{local, refused_or}
use Rattle.calls.specs.Writing.{write_local, written_local}

-- a bounded list has at most as many items as places
pub few : {A : Type 0} {most : ℕ} (b : Bounded A most) → length (items b) ≤ most
few {A} {most} b = omega (arith, length-take b.len b.places, b.whole, b.fits)

-- a server that may write has heights left
pub height_left : (p : Server) (s : ℕ) → write_refusal p s ≡ None → p.top < max_height
height_left p s e = ltb-true p.top max_height (top_below (ltb (p.clock s) max_count) (ltb p.top max_height) (has_room p) e)
  where
    top_below : (a b c : Bool) → check (a && b) NumbersUsedUp (check c HistoryFull None) ≡ None → b ≡ true
    top_below true true c e = refl
    top_below true false c e = cc
    top_below false b c e = cc

-- the write and its notice, where nothing refuses it
pub written_is : (l : Layout) (p q : Server) (s x : ℕ) (v : List ℕ) (t : Tag) (clock : List ℕ) (free : Bool)
    → free ≡ true → write_refusal p s ≡ None → t ≡ write_tag p s → q ≡ after (write_refusal p s) p (written p s x v) → clock ≡ listed l.code.servers q.clock
    → local (Tagged t) q (Some (write_notice x v t.height clock)) ≡ write_local l p s x v free
written_is l p q s x v t clock free ef may et eq ec =
    let next : q ≡ written p s x v = eq ∙ ap (λ (o : Option Refusal). after o p (written p s x v)) may in
    ap₂ (λ (u : Tag) (c : List ℕ). local (Tagged u) q (Some (write_notice x v u.height c))) et ec
    ∙ ap (λ (r : Server). local (Tagged (write_tag p s)) r (Some (write_notice x v (p.top + 1) (listed l.code.servers r.clock)))) next
    ∙ sym (ap₂ (λ (o : Option Refusal) (b : Bool). refused_or (or_else o (check b LaneFull None)) p (written_local l p s x v)) may ef)
