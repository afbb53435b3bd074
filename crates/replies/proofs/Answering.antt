-- A read that a reply answers. Assumes nothing.
use Rattle.std.proofs.Common.{◌≡◌, ℕ, zero, suc, Bool, true, false, cond, ltb, List, Some, None, Option, sym, refl, ap, ◌∙◌, ap₂}
use Rattle.terms.specs.Limits.{max_client_reads}
use Rattle.terms.specs.declared.refusal.Refusal.TheVariants.{HistoryFull}
use Rattle.reads.specs.declared.reads.Asking as declared
use Rattle.reads.specs.declared.reads.Read as reads
use Rattle.reads.specs.declared.reads.Read.TheVariants as ReadOf
use Rattle.reads.specs.Readings.{read}
use Rattle.std.proofs.lemmas.Bool.{both_ways}
use Rattle.rules.specs.Delivering.{client_answer, internal_answer, open_place}
use Rattle.rules.specs.Histories.{Entry}
use Rattle.rules.specs.State.{Layout, Server, Asking, Free, Open, all_reads}
use Rattle.rules.specs.Turns.{Outcome, check}
use Rattle.rules.specs.Updates.{entered, reading, is_open_as}
use Rattle.rules.specs.Words.{upd, or_else, first_below}
use Rattle.server.specs.Steps.{has_room}
use Rattle.steps.specs.Local.{Local, local, refused_or}
use Rattle.replies.specs.Receiving.{settle_local, plain_by, plain_from}

-- the entry enters, and then the place is free
pub entered_freed : (p q : Server) (e : Entry) (i : ℕ) → has_room p ≡ true → q ≡ cond (has_room p) (entered p e) p → reading q (upd q.reads i Free) ≡ reading (entered p e) (upd p.reads i Free)
unfolding entered
entered_freed p q e i room is = let next : q ≡ entered p e = is ∙ ap (λ b. cond b (entered p e) p) room in ap (λ (t : Server). reading t (upd t.reads i Free)) next

pub settled_inside : (l : Layout) (p q : Server) (i : ℕ) (r : Asking) (v : List ℕ) → ltb i max_client_reads ≡ false → has_room p ≡ true → q ≡ internal_answer l p i r v → local (Outcome 4) q None ≡ settle_local l p i r v
settled_inside l p q i r v inside room is =
    ap (λ (t : Server). local (Outcome 4) t None) is
    ∙ sym (ap₂ (λ (a b : Bool). cond a (local (Outcome 4) (client_answer l p i r v) None) (refused_or (check b HistoryFull None) p (local (Outcome 4) (internal_answer l p i r v) None))) inside room)

first_by : (n i : ℕ) (f : ℕ → Bool) (o : Option ℕ) (b : Bool) → (o ≡ Some i → f i ≡ true) → f n ≡ b → or_else o (cond b (Some n) None) ≡ Some i → f i ≡ true
first_by n i f (Some j) b before eb e = before e
first_by n i f None true before eb e = let same : n ≡ i = cc in ap f (sym same) ∙ eb
first_by n i f None false before eb e = absurd (cc)

-- the first that passes does pass
first_found : (n i : ℕ) (f : ℕ → Bool) → first_below n f ≡ Some i → f i ≡ true
unfolding first_below
first_found zero i f e = absurd (cc)
first_found (suc n) i f e = first_by n i f (first_below n f) (f n) (first_found n i f) refl e

-- the place of an open read has one
pub place_is_open : (p : Server) (m i : ℕ) (r : reads.Read) → Some i ≡ open_place p m → read r ≡ p.reads i → ((a : declared.Asking) → r ≡ ReadOf.Open a → ⊥) → ⊥
place_is_open p m i r at is = by r (ap (is_open_as m) is ∙ first_found all_reads i (λ j. is_open_as m (p.reads j)) (sym at))
  where
    by : (r : reads.Read) → is_open_as m (read r) ≡ true → ((a : declared.Asking) → r ≡ ReadOf.Open a → ⊥) → ⊥
    by ReadOf.Free e no_way = both_ways false refl e
    by (ReadOf.Open a) e no_way = no_way a refl
    by (ReadOf.Answered g) e no_way = both_ways false refl e

-- the open read at the place takes the reply
pub plain_at : (l : Layout) (p : Server) (i : ℕ) (v : List ℕ) (place : Option ℕ) (r : Asking) (q : Local) → place ≡ Some i → p.reads i ≡ Open r → q ≡ settle_local l p i r v → q ≡ plain_from l p v place
plain_at l p i v place r q at is eq = eq ∙ ap (plain_by l p i v) (sym is) ∙ ap (plain_from l p v) (sym at)
