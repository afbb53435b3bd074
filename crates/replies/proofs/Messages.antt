-- A message that is delivered. Assumes nothing.
use Rattle.std.proofs.Common.{◌≡◌, ℕ, ◌≤◌, Bool, true, false, cond, ◌&&◌, ltb, leb, List, length, None, sym, ap, ◌∙◌, subst, ap₂}
use Rattle.std.proofs.lemmas.Bool.{both_ways, and_parts, leb-true, lt-ltb}
use Rattle.terms.specs.declared.refusal.Refusal.TheVariants.{NoSuchServer}
use Rattle.message.specs.declared.kinds.Message.{Message}
use Rattle.message.specs.Meanings.{Meaning, meaning, plain_reply}
use Rattle.message.specs.Ranges.{in_range, read_ok, cells_ok}
use Rattle.code.specs.Codings.{Coding}
use Rattle.rules.specs.Delivering.{fits, fits_group}
use Rattle.rules.specs.State.{Layout, Server}
use Rattle.rules.specs.Turns.{Outcome, Refused, check}
use Rattle.server.specs.Steps.{laid}
use Rattle.steps.specs.Local.{Local, local, refused_or}
use Rattle.steps.specs.Reading.{found_of}
use Rattle.replies.specs.Receiving.{got_local, deliver_local}
use Rattle.replies.specs.Taking.{MessageTaken, DeliveredBy}

-- a message that fits is within its ranges
pub fit_range : (l : Layout) (m n : Message) → m ≡ n → fits l (meaning m) ≡ true → in_range (meaning n) ≡ true
unfolding fits
fit_range l m n e fit = ap (λ (z : Message). in_range (meaning z)) (sym e) ∙ (and_parts (in_range (meaning m)) (fits_group l (meaning m)) fit).0

pub plain_cells : (m : ℕ) (v : List ℕ) → in_range (plain_reply m v) ≡ true → 1 ≤ length v
plain_cells m v ok = leb-true 1 (length v) (and_parts (leb 1 (length v)) (leb (length v) 16) (and_parts (read_ok m) (cells_ok v) ok).1).0

module _ (g : Coding) (p : Server) (a b : ℕ) (back_free : Bool) (q : Local) where
  -- the same, of the message as it was matched
  pub taken_as : (m n : Message) → m ≡ n → MessageTaken g p a b back_free (meaning n) q → MessageTaken g p a b back_free (meaning m) q
  taken_as m n e t = let P : Message → Type 0 = λ z. MessageTaken g p a b back_free (meaning z) q in subst P (sym e) t

  module _ (m : Meaning) where
    -- one of the code's servers there is not
    pub delivered_nowhere : (ltb a g.servers && ltb b g.servers) ≡ false → q ≡ local (Refused NoSuchServer) p None → DeliveredBy g p a b back_free m q
    delivered_nowhere out is = record {
      found = found_of None;
      allowed = λ places an bn fit. absurd (both_ways (ltb a g.servers && ltb b g.servers) out (ap₂ (λ x y. x && y) (lt-ltb a g.servers an) (lt-ltb b g.servers bn)));
      step = λ places. is ∙ sym (ap (λ t. refused_or (check t NoSuchServer None) p (deliver_local (laid g places) p a b back_free m (found_of None))) out);
    }

    module _ (here : (ltb a g.servers && ltb b g.servers) ≡ true) where
      -- the message does not fit
      pub delivered_unfit : ((places : ℕ) → false ≡ fits (laid g places) m) → q ≡ local (Outcome 7) p None → DeliveredBy g p a b back_free m q
      delivered_unfit unfit is = record {
        found = found_of None;
        allowed = λ places an bn fit. absurd (both_ways (fits (laid g places) m) (sym (unfit places)) fit);
        step = λ places.
            is ∙ ap (λ t. cond t (got_local (laid g places) p a b back_free m (found_of None)) (local (Outcome 7) p None)) (unfit places)
            ∙ sym (ap (λ t. refused_or (check t NoSuchServer None) p (deliver_local (laid g places) p a b back_free m (found_of None))) here);
      }

      pub delivered_fit : ((places : ℕ) → true ≡ fits (laid g places) m) → MessageTaken g p a b back_free m q → DeliveredBy g p a b back_free m q
      delivered_fit fit t = record {
        found = t.found;
        allowed = λ places an bn _. t.allowed places;
        step = λ places.
            t.step places ∙ ap (λ z. cond z (got_local (laid g places) p a b back_free m t.found) (local (Outcome 7) p None)) (fit places)
            ∙ sym (ap (λ z. refused_or (check z NoSuchServer None) p (deliver_local (laid g places) p a b back_free m t.found)) here);
      }
