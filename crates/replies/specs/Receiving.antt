-- A message at the server that it reaches. Assumes nothing.
use Rattle.std.specs.Prelude.{ℕ, Bool, cond, List, [], ◌∷◌, ◌++◌, length, Some, None, Option, nat_lt, slice_index_or}
use Rattle.terms.specs.Limits.{max_client_reads, max_waiting}
use Rattle.terms.specs.declared.refusal.Refusal.TheVariants.{HistoryFull, LaneFull, WaitingFull}
use Rattle.message.specs.declared.tag.Tag.{Tag}
use Rattle.message.specs.Meanings.{Meaning, write_notice, tag_notice, question, plain_reply, coded_reply}
use Rattle.message.specs.Tags.{zero_tag}
use Rattle.rules.specs.Delivering.{open_place, waiting_write, fits, reply, client_answer, internal_answer, mended}
use Rattle.rules.specs.Histories.{holds}
use Rattle.rules.specs.State.{Layout, Server, Asking, Read, Free, Open, Answered}
use Rattle.rules.specs.Turns.{Found, Outcome, check}
use Rattle.rules.specs.Updates.{queued, hearing, reading, in_hand}
use Rattle.rules.specs.Words.{upd}
use Rattle.server.specs.Steps.{has_room}
use Rattle.steps.specs.Local.{Local, local, refused_or}

-- the reply is dropped
abbrev pub dropped_local : Server → Local
dropped_local p = local (Outcome 5) p None

module _ (l : Layout) where
  -- the open read r at the place i is answered by v
  abbrev pub settle_local : Server → ℕ → Asking → List ℕ → Local
  settle_local p i r v =
      cond (nat_lt i max_client_reads) (local (Outcome 4) (client_answer l p i r v) None)
      (refused_or (check (has_room p) HistoryFull None) p (local (Outcome 4) (internal_answer l p i r v) None))

  -- ---- a plain reply

  -- by the read at the place
  abbrev pub plain_by : Server → ℕ → List ℕ → Read → Local
  plain_by p i v Free = dropped_local p
  plain_by p i v (Open r) = settle_local p i r v
  plain_by p i v (Answered r) = dropped_local p

  -- by the place of its read, if it is open
  abbrev pub plain_from : Server → List ℕ → Option ℕ → Local
  plain_from p v None = dropped_local p
  plain_from p v (Some i) = plain_by p i v (p.reads i)

  -- ---- a coded reply from a

  -- by whether its symbol could be mended
  abbrev pub coded_symbol : Server → ℕ → ℕ → Asking → Found → Option (List ℕ) → Local
  coded_symbol p a i r f None = local (Outcome 6) p None
  coded_symbol p a i r f (Some v) =
      cond f.recovered (settle_local p i (in_hand r a v) f.value) (local (Outcome 3) (reading p (upd p.reads i (Open (in_hand r a v)))) None)

  -- by the read at the place
  abbrev pub coded_by : Server → ℕ → ℕ → List ℕ → List Tag → Found → Read → Local
  coded_by p a i v ts f Free = dropped_local p
  coded_by p a i v ts f (Open r) = coded_symbol p a i r f (mended l p a r v ts l.code.objects)
  coded_by p a i v ts f (Answered r) = dropped_local p

  -- by the place of its read, if it is open
  abbrev pub coded_from : Server → ℕ → List ℕ → List Tag → Found → Option ℕ → Local
  coded_from p a v ts f None = dropped_local p
  coded_from p a v ts f (Some i) = coded_by p a i v ts f (p.reads i)

  -- ---- the message m from a at the server b; whether the lane back has a place is told

  -- the step of each kind
  abbrev pub got_local : Server → ℕ → ℕ → Bool → Meaning → Found → Local
  got_local p a b back_free (write_notice x v h clock) f =
      refused_or (check (nat_lt (length p.waiting) max_waiting) WaitingFull None) p (local (Outcome 0) (queued p (p.waiting ++ waiting_write a x v h clock ∷ [])) None)
  got_local p a b back_free (tag_notice x t) f = local (Outcome 0) (hearing p x a t) None
  got_local p a b back_free (question m x ts) f =
      refused_or (check back_free LaneFull None) p (local (Outcome (cond (holds p.history x (slice_index_or ts x zero_tag)) 1 2)) p (Some (reply l b p m x ts)))
  got_local p a b back_free (plain_reply m v) f = plain_from p v (open_place p m)
  got_local p a b back_free (coded_reply m v ts) f = coded_from p a v ts f (open_place p m)

  -- the call: a message that does not fit is dropped
  abbrev pub deliver_local : Server → ℕ → ℕ → Bool → Meaning → Found → Local
  deliver_local p a b back_free m f = cond (fits l m) (got_local p a b back_free m f) (local (Outcome 7) p None)
