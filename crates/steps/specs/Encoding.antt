-- Encode at one server. Assumes nothing.
use Rattle.std.specs.Prelude.{ℕ, Bool, cond, List, Some, None, Option}
use Rattle.terms.specs.declared.refusal.Refusal.TheVariants.{HistoryFull, LaneFull}
use Rattle.message.specs.declared.tag.Tag.{Tag}
use Rattle.message.specs.Tags.{lower}
use Rattle.message.specs.Meanings.{tag_notice}
use Rattle.code.specs.Codings.{contains, re_encoded}
use Rattle.rules.specs.Encoding.{object_refusal, within}
use Rattle.rules.specs.Histories.{highest, highest_held, value_under}
use Rattle.rules.specs.State.{Layout, Server, internal}
use Rattle.rules.specs.Turns.{Outcome, check}
use Rattle.rules.specs.Updates.{entered, moved, is_open}
use Rattle.history.specs.Entries.{place_of, value_at}
use Rattle.server.specs.Steps.{has_room}
use Rattle.steps.specs.Local.{Local, local, refused_or}
use Rattle.steps.specs.Opening.{open_local}

-- the own tag of x at the server s becomes t, with the symbol v, and a tag notice is there for all others
abbrev pub move_local : Server → ℕ → ℕ → Tag → List ℕ → Bool → Local
move_local p s x t v lanes_free = refused_or (check lanes_free LaneFull None) p (local (Outcome 1) (moved p s x t v) (Some (tag_notice x t)))

module _ (l : Layout) where
  -- the value of the own tag is not held: it comes from the symbol, which recovers it alone, if it does, or from others
  abbrev pub ask_by : Server → ℕ → ℕ → Bool → Option (List ℕ) → Local
  ask_by p s x lanes_free None = open_local l p s x (Some (internal x)) lanes_free (λ _. Outcome 4)
  ask_by p s x lanes_free (Some v) =
      refused_or (check (has_room p) HistoryFull None) p (local (Outcome 3) (entered p (record { object = x; tag = p.own x; value = v })) None)

  -- the same, unless the internal read is open already
  abbrev pub ask_local : Server → ℕ → ℕ → Option (List ℕ) → Bool → Local
  ask_local p s x alone lanes_free = cond (is_open (p.reads (internal x))) (local (Outcome 2) p None) (ask_by p s x lanes_free alone)

  -- a higher tag is held: by the place of the own tag's value, if it is held
  abbrev pub raise_by : Server → ℕ → ℕ → Option (List ℕ) → Bool → Option ℕ → Local
  raise_by p s x alone lanes_free None = ask_local p s x alone lanes_free
  raise_by p s x alone lanes_free (Some at) =
      let t = highest_held p.history x in
      move_local p s x t (re_encoded l.code s x p.symbol (value_at l.code.cells p.history at) (value_under l.code.cells p.history x t)) lanes_free

  -- an object that the server contains
  abbrev pub contained_local : Server → ℕ → ℕ → Option (List ℕ) → Bool → Local
  contained_local p s x alone lanes_free =
      cond (lower (p.own x) (highest_held p.history x)) (raise_by p s x alone lanes_free (place_of p.history x (p.own x))) (local (Outcome 0) p None)

  -- an object that it does not contain
  abbrev pub other_local : Server → ℕ → ℕ → Bool → Local
  other_local p s x lanes_free =
      let t = highest (within l p x) x p.history in
      cond (lower (p.own x) t) (move_local p s x t p.symbol lanes_free) (local (Outcome 0) p None)

  -- the call
  abbrev pub encode_local : Server → ℕ → ℕ → Option (List ℕ) → Bool → Local
  encode_local p s x alone lanes_free =
      refused_or (object_refusal l s x) p (cond (contains l.code s x) (contained_local p s x alone lanes_free) (other_local p s x lanes_free))
