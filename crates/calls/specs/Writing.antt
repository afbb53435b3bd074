-- A write at one server. Assumes nothing.
use Rattle.std.specs.Prelude.{ℕ, ◌+◌, Bool, List, Some, None, Ok, Err, Result}
use Rattle.std.specs.Option.{option_map}
use Rattle.terms.specs.Lists.{listed}
use Rattle.message.specs.declared.tag.Tag.{Tag}
use Rattle.terms.specs.declared.refusal.Refusal.{Refusal}
use Rattle.terms.specs.declared.refusal.Refusal.TheVariants.{LaneFull}
use Rattle.message.specs.Meanings.{meaning, write_notice}
use Rattle.carrier.specs.Lanes.{or_else}
use Rattle.rules.specs.State.{Layout, Server}
use Rattle.rules.specs.Turns.{Refused, Tagged, check}
use Rattle.rules.specs.Writing.{write_tag}
use Rattle.server.specs.Steps.{write_refusal, written}
use Rattle.steps.specs.Local.{Local, local, refused_or}
use Rattle.steps.specs.declared.turns.Turn.{Turn}

-- the write of v to x by the server s, and the notice of it for all others
abbrev pub written_local : Layout → Server → ℕ → ℕ → List ℕ → Local
written_local l p s x v =
    let q = written p s x v in
    local (Tagged (write_tag p s)) q (Some (write_notice x v (p.top + 1) (listed l.code.servers q.clock)))

-- the same, unless it is refused
abbrev pub write_local : Layout → Server → ℕ → ℕ → List ℕ → Bool → Local
write_local l p s x v lanes_free = refused_or (or_else (write_refusal p s) (check lanes_free LaneFull None)) p (written_local l p s x v)

-- a write, and the server after it
abbrev pub write_said : Result (Turn Tag) Refusal → Server → Local
write_said (Ok t) q = local (Tagged t.answer) q (option_map meaning t.news)
write_said (Err e) q = local (Refused e) q None
