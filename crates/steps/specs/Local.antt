-- What a call makes of one server. Assumes nothing.
use Rattle.std.specs.Prelude.{◌≡◌, true, Some, None, Option, IfSome}
use Rattle.terms.specs.declared.refusal.Refusal.{Refusal}
use Rattle.message.specs.declared.kinds.Message.{Message}
use Rattle.message.specs.Meanings.{Meaning, meaning}
use Rattle.message.specs.Ranges.{in_range}
use Rattle.rules.specs.State.{Server}
use Rattle.rules.specs.Turns.{Answer, Refused}

-- What a call answers, the server after it, and the message that it has for others, if any.
pub record Local : Type 0 where
  pub answer : Answer
  pub next : Server
  pub news : Option Meaning

-- the same by its parts
abbrev pub local : Answer → Server → Option Meaning → Local
local a p m = record { answer = a; next = p; news = m }

-- a refusal changes nothing and tells nothing
abbrev pub refused_or : Option Refusal → Server → Local → Local
refused_or None p t = t
refused_or (Some e) p t = local (Refused e) p None

-- a message, if there is one, is within the ranges of messages
abbrev pub Sendable : Option Message → Type 0
Sendable o = IfSome o (λ m. in_range (meaning m) ≡ true)
