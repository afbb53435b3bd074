-- A group and a carrier's lanes as the rules see them. Assumes nothing.
use Rattle.std.specs.Prelude.{◌≡◌, ℕ, List, [], map, vec_items, slice_index_or}
use Rattle.field.specs.Arithmetic.{Arithmetic}
use Rattle.message.specs.Meanings.{Meaning}
use Rattle.code.specs.Codings.{Coding}
use Rattle.code.specs.Layout as code
use Rattle.code.specs.Layout.{Accepted}
use Rattle.code.specs.Meaning.{meaning}
use Rattle.rules.specs.Lanes.{Lanes}
use Rattle.rules.specs.State as rules
use Rattle.rules.specs.State.{Layout, State, new_server, new_group}
use Rattle.teller.specs.declared.teller.Teller.{Teller}
use Rattle.teller.specs.Tellers.{teller}
use Rattle.group.specs.declared.group.Group.{Group}
use Rattle.group.specs.declared.group.NotMade.{NotMade}
use Rattle.group.specs.declared.group.NotMade.TheVariants.{Refused, NoMemory}

-- the server i; past the last there is a new one, which no call reaches
abbrev pub server_of : {F : Type 0} → Group F → ℕ → rules.Server
server_of q i = slice_index_or (map teller (vec_items q.servers)) i (new_server q.code.cells)

-- the group beside these lanes
abbrev pub state : {F : Type 0} → Group F → Lanes Meaning → State
state q lanes = record { servers = server_of q; lanes = lanes }

-- the group's code, and the places of the carrier's lanes
abbrev pub layout : {F : Type 0} → Arithmetic → Group F → ℕ → Layout
layout a q places = record { code = meaning a q.code; places = places }

-- each server is new
abbrev pub AllNew : ℕ → List Teller → Type 0
AllNew cells servers = (i : ℕ) → slice_index_or (map teller servers) i (new_server cells) ≡ new_server cells

-- the group is laid out over the code g, which is accepted, and is new: beside empty lanes it is the new group of the rules
abbrev pub New : {F : Type 0} → Coding → Arithmetic → Group F → Type 0
New g a q = (meaning a q.code ≡ g) × Accepted g × ((places : ℕ) → state q (λ _ _. []) ≡ new_group (layout a q places))

-- the code is refused by e, exactly as a code is; or it is accepted, and there is no memory
abbrev pub WhyNotMade : ℕ → ℕ → ℕ → ℕ → List ℕ → Coding → NotMade → Type 0
WhyNotMade q n k w table g (Refused e) = code.Refused q n k w table g e
WhyNotMade q n k w table g NoMemory = Accepted g
