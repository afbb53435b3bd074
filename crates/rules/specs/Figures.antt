-- A worked run of a small group. Assumes nothing.
use Rattle.std.specs.Prelude.{◌≡◌, true, false, List, [], ◌∷◌, map}
use Rattle.message.specs.declared.tag.Tag.{Tag}
use Rattle.message.specs.Tags.{zero_tag}
use Rattle.field.specs.Modular.{modulo}
use Rattle.code.specs.Layout.{coding}
use Rattle.rules.specs.State.{Layout, new_group}
use Rattle.rules.specs.Turns.{Call, Write, Read, Deliver, Apply, Encode, Tagged, Valued, Outcome, Found}
use Rattle.rules.specs.Runs.{Move, run, AllowedRun}
use Rattle.rules.specs.Events.{Event, events}

-- three servers and two objects of one cell: each object by itself, and their sum; four messages to a lane
abbrev pub three_by_two : Layout
three_by_two = record { code = coding (modulo 251) 3 2 1 (1 ∷ 0 ∷ 0 ∷ 1 ∷ 1 ∷ 1 ∷ []); places = 4 }

-- the server with the sum does not recover an object alone
abbrev pub nothing_found : Found
nothing_found = record { recovered = false; value = []; first_way = true }

-- 100 is written to object 0 at server 0; server 2 is read before it hears of it, and then gets, applies and encodes it
abbrev pub five_calls : List Call
five_calls = Write 0 0 (100 ∷ []) ∷ Read 2 0 1 ∷ Deliver 0 2 ∷ Apply 2 ∷ Encode 2 0 ∷ []

abbrev pub five_moves : List Move
five_moves = map (λ c. record { call = c; found = nothing_found }) five_calls

abbrev pub first_tag : Tag
first_tag = record { height = 1; server = 0 }

pub record SmallRun : Type 0 where
  -- it is a run of the new group
  pub allowed : AllowedRun three_by_two (new_group three_by_two) five_moves
  -- the write answers height 1 and server 0, the read gives the zero record and the zero tag, and the encode has outcome 1
  pub answers : map (λ (e : Event). e.answer) (events three_by_two (new_group three_by_two) five_moves)
      ≡ Tagged first_tag ∷ Valued (0 ∷ []) zero_tag 1 ∷ Outcome 0 ∷ Tagged first_tag ∷ Outcome 1 ∷ []
  pub symbol_at_2 : ((run three_by_two (new_group three_by_two) five_moves).servers 2).symbol ≡ 100 ∷ []
