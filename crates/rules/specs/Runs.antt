-- One call, what may be found by it, and runs of calls. Assumes nothing.
use Rattle.std.specs.Prelude.{◌≡◌, ℕ, ◌<◌, Bool, true, List, [], ◌∷◌, Some, None, Decides, Option, nat_eq}
use Rattle.terms.specs.declared.refusal.Refusal.{Refusal}
use Rattle.message.specs.declared.tag.Tag.{Tag}
use Rattle.message.specs.Meanings.{Meaning, write_notice, tag_notice, question, plain_reply, coded_reply}
use Rattle.code.specs.Recovery.{Recovers, Decoded}
use Rattle.rules.specs.State.{Layout, Asking, Read, Free, Open, Answered, Server, State}
use Rattle.rules.specs.Updates.{in_hand}
use Rattle.rules.specs.Turns.{Call, Write, Read as ReadCall, Collect, Deliver, Apply, Encode, Sweep, Refused, Found, Turn}
use Rattle.rules.specs.Writing.{write, apply}
use Rattle.rules.specs.Reading.{read, collect}
use Rattle.rules.specs.Encoding.{encode, sweep}
use Rattle.rules.specs.Delivering.{deliver, open_place, mended}

-- A call with what its step finds.
pub record Move : Type 0 where
  pub call : Call
  pub found : Found

module _ (l : Layout) where
  -- the step of a call
  abbrev pub step : State → Call → Found → Turn
  step S (Write s x v) f = write l S s x v
  step S (ReadCall s x cells) f = read l S s x cells f
  step S (Collect s m cells) f = collect l S s m cells
  step S (Deliver a b) f = deliver l S a b f
  step S (Apply s) f = apply l S s
  step S (Encode s x) f = encode l S s x f
  step S (Sweep s x) f = sweep l S s x

  -- the state after a call
  abbrev pub after : State → Move → State
  after S m = (step S m.call m.found).next

  -- the state after a run
  abbrev pub run : State → List Move → State
  run S [] = S
  run S (m ∷ ms) = run (after S m) ms

  -- ---- what may be found

  -- The test of the set tells whether it recovers x, and the value is decoded from the symbols where it does.
  pub record Tested (set : ℕ → Bool) (symbols : ℕ → List ℕ) (x : ℕ) (f : Found) : Type 0 where
    pub test : Decides f.recovered (Recovers l.code set x)
    pub decoded : f.recovered ≡ true → Decoded l.code set symbols x f.value

  -- the server s alone
  abbrev pub TestedAlone : State → ℕ → ℕ → Found → Type 0
  TestedAlone S s x f = s < l.code.servers → x < l.code.objects → Tested (λ j. nat_eq j s) (λ _. (S.servers s).symbol) x f

  -- the servers in hand
  abbrev pub TestedHand : Asking → Found → Type 0
  TestedHand r f = Tested r.hand r.symbols r.object f

  -- by whether the symbol could be mended
  abbrev pub AllowedSymbol : ℕ → Asking → Found → Option (List ℕ) → Type 0
  AllowedSymbol a r f None = Unit {0}
  AllowedSymbol a r f (Some v) = TestedHand (in_hand r a v) f

  -- by the read at the place
  abbrev pub AllowedRead : Server → ℕ → List ℕ → List Tag → Found → Read → Type 0
  AllowedRead p a v ts f Free = Unit {0}
  AllowedRead p a v ts f (Open r) = AllowedSymbol a r f (mended l p a r v ts l.code.objects)
  AllowedRead p a v ts f (Answered r) = Unit {0}

  -- by the place of the read
  abbrev pub AllowedPlace : Server → ℕ → List ℕ → List Tag → Found → Option ℕ → Type 0
  AllowedPlace p a v ts f None = Unit {0}
  AllowedPlace p a v ts f (Some i) = AllowedRead p a v ts f (p.reads i)

  -- a coded reply tests the servers in hand, this one among them
  abbrev pub AllowedMessage : Server → ℕ → Meaning → Found → Type 0
  AllowedMessage p a (write_notice x v h clock) f = Unit {0}
  AllowedMessage p a (tag_notice x t) f = Unit {0}
  AllowedMessage p a (question m x ts) f = Unit {0}
  AllowedMessage p a (plain_reply m v) f = Unit {0}
  AllowedMessage p a (coded_reply m v ts) f = AllowedPlace p a v ts f (open_place p m)

  -- What a call may find in the state S.
  abbrev pub Allowed : State → Call → Found → Type 0
  Allowed S (Write s x v) f = Unit {0}
  Allowed S (ReadCall s x cells) f = TestedAlone S s x f
  Allowed S (Collect s m cells) f = Unit {0}
  Allowed S (Deliver a b) f =
      (m : Meaning) (ms : List Meaning) → S.lanes a b ≡ m ∷ ms → a < l.code.servers → b < l.code.servers → AllowedMessage (S.servers b) a m f
  Allowed S (Apply s) f = Unit {0}
  Allowed S (Encode s x) f = TestedAlone S s x f
  Allowed S (Sweep s x) f = Unit {0}

  -- Each call of the run finds what it may.
  abbrev pub AllowedRun : State → List Move → Type 0
  AllowedRun S [] = Unit {0}
  AllowedRun S (m ∷ ms) = Allowed S m.call m.found × AllowedRun (after S m) ms

-- A refused call changes nothing, whichever call it is, in every state and whatever is found.
abbrev pub RefusalsChangeNothing : Type 0
RefusalsChangeNothing = (l : Layout) (S : State) (c : Call) (f : Found) (r : Refusal) → (step l S c f).answer ≡ Refused r → (step l S c f).next ≡ S
