-- What a ranked step may find, what it accepts and applies, and what a layout gives.
use Rattle.std.proofs.Common.{◌≡◌, ℕ, ◌<◌, ◌≤◌, max, Bool, true, cond, ◌&&◌, eqb, ltb, List, [], ◌∷◌, Decides}
use Rattle.code.specs.Codings.{combination}
use Rattle.code.specs.Recovery as recovery
use Rattle.rules.proofs.RankedMessages.{Message, Written, Tagged, Question, Plain, Coded}
use Rattle.rules.proofs.Ranked.{Code, coding_of, Entry, State, enters, is_open, slots}
use Rattle.rules.proofs.RankedSteps.{Call, Write, Ask, Collect, Deliver, Apply, Encode, Sweep, Answer, Refused, Tag, Value, Number, Still, Nothing, Outcome, Count, Found, open_slot, in_hand, mendable, mended}

module _ (g : Code) where
  -- the symbol of the server s of one cell r y of each object y
  unfoldable pub mix : ℕ → (ℕ → ℕ) → ℕ
  mix s r = combination (coding_of g) s r

  abbrev pub Recovers : (ℕ → Bool) → ℕ → Type 0
  Recovers set x = recovery.Recovers (coding_of g) set x

  abbrev pub Decoded : (ℕ → Bool) → (ℕ → List ℕ) → ℕ → List ℕ → Type 0
  Decoded set symbols x v = recovery.Decoded (coding_of g) set symbols x v

  -- ---- what a step may find

  abbrev pub only : ℕ → ℕ → Bool
  only s j = eqb j s

  -- a test of a set, and what is decoded where it recovers
  pub record Tested (set : ℕ → Bool) (symbols : ℕ → List ℕ) (x : ℕ) (f : Found) : Type 0 where
    pub test : Decides f.recovered (Recovers set x)
    pub decoded : f.recovered ≡ true → Decoded set symbols x f.value

  abbrev pub AllowedMessage : State → ℕ → ℕ → Message → Found → Type 0
  AllowedMessage S a b (Written x v h ck) f = Unit {0}
  AllowedMessage S a b (Tagged x t) f = Unit {0}
  AllowedMessage S a b (Question m x T) f = Unit {0}
  AllowedMessage S a b (Plain m v) f = Unit {0}
  AllowedMessage S a b (Coded m v st) f =
      let p = S.servers b in
      let i = open_slot g p m in
      let r = in_hand (p.reads i) a (mended g p a (p.reads i) v st g.k) in
      ltb i slots ≡ true → mendable g p a (p.reads i) st ≡ true → Tested r.hand r.symbols r.object f

  abbrev pub Allowed : State → Call → Found → Type 0
  Allowed S (Write s x v) f = Unit {0}
  Allowed S (Ask s x l) f = s < g.n → x < g.k → Tested (only s) (λ _. (S.servers s).symbol) x f
  Allowed S (Collect s m l) f = Unit {0}
  Allowed S (Deliver a b) f = (m : Message) (ms : List Message) → S.lanes a b ≡ m ∷ ms → a < g.n → b < g.n → AllowedMessage S a b m f
  Allowed S (Apply s) f = Unit {0}
  Allowed S (Encode s x) f = s < g.n → x < g.k → Tested (only s) (λ _. (S.servers s).symbol) x f
  Allowed S (Sweep s x) f = Unit {0}

-- ---- accepted and applied writes

-- the write that a call accepted, as a list of at most one
abbrev pub accepted_by : Call → Answer → List Entry
accepted_by (Write s x v) (Tag t) = record { object = x; tag = t; value = v } ∷ []
accepted_by (Write s x v) (Refused r) = []
accepted_by (Write s x v) (Value u t w) = []
accepted_by (Write s x v) (Number p) = []
accepted_by (Write s x v) Still = []
accepted_by (Write s x v) Nothing = []
accepted_by (Write s x v) (Outcome o) = []
accepted_by (Write s x v) (Count c) = []
accepted_by (Ask s x l) a = []
accepted_by (Collect s m l) a = []
accepted_by (Deliver i j) a = []
accepted_by (Apply s) a = []
accepted_by (Encode s x) a = []
accepted_by (Sweep s x) a = []

-- the tag that a call made s apply, as a list of at most one
abbrev pub applies : ℕ → Call → Answer → List ℕ
applies s (Write i x v) (Tag t) = cond (eqb i s) (t ∷ []) []
applies s (Write i x v) (Refused r) = []
applies s (Write i x v) (Value u t w) = []
applies s (Write i x v) (Number p) = []
applies s (Write i x v) Still = []
applies s (Write i x v) Nothing = []
applies s (Write i x v) (Outcome o) = []
applies s (Write i x v) (Count c) = []
applies s (Apply i) (Tag t) = cond (eqb i s) (t ∷ []) []
applies s (Apply i) (Refused r) = []
applies s (Apply i) (Value u t w) = []
applies s (Apply i) (Number p) = []
applies s (Apply i) Still = []
applies s (Apply i) Nothing = []
applies s (Apply i) (Outcome o) = []
applies s (Apply i) (Count c) = []
applies s (Ask i x l) a = []
applies s (Collect i m l) a = []
applies s (Deliver i j) a = []
applies s (Encode i x) a = []
applies s (Sweep i x) a = []

-- the highest of some tags that is the tag of an accepted write of x, or zero
abbrev pub best : List Entry → ℕ → List ℕ → ℕ
best log x [] = 0
best log x (t ∷ ts) = cond (enters log x t) (max t (best log x ts)) (best log x ts)

-- what a group's layout gives
pub record Lawful (g : Code) : Type 0 where
  pub servers : 2 ≤ g.n
  pub few : g.n ≤ 6
  pub objects : 1 ≤ g.k
  pub few_objects : g.k ≤ 6
  pub cells : 1 ≤ g.w
  pub few_cells : g.w ≤ 16
  pub small : g.q ≤ 256
  pub coefficients : (s x : ℕ) → s < g.n → x < g.k → g.coefficient s x < g.q
  pub least : 2 ≤ g.q
  pub plus_below : (x y : ℕ) → g.plus x y < g.q
  pub minus_below : (x : ℕ) → g.minus x < g.q
  pub times_below : (x y : ℕ) → g.times x y < g.q
  pub plus_comm : (x y : ℕ) → x < g.q → y < g.q → g.plus x y ≡ g.plus y x
  pub plus_assoc : (x y z : ℕ) → x < g.q → y < g.q → z < g.q → g.plus (g.plus x y) z ≡ g.plus x (g.plus y z)
  pub plus_zero : (x : ℕ) → x < g.q → g.plus x 0 ≡ x
  pub plus_minus : (x : ℕ) → x < g.q → g.plus x (g.minus x) ≡ 0
  pub times_comm : (x y : ℕ) → x < g.q → y < g.q → g.times x y ≡ g.times y x
  pub times_plus : (x y z : ℕ) → x < g.q → y < g.q → z < g.q → g.times x (g.plus y z) ≡ g.plus (g.times x y) (g.times x z)

-- the servers in hand of an open read do not recover its object
abbrev pub Waits : Code → State → Type 0
Waits g S = (s i : ℕ) → s < g.n → (ltb i slots && is_open ((S.servers s).reads i)) ≡ true → Recovers g ((S.servers s).reads i).hand ((S.servers s).reads i).object → ⊥
