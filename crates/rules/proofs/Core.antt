-- What the order of tags rests on: own and told tags, held tags, lanes, and the open reads with their tags. No values.
use Rattle.std.proofs.Common.{◌≡◌, ℕ, ◌<◌, ◌≤◌, Bool, true, false, cond, eqb, ◌⊎◌, List, [], ◌∷◌, ◌++◌, get_or}
use Rattle.rules.proofs.RankedMessages.{Message, Written, Tagged, Question, Plain, Coded}

pub record Core : Type 0 where
  -- by server and object
  pub own : ℕ → ℕ → ℕ
  -- by server, object and teller
  pub told : ℕ → ℕ → ℕ → ℕ
  -- by server, object and tag
  pub held : ℕ → ℕ → ℕ → Bool
  -- from, to
  pub lane : ℕ → ℕ → List Message
  -- by server and slot: whether a read stands open there, its number, and its tags by object
  pub live : ℕ → ℕ → Bool
  pub num : ℕ → ℕ → ℕ
  pub want : ℕ → ℕ → ℕ → ℕ
  -- how many reads a server has opened
  pub last : ℕ → ℕ

-- what the told tag of x becomes by a message
abbrev pub heard : ℕ → ℕ → Message → ℕ
heard x c (Written y v h k) = c
heard x c (Tagged y t) = cond (eqb y x) t c
heard x c (Question p y T) = c
heard x c (Plain p v) = c
heard x c (Coded p v st) = c

-- what it becomes by some messages, one after the other
abbrev pub after : ℕ → ℕ → List Message → ℕ
after x c [] = c
after x c (m ∷ ms) = after x (heard x c m) ms

-- the told tag of x only rises, and becomes o
abbrev pub Chain : ℕ → ℕ → List Message → ℕ → Type 0
Chain x c [] o = c ≡ o
Chain x c (m ∷ ms) o = (c ≤ heard x c m) × Chain x (heard x c m) ms o

-- u is among what the told tag of x is and becomes
abbrev pub On : ℕ → ℕ → List Message → ℕ → Type 0
On x c [] u = u ≡ c
On x c (m ∷ ms) u = (u ≡ c) ⊎ On x (heard x c m) ms u

-- n servers, k objects, which server contains which object
module _ (n k : ℕ) (has : ℕ → ℕ → Bool) where
  -- a read at a wants u of y: a holds it, or b has not passed it by
  abbrev pub Kept : Core → ℕ → ℕ → ℕ → ℕ → Type 0
  Kept c a b y u = (c.held a y u ≡ true) ⊎ ((u ≤ c.own b y) × (u < c.own b y → c.held b y u ≡ true))

  -- the question of the read p in the lane from a to b, behind the messages pre
  pub record Asked (c : Core) (a b : ℕ) (pre : List Message) (p : ℕ) (T : List ℕ) : Type 0 where
    pub counted : p ≤ c.last a
    pub chain : (y : ℕ) → y < k → get_or T y 0 ≡ after y (c.told b y a) pre
    pub read : (i : ℕ) → c.live a i ≡ true → c.num a i ≡ p → (y : ℕ) → y < k → c.want a i y ≡ get_or T y 0
    pub kept : (i : ℕ) → c.live a i ≡ true → c.num a i ≡ p → (y : ℕ) → y < k → has b y ≡ true → Kept c a b y (c.want a i y)

  -- the read at b wants u of y, and the reply from a, behind pre, states w
  pub record Mends (c : Core) (a b : ℕ) (pre : List Message) (y u w : ℕ) : Type 0 where
    pub wanted : c.held b y u ≡ true
    pub stated : c.held b y w ≡ true
    pub off : On y (c.told b y a) pre u → ⊥
    pub low : (w ≡ 0) ⊎ ((w < u) × (after y (c.told b y a) pre ≤ w))

  -- the coded reply to the read p in the lane from a to b, behind pre
  pub record Replied (c : Core) (a b : ℕ) (pre : List Message) (p : ℕ) (st : List ℕ) : Type 0 where
    pub counted : p ≤ c.last b
    pub usable : (i : ℕ) → c.live b i ≡ true → c.num b i ≡ p → (y : ℕ) → y < k → has a y ≡ true → (get_or st y 0 ≡ c.want b i y) ⊎ Mends c a b pre y (c.want b i y) (get_or st y 0)

  -- what holds of a message of the lane from a to b that stands behind pre
  abbrev pub Good : Core → ℕ → ℕ → List Message → Message → Type 0
  Good c a b pre (Written y v h l) = Unit {0}
  Good c a b pre (Tagged y t) = Unit {0}
  Good c a b pre (Question p y T) = Asked c a b pre p T
  Good c a b pre (Plain p v) = p ≤ c.last b
  Good c a b pre (Coded p v st) = Replied c a b pre p st

  -- the invariant
  pub record Sound (c : Core) : Type 0 where
    pub zero_held : (s x : ℕ) → c.held s x 0 ≡ true
    pub self : (s x : ℕ) → c.told s x s ≡ c.own s x
    pub chain : (j s x : ℕ) → j < n → s < n → (j ≡ s → ⊥) → Chain x (c.told s x j) (c.lane j s) (c.own j x)
    pub behind : (s j x : ℕ) → s < n → j < n → has s x ≡ false → has j x ≡ true → c.own s x ≤ c.told s x j
    pub bare : (s j x : ℕ) → s < n → j < n → c.held s x (c.own s x) ≡ false → c.own s x ≤ c.told s x j
    pub passed : (j s x t i : ℕ) → j < n → s < n → (j ≡ s → ⊥) → has j x ≡ true → On x (c.told s x j) (c.lane j s) t → t < c.own j x
        → i < n → c.told j x i ≤ t → c.held j x t ≡ true
    pub lost : (s j x : ℕ) → s < n → j < n → c.held s x (c.own s x) ≡ false → has j x ≡ true → c.own s x < c.own j x → c.held j x (c.own s x) ≡ true
    pub reads : (s i : ℕ) → c.live s i ≡ true → (c.num s i ≤ c.last s) × ((y : ℕ) → c.want s i y ≤ c.own s y)
    pub lanes : (a b : ℕ) → a < n → b < n → (a ≡ b → ⊥) → (pre : List Message) (m : Message) (post : List Message) → c.lane a b ≡ pre ++ m ∷ post → Good c a b pre m
