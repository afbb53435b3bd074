-- What a reply finds where it is taken. Assumes nothing.
use Rattle.std.specs.Prelude.{◌≡◌, ℕ, ◌<◌, Bool, true, ◌&&◌, List, None, nat_lt}
use Rattle.terms.specs.declared.refusal.Refusal.TheVariants.{NoSuchServer}
use Rattle.message.specs.declared.tag.Tag.{Tag}
use Rattle.message.specs.Meanings.{Meaning}
use Rattle.code.specs.Codings.{Coding}
use Rattle.rules.specs.Delivering.{open_place, mended, fits}
use Rattle.rules.specs.Runs.{AllowedSymbol, AllowedPlace, AllowedMessage}
use Rattle.rules.specs.State.{Server, Asking}
use Rattle.rules.specs.Turns.{Found, check}
use Rattle.server.specs.Steps.{laid}
use Rattle.steps.specs.Local.{Local, refused_or}
use Rattle.replies.specs.Receiving.{coded_symbol, coded_from, got_local, deliver_local}

-- A symbol v from a for the open read r at the place i was taken, and something that may be found was found.
pub record SymbolTaken (g : Coding) (p : Server) (a i : ℕ) (r : Asking) (v : List ℕ) (ts : List Tag) (q : Local) : Type 0 where
  pub found : Found
  pub allowed : (places : ℕ) → AllowedSymbol (laid g places) a r found (mended (laid g places) p a r v ts g.objects)
  pub step : (places : ℕ) → q ≡ coded_symbol (laid g places) p a i r found (mended (laid g places) p a r v ts g.objects)

-- The same of a coded reply to the read with the number m.
pub record CodedTaken (g : Coding) (p : Server) (a m : ℕ) (v : List ℕ) (ts : List Tag) (q : Local) : Type 0 where
  pub found : Found
  pub allowed : (places : ℕ) → AllowedPlace (laid g places) p a v ts found (open_place p m)
  pub step : (places : ℕ) → q ≡ coded_from (laid g places) p a v ts found (open_place p m)

-- The same of any message m from a that fits, at the server b.
pub record MessageTaken (g : Coding) (p : Server) (a b : ℕ) (back_free : Bool) (m : Meaning) (q : Local) : Type 0 where
  pub found : Found
  pub allowed : (places : ℕ) → AllowedMessage (laid g places) p a m found
  pub step : (places : ℕ) → q ≡ got_local (laid g places) p a b back_free m found

-- A message m from a was delivered to the server b: beyond the code's servers it is refused, and one that does not fit is dropped.
pub record DeliveredBy (g : Coding) (p : Server) (a b : ℕ) (back_free : Bool) (m : Meaning) (q : Local) : Type 0 where
  pub found : Found
  pub allowed : (places : ℕ) → a < g.servers → b < g.servers → fits (laid g places) m ≡ true → AllowedMessage (laid g places) p a m found
  pub step : (places : ℕ) → q ≡ refused_or (check (nat_lt a g.servers && nat_lt b g.servers) NoSuchServer None) p (deliver_local (laid g places) p a b back_free m found)
