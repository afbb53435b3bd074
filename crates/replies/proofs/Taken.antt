-- What is found where a coded reply is taken. Assumes nothing.
use Rattle.std.proofs.Common.{◌≡◌, ℕ, Bool, false, List, Some, None, Option, sym, refl, ap, ◌∙◌, subst}
use Rattle.std.proofs.lemmas.Bool.{both_ways}
use Rattle.message.specs.declared.tag.Tag.{Tag}
use Rattle.code.specs.Codings.{Coding}
use Rattle.code.specs.Recovery.{Recovers, Decoded}
use Rattle.rules.specs.Delivering.{open_place, mended}
use Rattle.rules.specs.Runs.{Tested, AllowedSymbol, AllowedRead, AllowedPlace}
use Rattle.rules.specs.State.{Layout, Server, Asking, Read, Open}
use Rattle.rules.specs.Turns.{Found, Outcome}
use Rattle.rules.specs.Updates.{reading, in_hand}
use Rattle.rules.specs.Words.{upd}
use Rattle.server.specs.Steps.{laid}
use Rattle.steps.specs.Local.{Local, local}
use Rattle.steps.specs.Reading.{found_of}
use Rattle.replies.specs.Receiving.{dropped_local, settle_local, coded_symbol, coded_by, coded_from}
use Rattle.replies.specs.Taking.{SymbolTaken, CodedTaken}

-- a set that recovers nothing, and one that recovers and decodes
not_recovered : (l : Layout) (set : ℕ → Bool) (symbols : ℕ → List ℕ) (x : ℕ) → (Recovers l.code set x → ⊥) → Tested l set symbols x (found_of None)
not_recovered l set symbols x none = record { test = (λ e. absurd (both_ways false refl e), λ r. absurd (none r)); decoded = λ e. absurd (both_ways false refl e) }

recovered : (l : Layout) (set : ℕ → Bool) (symbols : ℕ → List ℕ) (x : ℕ) (u : List ℕ) → Recovers l.code set x × Decoded l.code set symbols x u → Tested l set symbols x (found_of (Some u))
recovered l set symbols x u d = record { test = (λ _. d.0, λ _. refl); decoded = λ _. d.1 }

module _ (g : Coding) (p : Server) (a i : ℕ) (r : Asking) (v : List ℕ) (ts : List Tag) (q : Local) where
  abbrev Made : Option (List ℕ) → Type 0
  Made o = (places : ℕ) → o ≡ mended (laid g places) p a r v ts g.objects

  pub symbol_unusable : Made None → q ≡ local (Outcome 6) p None → SymbolTaken g p a i r v ts q
  symbol_unusable made is = record {
    found = found_of None;
    allowed = λ places. subst (AllowedSymbol (laid g places) a r (found_of None)) (made places) tt;
    step = λ places. is ∙ ap (coded_symbol (laid g places) p a i r (found_of None)) (made places);
  }

  module _ (w : List ℕ) (held : Asking) (made : Made (Some w)) (e : held ≡ in_hand r a w) where
    pub symbol_waits : (Recovers g held.hand held.object → ⊥) → q ≡ local (Outcome 3) (reading p (upd p.reads i (Open held))) None → SymbolTaken g p a i r v ts q
    symbol_waits none is = record {
      found = found_of None;
      allowed = λ places.
          let l = laid g places in
          let P : Asking → Type 0 = λ t. Tested l t.hand t.symbols t.object (found_of None) in
          subst (AllowedSymbol l a r (found_of None)) (made places) (subst P e (not_recovered l held.hand held.symbols held.object none));
      step = λ places. is ∙ ap (λ (t : Asking). local (Outcome 3) (reading p (upd p.reads i (Open t))) None) e ∙ ap (coded_symbol (laid g places) p a i r (found_of None)) (made places);
    }

    pub symbol_settles : (u : List ℕ) → Recovers g held.hand held.object × Decoded g held.hand held.symbols held.object u → ((l : Layout) → q ≡ settle_local l p i held u) → SymbolTaken g p a i r v ts q
    symbol_settles u d is = record {
      found = found_of (Some u);
      allowed = λ places.
          let l = laid g places in
          let P : Asking → Type 0 = λ t. Tested l t.hand t.symbols t.object (found_of (Some u)) in
          subst (AllowedSymbol l a r (found_of (Some u))) (made places) (subst P e (recovered l held.hand held.symbols held.object u d));
      step = λ places. is (laid g places) ∙ ap (λ (t : Asking). settle_local (laid g places) p i t u) e ∙ ap (coded_symbol (laid g places) p a i r (found_of (Some u))) (made places);
    }

module _ (g : Coding) (p : Server) (a m : ℕ) (v : List ℕ) (ts : List Tag) (q : Local) where
  -- there is no such open read
  pub coded_nowhere : None ≡ open_place p m → q ≡ dropped_local p → CodedTaken g p a m v ts q
  coded_nowhere none is = record {
    found = found_of None;
    allowed = λ places. subst (AllowedPlace (laid g places) p a v ts (found_of None)) none tt;
    step = λ places. is ∙ ap (coded_from (laid g places) p a v ts (found_of None)) none;
  }

  module _ (i : ℕ) (at : Some i ≡ open_place p m) where
    coded_read : (t : Read) (f : Found) → t ≡ p.reads i → ((places : ℕ) → AllowedRead (laid g places) p a v ts f t) → ((places : ℕ) → q ≡ coded_by (laid g places) p a i v ts f t) → CodedTaken g p a m v ts q
    coded_read t f is ok step = record {
      found = f;
      allowed = λ places. let l = laid g places in subst (AllowedPlace l p a v ts f) at (subst (AllowedRead l p a v ts f) is (ok places));
      step = λ places. let l = laid g places in step places ∙ ap (coded_by l p a i v ts f) is ∙ ap (coded_from l p a v ts f) at;
    }

    pub coded_open : (r : Asking) → p.reads i ≡ Open r → SymbolTaken g p a i r v ts q → CodedTaken g p a m v ts q
    coded_open r is taken = coded_read (Open r) taken.found (sym is) taken.allowed taken.step
