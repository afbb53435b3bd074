-- A server with some of its parts changed. Assumes nothing.
use Rattle.std.proofs.Common.{◌≡◌, ℕ, max, Bool, true, false, cond, List, [], ◌∷◌, ◌++◌, ap, ◌∙◌, ap₂}
use Rattle.message.specs.declared.tag.Tag.{Tag}
use Rattle.rules.specs.Words.{upd}
use Rattle.message.specs.Tags.{zero_tag}
use Rattle.rules.specs.Histories.{Entry, zero_record}
use Rattle.rules.specs.State.{Waiting, Read, Free, Server, new_server}
use Rattle.rules.specs.Updates.{entered, counted, queued, sifted, hearing, moved}

-- other counts and another greatest height
abbrev pub timed : Server → (ℕ → ℕ) → ℕ → Server
timed p clock top = record {
  clock = clock;
  top = top;
  symbol = p.symbol;
  own = p.own;
  told = p.told;
  history = p.history;
  waiting = p.waiting;
  reads = p.reads;
  opened = p.opened;
}

-- other told tags
abbrev pub heard : Server → (ℕ → ℕ → Tag) → Server
heard p told = record {
  clock = p.clock;
  top = p.top;
  symbol = p.symbol;
  own = p.own;
  told = told;
  history = p.history;
  waiting = p.waiting;
  reads = p.reads;
  opened = p.opened;
}

-- another symbol and other own tags
abbrev pub owning : Server → (ℕ → Tag) → List ℕ → Server
owning p own symbol = record {
  clock = p.clock;
  top = p.top;
  symbol = symbol;
  own = own;
  told = p.told;
  history = p.history;
  waiting = p.waiting;
  reads = p.reads;
  opened = p.opened;
}

pub counted_is : (p : Server) (j c h : ℕ) (clock : ℕ → ℕ) (top : ℕ) → clock ≡ upd p.clock j c → top ≡ max p.top h → timed p clock top ≡ counted p j c h
unfolding counted
counted_is p j c h clock top ec et = ap₂ (timed p) ec et

pub hearing_is : (p : Server) (x j : ℕ) (t : Tag) (told : ℕ → ℕ → Tag) → told ≡ upd p.told x (upd (p.told x) j t) → heard p told ≡ hearing p x j t
unfolding hearing
hearing_is p x j t told e = ap (heard p) e

pub moved_is : (p q : Server) (s x : ℕ) (t : Tag) (v : List ℕ) (own : ℕ → Tag) → q ≡ hearing p x s t → own ≡ upd q.own x t → owning q own v ≡ moved p s x t v
unfolding hearing moved
moved_is p q s x t v own e eo = ap (λ o. owning q o v) eo ∙ ap (λ (r : Server). owning r (upd r.own x t) v) e

pub entered_is : (p : Server) (e : Entry) (b : Bool) (es : List Entry) → es ≡ cond b (p.history ++ e ∷ []) p.history → sifted p es ≡ cond b (entered p e) p
unfolding sifted entered
entered_is p e true es is = ap (sifted p) is
entered_is p e false es is = ap (sifted p) is

pub queued_is : (p : Server) (w : Waiting) (b : Bool) (ws : List Waiting) → ws ≡ cond b (p.waiting ++ w ∷ []) p.waiting → queued p ws ≡ cond b (queued p (p.waiting ++ w ∷ [])) p
unfolding queued
queued_is p w true ws is = ap (queued p) is
queued_is p w false ws is = ap (queued p) is

pub new_is : (cells : ℕ) {clock : ℕ → ℕ} {symbol : List ℕ} {own : ℕ → Tag} {told : ℕ → ℕ → Tag} {history : List Entry} {waiting : List Waiting} {reads : ℕ → Read}
    → clock ≡ (λ _. 0) → symbol ≡ zero_record cells → own ≡ (λ _. zero_tag) → told ≡ (λ _ _. zero_tag) → history ≡ [] → waiting ≡ [] → reads ≡ (λ _. Free)
    → ◌≡◌ {A = Server} (record { clock = clock; top = 0; symbol = symbol; own = own; told = told; history = history; waiting = waiting; reads = reads; opened = 0 }) (new_server cells)
new_is cells c s o t h w r = λ i. record { clock = c i; top = 0; symbol = s i; own = o i; told = t i; history = h i; waiting = w i; reads = r i; opened = 0 }
