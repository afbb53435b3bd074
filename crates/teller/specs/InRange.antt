-- What a server may tell is within the ranges of messages. Assumes nothing.
use Rattle.std.specs.Prelude.{◌≡◌, ℕ, Bool, true, ◌&&◌, List, length, nat_le}
use Rattle.std.specs.List.{list_all}
use Rattle.message.specs.Ranges.{tag_ok}
use Rattle.rules.specs.Histories.{Entry}
use Rattle.rules.specs.State.{Waiting, Read, Free, Open, Answered, Server}

-- cells, of a value or a symbol, that a message can carry
abbrev pub some_cells : List ℕ → Bool
some_cells v = nat_le 1 (length v)

-- an entry that can be told
abbrev pub entry_ok : Entry → Bool
entry_ok e = tag_ok e.tag && some_cells e.value

-- a waiting write that can be told
abbrev pub write_ok : Waiting → Bool
write_ok w = tag_ok w.tag && some_cells w.value

-- the tag of x in an open read
abbrev pub asked_ok : Read → ℕ → Bool
asked_ok Free x = true
asked_ok (Open a) x = tag_ok (a.tags x)
asked_ok (Answered r) x = true

-- Own tags, symbol, history, waiting writes and open reads of a server are within the ranges of messages.
pub record InRange (p : Server) : Type 0 where
  pub own_tags : (x : ℕ) → tag_ok (p.own x) ≡ true
  pub symbol : some_cells p.symbol ≡ true
  pub entries : list_all entry_ok p.history ≡ true
  pub writes : list_all write_ok p.waiting ≡ true
  pub asked : (i x : ℕ) → asked_ok (p.reads i) x ≡ true
