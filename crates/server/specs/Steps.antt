-- What the calls make of one server. Assumes nothing.
use Rattle.std.specs.Prelude.{ℕ, ◌+◌, Bool, true, false, cond, not, ◌&&◌, List, length, Some, None, Ok, Err, filter, Option, Result, ◌==◌, nat_lt, slice_index}
use Rattle.terms.specs.Limits.{max_count, max_height, max_entries, max_read}
use Rattle.terms.specs.declared.refusal.Refusal.{Refusal}
use Rattle.terms.specs.declared.refusal.Refusal.TheVariants.{NumbersUsedUp, HistoryFull}
use Rattle.message.specs.declared.tag.Tag.{Tag}
use Rattle.message.specs.Tags.{lower, same}
use Rattle.rules.specs.Histories.{Entry, is_entry, highest_held}
use Rattle.rules.specs.State.{Layout, Waiting, Read, Free, Open, Answered, Given, Server, all_reads}
use Rattle.rules.specs.Words.{upd, some}
use Rattle.terms.specs.Lists.{every}
use Rattle.rules.specs.Encoding.{asks}
use Rattle.code.specs.Codings.{Coding}
use Rattle.rules.specs.Turns.{check}
use Rattle.rules.specs.Updates.{entered, counted, queued, sifted, reading, overtaken}
use Rattle.rules.specs.Writing.{write_tag, write_at, without}
use Rattle.waiting.specs.Writes.{next_of}

abbrev pub has_room : Server → Bool
has_room p = nat_lt (length p.history) max_entries

-- a refusal leaves the server as it was
abbrev pub after : Option Refusal → Server → Server → Server
after None p q = q
after (Some e) p q = p

-- why the server s makes no write now
abbrev pub write_refusal : Server → ℕ → Option Refusal
write_refusal p s = check (nat_lt (p.clock s) max_count && nat_lt p.top max_height) NumbersUsedUp (check (has_room p) HistoryFull None)

-- a write of j enters: its count, its entry, and the news for the clients' reads
unfoldable pub taken_in : Server → ℕ → ℕ → Bool → Entry → Server
taken_in p j count all e = reading (entered (counted p j count e.tag.height) e) (overtaken p.reads all e.object e.tag e.value)

-- the same, where the history takes an entry only if it has room
abbrev pub took_in : Server → ℕ → ℕ → Bool → Entry → Server
took_in p j count all e =
    let q = counted p j count e.tag.height in
    reading (cond (has_room p) (entered q e) q) (overtaken p.reads all e.object e.tag e.value)

-- the write of x by the server s itself
abbrev pub written : Server → ℕ → ℕ → List ℕ → Server
written p s x v = taken_in p s (p.clock s + 1) true (record { object = x; tag = write_tag p s; value = v })

-- ---- apply

-- the place of the waiting write that is next, among n servers
abbrev pub chosen : ℕ → Server → Option ℕ
chosen n p = next_of n p.clock p.waiting (length p.waiting)

-- the waiting write w is applied, and ws wait besides
abbrev pub applied_write : Server → Waiting → List Waiting → Server
applied_write p w ws =
    let j = w.tag.server in
    taken_in (queued p ws) j (slice_index w.clock j) false (record { object = w.object; tag = w.tag; value = w.value })

abbrev pub applied : Server → ℕ → Server
applied p i = applied_write p (write_at p.waiting i) (without p.waiting i)

abbrev pub apply_answer : Server → Option ℕ → Result (Option Tag) Refusal
apply_answer p None = Ok None
apply_answer p (Some i) = cond (has_room p) (Ok (Some (write_at p.waiting i).tag)) (Err HistoryFull)

abbrev pub apply_after : Server → Option ℕ → Server
apply_after p None = p
apply_after p (Some i) = cond (has_room p) (applied p i) p

-- ---- reads

abbrev pub open_refusal : Server → Option Refusal
open_refusal p = check (nat_lt p.opened max_read) NumbersUsedUp None

abbrev pub collect_answer : Read → Option Given
collect_answer Free = None
collect_answer (Open a) = None
collect_answer (Answered r) = Some r

-- only an answered read leaves its place
abbrev pub collect_after : Server → ℕ → Read → Server
collect_after p i Free = p
collect_after p i (Open a) = p
collect_after p i (Answered r) = reading p (upd p.reads i Free)

-- ---- sweep

-- the code and the places of a lane
abbrev pub laid : Coding → ℕ → Layout
laid code places = record { code = code; places = places }

-- the first n servers have all told the own tag of x, and no entry is higher
abbrev pub settled_among : ℕ → Server → ℕ → Bool
settled_among n p x = every n (λ j. same (p.told x j) (p.own x)) && not (lower (p.own x) (highest_held p.history x))

-- without the entries of x below the floor that no open read wants
abbrev pub without_below : Server → ℕ → Tag → Server
without_below p x floor = sifted p (filter (λ e. not (e.object == x && (lower e.tag floor && not (some all_reads (λ i. asks x e.tag (p.reads i)))))) p.history)

-- without the entry of x under the own tag
abbrev pub without_own : Server → ℕ → Server
without_own p x = sifted p (filter (λ e. not (is_entry x (p.own x) e)) p.history)
