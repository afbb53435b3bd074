-- What it tells that sizes and table are within their bounds. Assumes nothing.
use Rattle.std.proofs.Common.{◌≡◌, ℕ, ◌+◌, ◌*◌, ◌<◌, ◌≤◌, Bool, true, false, cond, eqb, ltb, leb, List, length, get_or, Some, None, Option, refl, arith, ltb-true, eqb-true}
use Rattle.std.proofs.lemmas.Nat.{mul-add-lt}
use Rattle.std.proofs.lemmas.Bool.{leb-true}
use Rattle.terms.specs.declared.refusal.Refusal.{Refusal}
use Rattle.terms.specs.Limits.{min_servers, max_servers, max_objects, max_cells}
use Rattle.terms.proofs.Each.{each_at}
use Rattle.terms.proofs.Tests.{and_left, and_right}
use Rattle.field.specs.Arithmetic.{Arithmetic}
use Rattle.code.specs.Layout.{coding, within, all_elements, is_table, size_refusal, Accepted, AllRecovered}

-- no refusal: the test passed, and there is none after it
pub passed : (t : Bool) (rest : Option Refusal) (e : Refusal) → cond t rest (Some e) ≡ None → (t ≡ true) × (rest ≡ None)
passed true rest e n = (refl, n)
passed false rest e n = let no_way : ◌≡◌ {A = ℕ} 0 1 = cc in absurd (omega arith)

pub record Sized (q n k w : ℕ) (table : List ℕ) : Type 0 where
  pub servers : within min_servers max_servers n ≡ true
  pub objects : within 1 max_objects k ≡ true
  pub cells : within 1 max_cells w ≡ true
  pub rows : is_table q n k table ≡ true

pub sized : (q n k w : ℕ) (table : List ℕ) → size_refusal q n k w table ≡ None → Sized q n k w table
sized q n k w table none =
    let a = passed (within min_servers max_servers n) _ _ none in
    let b = passed (within 1 max_objects k) _ _ a.1 in
    let c = passed (within 1 max_cells w) _ _ b.1 in
    let d = passed (is_table q n k table) _ _ c.1 in
    record { servers = a.0; objects = b.0; cells = c.0; rows = d.0 }

pub within_least : (a b n : ℕ) → within a b n ≡ true → a ≤ n
within_least a b n t = leb-true a n (and_left (leb a n) (leb n b) t)

pub within_most : (a b n : ℕ) → within a b n ≡ true → n ≤ b
within_most a b n t = leb-true n b (and_right (leb a n) (leb n b) t)

module _ {q n k w : ℕ} {table : List ℕ} (S : Sized q n k w table) where
  pub few : n ≤ 6
  few = within_most 2 6 n S.servers

  pub narrow : k ≤ 6
  narrow = within_most 1 6 k S.objects

  pub table_long : length table ≡ n * k
  table_long = eqb-true (length table) (n * k) (and_left (eqb (length table) (n * k)) (all_elements q table) S.rows)

  -- the place of a row's coefficient is within the table
  place : (s x : ℕ) → s < n → x < k → s * k + x < n * k
  place s x hs hx = omega (arith, mul-add-lt s k x n hs hx)

  pub accepted : (a : Arithmetic) → a.size ≡ q → AllRecovered (coding a n k w table) → Accepted (coding a n k w table)
  accepted a is all = record {
    least_servers = within_least 2 6 n S.servers;
    most_servers = few;
    least_objects = within_least 1 6 k S.objects;
    most_objects = narrow;
    least_cells = within_least 1 16 w S.cells;
    most_cells = within_most 1 16 w S.cells;
    elements = λ s x hs hx.
        let inside : s * k + x < length table = omega (arith, place s x hs hx, table_long) in
        let below : get_or table (s * k + x) 0 < q =
        ltb-true (get_or table (s * k + x) 0) q
        (each_at (λ v. ltb v q) table (s * k + x) 0 (and_right (eqb (length table) (n * k)) (all_elements q table) S.rows) inside) in
        omega (arith, is, below);
    all_recovered = all;
  }
