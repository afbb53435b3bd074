-- What it tells that values are not refused. Assumes nothing.
use Rattle.std.proofs.Common.{◌≡◌, ℕ, ◌<◌, Bool, ◌&&◌, eqb, ltb, List, [], length, get_or, None, arith, ltb-true, eqb-true}
use Rattle.terms.proofs.Each.{each_at}
use Rattle.terms.proofs.Tests.{and_left, and_right}
use Rattle.code.specs.Codings.{Coding, Value, value_at}
use Rattle.code.specs.Layout.{all_elements}
use Rattle.code.specs.Refusing.{all_long, all_in_field, values_refusal}
use Rattle.code.proofs.Sizes.{passed}

pub not_refused : (g : Coding) (n : ℕ) (vs : List (List ℕ)) → values_refusal g n vs ≡ None → (x : ℕ) → x < n → Value g (value_at vs x)
not_refused g n vs none x h =
    let whole : Bool = eqb (length vs) n && all_long g.cells vs in
    let first = passed whole _ _ none in
    let second = passed (all_in_field g.arithmetic.size vs) _ _ first.1 in
    let long : length vs ≡ n = eqb-true (length vs) n (and_left (eqb (length vs) n) (all_long g.cells vs) first.0) in
    let inside : x < length vs = omega arith in
    let cells : length (value_at vs x) ≡ g.cells =
    eqb-true (length (value_at vs x)) g.cells (each_at (λ v. eqb (length v) g.cells) vs x [] (and_right (eqb (length vs) n) (all_long g.cells vs) first.0) inside) in
    record {
      long = cells;
      elements = λ c b.
          ltb-true (get_or (value_at vs x) c 0) g.arithmetic.size
          (each_at (λ u. ltb u g.arithmetic.size) (value_at vs x) c 0 (each_at (λ v. all_elements g.arithmetic.size v) vs x [] second.0 inside) (omega (arith, cells)));
    }
