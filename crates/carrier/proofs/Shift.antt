-- What stands behind a part of a list, where the part is replaced. Assumes nothing.
use Rattle.std.proofs.Common.{◌≡◌, ℕ, ◌+◌, ◌≤◌, List, length, take, drop, ◌∙◌, arith, length-drop}
use borrow.Rule.Slice.PartMut.{put_mid}
use Rattle.std.proofs.lemmas.List.{length-take-le}
use Rattle.std.proofs.lemmas.Slice.{drop-put_mid}

module _ {A : Type 0} (xs ys : List A) (at held k : ℕ) (fits : at + held ≤ length xs) where
  pub above_kept : k ≡ held → length ys ≡ length (take k (drop at xs)) → drop (at + held) (put_mid at k xs ys) ≡ drop (at + held) xs
  above_kept same long =
      let low : at ≤ length xs = omega arith in
      let end : at + k ≤ at + held = omega arith in
      let rest : k ≤ length (drop at xs) = rw length-drop (omega arith) in
      drop-put_mid at k xs ys (at + held) end low (long ∙ length-take-le k (drop at xs) rest)
