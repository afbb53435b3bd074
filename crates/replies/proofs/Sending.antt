-- A reply is within the ranges of messages. Assumes nothing.
use Rattle.std.proofs.Common.{◌≡◌, ℕ, zero, suc, ◌<◌, ◌≤◌, true, cond, ◌&&◌, leb, List, [], ◌∷◌, length, get_or, refl, arith}
use Rattle.std.proofs.lemmas.List.{length-take-le}
use Rattle.std.proofs.lemmas.Bool.{and_parts, cond_both, leb-true}
use Rattle.terms.specs.Items.{items}
use Rattle.terms.specs.Limits.{max_count, max_height, max_objects}
use Rattle.std.specs.List.{list_all}
use Rattle.terms.specs.declared.bounded.Bounded.{Bounded}
use Rattle.message.specs.declared.tag.Tag.{Tag}
use Rattle.message.specs.Meanings.{question, write_notice, tag_notice}
use Rattle.message.specs.Ranges.{in_range, tag_ok, tags_ok, read_ok, object_ok, cells_ok, height_ok, clock_ok, count_ok}
use Rattle.message.specs.Tags.{zero_tag}
use Rattle.rules.specs.Delivering.{exchanges, stated}
use Rattle.rules.specs.Histories.{holds}
use Rattle.rules.specs.State.{Layout, Server}

-- a value or a symbol has at most as many cells as it has places
pub cells_few : (b : Bounded ℕ 16) → length (items b) ≤ 16
cells_few b = let n = length-take-le b.len b.places (omega (arith, b.fits, b.whole)) in omega (arith, n, b.fits)

each_tag : (ts : List Tag) → list_all tag_ok ts ≡ true → (y : ℕ) → tag_ok (get_or ts y zero_tag) ≡ true
each_tag [] ok y = refl
each_tag (t ∷ ts) ok zero = (and_parts (tag_ok t) (list_all tag_ok ts) ok).0
each_tag (t ∷ ts) ok (suc y) = each_tag ts (and_parts (tag_ok t) (list_all tag_ok ts) ok).1 y

module _ (m x : ℕ) (ts : List Tag) (ok : in_range (question m x ts) ≡ true) where
  pub question_number : read_ok m ≡ true
  question_number = (and_parts (read_ok m) (object_ok x) (and_parts (read_ok m && object_ok x) (tags_ok ts) ok).0).0

  pub question_tags : (y : ℕ) → tag_ok (get_or ts y zero_tag) ≡ true
  question_tags = each_tag ts (and_parts _ (list_all tag_ok ts) (and_parts (read_ok m && object_ok x) (tags_ok ts) ok).1).1

  -- the tags that are stated are own ones, asked ones or zero
  pub stated_ok : (l : Layout) (s : ℕ) (p : Server) → ((y : ℕ) → tag_ok (p.own y) ≡ true) → (y : ℕ) → tag_ok (stated l s p y (get_or ts y zero_tag)) ≡ true
  unfolding stated
  stated_ok l s p own y =
      let OkTag : Tag → Type 0 = λ t. tag_ok t ≡ true in
      let u = get_or ts y zero_tag in
      cond_both (exchanges l s p y u) (cond (holds p.history y u) u zero_tag) (p.own y) OkTag (λ _. cond_both (holds p.history y u) u zero_tag OkTag (λ _. question_tags y) (λ _. refl)) (λ _. own y)

-- ---- what a notice within its ranges tells

each_count : (cs : List ℕ) → list_all count_ok cs ≡ true → (j : ℕ) → get_or cs j 0 ≤ max_count
each_count [] ok j = omega arith
each_count (c ∷ cs) ok zero = leb-true c max_count (and_parts (count_ok c) (list_all count_ok cs) ok).0
each_count (c ∷ cs) ok (suc j) = each_count cs (and_parts (count_ok c) (list_all count_ok cs) ok).1 j

object_below : (x : ℕ) → object_ok x ≡ true → x < max_objects
object_below x ok = let le = leb-true x 5 (and_parts (leb 0 x) (leb x 5) ok).1 in omega arith

module _ (x : ℕ) (v : List ℕ) (h : ℕ) (clock : List ℕ) (ok : in_range (write_notice x v h clock) ≡ true) where
  first_parts : ((object_ok x && cells_ok v) && height_ok h) ≡ true
  first_parts = (and_parts ((object_ok x && cells_ok v) && height_ok h) (clock_ok clock) ok).0

  pub notice_counts : (j : ℕ) → get_or clock j 0 ≤ max_count
  notice_counts = each_count clock (and_parts _ (list_all count_ok clock) (and_parts ((object_ok x && cells_ok v) && height_ok h) (clock_ok clock) ok).1).1

  pub notice_cells : 1 ≤ length v
  notice_cells = leb-true 1 (length v) (and_parts (leb 1 (length v)) (leb (length v) 16) (and_parts (object_ok x) (cells_ok v) (and_parts (object_ok x && cells_ok v) (height_ok h) first_parts).0).1).0

  height_parts : (leb 1 h ≡ true) × (leb h max_height ≡ true)
  height_parts = and_parts (leb 1 h) (leb h max_height) (and_parts (object_ok x && cells_ok v) (height_ok h) first_parts).1

  pub notice_low : 1 ≤ h
  notice_low = leb-true 1 h height_parts.0

  pub notice_high : h ≤ max_height
  notice_high = leb-true h max_height height_parts.1

pub tag_notice_object : (x : ℕ) (t : Tag) → in_range (tag_notice x t) ≡ true → x < max_objects
tag_notice_object x t ok = object_below x (and_parts (object_ok x) (tag_ok t) ok).0
