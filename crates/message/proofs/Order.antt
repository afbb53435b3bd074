-- The order of tags, by rank. Assumes nothing.
use Rattle.std.proofs.Common.{◌≡◌, ℕ, ◌<◌, true, false, eqb, ltb, ap, ◌∙◌, arith}
use Rattle.std.proofs.lemmas.Bool.Decides.{nat_tests}
use Rattle.terms.specs.Limits.{max_servers}
use Rattle.message.specs.declared.tag.Tag.{Tag}
use Rattle.message.specs.Tags.{lower, same, rank, zero_tag}

-- for servers in range a tag is lower exactly when its rank is
pub lower_rank : (s t : Tag) → s.server < max_servers → t.server < max_servers → lower s t ≡ ltb (rank s) (rank t)
lower_rank s t hs ht = grind (arith, nat_tests)

pub same_rank : (s t : Tag) → s.server < max_servers → t.server < max_servers → same s t ≡ eqb (rank s) (rank t)
same_rank s t hs ht = grind (arith, nat_tests)

-- no tag is lower than the zero tag
pub zero_lowest : (t : Tag) → lower t zero_tag ≡ false
zero_lowest t = grind (arith, nat_tests)

abbrev tag_of : ℕ → ℕ → Tag
tag_of h k = record { height = h; server = k }

-- the same tag is the same height and the same server
pub equal_of_same : (s t : Tag) → same s t ≡ true → s ≡ t
equal_of_same s t e =
    let h : s.height ≡ t.height = grind (arith, nat_tests) in
    let k : s.server ≡ t.server = grind (arith, nat_tests) in
    ap (λ n. tag_of n s.server) h ∙ ap (tag_of t.height) k

pub same_of_equal : (s t : Tag) → s ≡ t → same s t ≡ true
same_of_equal s t e =
    let h : s.height ≡ t.height = ap (λ (u : Tag). u.height) e in
    let k : s.server ≡ t.server = ap (λ (u : Tag). u.server) e in
    grind (arith, nat_tests)
