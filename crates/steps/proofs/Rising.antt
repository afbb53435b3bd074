-- The highest tag that may be taken. Assumes nothing.
use Rattle.std.proofs.Common.{◌≡◌, ℕ, Bool, true, false, cond, ◌&&◌, eqb, refl}
use Rattle.message.specs.declared.tag.Tag.{Tag}
use Rattle.message.specs.Tags.{lower}
use Rattle.rules.specs.Histories.{Entry, raised}
use Rattle.steps.specs.Within.{rises}

-- the highest tag goes up exactly where an entry lets it rise
pub raised_within : (test : Tag → Bool) (x : ℕ) (t : Tag) (e : Entry) → cond (rises test x t e) e.tag t ≡ raised test x t e
raised_within test x t e = go (eqb e.object x) (lower t e.tag) (test e.tag)
  where
    go : (a b c : Bool) → cond (a && (b && c)) e.tag t ≡ cond (a && c) (cond b e.tag t) t
    go true true true = refl
    go true true false = refl
    go true false true = refl
    go true false false = refl
    go false b c = refl
