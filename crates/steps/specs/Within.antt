-- How far a server may move an own tag. Assumes nothing.
use Rattle.std.specs.Prelude.{ℕ, Bool, ◌&&◌, ◌==◌}
use Rattle.message.specs.declared.tag.Tag.{Tag}
use Rattle.message.specs.Tags.{lower}
use Rattle.rules.specs.Histories.{Entry}

-- e is an entry of x with a tag above t that passes
abbrev pub rises : (Tag → Bool) → ℕ → Tag → Entry → Bool
rises test x t e = e.object == x && (lower t e.tag && test e.tag)
