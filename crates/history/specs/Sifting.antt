-- Which entries leave a history. Assumes nothing.
use Rattle.std.specs.Prelude.{ℕ, Bool, not, ◌&&◌, ◌==◌}
use Rattle.message.specs.declared.tag.Tag.{Tag}
use Rattle.message.specs.Tags.{lower}
use Rattle.rules.specs.Histories.{Entry}
use Rattle.rules.specs.State.{Read, all_reads}
use Rattle.rules.specs.Words.{some}
use Rattle.rules.specs.Encoding.{asks}

-- e is an entry of x below the floor that no open read wants
abbrev pub unwanted_below : ℕ → Tag → (ℕ → Read) → Entry → Bool
unwanted_below x floor rs e = e.object == x && (lower e.tag floor && not (some all_reads (λ i. asks x e.tag (rs i))))
