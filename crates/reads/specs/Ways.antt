-- The number of each way by which a read gets its value. Assumes nothing.
use Rattle.std.specs.Prelude.{ℕ}
use Rattle.reads.specs.declared.ways.Way.{Way}
use Rattle.reads.specs.declared.ways.Way.TheVariants.{History, OwnSymbol, Replies, NewerWrite}

abbrev pub way_number : Way → ℕ
way_number History = 1
way_number OwnSymbol = 2
way_number Replies = 3
way_number NewerWrite = 4
