-- The number of each refusal. Assumes nothing.
use Rattle.std.specs.Prelude.{ℕ}
use Rattle.terms.specs.declared.refusal.Refusal.{Refusal}
use Rattle.terms.specs.declared.refusal.Refusal.TheVariants as refusal

abbrev pub number_of : Refusal → ℕ
number_of refusal.ServersOutOfBounds = 1
number_of refusal.ObjectsOutOfBounds = 2
number_of refusal.CellsOutOfBounds = 3
number_of refusal.NoTable = 4
number_of refusal.ObjectNotRecovered = 5
number_of refusal.NoMemory = 6
number_of refusal.NoSuchServer = 7
number_of refusal.NoSuchObject = 8
number_of refusal.WrongLength = 9
number_of refusal.NoSuchRead = 10
number_of refusal.NoElement = 11
number_of refusal.EqualEnds = 12
number_of refusal.LaneEmpty = 13
number_of refusal.NumbersUsedUp = 14
number_of refusal.HistoryFull = 15
number_of refusal.ReadsFull = 16
number_of refusal.LaneFull = 17
number_of refusal.WaitingFull = 18
number_of refusal.OutOfRange = 23
number_of refusal.PlaceTooShort = 25
