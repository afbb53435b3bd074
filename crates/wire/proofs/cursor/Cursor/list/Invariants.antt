use Rattle.std.proofs.Common.{◌≡◌, ◌-◌, length}
use Rattle.terms.specs.Items.{items}
use Rattle.wire.specs.Reading.{many}
use Rattle.wire.proofs.Many.{after}
use Rattle.wire.proofs.cursor.Cursor.list.Given as goal

abbrev pub invariant-loop : goal.invariant-loop
invariant-loop g l = (l.self.end ≡ l.initial.self.end) × (length (items l.all) ≡ l.counter) × (many g.T.Item.item l.initial.self.end l.n l.initial.self.left.now ≡ after (items l.all) (many g.T.Item.item l.initial.self.end (l.n - l.counter) l.self.left.now))
