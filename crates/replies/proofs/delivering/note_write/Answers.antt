use Rattle.std.proofs.Common.{◌&&◌, length, ap₂}
use Rattle.std.proofs.lemmas.Bool.{le-leb}
use Rattle.terms.specs.Items.{items}
use Rattle.teller.proofs.Kept.{tag_in_range}
use Rattle.replies.proofs.Sending.{notice_counts, notice_cells, notice_low, notice_high}
use Rattle.replies.proofs.delivering.note_write.Goals as goal

pub invariant_of-queue : goal.invariant_of-queue
invariant_of-queue c =
    record {
      counts_in_range = notice_counts c.args.object (items c.args.cells) c.args.height (items c.args.clock) c.requires;
      known = c.args.from.within;
    }

pub queue-requires : goal.queue-requires
queue-requires c =
    let x = c.args.object in
    let v = items c.args.cells in
    let h = c.args.height in
    let ck = items c.args.clock in
    ap₂ ◌&&◌ (tag_in_range h c.args.from.number (notice_low x v h ck c.requires) (notice_high x v h ck c.requires) c.args.from.within)
    (le-leb 1 (length v) (notice_cells x v h ck c.requires))
