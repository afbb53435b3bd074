-- A server as the rules see it. Assumes nothing.
use Rattle.std.specs.Prelude.{List, [], map, slice_index, slice_index_or}
use Rattle.terms.specs.Items.{items}
use Rattle.message.specs.declared.tag.Tag.{Tag}
use Rattle.message.specs.Tags.{zero_tag}
use Rattle.rules.specs.State as rules
use Rattle.history.specs.Entries.{entries}
use Rattle.waiting.specs.Writes.{writes}
use Rattle.reads.specs.Readings.{reads}
use Rattle.server.specs.declared.server.Told.{Told}
use Rattle.server.specs.declared.server.Server.{Server}

abbrev pub told_tags : Told → List Tag
told_tags t = t.tags

-- past the last server and the last object all is zero
abbrev pub server : Server → rules.Server
server p = record {
  clock = λ j. slice_index p.clock j;
  top = p.top;
  symbol = items p.symbol;
  own = λ x. slice_index_or p.own x zero_tag;
  told = λ x j. slice_index_or (slice_index_or (map told_tags p.told) x []) j zero_tag;
  history = entries p.history;
  waiting = writes p.waiting;
  reads = reads p.reads;
  opened = p.opened;
}
