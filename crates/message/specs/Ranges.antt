-- The ranges of a message's parts, as tests. Assumes nothing.
use Rattle.std.specs.Prelude.{ℕ, Bool, ◌&&◌, ◌||◌, List, length, ◌==◌, nat_le}
use Rattle.terms.specs.Limits.{min_servers, max_servers, last_server, min_objects, max_objects, last_object, min_cells, max_cells, max_height, max_count, max_read}
use Rattle.std.specs.List.{list_all}
use Rattle.message.specs.declared.tag.Tag.{Tag}
use Rattle.message.specs.Meanings.{Meaning, write_notice, tag_notice, question, plain_reply, coded_reply}

-- low ≤ n ≤ high
abbrev pub between : ℕ → ℕ → ℕ → Bool
between low high n = nat_le low n && nat_le n high

-- numbers

abbrev pub object_ok : ℕ → Bool
object_ok n = between 0 last_object n

abbrev pub read_ok : ℕ → Bool
read_ok n = between 1 max_read n

-- the height of a write
abbrev pub height_ok : ℕ → Bool
height_ok n = between 1 max_height n

abbrev pub count_ok : ℕ → Bool
count_ok n = nat_le n max_count

-- height 0 goes with server 0
abbrev pub tag_ok : Tag → Bool
tag_ok t = nat_le t.height max_height && nat_le t.server last_server && (nat_le 1 t.height || t.server == 0)

-- lists

-- a value or a symbol
abbrev pub cells_ok : List ℕ → Bool
cells_ok cells = between min_cells max_cells (length cells)

abbrev pub clock_ok : List ℕ → Bool
clock_ok clock = between min_servers max_servers (length clock) && list_all count_ok clock

abbrev pub tags_ok : List Tag → Bool
tags_ok tags = between min_objects max_objects (length tags) && list_all tag_ok tags

-- the whole message
abbrev pub in_range : Meaning → Bool
in_range (write_notice object value height clock) = object_ok object && cells_ok value && height_ok height && clock_ok clock
in_range (tag_notice object tag) = object_ok object && tag_ok tag
in_range (question read object tags) = read_ok read && object_ok object && tags_ok tags
in_range (plain_reply read value) = read_ok read && cells_ok value
in_range (coded_reply read symbol stated) = read_ok read && cells_ok symbol && tags_ok stated
