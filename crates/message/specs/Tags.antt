-- Tags of writes and their order. Assumes nothing.
use Rattle.std.specs.Prelude.{ℕ, ◌+◌, ◌*◌, Bool, ◌&&◌, ◌||◌, ◌==◌, nat_lt}
use Rattle.terms.specs.Limits.{max_servers}
use Rattle.message.specs.declared.tag.Tag.{Tag}

-- the tag of the zero record, before every write
abbrev pub zero_tag : Tag
zero_tag = record { height = 0; server = 0 }

-- by height, then by server
abbrev pub lower : Tag → Tag → Bool
lower s t = nat_lt s.height t.height || (s.height == t.height && nat_lt s.server t.server)

abbrev pub same : Tag → Tag → Bool
same s t = s.height == t.height && s.server == t.server

-- a number for each tag: where servers are in range, the order of tags is that of these numbers
abbrev pub rank : Tag → ℕ
rank t = t.height * max_servers + t.server
