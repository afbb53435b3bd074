-- The bounds of a group, as src/limits.rt has them. Assumes nothing.
use Rattle.std.specs.Prelude.{ℕ, ◌+◌, ◌-◌, ◌*◌}

abbrev pub min_servers : ℕ
min_servers = 2

abbrev pub max_servers : ℕ
max_servers = 6

abbrev pub min_objects : ℕ
min_objects = 1

abbrev pub max_objects : ℕ
max_objects = 6

abbrev pub min_cells : ℕ
min_cells = 1

abbrev pub max_cells : ℕ
max_cells = 16

-- servers and objects are numbered from 0
abbrev pub last_server : ℕ
last_server = max_servers - 1

abbrev pub last_object : ℕ
last_object = max_objects - 1

-- the greatest height of a tag, the greatest count of a clock, and the greatest number of a read
abbrev pub max_height : ℕ
max_height = 6000000

abbrev pub max_count : ℕ
max_count = 1000000

abbrev pub max_read : ℕ
max_read = 1000000

-- a server's tables: entries of the history, waiting writes, reads of clients
abbrev pub max_entries : ℕ
max_entries = 64

abbrev pub max_waiting : ℕ
max_waiting = 32

abbrev pub max_client_reads : ℕ
max_client_reads = 8

-- there is a lane from each server to each other
abbrev pub max_lanes : ℕ
max_lanes = max_servers * (max_servers - 1)

-- the places of a lane
abbrev pub min_places : ℕ
min_places = 1

abbrev pub max_places : ℕ
max_places = 16

-- a message as bytes: its mark, and the longest body
abbrev pub mark_bytes : ℕ
mark_bytes = 4

abbrev pub max_body_bytes : ℕ
max_body_bytes = 80

abbrev pub max_record_bytes : ℕ
max_record_bytes = mark_bytes + max_body_bytes
