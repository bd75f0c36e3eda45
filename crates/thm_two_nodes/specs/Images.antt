-- The images of a small dome (docs/IMAGES.md), byte for byte and of the code's own sizes: nodes 1 and 2 hold the one shard of the collection
-- "s", and node 1 leads. Definitions only.
use Rattle.std.specs.Prelude.{ℕ, List, ◌∷◌, ◌++◌, replicate}
use Rattle.spec.specs.Layout.Format.{bytes_of}
use Rattle.thm_one_node.specs.Images.{name}

-- the two replicas, both at incarnation 4
abbrev replicas : List ℕ
replicas = bytes_of 8 1 ++ bytes_of 8 4 ++ bytes_of 8 2 ++ bytes_of 8 4

-- the other rows of shards, and those of clients
unfoldable pub unused_rows : List ℕ
unused_rows = replicate 22256 0

-- the map, as two Registers and Create left it, at version 3. No client is remembered
unfoldable pub map_bytes : List ℕ
map_bytes =
    bytes_of 8 3 ++ bytes_of 8 2 ++ bytes_of 8 1 ++ bytes_of 8 1 ++ bytes_of 8 0
    ++ bytes_of 8 1 ++ bytes_of 8 4 ++ bytes_of 8 1 ++ replicate 72 0
    ++ bytes_of 8 2 ++ bytes_of 8 4 ++ bytes_of 8 1 ++ replicate 2952 0
    ++ name ++ bytes_of 4 1 ++ bytes_of 4 0 ++ bytes_of 4 1 ++ bytes_of 4 2 ++ replicate 840 0
    ++ name ++ bytes_of 4 0 ++ bytes_of 4 1 ++ bytes_of 8 1 ++ bytes_of 8 1 ++ bytes_of 8 2 ++ bytes_of 8 2
    ++ replicas ++ replicate 96 0 ++ bytes_of 8 1 ++ bytes_of 8 2 ++ replicate 48 0 ++ unused_rows

-- the seven rows of a header that are free
unfoldable pub free : List ℕ
free = replicate 8960 0

-- the header of node 2 when it is new
unfoldable pub new_second : List ℕ
new_second = bytes_of 8 2 ++ bytes_of 8 4 ++ replicate 1312 0 ++ free

-- the header of node 1, which leads, up to its row: its lease's code and end, the rows of its table of vectors, the entries of its log; and of its peer, node
-- 2, the acked offset and the flags
abbrev pub first_row : (code time stored last acked flags : ℕ) → List ℕ
first_row code time stored last acked flags =
    bytes_of 8 1 ++ bytes_of 8 4 ++ bytes_of 8 3 ++ bytes_of 8 1 ++ bytes_of 4 0 ++ bytes_of 4 code ++ bytes_of 8 time
    ++ name ++ bytes_of 8 0 ++ bytes_of 8 0 ++ bytes_of 8 stored ++ bytes_of 8 1 ++ bytes_of 8 last ++ bytes_of 8 2 ++ bytes_of 8 1
    ++ bytes_of 4 0 ++ bytes_of 4 1 ++ bytes_of 4 0 ++ bytes_of 4 1 ++ bytes_of 8 1 ++ bytes_of 8 0
    ++ replicas ++ replicate 96 0
    ++ bytes_of 8 2 ++ bytes_of 8 acked ++ bytes_of 8 0 ++ bytes_of 4 flags ++ bytes_of 4 0
    ++ replicate 992 0

unfoldable pub first : (code time stored last acked flags : ℕ) → List ℕ
first code time stored last acked flags = first_row code time stored last acked flags ++ free

-- that of node 2, a backup without a lease: its own epoch, the rows of its table, the entries of its log
abbrev pub second_row : (epoch stored last : ℕ) → List ℕ
second_row epoch stored last =
    bytes_of 8 2 ++ bytes_of 8 4 ++ bytes_of 8 3 ++ bytes_of 8 1 ++ replicate 16 0
    ++ name ++ bytes_of 8 0 ++ bytes_of 8 0 ++ bytes_of 8 stored ++ bytes_of 8 epoch ++ bytes_of 8 last ++ bytes_of 8 2 ++ bytes_of 8 0
    ++ replicate 32 0 ++ replicas ++ replicate 1120 0

unfoldable pub second : (epoch stored last : ℕ) → List ℕ
second epoch stored last = second_row epoch stored last ++ free

-- ---- the headers of the run; 8 is a peer in the ack set, 9 one that is aligned besides

abbrev pub shown : List ℕ
shown = first 0 0 0 0 0 8

abbrev pub leased : List ℕ
leased = first 1 100 0 0 0 8

abbrev pub written : List ℕ
written = first 1 100 1 1 0 8

abbrev pub aligned : List ℕ
aligned = first 1 100 1 1 0 9

abbrev pub acked : List ℕ
acked = first 1 100 1 1 1 9

abbrev pub shown_second : List ℕ
shown_second = second 0 0 0

abbrev pub adopted : List ℕ
adopted = second 1 0 0

abbrev pub holding : List ℕ
holding = second 1 1 1

-- ---- outputs

-- room for one worker's row
abbrev pub worker : List ℕ
worker = replicate 54 0

-- room for a request
abbrev pub space : List ℕ
space = replicate 100 0

-- .. and for a reply
abbrev pub reply : List ℕ
reply = replicate 9 0
