-- The images of a small dome (docs/IMAGES.md), byte for byte and of the code's own sizes: node 1 alone holds the one shard of the collection
-- "s". Definitions only.
use Rattle.std.specs.Prelude.{ℕ, List, ◌∷◌, ◌++◌, replicate}
use Rattle.spec.specs.Layout.Format.{bytes_of}

-- "s", as a name in an image
abbrev pub name : List ℕ
name = bytes_of 8 1 ++ (0x73 ∷ replicate 31 0)

-- the map, at version 1: node 1 at incarnation 4, the collection with one dimension, its shard at epoch 1. No client is remembered
unfoldable pub map_bytes : List ℕ
map_bytes =
    bytes_of 8 1 ++ bytes_of 8 1 ++ bytes_of 8 1 ++ bytes_of 8 1 ++ bytes_of 8 0
    ++ bytes_of 8 1 ++ bytes_of 8 4 ++ bytes_of 8 1 ++ replicate 3048 0
    ++ name ++ bytes_of 4 1 ++ bytes_of 4 0 ++ bytes_of 4 1 ++ bytes_of 4 1 ++ replicate 840 0
    ++ name ++ bytes_of 4 0 ++ bytes_of 4 1 ++ bytes_of 8 1 ++ bytes_of 8 1 ++ bytes_of 8 1 ++ bytes_of 8 1
    ++ bytes_of 8 1 ++ bytes_of 8 4 ++ replicate 112 0 ++ bytes_of 8 1
    ++ replicate 22312 0

-- the header of a new node of id 0
unfoldable pub unused : List ℕ
unused = replicate 10288 0

-- the header of node 1 when it is new, at incarnation 4
unfoldable pub new : List ℕ
new = bytes_of 8 1 ++ bytes_of 8 4 ++ replicate 10272 0

-- the header of node 1 when it has been shown the map: its lease's code and end, the rows of its table of vectors, the entries of its log
unfoldable pub header : (code time stored last : ℕ) → List ℕ
header code time stored last =
    bytes_of 8 1 ++ bytes_of 8 4 ++ bytes_of 8 1 ++ bytes_of 8 1 ++ bytes_of 4 0 ++ bytes_of 4 code ++ bytes_of 8 time
    ++ name ++ bytes_of 8 0 ++ bytes_of 8 0 ++ bytes_of 8 stored ++ bytes_of 8 1 ++ bytes_of 8 last ++ bytes_of 8 1 ++ bytes_of 8 0
    ++ bytes_of 4 0 ++ bytes_of 4 1 ++ bytes_of 4 0 ++ bytes_of 4 1 ++ bytes_of 8 1 ++ bytes_of 8 0 ++ bytes_of 8 1 ++ bytes_of 8 4
    ++ replicate 10096 0

-- a node's stores before any Write
unfoldable pub stores : List ℕ
stores = replicate 1392640 0

-- ---- the headers of a list of calls

-- shown the map; granted a lease until 100; with one entry in the log and one row in the table
abbrev pub shown : List ℕ
shown = header 0 0 0 0

abbrev pub leased : List ℕ
leased = header 1 100 0 0

abbrev pub written : List ℕ
written = header 1 100 1 1

-- ---- outputs: eight bytes for a number, four for the count of refused calls

abbrev pub room : List ℕ
room = replicate 8 0

-- the offset 1
abbrev pub offset : List ℕ
offset = 1 ∷ replicate 7 0

abbrev pub count : List ℕ
count = replicate 4 0
