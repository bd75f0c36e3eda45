-- Paper 02, 2.1: the fixed parts of the Rust's texts (state.rs), as ASCII bytes. Definitions only.
use Rattle.std.specs.Prelude.{ℕ, List, [], ◌∷◌}

-- 1: 'an older command from this client'
abbrev pub says_older : List ℕ
says_older = 97 ∷ 110 ∷ 32 ∷ 111 ∷ 108 ∷ 100 ∷ 101 ∷ 114 ∷ 32 ∷ 99 ∷ 111 ∷ 109 ∷ 109 ∷ 97 ∷ 110 ∷ 100 ∷ 32 ∷ 102 ∷ 114 ∷ 111 ∷ 109 ∷ 32 ∷ 116 ∷ 104 ∷ 105 ∷ 115 ∷ 32 ∷ 99 ∷ 108 ∷ 105 ∷ 101 ∷ 110 ∷ 116 ∷ []

-- 2, before the name and behind it: 'collection '
abbrev pub says_collection : List ℕ
says_collection = 99 ∷ 111 ∷ 108 ∷ 108 ∷ 101 ∷ 99 ∷ 116 ∷ 105 ∷ 111 ∷ 110 ∷ 32 ∷ []

-- ' exists'
abbrev pub says_exists : List ℕ
says_exists = 32 ∷ 101 ∷ 120 ∷ 105 ∷ 115 ∷ 116 ∷ 115 ∷ []

-- 3: 'shards, replication, and dimension must be positive'
abbrev pub says_zero : List ℕ
says_zero = 115 ∷ 104 ∷ 97 ∷ 114 ∷ 100 ∷ 115 ∷ 44 ∷ 32 ∷ 114 ∷ 101 ∷ 112 ∷ 108 ∷ 105 ∷ 99 ∷ 97 ∷ 116 ∷ 105 ∷ 111 ∷ 110 ∷ 44 ∷ 32 ∷ 97 ∷ 110 ∷ 100 ∷ 32 ∷ 100 ∷ 105 ∷ 109 ∷ 101 ∷ 110 ∷ 115 ∷ 105 ∷ 111 ∷ 110 ∷ 32 ∷ 109 ∷ 117 ∷ 115 ∷ 116 ∷ 32 ∷ 98 ∷ 101 ∷ 32 ∷ 112 ∷ 111 ∷ 115 ∷ 105 ∷ 116 ∷ 105 ∷ 118 ∷ 101 ∷ []

-- 4: 'the placement does not match the collection'
abbrev pub says_mismatch : List ℕ
says_mismatch = 116 ∷ 104 ∷ 101 ∷ 32 ∷ 112 ∷ 108 ∷ 97 ∷ 99 ∷ 101 ∷ 109 ∷ 101 ∷ 110 ∷ 116 ∷ 32 ∷ 100 ∷ 111 ∷ 101 ∷ 115 ∷ 32 ∷ 110 ∷ 111 ∷ 116 ∷ 32 ∷ 109 ∷ 97 ∷ 116 ∷ 99 ∷ 104 ∷ 32 ∷ 116 ∷ 104 ∷ 101 ∷ 32 ∷ 99 ∷ 111 ∷ 108 ∷ 108 ∷ 101 ∷ 99 ∷ 116 ∷ 105 ∷ 111 ∷ 110 ∷ []

-- 5, 7, 8, 11, 13, 14, 16: before the node, and behind it: 'node '
abbrev pub says_node : List ℕ
says_node = 110 ∷ 111 ∷ 100 ∷ 101 ∷ 32 ∷ []

-- ' is not alive'
abbrev pub says_not_alive : List ℕ
says_not_alive = 32 ∷ 105 ∷ 115 ∷ 32 ∷ 110 ∷ 111 ∷ 116 ∷ 32 ∷ 97 ∷ 108 ∷ 105 ∷ 118 ∷ 101 ∷ []

-- ' is already at incarnation '
abbrev pub says_known : List ℕ
says_known = 32 ∷ 105 ∷ 115 ∷ 32 ∷ 97 ∷ 108 ∷ 114 ∷ 101 ∷ 97 ∷ 100 ∷ 121 ∷ 32 ∷ 97 ∷ 116 ∷ 32 ∷ 105 ∷ 110 ∷ 99 ∷ 97 ∷ 114 ∷ 110 ∷ 97 ∷ 116 ∷ 105 ∷ 111 ∷ 110 ∷ 32 ∷ []

-- ' is not at incarnation '
abbrev pub says_not_at : List ℕ
says_not_at = 32 ∷ 105 ∷ 115 ∷ 32 ∷ 110 ∷ 111 ∷ 116 ∷ 32 ∷ 97 ∷ 116 ∷ 32 ∷ 105 ∷ 110 ∷ 99 ∷ 97 ∷ 114 ∷ 110 ∷ 97 ∷ 116 ∷ 105 ∷ 111 ∷ 110 ∷ 32 ∷ []

-- ' already holds the shard'
abbrev pub says_holds : List ℕ
says_holds = 32 ∷ 97 ∷ 108 ∷ 114 ∷ 101 ∷ 97 ∷ 100 ∷ 121 ∷ 32 ∷ 104 ∷ 111 ∷ 108 ∷ 100 ∷ 115 ∷ 32 ∷ 116 ∷ 104 ∷ 101 ∷ 32 ∷ 115 ∷ 104 ∷ 97 ∷ 114 ∷ 100 ∷ []

-- ' does not hold the shard'
abbrev pub says_not_held : List ℕ
says_not_held = 32 ∷ 100 ∷ 111 ∷ 101 ∷ 115 ∷ 32 ∷ 110 ∷ 111 ∷ 116 ∷ 32 ∷ 104 ∷ 111 ∷ 108 ∷ 100 ∷ 32 ∷ 116 ∷ 104 ∷ 101 ∷ 32 ∷ 115 ∷ 104 ∷ 97 ∷ 114 ∷ 100 ∷ []

-- ' is not in sync'
abbrev pub says_not_in_sync : List ℕ
says_not_in_sync = 32 ∷ 105 ∷ 115 ∷ 32 ∷ 110 ∷ 111 ∷ 116 ∷ 32 ∷ 105 ∷ 110 ∷ 32 ∷ 115 ∷ 121 ∷ 110 ∷ 99 ∷ []

-- ' is already in sync'
abbrev pub says_in_sync : List ℕ
says_in_sync = 32 ∷ 105 ∷ 115 ∷ 32 ∷ 97 ∷ 108 ∷ 114 ∷ 101 ∷ 97 ∷ 100 ∷ 121 ∷ 32 ∷ 105 ∷ 110 ∷ 32 ∷ 115 ∷ 121 ∷ 110 ∷ 99 ∷ []

-- 6: 'no collection '
abbrev pub says_no_collection : List ℕ
says_no_collection = 110 ∷ 111 ∷ 32 ∷ 99 ∷ 111 ∷ 108 ∷ 108 ∷ 101 ∷ 99 ∷ 116 ∷ 105 ∷ 111 ∷ 110 ∷ 32 ∷ []

-- 9: 'no shard '
abbrev pub says_no_shard : List ℕ
says_no_shard = 110 ∷ 111 ∷ 32 ∷ 115 ∷ 104 ∷ 97 ∷ 114 ∷ 100 ∷ 32 ∷ []

-- 10, before the key and each epoch: 'shard '
abbrev pub says_shard : List ℕ
says_shard = 115 ∷ 104 ∷ 97 ∷ 114 ∷ 100 ∷ 32 ∷ []

-- ' is at epoch '
abbrev pub says_epoch : List ℕ
says_epoch = 32 ∷ 105 ∷ 115 ∷ 32 ∷ 97 ∷ 116 ∷ 32 ∷ 101 ∷ 112 ∷ 111 ∷ 99 ∷ 104 ∷ 32 ∷ []

-- ', not '
abbrev pub says_not : List ℕ
says_not = 44 ∷ 32 ∷ 110 ∷ 111 ∷ 116 ∷ 32 ∷ []

-- between the parts of a key: '/'
abbrev pub says_slash : List ℕ
says_slash = 47 ∷ []

-- 12: 'the primary cannot be removed'
abbrev pub says_removes : List ℕ
says_removes = 116 ∷ 104 ∷ 101 ∷ 32 ∷ 112 ∷ 114 ∷ 105 ∷ 109 ∷ 97 ∷ 114 ∷ 121 ∷ 32 ∷ 99 ∷ 97 ∷ 110 ∷ 110 ∷ 111 ∷ 116 ∷ 32 ∷ 98 ∷ 101 ∷ 32 ∷ 114 ∷ 101 ∷ 109 ∷ 111 ∷ 118 ∷ 101 ∷ 100 ∷ []

-- 15: 'the primary stays in sync'
abbrev pub says_shrinks : List ℕ
says_shrinks = 116 ∷ 104 ∷ 101 ∷ 32 ∷ 112 ∷ 114 ∷ 105 ∷ 109 ∷ 97 ∷ 114 ∷ 121 ∷ 32 ∷ 115 ∷ 116 ∷ 97 ∷ 121 ∷ 115 ∷ 32 ∷ 105 ∷ 110 ∷ 32 ∷ 115 ∷ 121 ∷ 110 ∷ 99 ∷ []
