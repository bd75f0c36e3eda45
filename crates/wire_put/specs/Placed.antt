-- The placement of 10 as a writer is handed it: columns, in which list i has its count of nodes, and its nodes from 8 * i on.
use Rattle.std.specs.Prelude.{ℕ, zero, suc, ◌+◌, ◌*◌, Bool, true, List, [], ◌∷◌, ◌++◌, length, get_or, take, drop, leb}
use Rattle.spec.specs.Lists.{◌and◌}
use Rattle.spec.specs.Layout.Format.{many, bytes_of, concat_map, encode}
use Rattle.spec.specs.Layout.Parts.{u64, name_f, metric_code}
use Rattle.spec.specs.Layout.Request.{Command, create}
use Rattle.spec.specs.declared.Metric.{Metric}

-- n lists that the layout carries, from the i-th on
abbrev pub lists_fit : (counts : List ℕ) (n i : ℕ) → Bool
lists_fit cs zero i = true
lists_fit cs (suc n) i = leb (get_or cs i 0) 8 and lists_fit cs n (i + 1)

-- the bytes that n lists take, from the i-th on
abbrev pub lists_size : (counts : List ℕ) (n i : ℕ) → ℕ
lists_size cs zero i = 0
lists_size cs (suc n) i = 1 + 8 * get_or cs i 0 + lists_size cs n (i + 1)

-- both columns have n lists, the nodes 8 for each
abbrev pub lists_long : (counts nodes : List ℕ) (n : ℕ) → Bool
lists_long cs ns n = leb n (length cs) and leb (8 * n) (length ns)

module _ (cs ns : List ℕ) where
  -- n lists from the i-th on
  abbrev pub lists_given : (n i : ℕ) → List (List ℕ)
  lists_given zero i = []
  lists_given (suc n) i = take (get_or cs i 0) (drop (8 * i) ns) ∷ lists_given n (i + 1)

  abbrev pub lists_bytes : (n i : ℕ) → List ℕ
  lists_bytes n i = concat_map (encode (many 1 0 8 u64)) (lists_given n i)

  -- 10
  abbrev pub create_given : (name : List ℕ) (dimension : ℕ) → Metric → (shards replication n : ℕ) → Command
  create_given name dimension metric shards replication n =
      create name (record { dimension = dimension; metric = metric; shards = shards; replication = replication }) (lists_given n 0)

-- the operands of 10 before the lists
abbrev pub create_head : (name : List ℕ) (dimension : ℕ) → Metric → (shards replication n : ℕ) → List ℕ
create_head name dimension metric shards replication n =
    encode name_f name ++ (bytes_of 4 dimension ++ (metric_code metric ∷ (bytes_of 4 shards ++ (bytes_of 4 replication ++ (n ∷ [])))))
