-- What the parts of a Search in the lent bytes promise (paper 01, 'Who is turned down', Search). Definitions only.
use Rattle.std.specs.Prelude.{ℕ, ◌≤◌, min, ◌≡◌, true, false, cond, List, map, ltb, Float, length, take}
use Rattle.spec.specs.Keys.{Key}
use Rattle.spec.specs.Limits.{max_entries}
use Rattle.spec.specs.Nearest.Search.{hits}
use Rattle.spec.specs.declared.Neighbor.{Neighbor}
use Rattle.log_store.specs.Table.{vectors_of}
use Rattle.log_select.specs.declared.select.Hits.{Hits}
use Rattle.log_select.specs.Written.{id_of, distance_of}
use Rattle.node_header.specs.declared.HeldRow.{HeldRow}
use Rattle.node_header.specs.declared.Node.{Node}
use Rattle.image_header.specs.Image.{node_at}
use Rattle.node_lent.specs.Lend.{LentStore}
use Rattle.image_store.specs.Image.{log_at, rows_at}
use Rattle.image_node.specs.Lent.{begin_of, lent_store_in, lends_state}
use Rattle.node_search.specs.declared.SearchAnswer.{SearchAnswer}
use Rattle.node_search.specs.Searches.{Output, output, SearchesNamed}
use Rattle.calls_client_out.specs.Found.{SearchEnded, ended, hits_lent, fresh_hits, found_in, search_ended}

-- the first min(k, 1,024) of a held shard's vectors, from the bytes of the stores
pub record NearestHeld (s : List ℕ) (x : HeldRow) (query : List Float) (k : ℕ) (h : Hits) : Type 0 where
  pub long : length h.items ≡ 1025
  pub most : h.count ≤ max_entries
  pub first : take h.count h.items
      ≡ hits x.held.metric query (vectors_of (log_at s (begin_of x) x.held.last) (rows_at s (begin_of x) x.stored)) (min k max_entries)

-- the first n of some neighbours in the two outputs: 23 without room for them, or for their count
unfoldable pub hits_ended : (hits answer : List ℕ) → List Neighbor → ℕ → SearchEnded
hits_ended o a items n = cond (ltb (hits_lent o) n) (ended 23 o a) (found_in o a (output (map id_of items) (map distance_of items)) n)

-- past 24, at the shard of a key: some columns and answer that the definition leaves on this state, and what the caller gets of them
pub record NamedServed (n : Node) (a : LentStore) (key : Key) (clock epoch k : ℕ) (q : List Float) (hits answer : List ℕ) (e : SearchEnded) : Type 0 where
  pub left : Output
  pub told : SearchAnswer
  pub call : SearchesNamed n a key clock epoch k q (fresh_hits (hits_lent hits)) left told
  pub is : e ≡ search_ended hits answer left told

-- 24 where the images lend no state
pub record SearchesKey (h s : List ℕ) (key : Key) (clock epoch k : ℕ) (q : List Float) (hits answer : List ℕ) (e : SearchEnded) : Type 0 where
  pub unlent : lends_state h s key ≡ false → e ≡ ended 24 hits answer
  pub lent : lends_state h s key ≡ true → NamedServed (node_at h) (lent_store_in s (node_at h) key) key clock epoch k q hits answer e
