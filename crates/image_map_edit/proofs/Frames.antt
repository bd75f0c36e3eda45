-- What an image is read as after a change of one table, and how it is written back. Assumes nothing.
use Prim.Native.Nat.{ℕ, ◌+◌, ◌-◌, ◌*◌, ◌^◌, ◌≤◌, ◌<◌}
use mathlib.Core.Path.{◌≡◌, refl, sym, ap, subst, ◌∙◌}
use mathlib.Core.Bool.{true}
use mathlib.Core.List.{List, map}
use lib.ListN.{length, get_or, length-map}
use lib.Seq.{sets, length-sets}
use native.Mathlib.Omega.{arith}
use Rattle.spec.specs.Lists.{every}
use Rattle.spec.specs.Layout.Format.{number_at, bytes_of}
use Rattle.spec.specs.Map.Apply.{set_nodes, set_collections, set_shards}
use Rattle.spec.specs.Map.Tables as tables
use Rattle.spec_laws.proofs.Wire.Bytes.{length-bytes}
use Rattle.map_tables.specs.Counted.{row_counted, TablesCounted}
use Rattle.map_tables.specs.View.{view_node, view_collection, view_shard, view_session, view_map}
use Rattle.map_tables.specs.declared.ShardMap.{ShardMap}
use Rattle.image_parts.specs.Shape.{items}
use Rattle.image_parts.proofs.Images.{length-items}
use Rattle.image_map_row.specs.Rows.{node_at, collection_at, shard_at, session_at}
use Rattle.image_map.specs.Image.{no_shard, map_at, map_stored, map_written, MapWrites}
use Rattle.image_map.proofs.Image.{written_long}
use Rattle.image_map.proofs.Back.{Fits, becomes}
use Rattle.image_map_put.specs.Few.{Few}
use Rattle.image_map_put.specs.Rows.{node_rows, collection_rows, shard_rows, session_rows, read_as}
use Rattle.image_move.proofs.Bytes.{Same, number_same, items-same}
use Rattle.image_map_put.proofs.Tidy.{rows-used}
use Rattle.image_map_put.proofs.Whole.{node-same, collection-same, shard-same, session-same}
use Rattle.image_map_edit.specs.Becomes.{NodesBecome, CollectionsBecome, ShardsBecome, SessionsBecome}
use Rattle.image_map_edit.specs.Edits.{Within, After, Edits}
use Rattle.image_map_edit.specs.Other.{with_sessions, with_version}
use Rattle.image_move.proofs.Moves.{sets_behind}
use Rattle.image_map_edit.proofs.Table.{counted}
use Rattle.image_map_edit.proofs.Cover.{within_self, within-then, within-nodes, within-collections, within-shards, cover}

-- ---- a table whose bytes are as they were

module _ (s t : List ℕ) (few : Few s) where
  nodes-kept : Same t 8 s 8 8 → Same t 40 s 40 3072 → node_rows t ≡ node_rows s
  nodes-kept e f =
      let k = few.nodes in
      ap (λ (n : ℕ). items n (node_at t) 96 40) (number_same t s 8 8 8 e)
      ∙ items-same t s (number_at 8 s 8) (node_at t) (node_at s) 96 40 40 (node-same t s) (λ i h. f i (omega arith))

  collections-kept : Same t 16 s 16 8 → Same t 3112 s 3112 896 → collection_rows t ≡ collection_rows s
  collections-kept e f =
      let k = few.collections in
      ap (λ (n : ℕ). items n (collection_at t) 56 3112) (number_same t s 8 16 16 e)
      ∙ items-same t s (number_at 8 s 16) (collection_at t) (collection_at s) 56 3112 3112 (collection-same t s) (λ i h. f i (omega arith))

  shards-kept : Same t 24 s 24 8 → Same t 4008 s 4008 17408 → shard_rows t ≡ shard_rows s
  shards-kept e f =
      let k = few.shards in
      ap (λ (n : ℕ). items n (shard_at t) 272 4008) (number_same t s 8 24 24 e)
      ∙ items-same t s (number_at 8 s 24) (shard_at t) (shard_at s) 272 4008 4008 (shard-same t s) (λ i h. f i (omega arith))

  sessions-kept : Same t 32 s 32 8 → Same t 21416 s 21416 5120 → session_rows t ≡ session_rows s
  sessions-kept e f =
      let k = few.sessions in
      ap (λ (n : ℕ). items n (session_at t) 80 21416) (number_same t s 8 32 32 e)
      ∙ items-same t s (number_at 8 s 32) (session_at t) (session_at s) 80 21416 21416 (session-same t s) (λ i h. f i (omega arith))

-- ---- what an image says after a change

module _ (s t : List ℕ) (few : Few s) where
  pub after-sessions : (l : List tables.Session) → length l ≤ 64 → SessionsBecome s t l → After s t (with_sessions (read_as s) l)
  after-sessions l room b =
      let a = b.apart in
      let long = few.long in
      let len = a.long in
      let v : number_at 8 t 0 ≡ number_at 8 s 0 = number_same t s 8 0 0 (λ i h. a.below (0 + i) (omega arith)) in
      let n : node_rows t ≡ node_rows s = nodes-kept s t few (λ i h. a.below (8 + i) (omega arith)) (λ i h. a.between (40 + i) (omega arith) (omega arith)) in
      let c : collection_rows t ≡ collection_rows s = collections-kept s t few (λ i h. a.below (16 + i) (omega arith)) (λ i h. a.between (3112 + i) (omega arith) (omega arith)) in
      let h : shard_rows t ≡ shard_rows s = shards-kept s t few (λ i h. a.below (24 + i) (omega arith)) (λ i h. a.between (4008 + i) (omega arith) (omega arith)) in
      let k : number_at 8 t 32 ≡ length l = sym (length-map (session_rows t) view_session ∙ length-items (number_at 8 t 32) (session_at t) 80 21416) ∙ ap length b.view in
      let kn = number_same t s 8 8 8 (λ i h. a.below (8 + i) (omega arith)) in
      let kc = number_same t s 8 16 16 (λ i h. a.below (16 + i) (omega arith)) in
      let kh = number_same t s 8 24 24 (λ i h. a.below (24 + i) (omega arith)) in
      let fn = few.nodes in
      let fc = few.collections in
      let fh = few.shards in
      record {
        few = record { long = omega arith; nodes = omega arith; collections = omega arith; shards = omega arith; sessions = omega arith };
        view = rw (v, n, c, h, b.view);
        counted = λ e. ap (every row_counted) h ∙ e;
      }

  pub after-shards : (l : List tables.ShardInfo) → length l ≤ 64 → ShardsBecome s t l → After s t (set_shards (read_as s) l)
  after-shards l room b =
      let a = b.apart in
      let long = few.long in
      let len = a.long in
      let v : number_at 8 t 0 ≡ number_at 8 s 0 = number_same t s 8 0 0 (λ i h. a.below (0 + i) (omega arith)) in
      let n : node_rows t ≡ node_rows s = nodes-kept s t few (λ i h. a.below (8 + i) (omega arith)) (λ i h. a.between (40 + i) (omega arith) (omega arith)) in
      let c : collection_rows t ≡ collection_rows s = collections-kept s t few (λ i h. a.below (16 + i) (omega arith)) (λ i h. a.between (3112 + i) (omega arith) (omega arith)) in
      let e : session_rows t ≡ session_rows s = sessions-kept s t few (λ i h. a.between (32 + i) (omega arith) (omega arith)) (λ i h. a.behind (21416 + i) (omega arith)) in
      let k : number_at 8 t 24 ≡ length l = sym (length-map (shard_rows t) view_shard ∙ length-items (number_at 8 t 24) (shard_at t) 272 4008) ∙ ap length b.view in
      let kn = number_same t s 8 8 8 (λ i h. a.below (8 + i) (omega arith)) in
      let kc = number_same t s 8 16 16 (λ i h. a.below (16 + i) (omega arith)) in
      let ke = number_same t s 8 32 32 (λ i h. a.between (32 + i) (omega arith) (omega arith)) in
      let fn = few.nodes in
      let fc = few.collections in
      let fe = few.sessions in
      record {
        few = record { long = omega arith; nodes = omega arith; collections = omega arith; shards = omega arith; sessions = omega arith };
        view = rw (v, n, c, e, b.view);
        counted = b.counted;
      }

  pub after-nodes : (l : List tables.NodeInfo) → length l ≤ 32 → NodesBecome s t l → After s t (set_nodes (read_as s) l)
  after-nodes l room b =
      let a = b.apart in
      let long = few.long in
      let len = a.long in
      let v : number_at 8 t 0 ≡ number_at 8 s 0 = number_same t s 8 0 0 (λ i h. a.below (0 + i) (omega arith)) in
      let c : collection_rows t ≡ collection_rows s = collections-kept s t few (λ i h. a.between (16 + i) (omega arith) (omega arith)) (λ i h. a.behind (3112 + i) (omega arith)) in
      let h : shard_rows t ≡ shard_rows s = shards-kept s t few (λ i h. a.between (24 + i) (omega arith) (omega arith)) (λ i h. a.behind (4008 + i) (omega arith)) in
      let e : session_rows t ≡ session_rows s = sessions-kept s t few (λ i h. a.between (32 + i) (omega arith) (omega arith)) (λ i h. a.behind (21416 + i) (omega arith)) in
      let k : number_at 8 t 8 ≡ length l = sym (length-map (node_rows t) view_node ∙ length-items (number_at 8 t 8) (node_at t) 96 40) ∙ ap length b.view in
      let kc = number_same t s 8 16 16 (λ i h. a.between (16 + i) (omega arith) (omega arith)) in
      let kh = number_same t s 8 24 24 (λ i h. a.between (24 + i) (omega arith) (omega arith)) in
      let ke = number_same t s 8 32 32 (λ i h. a.between (32 + i) (omega arith) (omega arith)) in
      let fc = few.collections in
      let fh = few.shards in
      let fe = few.sessions in
      record {
        few = record { long = omega arith; nodes = omega arith; collections = omega arith; shards = omega arith; sessions = omega arith };
        view = rw (v, c, h, e, b.view);
        counted = λ q. ap (every row_counted) h ∙ q;
      }

  pub after-collections : (l : List tables.Collection) → length l ≤ 16 → CollectionsBecome s t l → After s t (set_collections (read_as s) l (read_as s).shards)
  after-collections l room b =
      let a = b.apart in
      let long = few.long in
      let len = a.long in
      let v : number_at 8 t 0 ≡ number_at 8 s 0 = number_same t s 8 0 0 (λ i h. a.below (0 + i) (omega arith)) in
      let n : node_rows t ≡ node_rows s = nodes-kept s t few (λ i h. a.below (8 + i) (omega arith)) (λ i h. a.between (40 + i) (omega arith) (omega arith)) in
      let h : shard_rows t ≡ shard_rows s = shards-kept s t few (λ i h. a.between (24 + i) (omega arith) (omega arith)) (λ i h. a.behind (4008 + i) (omega arith)) in
      let e : session_rows t ≡ session_rows s = sessions-kept s t few (λ i h. a.between (32 + i) (omega arith) (omega arith)) (λ i h. a.behind (21416 + i) (omega arith)) in
      let k : number_at 8 t 16 ≡ length l = sym (length-map (collection_rows t) view_collection ∙ length-items (number_at 8 t 16) (collection_at t) 56 3112) ∙ ap length b.view in
      let kn = number_same t s 8 8 8 (λ i h. a.below (8 + i) (omega arith)) in
      let kh = number_same t s 8 24 24 (λ i h. a.between (24 + i) (omega arith) (omega arith)) in
      let ke = number_same t s 8 32 32 (λ i h. a.between (32 + i) (omega arith) (omega arith)) in
      let fn = few.nodes in
      let fh = few.shards in
      let fe = few.sessions in
      record {
        few = record { long = omega arith; nodes = omega arith; collections = omega arith; shards = omega arith; sessions = omega arith };
        view = rw (v, n, h, e, b.view);
        counted = λ q. ap (every row_counted) h ∙ q;
      }

  pub after_version : (v : ℕ) → v < 256 ^ 8 → t ≡ sets s 0 (bytes_of 8 v) → After s t (with_version (read_as s) v)
  after_version v small is =
      let l = length-bytes 8 v in
      let long = few.long in
      let len : length t ≡ length s = ap length is ∙ length-sets s 0 (bytes_of 8 v) in
      let past : (p n : ℕ) → 8 ≤ p → Same t p s p n = λ p n q i h. ap (λ (u : List ℕ). get_or u (p + i) 0) is ∙ sets_behind s 0 (bytes_of 8 v) (p + i) (omega arith) in
      let z : number_at 8 t 0 ≡ v = counted s t 0 v is (omega arith) small in
      let n : node_rows t ≡ node_rows s = nodes-kept s t few (past 8 8 (omega arith)) (past 40 3072 (omega arith)) in
      let c : collection_rows t ≡ collection_rows s = collections-kept s t few (past 16 8 (omega arith)) (past 3112 896 (omega arith)) in
      let h : shard_rows t ≡ shard_rows s = shards-kept s t few (past 24 8 (omega arith)) (past 4008 17408 (omega arith)) in
      let e : session_rows t ≡ session_rows s = sessions-kept s t few (past 32 8 (omega arith)) (past 21416 5120 (omega arith)) in
      let kn = number_same t s 8 8 8 (past 8 8 (omega arith)) in
      let kc = number_same t s 8 16 16 (past 16 8 (omega arith)) in
      let kh = number_same t s 8 24 24 (past 24 8 (omega arith)) in
      let ke = number_same t s 8 32 32 (past 32 8 (omega arith)) in
      let fn = few.nodes in
      let fc = few.collections in
      let fh = few.shards in
      let fe = few.sessions in
      record {
        few = record { long = omega arith; nodes = omega arith; collections = omega arith; shards = omega arith; sessions = omega arith };
        view = rw (z, n, c, h, e);
        counted = λ q. ap (every row_counted) h ∙ q;
      }

pub after_then : {s t u : List ℕ} {x y : tables.Map} → After s t x → After t u y → After s u y
after_then a b = record { few = b.few; view = b.view; counted = λ e. b.counted (a.counted e) }

-- ---- what a command makes of one table

pub edits_none : (s : List ℕ) → Few s → Edits s s (read_as s)
edits_none s few = record { after = record { few = few; view = refl; counted = λ e. e }; within = within_self s _ _ _ _ }

module _ (s t : List ℕ) (few : Few s) where
  pub edits_nodes : (l : List tables.NodeInfo) → length l ≤ 32 → NodesBecome s t l → Edits s t (set_nodes (read_as s) l)
  edits_nodes l room b = record { after = after-nodes s t few l room b; within = within-nodes _ _ _ _ room b.apart }

  pub edits_shards : (l : List tables.ShardInfo) → length l ≤ 64 → ShardsBecome s t l → Edits s t (set_shards (read_as s) l)
  edits_shards l room b = record { after = after-shards s t few l room b; within = within-shards _ _ _ _ room b.apart }

-- the collections, then the shards
pub edits_both : (s t u : List ℕ) → Few s → (cs : List tables.Collection) → length cs ≤ 16 → CollectionsBecome s t cs
    → (ss : List tables.ShardInfo) → length ss ≤ 64 → ShardsBecome t u ss → Edits s u (set_collections (read_as s) cs ss)
edits_both s t u few cs room b ss place d =
    let a = after-collections s t few cs room b in
    let e = after-shards t u a.few ss place d in
    record {
      after = record { few = e.few; view = e.view ∙ ap (λ (x : tables.Map). set_shards x ss) a.view; counted = λ q. e.counted (a.counted q) };
      within = within-then (within-collections _ _ _ _ room b.apart) (within-shards _ _ _ _ place d.apart);
    }

-- ---- the map that an image says

pub rows-counted : (s : List ℕ) → Few s → TablesCounted (map_at s) → every row_counted (shard_rows s) ≡ true
unfolding map_at
rows-counted s few c = sym (ap (every row_counted) (rows-used (number_at 8 s 24) (shard_at s) 272 4008 no_shard 64 few.shards)) ∙ c.shards.rows

pub tables_counted : (s : List ℕ) → Few s → every row_counted (shard_rows s) ≡ true → TablesCounted (map_at s)
unfolding map_at
tables_counted s few e = record {
  nodes = few.nodes;
  collections = few.collections;
  shards = record { count = few.shards; rows = ap (every row_counted) (rows-used (number_at 8 s 24) (shard_at s) 272 4008 no_shard 64 few.shards) ∙ e };
  sessions = few.sessions;
}

-- ---- written back: over the image as it was found

pub written_over : (s t u : List ℕ) (m : ShardMap) → Fits (view_map m) → 26536 ≤ length t
    → Within s t (length (view_map m).nodes) (length (view_map m).collections) (length (view_map m).shards) (length (view_map m).sessions)
    → MapWrites t u m → MapWrites s u m
written_over s t u m f long w p =
    let len = w.long in
    let room : 26536 ≤ length s = omega arith in
    let image : u ≡ map_stored s (view_map m) = p.image ∙ sym (written_long t m long) ∙ cover (view_map m) f s t w room in
    record { image = image ∙ written_long s m room; becomes = λ r. becomes s (view_map m) r f u image }
