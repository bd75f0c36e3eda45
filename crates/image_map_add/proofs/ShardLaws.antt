-- The shards of a map after one was put in. Assumes nothing.
use Prim.Native.Nat.{ℕ, suc, ◌+◌, ◌-◌, ◌*◌, ◌^◌, ◌≤◌, ◌<◌}
use mathlib.Core.Path.{◌≡◌, refl, sym, ap, subst, ◌∙◌}
use mathlib.Core.Bool.{Bool, true, false}
use mathlib.Core.List.{List, map}
use lib.ListN.{length, length-map}
use lib.Seq.{sets, take_all}
use native.Mathlib.Omega.{arith}
use Rattle.spec.specs.Keys.{Key, key_below}
use Rattle.spec.specs.Lists.{put, lead, every}
use Rattle.spec.specs.Layout.Format.{number_at, bytes_of}
use Rattle.spec.specs.Map.Create.{shard_below}
use Rattle.spec.specs.Map.Tables as tables
use Rattle.spec_laws.proofs.Map.Orders.{keys}
use Rattle.map_tables.specs.Counted.{row_counted, Sized}
use Rattle.map_tables.specs.Names.{view_key}
use Rattle.map_tables.specs.View.{view_shard, view_shards}
use Rattle.map_tables.specs.declared.ShardKey.{ShardKey}
use Rattle.map_tables.specs.declared.ShardRow.{ShardRow}
use Rattle.map_tables.proofs.Tables.{lead-most}
use Rattle.map_tables.proofs.Rows.{insert-rows}
use Rattle.map_shard.proofs.Change as change
use Rattle.image_parts.specs.Parts.{key_at}
use Rattle.image_parts.specs.Shape.{Stored, items}
use Rattle.image_parts.proofs.Images.{length-items}
use Rattle.image_map_row.specs.Rows.{shard_at, shard_bytes}
use Rattle.image_map.specs.Image.{no_shard, shards_at}
use Rattle.image_map.proofs.Back.{ShardFits}
use Rattle.image_map_put.specs.Few.{Few}
use Rattle.image_map_put.specs.Rows.{shard_rows, read_as}
use Rattle.image_map_put.proofs.Tidy.{rows-used}
use Rattle.image_map_put.proofs.Whole.{shards_long, shard-same}
use Rattle.image_move.specs.Moved.{Moved}
use Rattle.image_map_edit.specs.Becomes.{ShardsBecome}
use Rattle.image_map_edit.proofs.Put.{over, in_long, in_place}
use Rattle.image_map_edit.proofs.Table.{insert_at, put_in}
use Rattle.image_map_edit.proofs.Tables.{shard_over}
use Rattle.image_map_edit.proofs.Types.{shard-back}

-- a key that was compared with that of a row
pub key_above : (s : List ℕ) (at : ℕ) (key k : ShardKey) → k ≡ key_at s at → (b : Bool) → b ≡ key_below (view_key key) (view_key k)
    → key_below (view_key key) (view_shard (shard_at s at)).key ≡ b
unfolding shard_at key_at
key_above s at key k e b f = sym (f ∙ ap (λ (x : ShardKey). key_below (view_key key) (view_key x)) e)

module _ (s : List ℕ) (few : Few s) (key : Key) (at : ℕ) (found : at ≡ lead (λ (y : tables.ShardInfo). key_below y.key key) (view_shards (shards_at s))) where
  found_in_lem : at ≡ lead (λ (y : tables.ShardInfo). key_below y.key key) (read_as s).shards
  found_in_lem = found ∙ ap (λ (r : List ShardRow). lead (λ (y : tables.ShardInfo). key_below y.key key) (map view_shard r)) (rows-used (number_at 8 s 24) (shard_at s) 272 4008 no_shard 64 few.shards)

  pub shard-within : (count : ℕ) → count ≡ number_at 8 s 24 → (at ≤ count) × (count ≤ 64)
  shard-within count e =
      let n = shards_long s few in
      let g = found_in_lem in
      let k = few.shards in
      let m = lead-most (λ (y : tables.ShardInfo). key_below y.key key) (read_as s).shards in
      (omega arith, omega arith)

module _ (s : List ℕ) (few : Few s) (row : ShardRow) (fits : ShardFits row) (sized : Sized row) (room : length (put shard_below (view_shard row) (read_as s).shards) ≤ 64)
    (count at : ℕ) (counts : count ≡ number_at 8 s 24) (found : at ≡ lead (λ (y : tables.ShardInfo). key_below y.key (view_key row.key)) (view_shards (shards_at s))) where
  strict : (y : tables.ShardInfo) → shard_below y (view_shard row) ≡ true → shard_below (view_shard row) y ≡ false
  strict y = keys.apart y.key (view_key row.key)

  here : at ≡ lead (λ (y : tables.ShardInfo). key_below y.key (view_key row.key)) (read_as s).shards
  here = found_in_lem s few (view_key row.key) at found

  pub put_over : (t : List ℕ) → at < count → key_below (view_key row.key) (view_shard (shard_at s (4008 + 272 * at))).key ≡ false → Stored s t (4008 + 272 * at) (shard_bytes row) 272
      → ShardsBecome s t (put shard_below (view_shard row) (read_as s).shards)
  put_over t h level stored =
      let f = few.shards in
      let l = few.long in
      let done = over shard_at 272 4008 24 no_shard (omega arith) shard-same view_shard shard_below s row strict at here
      t (shard_bytes row) (omega arith) level stored (shard-back row fits stored (omega arith)) in
      record { apart = done.0; view = done.1; counted = (shard_over s few row fits sized at (omega arith) t stored).counted }

  module _ (le : at ≤ count) (above : at < count → key_below (view_key row.key) (view_shard (shard_at s (4008 + 272 * at))).key ≡ true) where
    one_more : number_at 8 s 24 + 1 ≤ 64
    one_more =
        let k = in_long shard_at 272 4008 24 no_shard (omega arith) shard-same view_shard shard_below s row strict at here (omega arith) (λ h. above (omega arith)) in
        omega arith

    pub shard-room : count + 1 ≤ 64
    shard-room = let k = one_more in omega arith

    pub shard_in : (m r t : List ℕ) → Moved s m (4008 + 272 * at) (4008 + 272 * (at + 1)) (8 * (34 * (count - at))) → Stored m r (4008 + 272 * at) (shard_bytes row) 272
        → t ≡ sets r 24 (bytes_of 8 (count + 1)) → ShardsBecome s t (put shard_below (view_shard row) (read_as s).shards)
    shard_in m r t move stored e =
        let l = few.long in
        let k = one_more in
        let n = move.long in
        let q : 8 * (34 * (count - at)) ≡ 272 * (number_at 8 s 24 - at) = omega arith in
        let moved = subst (Moved s m (4008 + 272 * at) (4008 + 272 * (at + 1))) q move in
        let back = shard-back row fits stored (omega arith) in
        let done = in_place shard_at 272 4008 24 no_shard (omega arith) shard-same view_shard shard_below s row strict at here (omega arith) (λ h. above (omega arith))
        m r t (shard_bytes row) moved stored back (rw counts at e) (omega arith) (omega arith) in
        let rows = (put_in shard_at 272 4008 24 no_shard (omega arith) shard-same s m r t (number_at 8 s 24) at (shard_bytes row) row (omega arith) moved stored back (rw counts at e) (omega arith) (omega arith)).1 in
        record { apart = done.0; view = done.1; counted = λ h. counted_in t rows h }
      where
        counted_in : (t : List ℕ) → shard_rows t ≡ insert_at (shard_rows s) at row → every row_counted (shard_rows s) ≡ true → every row_counted (shard_rows t) ≡ true
        counted_in t e h =
            let a = length-items (number_at 8 s 24) (shard_at s) 272 4008 in
            let b = length-items (number_at 8 t 24) (shard_at t) 272 4008 in
            let old = take_all (number_at 8 s 24) (shard_rows s) (omega arith) in
            let new = take_all (number_at 8 t 24) (shard_rows t) (omega arith) in
            subst (λ (l : List ShardRow). every row_counted l ≡ true) new
            (insert-rows row_counted (shard_rows s) (shard_rows t) (number_at 8 s 24) (number_at 8 t 24) at row
            (new ∙ e ∙ ap (λ (l : List ShardRow). insert_at l at row) (sym old))
            (subst (λ (l : List ShardRow). every row_counted l ≡ true) (sym old) h) (change.counted row sized))
