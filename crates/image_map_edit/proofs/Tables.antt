-- The tables of a map after a change of one. Assumes nothing.
use Prim.Native.Nat.{ℕ, suc, ◌+◌, ◌-◌, ◌*◌, ◌^◌, ◌≤◌, ◌<◌}
use mathlib.Core.Path.{◌≡◌, refl, sym, ap, subst, ◌∙◌}
use mathlib.Core.Bool.{Bool, true, false, not}
use mathlib.Core.List.{List, map}
use lib.Dec.{ltb}
use lib.ListN.{length, get_or, take, set, length-map, length-set}
use lib.Seq.{sets, take_all}
use native.Mathlib.Omega.{arith}
use borrow.Author.Tests.{le-leb, ltb-true, lt-ltb, le-ltb}
use Rattle.spec.specs.Lists.{◌and◌, put, lead, every}
use Rattle.spec.specs.Layout.Format.{number_at, bytes_of}
use Rattle.spec.specs.Map.Apply.{session_below, node_below}
use Rattle.spec.specs.Map.Tables as tables
use Rattle.spec_laws.proofs.Map.Orders.{numbers}
use Rattle.map_tables.specs.Counted.{row_counted, Sized}
use Rattle.map_tables.specs.View.{view_session, view_shard, view_sessions, view_shards}
use Rattle.map_tables.specs.declared.SessionRow.{SessionRow}
use Rattle.map_tables.specs.declared.ShardRow.{ShardRow}
use Rattle.map_tables.proofs.Tables.{map-set, lead-most}
use Rattle.map_tables.proofs.Rows.{set-row}
use Rattle.image_parts.specs.Shape.{Stored, items}
use Rattle.image_parts.proofs.Images.{length-items}
use Rattle.image_map_row.specs.Rows.{shard_at, shard_bytes, session_at, session_bytes}
use Rattle.image_map.specs.Image.{no_shard, no_session, sessions_at}
use Rattle.image_map.proofs.Back.{ShardFits, SessionFits}
use Rattle.image_map_put.specs.Few.{Few}
use Rattle.image_map_put.specs.Rows.{shard_rows, read_as}
use Rattle.image_map_put.proofs.Tidy.{rows-used}
use Rattle.image_map_put.proofs.Whole.{shard-same, session-same}
use Rattle.image_move.specs.Moved.{Moved}
use Rattle.image_map_edit.specs.Becomes.{SessionsBecome, ShardsBecome, Apart}
use Rattle.image_map_edit.proofs.Put.{over, in_long, in_place}
use Rattle.image_map_edit.proofs.Table.{put_over}
use Rattle.image_map_edit.proofs.Types.{shard-back, session-back}

-- ---- whether a place is in use, and not by a row above

module _ (place count : ℕ) (b : Bool) where
  pub level_past : count ≤ place → false ≡ (ltb place count and not b)
  unfolding ◌and◌
  level_past h = rw (le-ltb place count h)

  pub level-is : place < count → (c : Bool) → b ≡ c → not c ≡ (ltb place count and not b)
  unfolding ◌and◌
  level-is h c e = rw (lt-ltb place count h, e)

  pub level-there : (ltb place count and not b) ≡ true → (place < count) × (b ≡ false)
  unfolding ◌and◌
  level-there e = go (ltb place count) b refl refl e
    where
      go : (c d : Bool) → ltb place count ≡ c → b ≡ d → (c and not d) ≡ true → (place < count) × (b ≡ false)
      go true false f g h = (ltb-true place count f, g)
      go true true f g h = absurd (let z : ◌≡◌ {A = ℕ} 0 1 = cc in omega arith)
      go false d f g h = absurd (let z : ◌≡◌ {A = ℕ} 0 1 = cc in omega arith)

  pub level_not : (ltb place count and not b) ≡ false → place < count → b ≡ true
  unfolding ◌and◌
  level_not e h = go b refl (rw (lt-ltb place count h) at e)
    where
      go : (d : Bool) → b ≡ d → not d ≡ false → b ≡ true
      go true g f = g
      go false g f = absurd (let z : ◌≡◌ {A = ℕ} 0 1 = cc in omega arith)

-- ---- sessions

pub session-within : (s : List ℕ) → Few s → (client count at : ℕ) → count ≡ number_at 8 s 32
    → at ≡ lead (λ (y : tables.Session). ltb y.client client) (view_sessions (sessions_at s)) → (at ≤ count) × (count ≤ 64)
session-within s few client count at e f =
    let l : List tables.Session = map view_session (items (number_at 8 s 32) (session_at s) 80 21416) in
    let n : length (read_as s).sessions ≡ number_at 8 s 32 = length-map (items (number_at 8 s 32) (session_at s) 80 21416) view_session ∙ length-items (number_at 8 s 32) (session_at s) 80 21416 in
    let g : at ≡ lead (λ (y : tables.Session). ltb y.client client) (read_as s).sessions = f ∙ ap (λ (r : List SessionRow). lead (λ (y : tables.Session). ltb y.client client) (map view_session r)) (rows-used (number_at 8 s 32) (session_at s) 80 21416 no_session 64 few.sessions) in
    let k = few.sessions in
    let m = lead-most (λ (y : tables.Session). ltb y.client client) (read_as s).sessions in
    (omega arith, omega arith)

module _ (s : List ℕ) (few : Few s) (row : SessionRow) (fits : SessionFits row) (room : length (put session_below (view_session row) (read_as s).sessions) ≤ 64)
    (count at : ℕ) (counts : count ≡ number_at 8 s 32) (found : at ≡ lead (λ (y : tables.Session). ltb y.client row.client) (view_sessions (sessions_at s))) where
  session-found : at ≡ lead (λ (y : tables.Session). ltb y.client row.client) (read_as s).sessions
  session-found = found ∙ ap (λ (l : List SessionRow). lead (λ (y : tables.Session). ltb y.client row.client) (map view_session l)) (rows-used (number_at 8 s 32) (session_at s) 80 21416 no_session 64 few.sessions)

  pub session_over : (t : List ℕ) → at < count → ltb row.client (view_session (session_at s (21416 + 80 * at))).client ≡ false → Stored s t (21416 + 80 * at) (session_bytes row) 80
      → SessionsBecome s t (put session_below (view_session row) (read_as s).sessions)
  session_over t h level put =
      let f = few.sessions in
      let l = few.long in
      let done = over session_at 80 21416 32 no_session (omega arith) session-same view_session session_below s row (λ y. numbers.apart y.client row.client) at session-found
      t (session_bytes row) (omega arith) level put (session-back row fits put (omega arith)) in
      record { apart = done.0; view = done.1 }

  module _ (le : at ≤ count) (above : at < count → ltb row.client (view_session (session_at s (21416 + 80 * at))).client ≡ true) where
    one_more : number_at 8 s 32 + 1 ≤ 64
    one_more =
        let k = in_long session_at 80 21416 32 no_session (omega arith) session-same view_session session_below s row (λ y. numbers.apart y.client row.client) at session-found (omega arith) (λ h. above (omega arith)) in
        omega arith

    pub session-room : count + 1 ≤ 64
    session-room = let k = one_more in omega arith

    pub session_in : (m r t : List ℕ) → Moved s m (21416 + 80 * at) (21416 + 80 * (at + 1)) (8 * (10 * (count - at))) → Stored m r (21416 + 80 * at) (session_bytes row) 80
        → t ≡ sets r 32 (bytes_of 8 (count + 1)) → SessionsBecome s t (put session_below (view_session row) (read_as s).sessions)
    session_in m r t move put e =
        let l = few.long in
        let k = one_more in
        let n = move.long in
        let q : 8 * (10 * (count - at)) ≡ 80 * (number_at 8 s 32 - at) = omega arith in
        let done = in_place session_at 80 21416 32 no_session (omega arith) session-same view_session session_below s row (λ y. numbers.apart y.client row.client) at session-found (omega arith) (λ h. above (omega arith))
        m r t (session_bytes row) (subst (Moved s m (21416 + 80 * at) (21416 + 80 * (at + 1))) q move) put (session-back row fits put (omega arith)) (rw counts at e) (omega arith) (omega arith) in
        record { apart = done.0; view = done.1 }

-- ---- shards

counted-row : (r : ShardRow) → Sized r → row_counted r ≡ true
unfolding ◌and◌
counted-row r z = rw (le-leb _ _ z.held, le-leb _ _ z.synced)

every_set : (l : List ShardRow) (n i : ℕ) (x : ShardRow) → i < n → length l ≡ n → every row_counted l ≡ true → row_counted x ≡ true → every row_counted (set l i x) ≡ true
every_set l n i x h k e f =
    let m = length-set l i x in
    subst (λ (y : List ShardRow). every row_counted y ≡ true) (take_all n (set l i x) (omega arith))
    (set-row row_counted l n i x h (subst (λ (y : List ShardRow). every row_counted y ≡ true) (sym (take_all n l (omega arith))) e) f)

module _ (s : List ℕ) (few : Few s) (row : ShardRow) (fits : ShardFits row) (sized : Sized row) (at : ℕ) (h : at < number_at 8 s 24) where
  pub shard_over : (t : List ℕ) → Stored s t (4008 + 272 * at) (shard_bytes row) 272 → ShardsBecome s t (set (read_as s).shards at (view_shard row))
  shard_over t put =
      let f = few.shards in
      let l = few.long in
      let done = put_over shard_at 272 4008 24 no_shard (omega arith) shard-same s t (number_at 8 s 24) at (shard_bytes row) row h put (shard-back row fits put (omega arith)) refl in
      let n : length (set (read_as s).shards at (view_shard row)) ≡ number_at 8 s 24 = length-set (read_as s).shards at (view_shard row) ∙ length-map (shard_rows s) view_shard ∙ length-items (number_at 8 s 24) (shard_at s) 272 4008 in
      record {
        apart = subst (λ (i : ℕ). Apart s t 24 4008 (4008 + 272 * i)) (sym n) done.0;
        view = ap (map view_shard) done.1 ∙ map-set view_shard (shard_rows s) at row;
        counted = λ e. ap (every row_counted) done.1 ∙ every_set (shard_rows s) (number_at 8 s 24) at row h (length-items (number_at 8 s 24) (shard_at s) 272 4008) e (counted-row row sized);
      }
