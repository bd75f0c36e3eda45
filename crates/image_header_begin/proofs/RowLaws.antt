-- A row opened in a header, and the row of a shard that begins. Assumes nothing.
use Prim.Native.Nat.{ℕ, zero, suc, ◌+◌, ◌-◌, ◌*◌, ◌^◌, ◌≤◌, ◌<◌}
use mathlib.Core.Path.{◌≡◌, refl, sym, ap, subst, ◌∙◌}
use mathlib.Core.Bool.{Bool, true, false}
use mathlib.Core.List.{List, [], ◌∷◌, ◌++◌, map}
use lib.Dec.{eqb}
use borrow.Author.Tests.{eqb-true, eqb-false}
use lib.ListN.{length, take, drop}
use lib.Seq.{length-sets}
use native.Mathlib.Omega.{arith}
use native.Mathlib.Nat.{mul-suc}
use Rattle.spec.specs.Keys.{Key, key_below}
use Rattle.spec.specs.Layout.Format.{Bytes, bytes_of, number_at}
use Rattle.spec.specs.Layout.Parts.{metric_code}
use Rattle.spec.specs.declared.Metric.{Metric}
use Rattle.spec.specs.declared.Peer.{Peer}
use Rattle.spec.specs.declared.Role.{Role}
use Rattle.spec.specs.declared.Role.TheVariants.{Backup, Primary}
use Rattle.spec_laws.proofs.Wire.Data.{metric_of_lem, metric_below}
use Rattle.map_tables.specs.declared.ShardKey.{ShardKey}
use Rattle.map_tables.specs.Names.{view_key}
use Rattle.node_header.specs.declared.HeldRow.{HeldRow}
use Rattle.node_header.specs.Grow.{below_key}
use Rattle.node_header.proofs.Lists.{by_case}
use Rattle.image_move.specs.Moved.{Moved}
use Rattle.image_move.proofs.Bytes.{Same, value_same}
use Rattle.image_move.proofs.Moves.{moved_front, moved_past, moved_same}
use Rattle.image_parts.specs.Shape.{Value, u32, u64, word, value, items, Good, Stored}
use Rattle.image_parts.specs.Parts.{key_f, key_value, key_at, key_bytes}
use Rattle.image_parts.proofs.CodeLaws.{flag_back, replicas-back}
use Rattle.image_header_row.specs.Rows.{peer_of, peer_value, role_of, role_value, held_row_f, held_row_of, held_row_value, held_row_at, held_row_bytes}
use Rattle.image_header.proofs.Tidy.{HeldRowFits}
use Rattle.image_header_form.proofs.Bytes.{drop-after, value_past}
use Rattle.image_header_put.proofs.Back.{kept_good, good, kept_past}
use Rattle.image_header_set.specs.Row.{Outside, RowBecomes, aligned_set}
use Rattle.image_header_set.proofs.Parts.{Part, whole, first, second, part-set, take-before, take_short, value_before, drop_past}
use Rattle.image_header_set.proofs.SetLaws.{peer-back, stored_outside, row-then, row_as}
use Rattle.image_header_begin.specs.Begun.{Opened, begun_set}

-- ---- rows read where they stand

pub row_before : (s t : List ℕ) (q : ℕ) → take q t ≡ take q s → (p : ℕ) → p + 1280 ≤ q → held_row_at t p ≡ held_row_at s p
unfolding held_row_at
row_before s t q e p h = ap held_row_of (value_before t s q e held_row_f p h)

pub below_key_lem : (s : List ℕ) (p : ℕ) (k : Key) → below_key k (held_row_at s p) ≡ key_below (view_key (key_at s p)) k
unfolding held_row_at key_at
below_key_lem s p k = refl

-- ---- a row opened

row_same : (s t : List ℕ) (p q : ℕ) → Same s p t q 1280 → held_row_at s p ≡ held_row_at t q
unfolding held_row_at
row_same s t p q e = ap held_row_of (value_same s t held_row_f p q e)

-- the count first, then the rows
pub opened : (s a t : List ℕ) (at count : ℕ) → 10288 ≤ length s → at ≤ count → count < 8 → Stored s a 24 (bytes_of 8 (count + 1)) 8
    → Moved a t (48 + 1280 * at) (48 + 1280 * at + 1280) (8 * (160 * (count - at))) → Opened s t at count
opened s a t at count room le few k d =
    let na : length a ≡ length s = ap length k.image ∙ length-sets s 24 (bytes_of 8 (count + 1)) in
    let front : take 24 a ≡ take 24 s = take-before k in
    let back : drop 32 a ≡ drop 32 s = drop-after k (omega arith) in
    let low : (w p : ℕ) → p + w ≤ 24 → number_at w a p ≡ number_at w s p = λ w p h. value_before a s 24 front (word w) p h in
    let high : (w p : ℕ) → 32 ≤ p → number_at w a p ≡ number_at w s p = λ w p h. value_past (word w) a s p (drop_past a s 32 p h back) in
    let rows : (p : ℕ) → 32 ≤ p → held_row_at a p ≡ held_row_at s p = λ p h. kept_past a s p (drop_past a s 32 p h back) in
    let head : (w p : ℕ) → p + w ≤ 48 → number_at w t p ≡ number_at w a p =
    λ w p h. value_before t a (48 + 1280 * at + 1280) (moved_front d) (word w) p (omega arith) in
    let count-is : value u64 a 24 ≡ count + 1 =
    (let whole_word : Part u64 u64 = whole in part-set whole_word s a 24 (count + 1) (omega arith) (omega arith) k) in
    record {
      long = d.long ∙ na;
      id = head 8 0 (omega arith) ∙ low 8 0 (omega arith);
      incarnation = head 8 8 (omega arith) ∙ low 8 8 (omega arith);
      version = head 8 16 (omega arith) ∙ low 8 16 (omega arith);
      shards = head 8 24 (omega arith) ∙ count-is;
      code = head 4 36 (omega arith) ∙ high 4 36 (omega arith);
      end = head 8 40 (omega arith) ∙ high 8 40 (omega arith);
      below = λ j lt. row_before a t (48 + 1280 * at + 1280) (moved_front d) (48 + 1280 * j) (omega arith) ∙ rows (48 + 1280 * j) (omega arith);
      above = λ j ge lt.
          let p : 48 + 1280 * at + 1280 + 1280 * (j - at) ≡ 48 + 1280 * (j + 1) = omega arith in
          let q : 48 + 1280 * at + 1280 * (j - at) ≡ 48 + 1280 * j = omega arith in
          let same : Same t (48 + 1280 * (j + 1)) a (48 + 1280 * j) 1280 = rw (p, q) at (moved_same d (1280 * (j - at)) 1280 (omega arith)) in
          row_same t a (48 + 1280 * (j + 1)) (48 + 1280 * j) same ∙ rows (48 + 1280 * j) (omega arith);
      past = moved_past d (48 + 1280 * (count + 1)) (omega arith) ∙ drop_past a s 32 (48 + 1280 * (count + 1)) (omega arith) back;
    }

-- ---- the row of a shard that begins

abbrev key_set : HeldRow → ShardKey → HeldRow
key_set x key = record { key = key; slot = x.slot; stored = x.stored; held = x.held }

abbrev pub slot_set : HeldRow → ℕ → HeldRow
slot_set x slot = record { key = x.key; slot = slot; stored = x.stored; held = x.held }

abbrev holders_set : HeldRow → ℕ → HeldRow
holders_set x n = record {
  key = x.key;
  slot = x.slot;
  stored = x.stored;
  held = record {
    epoch = x.held.epoch;
    metric = x.held.metric;
    last = x.held.last;
    role = x.held.role;
    own = x.held.own;
    replicas = x.held.replicas;
    holders = n;
    peers = x.held.peers;
    count = x.held.count;
  };
}

abbrev metric_set : HeldRow → Metric → HeldRow
metric_set x m = record {
  key = x.key;
  slot = x.slot;
  stored = x.stored;
  held = record {
    epoch = x.held.epoch;
    metric = m;
    last = x.held.last;
    role = x.held.role;
    own = x.held.own;
    replicas = x.held.replicas;
    holders = x.held.holders;
    peers = x.held.peers;
    count = x.held.count;
  };
}

module _ (s t : List ℕ) (p : ℕ) (room : p + 1280 ≤ length s) where
  key_set_lem : (key : ShardKey) → Good key_f (key_value key) → Stored s t p (key_bytes key) 44 → RowBecomes s t p (key_set (held_row_at s p) key)
  unfolding held_row_at key_bytes
  key_set_lem key g k =
      let at : Part held_row_f key_f = first (first (first (first whole))) in
      let e : p ≡ p + 0 = omega arith in
      record {
        outside = stored_outside k p 1280 (omega arith) (omega arith) room;
        row = ap held_row_of (part-set at s t p (key_value key) g room (rw e at k));
      }

  pub slot-set : (n : ℕ) → n < 256 ^ 8 → Stored s t (p + 48) (bytes_of 8 n) 8 → RowBecomes s t p (slot_set (held_row_at s p) n)
  unfolding held_row_at
  slot-set n small k =
      let at : Part held_row_f u64 = first (first (second whole)) in
      record {
        outside = stored_outside k p 1280 (omega arith) (omega arith) room;
        row = ap held_row_of (part-set at s t p n small room k);
      }

  holders-set : (n : ℕ) → n < 256 ^ 8 → Stored s t (p + 80) (bytes_of 8 n) 8 → RowBecomes s t p (holders_set (held_row_at s p) n)
  unfolding held_row_at
  holders-set n small k =
      let at : Part held_row_f u64 = second (first (first (first (first (first (first (first (second whole)))))))) in
      record {
        outside = stored_outside k p 1280 (omega arith) (omega arith) room;
        row = ap held_row_of (part-set at s t p n small room k);
      }

  metric_set_lem : (m : Metric) → Stored s t (p + 96) (bytes_of 4 (metric_code m)) 4 → RowBecomes s t p (metric_set (held_row_at s p) m)
  unfolding held_row_at
  metric_set_lem m k =
      let at : Part held_row_f u32 = second (first (first (first (first (first (second whole)))))) in
      let c = metric_below m in
      record {
        outside = stored_outside k p 1280 (omega arith) (omega arith) room;
        row = ap held_row_of (part-set at s t p (metric_code m) (omega arith) room k) ∙ ap (λ (y : Metric). metric_set (held_row_of (value held_row_f s p)) y) (metric_of_lem m);
      }

pub begun-set : (s a b d e t : List ℕ) (p : ℕ) (key : ShardKey) (slot epoch : ℕ) (metric : Metric) → p + 1280 ≤ length s → Good key_f (key_value key)
    → slot < 256 ^ 8 → Stored s a p (key_bytes key) 44 → Stored a b (p + 48) (bytes_of 8 slot) 8 → Stored b d (p + 80) (bytes_of 8 0) 8
    → Stored d e (p + 96) (bytes_of 4 (metric_code metric)) 4 → RowBecomes e t p (aligned_set (held_row_at e p) epoch 0 0)
    → RowBecomes s t p (begun_set (held_row_at s p) key slot epoch metric)
begun-set s a b d e t p key slot epoch metric room g hs ka kb kd ke down =
    let w = key_set_lem s a p room key g ka in
    let la = w.outside.long in
    let x = slot-set a b p (omega arith) slot hs kb in
    let lb = x.outside.long in
    let y = holders-set b d p (omega arith) 0 (omega arith) kd in
    let ld = y.outside.long in
    let z = metric_set_lem d e p (omega arith) metric ke in
    row_as
    (ap (λ (v : HeldRow). aligned_set v epoch 0 0)
    (z.row ∙ ap (λ (v : HeldRow). metric_set v metric) (y.row ∙ ap (λ (v : HeldRow). holders_set v 0) (x.row ∙ ap (λ (v : HeldRow). slot_set v slot) w.row))))
    (row-then w (row-then x (row-then y (row-then z down))))
