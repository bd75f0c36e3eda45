-- The fields of a row that a map sets. Assumes nothing.
use Prim.Native.Nat.{ℕ, ◌+◌, ◌^◌, ◌≤◌, ◌<◌}
use mathlib.Core.Path.{◌≡◌, ap, ◌∙◌}
use mathlib.Core.Bool.{Bool}
use mathlib.Core.List.{List, map}
use lib.ListN.{length}
use native.Mathlib.Omega.{arith}
use Rattle.spec.specs.Layout.Format.{bytes_of}
use Rattle.spec.specs.declared.Epoch.{Epoch}
use Rattle.spec.specs.declared.Offset.{Offset}
use Rattle.spec.specs.declared.Replica.{Replica}
use Rattle.spec.specs.declared.Role.TheVariants.{Primary}
use Rattle.map_tables.specs.declared.Holders.{Holders}
use Rattle.node_header.specs.declared.HeldRow.{HeldRow}
use Rattle.image_parts.specs.Shape.{Good, Stored, rep, u64, value}
use Rattle.image_parts.specs.Parts.{replica_f, replica_value, replicas_bytes}
use Rattle.image_parts.proofs.CodeLaws.{replicas-back}
use Rattle.image_header_row.specs.Rows.{role_f, role_bytes, held_row_f, held_row_of, held_row_at}
use Rattle.image_header_set.specs.Row.{RowBecomes, role_set, own_set, epoch_set}
use Rattle.image_header_set.proofs.Parts.{Part, whole, first, second, part-set}
use Rattle.image_header_set.proofs.SetLaws.{stored_outside, row-then, row_as}
use Rattle.calls_show_row.specs.Set.{holders_set, record_set}

-- the number of replicas, and the replicas
abbrev many_set : HeldRow → ℕ → HeldRow
many_set x n = holders_set x (record { items = x.held.replicas; count = n })

abbrev copies_set : HeldRow → List Replica → HeldRow
copies_set x l = holders_set x (record { items = l; count = x.held.holders })

module _ (s t : List ℕ) (p : ℕ) (room : p + 1280 ≤ length s) where
  many-set : (n : ℕ) → n < 256 ^ 8 → Stored s t (p + 80) (bytes_of 8 n) 8 → RowBecomes s t p (many_set (held_row_at s p) n)
  unfolding held_row_at
  many-set n small k =
      let at : Part held_row_f u64 = second (first (first (first (first (first (first (first (second whole)))))))) in
      record {
        outside = stored_outside k p 1280 (omega arith) (omega arith) room;
        row = ap held_row_of (part-set at s t p n small room k);
      }

  copies-set : (l : List Replica) → Good (rep 8 replica_f) (map replica_value l) → Stored s t (p + 128) (replicas_bytes l) 128 → RowBecomes s t p (copies_set (held_row_at s p) l)
  unfolding held_row_at replicas_bytes
  copies-set l g k =
      let at : Part held_row_f (rep 8 replica_f) = second (first (second whole)) in
      record {
        outside = stored_outside k p 1280 (omega arith) (omega arith) room;
        row = ap held_row_of (part-set at s t p (map replica_value l) g room k) ∙ ap (copies_set (held_row_of (value held_row_f s p))) (replicas-back l);
      }

  epoch-set : (n : ℕ) → n < 256 ^ 8 → Stored s t (p + 64) (bytes_of 8 n) 8 → RowBecomes s t p (epoch_set (held_row_at s p) n)
  unfolding held_row_at
  epoch-set n small k =
      let at : Part held_row_f u64 = second (first (first (first (first (first (first (first (first (first whole))))))))) in
      record {
        outside = stored_outside k p 1280 (omega arith) (omega arith) room;
        row = ap held_row_of (part-set at s t p n small room k);
      }

  primary-set : (e : Epoch) (o : Offset) → e.0 < 256 ^ 8 → o.0 < 256 ^ 8 → Stored s t (p + 108) (role_bytes (Primary e o)) 20
      → RowBecomes s t p (role_set (held_row_at s p) (Primary e o))
  unfolding held_row_at role_bytes
  primary-set e o he ho k =
      let at : Part held_row_f role_f = second (first (first (second whole))) in
      record {
        outside = stored_outside k p 1280 (omega arith) (omega arith) room;
        row = ap held_row_of (part-set at s t p ((1, e.0), o.0) ((omega arith, he), ho) room k);
      }

pub holders-set : (s m t : List ℕ) (p : ℕ) (l : Holders) → p + 1280 ≤ length s → l.count < 256 ^ 8 → Good (rep 8 replica_f) (map replica_value l.items)
    → Stored s m (p + 80) (bytes_of 8 l.count) 8 → Stored m t (p + 128) (replicas_bytes l.items) 128 → RowBecomes s t p (holders_set (held_row_at s p) l)
holders-set s m t p l room small g k j =
    let a = many-set s m p room l.count small k in
    let n = a.outside.long in
    let b = copies-set m t p (omega arith) l.items g j in
    row_as (ap (λ (x : HeldRow). copies_set x l.items) a.row) (row-then a b)

-- the epoch, the role, and whether the node is in its own ack set
pub record_set_lem : (s a b t : List ℕ) (p : ℕ) (e : Epoch) (o : Offset) (own : Bool) → p + 1280 ≤ length s → e.0 < 256 ^ 8 → o.0 < 256 ^ 8
    → o.0 ≡ (held_row_at s p).held.last → Stored s a (p + 64) (bytes_of 8 e.0) 8 → Stored a b (p + 108) (role_bytes (Primary e o)) 20
    → RowBecomes b t p (own_set (held_row_at b p) own) → RowBecomes s t p (record_set (held_row_at s p) e own)
record_set_lem s a b t p e o own room he ho is k j w =
    let x = epoch-set s a p room e.0 he k in
    let n = x.outside.long in
    let y = primary-set a b p (omega arith) e o he ho j in
    row_as
    (ap (λ (z : HeldRow). own_set z own) (y.row ∙ ap (λ (z : HeldRow). role_set z (Primary e o)) x.row)
    ∙ ap (λ (k : ℕ). own_set (role_set (epoch_set (held_row_at s p) e.0) (Primary e (record { 0 = k }))) own) is)
    (row-then x (row-then y w))
