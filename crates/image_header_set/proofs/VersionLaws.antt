-- The version of a header stored where it stands, and the header written back then. Assumes nothing.
use Prim.Native.Nat.{ℕ, ◌+◌, ◌^◌, ◌≤◌, ◌<◌}
use mathlib.Core.Path.{◌≡◌, refl, sym, ap, ◌∙◌}
use mathlib.Core.List.{List, ◌++◌}
use lib.ListN.{length, take, drop}
use lib.Seq.{length-sets}
use native.Mathlib.Omega.{arith}
use Rattle.spec.specs.Layout.Format.{Bytes, bytes_of, number_at}
use Rattle.node_header.specs.declared.HeldRow.{HeldRow}
use Rattle.image_parts.specs.Shape.{word, u64, items, rows_at, Stored}
use Rattle.image_header_row.specs.Rows.{held_row_at}
use Rattle.image_header.specs.Image.{node_at, shards_bytes, header_put}
use Rattle.image_header.specs.Becomes.{HeaderWrites}
use Rattle.image_header.proofs.Image.{written_long}
use Rattle.image_header.proofs.Becomes.{writes_long}
use Rattle.image_header_check.specs.Rows.{Counts}
use Rattle.image_header_form.proofs.Bytes.{value_past, drop-after}
use Rattle.image_header_put.proofs.Back.{items_past, in_use_lem, kept_past}
use Rattle.image_header_set.specs.Version.{version_set}
use Rattle.image_header_set.proofs.Parts.{whole, take-before, value_before, drop_past, part-set}
use Rattle.image_header_set.proofs.SetLaws.{writes-same, node-fits, rows_written, put_over}

module _ (s m : List ℕ) (count version : ℕ) (counts : Counts s count) (small : version < 256 ^ 8) (k : Stored s m 16 (bytes_of 8 version) 8) where
  room : 10288 ≤ length s
  room = counts.0

  long : length m ≡ length s
  long = ap length k.image ∙ length-sets s 16 (bytes_of 8 version)

  past : drop 24 m ≡ drop 24 s
  past = let r = room in drop-after k (omega arith)

  front : (p : ℕ) → p + 8 ≤ 16 → number_at 8 m p ≡ number_at 8 s p
  front p h = value_before m s 16 (take-before k) (word 8) p h

  back : (w p : ℕ) → 24 ≤ p → number_at w m p ≡ number_at w s p
  back w p h = value_past (word w) m s p (drop_past m s 24 p h past)

  there : number_at 8 m 16 ≡ version
  there = let r = room in part-set {f = u64} {h = u64} whole s m 16 version small (omega arith) k

  pub version_counts : Counts m count
  version_counts = let r = room in let l = long in (omega arith, counts.1, back 8 24 (omega arith) ∙ counts.2)

  rows_same : (n : ℕ) → items n (held_row_at m) 1280 48 ≡ items n (held_row_at s) 1280 48
  rows_same n = items_past n (held_row_at m) (held_row_at s) 1280 48 m s (λ p q. kept_past m s p q) (drop_past m s 24 48 (omega arith) past)

  node-is : node_at m ≡ version_set (node_at s) version
  unfolding node_at rows_at
  node-is =
      let u = in_use_lem s count counts in
      rw (front 0 (omega arith), front 8 (omega arith), back 4 36 (omega arith), back 8 40 (omega arith), there, back 8 24 (omega arith), u) (rw (rows_same count))

  pub version_back : Bytes m → (t : List ℕ) → HeaderWrites m t (node_at m) → HeaderWrites s t (version_set (node_at s) version)
  version_back bytes t w =
      let r = room in
      let l = long in
      let few = counts.1 in
      let written = rows_written m bytes count version_counts in
      let put : t ≡ header_put s (node_at m) =
      w.image ∙ sym (written_long m (node_at m) (omega arith))
      ∙ put_over s m (node_at m) l (omega arith) (drop_past m s 24 (48 + length (shards_bytes (node_at m))) (omega arith) past) in
      writes-same node-is (writes_long s (node_at m) t room (node-fits m bytes count version_counts) put)
