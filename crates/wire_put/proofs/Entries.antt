-- Entries and lists, stored one after another. Assumes nothing.
use Prim.Native.Nat.{ℕ, ◌+◌, ◌%◌, ◌≤◌}
use mathlib.Core.Path.{◌≡◌, refl, sym, ap, ◌∙◌}
use mathlib.Core.Bool.{Bool}
use mathlib.Core.List.{List, ◌∷◌, ◌++◌}
use lib.ListN.{length, set}
use lib.Seq.{sets}
use native.Mathlib.Omega.{arith}
use Rattle.spec.specs.Layout.Format.{Format, Value, many, bytes_of, concat_map, encode}
use Rattle.spec.specs.Layout.Parts.{u64}
use Rattle.wire_put.specs.Fields.{op_bytes, op_size}
use Rattle.wire_put.proofs.Writes.{sets_then, op-size}

-- one value more of any format
pub items-step : (f : Format) (l : List ℕ) (p q : ℕ) (v : Value f) (vs : List (Value f)) → q ≡ p + length (encode f v)
    → sets (sets l p (encode f v)) q (concat_map (encode f) vs) ≡ sets l p (concat_map (encode f) (v ∷ vs))
items-step f l p q v vs e = sets_then l p q (encode f v) (concat_map (encode f) vs) e

module _ (l : List ℕ) (at e o : ℕ) (u : Bool) (id : ℕ) (bits : List ℕ) where
  pub entry-put : sets (sets (sets l at (bytes_of 8 e)) (at + 8) (bytes_of 8 o)) (at + 16) (op_bytes u id bits)
      ≡ sets l at (bytes_of 8 e ++ (bytes_of 8 o ++ op_bytes u id bits))
  entry-put =
      let q : at + 16 ≡ at + 8 + 8 = omega arith in
      sets_then (sets l at (bytes_of 8 e)) (at + 8) (at + 16) (bytes_of 8 o) (op_bytes u id bits) q
      ∙ sets_then l at (at + 8) (bytes_of 8 e) (bytes_of 8 o ++ op_bytes u id bits) refl

-- an entry takes 16 bytes more than its operation
pub entry-size : (e o : ℕ) (u : Bool) (id : ℕ) (bits : List ℕ)
    → length (bytes_of 8 e ++ (bytes_of 8 o ++ op_bytes u id bits)) ≡ 16 + op_size u (length bits)
entry-size e o u id bits = omega (arith, op-size u id bits)

pub list_put : (l : List ℕ) (at : ℕ) (v : List ℕ) → length v ≤ 8
    → sets (set l at (length v)) (at + 1) (concat_map (bytes_of 8) v) ≡ sets l at (encode (many 1 0 8 u64) v)
list_put l at v h =
    let m : length v % 256 ≡ length v = omega arith in
    ap (λ (x : ℕ). sets (set l at x) (at + 1) (concat_map (bytes_of 8) v)) (sym m)
    ∙ sets_then l at (at + 1) (bytes_of 1 (length v)) (concat_map (bytes_of 8) v) refl
