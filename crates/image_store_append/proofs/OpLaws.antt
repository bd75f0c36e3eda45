-- An operation of a message as a store takes it. Assumes nothing.
use Prim.Native.Nat.{ℕ, zero, suc, ◌+◌, ◌*◌, ◌≤◌}
use mathlib.Core.Path.{◌≡◌, refl, sym, ap, ◌∙◌, subst}
use mathlib.Core.Bool.{true}
use mathlib.Core.List.{List, ◌∷◌}
use native.Mathlib.Omega.{arith}
use lib.ListN.{length}
use Rattle.spec.specs.Lists.{every}
use Rattle.spec.specs.Layout.Format.{number_at, value, next, value_n}
use Rattle.spec.specs.Layout.Parts.{u32}
use Rattle.spec.specs.Nearest.Order.{bits_in_domain}
use Rattle.spec.specs.Node.Wire.{op_in_domain, patterns_in_domain, stored_op}
use Rattle.wire_read.specs.declared.Part.{Part}
use Rattle.wire_read.specs.declared.OpPart.{OpPart}
use Rattle.wire_read.specs.declared.OpPart.TheVariants.{Upsert, Delete}
use Rattle.log_domain.specs.Parts.{bits_in, op_in, VectorThere, OpThere}
use Rattle.image_store.specs.Image.{words}
use Rattle.image_store.proofs.Words.{words-length}
use Rattle.image_store_append.specs.Put.{Grown, upsert_at, delete_at, entry_by, Vector}

words_are : (m : List ℕ) (n at : ℕ) → value_n (value u32 m) (next u32 m) n at ≡ words 4 n m at
unfolding words
words_are m zero at = refl
words_are m (suc n) at = ap (λ (l : List ℕ). number_at 4 m at ∷ l) (words_are m n (at + 4))

-- the patterns of a vector, where they stand
bits_are : (m : List ℕ) (v : Part) → bits_in m v ≡ words 4 v.len m v.at
unfolding bits_in
bits_are m v = words_are m v.len v.at

module _ (m : List ℕ) (o : OpPart) (there : OpThere m o) (inside : op_in_domain (op_in m o) ≡ true) where
  -- o is an Upsert
  module _ (id : ℕ) (v : Part) (e : o ≡ Upsert id v) where
    pub vector-there : VectorThere m v
    vector-there = subst (OpThere m) e there

    pub ends_inside : v.at + 4 * v.len ≤ length m
    ends_inside = omega (arith, vector-there.2)

    pub vector-is : Vector (words 4 v.len m v.at)
    unfolding patterns_in_domain
    vector-is =
        let t = vector-there in
        let l = words-length 4 v.len m v.at in
        record {
          some = omega (arith, t.0);
          short = omega (arith, t.1);
          domain = ap (every bits_in_domain) (sym (bits_are m v)) ∙ sym (ap (λ (x : OpPart). op_in_domain (op_in m x)) e) ∙ inside;
        }

  pub upsert_grown : (id : ℕ) (v : Part) → o ≡ Upsert id v → (s t : List ℕ) (base count epoch r : ℕ)
      → Grown s t base count (upsert_at epoch count id (words 4 v.len m v.at)) r → Grown s t base count (entry_by epoch count m o) r
  unfolding stored_op
  upsert_grown id v e s t base count epoch r g =
      subst (λ (x : OpPart). Grown s t base count (entry_by epoch count m x) r) (sym e)
      (subst (λ (bits : List ℕ). Grown s t base count (upsert_at epoch count id bits) r) (sym (bits_are m v)) g)

  pub delete_grown : (id : ℕ) → o ≡ Delete id → (s t : List ℕ) (base count epoch r : ℕ)
      → Grown s t base count (delete_at epoch count id) r → Grown s t base count (entry_by epoch count m o) r
  unfolding stored_op
  delete_grown id e s t base count epoch r g = subst (λ (x : OpPart). Grown s t base count (entry_by epoch count m x) r) (sym e) g
