-- Workers to start, as rows. Assumes nothing.
use Prim.Native.Nat.{ℕ, zero, suc, ◌-◌, ◌≤◌}
use mathlib.Core.Bool.{Bool, true, false}
use mathlib.Core.Path.{◌≡◌, refl, sym, ap, ◌∙◌}
use mathlib.Core.List.{List, [], ◌∷◌}
use native.Mathlib.Omega.{arith}
use native.Mathlib.Nat.{sub-zero}
use lib.Dec.{leb}
use lib.ListN.{length, take}
use lib.Seq.{sets, take_all}
use borrow.Author.Tests.{leb-false}
use Rattle.spec.specs.Layout.Format.{encode}
use Rattle.spec.specs.Layout.Parts.{key_f, key_value}
use Rattle.spec.specs.declared.Metric.TheVariants.{Euclidean}
use Rattle.wire_write.proofs.Writes.{length-key}
use Rattle.map_tables.specs.declared.ShardKey.{ShardKey}
use Rattle.map_tables.specs.Names.{view_key}
use Rattle.node_show.specs.declared.Start.{Start}
use Rattle.image_parts.specs.Shape.{in_use, Stored}
use Rattle.image_parts.proofs.Images.{length-used}

-- ---- a key

take_by : (b : List ℕ) (n : ℕ) (x : Bool) → length b ≡ 32 → leb n 32 ≡ x → take (in_use 32 n - 0) b ≡ take n b
take_by b n true k h = rw (h, sub-zero)
take_by b n false k h = let z = leb-false n 32 h in rw h (take_all 32 b (omega arith) ∙ sym (take_all n b (omega arith)))

take-used : (b : List ℕ) (n c : ℕ) → length b ≡ 32 → c ≡ in_use 32 n → take (c - 0) b ≡ take n b
take-used b n c k e = ap (λ (i : ℕ). take (i - 0) b) e ∙ take_by b n (leb n 32) k refl

pub take_within : (n : ℕ) (b : List ℕ) → length (take n b) ≤ length b
take_within zero b = omega arith
take_within (suc n) [] = omega arith
take_within (suc n) (x ∷ b) = let z = take_within n b in omega arith

-- a name is within its array
pub name-within : (k : ShardKey) (c : ℕ) → length k.collection.bytes ≡ 32 → c ≡ in_use 32 k.collection.len → c ≤ 32
    → length (take k.collection.len k.collection.bytes) ≤ 32
name-within k c l e h = let m = length-used 32 k.collection.len k.collection.bytes l in omega arith

pub key-stored : (k : ShardKey) (c : ℕ) → length k.collection.bytes ≡ 32 → c ≡ in_use 32 k.collection.len → c ≤ 32 → (s t : List ℕ) (at : ℕ)
    → t ≡ sets s at (encode key_f (take (c - 0) k.collection.bytes, k.shard)) → Stored s t at (encode key_f (key_value (view_key k))) 37
key-stored k c l e h s t at p = record {
  image = p ∙ ap (λ (x : List ℕ). sets s at (encode key_f (x, k.shard))) (take-used k.collection.bytes k.collection.len c l e);
  long = length-key (take k.collection.len k.collection.bytes) k.shard (name-within k c l e h);
}

pub byte_stored : (u v : ℕ) {s t : List ℕ} {at : ℕ} → u ≡ v → t ≡ sets s at (u ∷ []) → Stored s t at (v ∷ []) 1
byte_stored u v {s} {t} {at} q e = record { image = e ∙ ap (λ (x : ℕ). sets s at (x ∷ [])) q; long = refl }

-- what no array of workers holds
abbrev pub no_start : Start
no_start = record {
  key = record { collection = record { bytes = []; len = 0 }; shard = 0 };
  epoch = record { 0 = 0 };
  metric = Euclidean;
  peers = record { items = []; count = 0 };
}
