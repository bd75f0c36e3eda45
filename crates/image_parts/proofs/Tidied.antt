-- What fits its shape fits it in the canonical form too (specs/Canon.antt). Assumes nothing.
use Prim.Native.Nat.{ℕ, zero, suc, ◌-◌, ◌≤◌}
use mathlib.Core.Path.{◌≡◌, ◌∙◌}
use mathlib.Core.List.{List, [], ◌∷◌, ◌++◌, map}
use lib.ListN.{length, take, replicate, length-map}
use native.Mathlib.Omega.{arith}
use Rattle.spec.specs.Layout.Format.{All}
use Rattle.spec.specs.declared.DataNodeId.{DataNodeId}
use Rattle.spec.specs.declared.Replica.{Replica}
use Rattle.map_tables.specs.Names.{view_name, view_address, view_key}
use Rattle.map_tables.specs.declared.Name.{Name}
use Rattle.map_tables.specs.declared.Address.{Address}
use Rattle.map_tables.specs.declared.ShardKey.{ShardKey}
use Rattle.image_parts.specs.Shape.{Shape, Value, Good, byte, rep, u64}
use Rattle.image_parts.specs.Codes.{id_of}
use Rattle.image_parts.specs.Parts.{name_f, name_value, address_f, address_value, key_f, key_value, replica_f, replica_value, no_replica, id_value}
use Rattle.image_parts.specs.Canon.{padded, image_name, image_address, image_key}
use Rattle.image_parts.proofs.Canon.{length-padded}

pub take_within : {A : Type 0} (n : ℕ) (xs : List A) → length (take n xs) ≤ length xs
take_within zero xs = omega arith
take_within (suc n) [] = omega arith
take_within (suc n) (x ∷ xs) = omega (arith, take_within n xs)

module _ {A : Type 0} (P : A → Type 0) where
  pub all_take : (n : ℕ) (xs : List A) → All P xs → All P (take n xs)
  all_take zero xs p = tt
  all_take (suc n) [] p = tt
  all_take (suc n) (x ∷ xs) p = (p.0, all_take n xs p.1)

  all_append : (xs ys : List A) → All P xs → All P ys → All P (xs ++ ys)
  all_append [] ys p q = q
  all_append (x ∷ xs) ys p q = (p.0, all_append xs ys p.1 q)

  all_same : (n : ℕ) (x : A) → P x → All P (replicate n x)
  all_same zero x p = tt
  all_same (suc n) x p = (p, all_same n x p)

  pub all-padded : (limit : ℕ) (none : A) → P none → (l : List A) → All P l → All P (padded limit none l)
  unfolding padded
  all-padded limit none z l p = all_append l (replicate (limit - length l) none) p (all_same (limit - length l) none z)

module _ {A B : Type 0} (P : B → Type 0) (f : A → B) where
  pub all_map : (xs : List A) → All (λ x. P (f x)) xs → All P (map f xs)
  all_map [] p = tt
  all_map (x ∷ xs) p = (p.0, all_map xs p.1)

  pub all_mapped : (xs : List A) → All P (map f xs) → All (λ x. P (f x)) xs
  all_mapped [] p = tt
  all_mapped (x ∷ xs) p = (p.0, all_mapped xs p.1)

-- the first items of an array that fits, filled up with an item that fits
pub padded-fits : {A : Type 0} (f : Shape) (val : A → Value f) (limit : ℕ) (none : A) → Good f (val none)
    → (n : ℕ) (xs : List A) → Good (rep limit f) (map val xs) → Good (rep limit f) (map val (padded limit none (take n xs)))
padded-fits {A} f val limit none z n xs g =
    let p : A → Type 0 = λ x. Good f (val x) in
    let k : length xs ≡ limit = rw (length-map xs val) at g.0 in (
      length-map (padded limit none (take n xs)) val ∙ length-padded limit none (take n xs) (omega (arith, take_within n xs)),
      all_map (Good f) val (padded limit none (take n xs)) (all-padded p limit none z (take n xs) (all_take p n xs (all_mapped (Good f) val xs g.1))),
    )

pub replicas-fit : (n : ℕ) (rs : List Replica) → Good (rep 8 replica_f) (map replica_value rs) → Good (rep 8 replica_f) (map replica_value (padded 8 no_replica (take n rs)))
replicas-fit = padded-fits replica_f replica_value 8 no_replica (omega arith, omega arith)

pub ids-fit : (n : ℕ) (ns : List DataNodeId) → Good (rep 8 u64) (map id_value ns) → Good (rep 8 u64) (map id_value (padded 8 (id_of 0) (take n ns)))
ids-fit = padded-fits u64 id_value 8 (id_of 0) (omega arith)

bytes_fit : (limit n : ℕ) (bs : List ℕ) → Good (rep limit byte) bs → Good (rep limit byte) (padded limit 0 (take n bs))
bytes_fit limit n bs g =
    let k = g.0 in (
      length-padded limit 0 (take n bs) (omega (arith, take_within n bs)),
      all-padded (Good byte) limit 0 (omega arith) (take n bs) (all_take (Good byte) n bs g.1),
    )

pub name-fits : (n : Name) → Good name_f (name_value n) → Good name_f (name_value (image_name (view_name n)))
name-fits n g = let k = g.1.0 in (omega (arith, take_within n.len n.bytes), bytes_fit 32 n.len n.bytes g.1)

pub address_fits : (a : Address) → Good address_f (address_value a) → Good address_f (address_value (image_address (view_address a)))
address_fits a g = let k = g.1.0 in (omega (arith, take_within a.len a.bytes), bytes_fit 64 a.len a.bytes g.1)

pub key_fits : (k : ShardKey) → Good key_f (key_value k) → Good key_f (key_value (image_key (view_key k)))
key_fits k g = (name-fits k.collection g.0, g.1)
