-- What is read from bytes fits its types, row by row, in the form in which it is written. Assumes nothing.
use Prim.Native.Nat.{ℕ, zero, suc, ◌+◌, ◌*◌, ◌^◌, ◌≤◌, ◌<◌}
use mathlib.Core.Path.{◌≡◌, refl, sym, ap, subst, ◌∙◌}
use mathlib.Core.Bool.{Bool, true, false}
use mathlib.Core.List.{List, [], ◌∷◌, map}
use lib.Dec.{eqb}
use lib.ListN.{length, take, length-map}
use borrow.Author.Tests.{ne_eqb}
use native.Mathlib.Omega.{arith}
use Rattle.spec.specs.Keys as keys
use Rattle.spec.specs.Layout.Format.{Bytes, All}
use Rattle.spec.specs.Layout.Parts.{metric_of}
use Rattle.spec.specs.declared.DataNodeId.{DataNodeId}
use Rattle.spec.specs.declared.Replica.{Replica}
use Rattle.spec_laws.proofs.Wire.Bytes.{number-below}
use Rattle.spec_laws.proofs.Wire.Data.{metric_below}
use Rattle.map_tables.specs.Names.{view_key}
use Rattle.map_tables.specs.View.{view_node, view_collection, view_primary, view_shard, view_session, rejection_of, outcome_of}
use Rattle.image_parts.specs.Shape.{Shape, Value, byte, word, ◌▸◌, rep, size, items, value, Good, u64}
use Rattle.image_parts.specs.Codes as codes
use Rattle.image_parts.specs.Codes.{id_of, coded, primary_of, primary_node, outcome_coded}
use Rattle.image_parts.specs.Parts.{name_of, address_of, key_of, key_f, key_value, replica_f, replica_read, replica_value, id_value}
use Rattle.image_parts.proofs.Images.{length-items}
use Rattle.image_parts.proofs.CodeLaws.{flag_small, primary_small, outcome_small}
use Rattle.image_parts.proofs.Tidied.{take_within, all-padded, name-fits, address_fits, key_fits, replicas-fit, ids-fit}
use Rattle.image_map_form.specs.Canon.{image_node, image_collection, image_primary, image_shard, image_outcome, key_of_none, key_of_name, rejection_key, outcome_key, image_session}
use Rattle.image_map_row.specs.Rows.{node_f, node_of, collection_f, collection_of, shard_f, shard_row_of, session_f, session_of}
use Rattle.image_map.proofs.Back.{NodeFits, CollectionFits, ShardFits, SessionFits}
use Rattle.map_tables.specs.declared.Rejection.TheVariants.{
  Older,
  Exists,
  ZeroSpec,
  PlacementMismatch,
  NotAlive,
  NoCollection,
  KnownIncarnation,
  NotAtIncarnation,
  NoShard,
  OtherEpoch,
  AlreadyHeld,
  RemovesPrimary,
  NotHeld,
  NotInSync,
  ShrinksPrimary,
  AlreadyInSync,
}
use Rattle.map_tables.specs.declared.Rejection.{Rejection}
use Rattle.map_tables.specs.declared.Outcome.{Outcome}
use Rattle.map_tables.specs.declared.Outcome.TheVariants.{Applied, Rejected}
use Rattle.map_tables.specs.declared.ShardKey.{ShardKey}
use Rattle.image_parts.specs.declared.Coded.{Coded}
use Rattle.image_parts.specs.Canon.{image_key}
use Rattle.image_parts.proofs.Canon.{length-padded}

module _ {A : Type 0} where
  pub items-all : (P : A → Type 0) (n : ℕ) (get : ℕ → A) (w at : ℕ) → ((p : ℕ) → P (get p)) → All P (items n get w at)
  items-all P zero get w at law = tt
  items-all P (suc n) get w at law = (law at, items-all P n get w (at + w) law)

module _ (s : List ℕ) (bytes : Bytes s) where
  pub good : (f : Shape) (at : ℕ) → Good f (value f s at)
  good byte at = bytes at
  good (word k) at = number-below k s at bytes
  good (f ▸ g) at = (good f at, good g (at + size f))
  good (rep n f) at = (length-items n (value f s) (size f) at, items-all (Good f) n (value f s) (size f) at (λ p. good f p))

pub node_of_lem : (v : Value node_f) → Good node_f v → NodeFits (image_node (view_node (node_of v)))
node_of_lem v g = (
  (((g.0.0.0.0, g.0.0.0.1), omega (arith, flag_small (node_of v).alive)), omega arith),
  address_fits (address_of v.1) g.1,
)

pub collection_of_lem : (v : Value collection_f) → Good collection_f v → CollectionFits (image_collection (view_collection (collection_of v)))
collection_of_lem v g = (
  (((name-fits (name_of v.0.0.0.0) g.0.0.0.0, g.0.0.0.1), omega (arith, metric_below (metric_of v.0.0.1))), g.0.1),
  g.1,
)

-- an array of eight, of which at most eight are in use
used_small : {A B : Type 0} (val : A → B) (n : ℕ) (xs : List A) → length (map val xs) ≡ 8 → length (take n xs) < 256 ^ 8
used_small val n xs e = let k : length xs ≡ 8 = sym (length-map xs val) ∙ e in omega (arith, take_within n xs)

primary_of_lem : (code node : ℕ) → node < 256 ^ 8 → primary_node (image_primary (view_primary (primary_of code node))) < 256 ^ 8
primary_of_lem code node h = go (eqb code 0) refl
  where
    go : (b : Bool) → eqb code 0 ≡ b → primary_node (image_primary (view_primary (primary_of code node))) < 256 ^ 8
    go true e = rw e (omega arith)
    go false e = rw e h

replicas-same : (vs : List (Value replica_f)) → map replica_value (map replica_read vs) ≡ vs
replicas-same [] = refl
replicas-same (v ∷ vs) = ap (λ (l : List (Value replica_f)). v ∷ l) (replicas-same vs)

ids-same : (vs : List ℕ) → map id_value (map id_of vs) ≡ vs
ids-same [] = refl
ids-same (v ∷ vs) = ap (λ (l : List ℕ). v ∷ l) (ids-same vs)

pub shard_of_lem : (v : Value shard_f) → Good shard_f v → ShardFits (image_shard (view_shard (shard_row_of v)))
shard_of_lem v g =
    let r = shard_row_of v in
    let hs : Good (rep 8 replica_f) (map replica_value (map replica_read v.0.1)) = subst (Good (rep 8 replica_f)) (sym (replicas-same v.0.1)) g.0.1 in
    let ss : Good (rep 8 u64) (map id_value (map id_of v.1)) = subst (Good (rep 8 u64)) (sym (ids-same v.1)) g.1 in (
      (
        (
          (
            (
              (
                (key_fits (key_of v.0.0.0.0.0.0.0) g.0.0.0.0.0.0.0, omega (arith, primary_small (image_primary (view_primary (primary_of v.0.0.0.0.0.0.1 v.0.0.0.0.0.1))))),
                primary_of_lem v.0.0.0.0.0.0.1 v.0.0.0.0.0.1 g.0.0.0.0.0.1,
              ),
              g.0.0.0.0.1,
            ),
            used_small replica_value v.0.0.0.1 (map replica_read v.0.1) hs.0,
          ),
          used_small id_value v.0.0.1 (map id_of v.1) ss.0,
        ),
        replicas-fit v.0.0.0.1 (map replica_read v.0.1) hs,
      ),
      ids-fit v.0.0.1 (map id_of v.1) ss,
    )

-- the operands of an outcome
abbrev Small : Coded → Type 0
Small c = (c.first < 256 ^ 8) × (c.second < 256 ^ 8)

small_of : (c a b : ℕ) (k : keys.Key) → a < 256 ^ 8 → b < 256 ^ 8 → Small (outcome_coded (image_outcome (outcome_of (codes.outcome_of (coded c a b)) k)))
unfolding codes.outcome_of codes.rejection_of
small_of zero a b k p q = (omega arith, omega arith)
small_of (suc zero) a b k p q = (omega arith, omega arith)
small_of (suc (suc zero)) a b k p q = (omega arith, omega arith)
small_of (suc (suc (suc zero))) a b k p q = (omega arith, omega arith)
small_of (suc (suc (suc (suc zero)))) a b k p q = (omega arith, omega arith)
small_of (suc (suc (suc (suc (suc zero))))) a b k p q = (p, omega arith)
small_of (suc (suc (suc (suc (suc (suc zero)))))) a b k p q = (omega arith, omega arith)
small_of (suc (suc (suc (suc (suc (suc (suc zero))))))) a b k p q = (p, q)
small_of (suc (suc (suc (suc (suc (suc (suc (suc zero)))))))) a b k p q = (p, q)
small_of (suc (suc (suc (suc (suc (suc (suc (suc (suc zero))))))))) a b k p q = (omega arith, omega arith)
small_of (suc (suc (suc (suc (suc (suc (suc (suc (suc (suc zero)))))))))) a b k p q = (p, q)
small_of (suc (suc (suc (suc (suc (suc (suc (suc (suc (suc (suc zero))))))))))) a b k p q = (p, omega arith)
small_of (suc (suc (suc (suc (suc (suc (suc (suc (suc (suc (suc (suc zero)))))))))))) a b k p q = (omega arith, omega arith)
small_of (suc (suc (suc (suc (suc (suc (suc (suc (suc (suc (suc (suc (suc zero))))))))))))) a b k p q = (p, omega arith)
small_of (suc (suc (suc (suc (suc (suc (suc (suc (suc (suc (suc (suc (suc (suc zero)))))))))))))) a b k p q = (p, omega arith)
small_of (suc (suc (suc (suc (suc (suc (suc (suc (suc (suc (suc (suc (suc (suc (suc zero))))))))))))))) a b k p q = (omega arith, omega arith)
small_of (suc (suc (suc (suc (suc (suc (suc (suc (suc (suc (suc (suc (suc (suc (suc (suc zero)))))))))))))))) a b k p q = (p, omega arith)
small_of (suc (suc (suc (suc (suc (suc (suc (suc (suc (suc (suc (suc (suc (suc (suc (suc (suc c))))))))))))))))) a b k p q = rw (ne_eqb (suc (suc (suc (suc (suc (suc (suc (suc (suc (suc (suc (suc (suc (suc (suc (suc (suc c))))))))))))))))) 0 (λ e. omega arith)) (omega arith, omega arith)

-- the key beside it
none-fits : Good key_f (key_value (image_key key_of_none))
none-fits = ((omega arith, (length-padded 32 0 [] (omega arith), all-padded (Good byte) 32 0 (omega arith) [] tt)), omega arith)

module _ (k : ShardKey) (g : Good key_f (key_value k)) where
  named-fits : Good key_f (key_value (image_key (key_of_name (view_key k).collection)))
  named-fits = (name-fits k.collection g.0, omega arith)

  rejection_key_fits : (r : Rejection) → Good key_f (key_value (image_key (rejection_key (rejection_of r (view_key k)))))
  rejection_key_fits Older = none-fits
  rejection_key_fits Exists = named-fits
  rejection_key_fits ZeroSpec = none-fits
  rejection_key_fits PlacementMismatch = none-fits
  rejection_key_fits (NotAlive n) = none-fits
  rejection_key_fits NoCollection = named-fits
  rejection_key_fits (KnownIncarnation n i) = none-fits
  rejection_key_fits (NotAtIncarnation n i) = none-fits
  rejection_key_fits NoShard = key_fits k g
  rejection_key_fits (OtherEpoch own given) = key_fits k g
  rejection_key_fits (AlreadyHeld n) = none-fits
  rejection_key_fits RemovesPrimary = none-fits
  rejection_key_fits (NotHeld n) = none-fits
  rejection_key_fits (NotInSync n) = none-fits
  rejection_key_fits ShrinksPrimary = none-fits
  rejection_key_fits (AlreadyInSync n) = none-fits

  outcome_key_fits : (o : Outcome) → Good key_f (key_value (image_key (outcome_key (outcome_of o (view_key k)))))
  outcome_key_fits Applied = none-fits
  outcome_key_fits (Rejected r) = rejection_key_fits r

pub session_of_lem : (v : Value session_f) → Good session_f v → SessionFits (image_session (view_session (session_of v)))
session_of_lem v g =
    let o = small_of v.0.0.1 v.0.1 v.1 (view_key (session_of v).key) g.0.1 g.1 in (
      (
        (
          ((g.0.0.0.0.0, g.0.0.0.0.1), outcome_key_fits (key_of v.0.0.0.1) g.0.0.0.1 (session_of v).outcome),
          omega (arith, outcome_small (image_outcome (view_session (session_of v)).outcome)),
        ),
        o.0,
      ),
      o.1,
    )
