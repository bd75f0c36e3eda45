-- Codes that were written are read; codes that are not listed. Assumes nothing.
use Prim.Native.Nat.{ℕ, zero, suc, ◌<◌}
use native.Mathlib.Omega.{arith}
use mathlib.Core.Bool.{Bool, true, false}
use mathlib.Core.Path.{◌≡◌, refl, ap}
use mathlib.Core.List.{List, [], ◌∷◌, map}
use Rattle.spec.specs.Layout.Parts.{metric_of}
use Rattle.spec.specs.declared.DataNodeId.{DataNodeId}
use Rattle.spec.specs.declared.Replica.{Replica}
use Rattle.spec.specs.declared.Metric.TheVariants.{Angular}
use Rattle.map_tables.specs.declared.Rejection.{Rejection}
use Rattle.map_tables.specs.declared.Rejection.TheVariants.{
  Older,
  Exists,
  ZeroSpec,
  PlacementMismatch,
  NotAlive,
  NoCollection,
  KnownIncarnation,
  NotAtIncarnation,
  NoShard,
  OtherEpoch,
  AlreadyHeld,
  RemovesPrimary,
  NotHeld,
  NotInSync,
  ShrinksPrimary,
  AlreadyInSync,
}
use Rattle.map_tables.specs.declared.Outcome.{Outcome}
use Rattle.map_tables.specs.declared.Outcome.TheVariants.{Applied, Rejected}
use Rattle.std.specs.Prelude.{Option}
use Rattle.std.specs.Prelude.{None, Some}
use Rattle.image_parts.specs.Parts.{replica_read, replica_value, id_value}
use Rattle.image_parts.specs.Codes.{id_of, flag_of, flag_code, primary_of, primary_code, primary_node, coded, rejection_of, outcome_of, rejection_coded, outcome_coded}

pub angular : (n : ℕ) → (n ≡ 0 → ⊥) → Angular ≡ metric_of n
angular zero h = absurd (h refl)
angular (suc n) h = refl

pub unlisted : (c a b : ℕ) → (c ≡ 2 → ⊥) → (c ≡ 3 → ⊥) → (c ≡ 4 → ⊥) → (c ≡ 5 → ⊥) → (c ≡ 6 → ⊥) → (c ≡ 7 → ⊥) → (c ≡ 8 → ⊥) → (c ≡ 9 → ⊥) → (c ≡ 10 → ⊥) → (c ≡ 11 → ⊥) → (c ≡ 12 → ⊥) → (c ≡ 13 → ⊥) → (c ≡ 14 → ⊥) → (c ≡ 15 → ⊥) → (c ≡ 16 → ⊥) → Older ≡ rejection_of (coded c a b)
unfolding rejection_of
unlisted zero a b n2 n3 n4 n5 n6 n7 n8 n9 n10 n11 n12 n13 n14 n15 n16 = refl
unlisted (suc zero) a b n2 n3 n4 n5 n6 n7 n8 n9 n10 n11 n12 n13 n14 n15 n16 = refl
unlisted (suc (suc zero)) a b n2 n3 n4 n5 n6 n7 n8 n9 n10 n11 n12 n13 n14 n15 n16 = absurd (n2 refl)
unlisted (suc (suc (suc zero))) a b n2 n3 n4 n5 n6 n7 n8 n9 n10 n11 n12 n13 n14 n15 n16 = absurd (n3 refl)
unlisted (suc (suc (suc (suc zero)))) a b n2 n3 n4 n5 n6 n7 n8 n9 n10 n11 n12 n13 n14 n15 n16 = absurd (n4 refl)
unlisted (suc (suc (suc (suc (suc zero))))) a b n2 n3 n4 n5 n6 n7 n8 n9 n10 n11 n12 n13 n14 n15 n16 = absurd (n5 refl)
unlisted (suc (suc (suc (suc (suc (suc zero)))))) a b n2 n3 n4 n5 n6 n7 n8 n9 n10 n11 n12 n13 n14 n15 n16 = absurd (n6 refl)
unlisted (suc (suc (suc (suc (suc (suc (suc zero))))))) a b n2 n3 n4 n5 n6 n7 n8 n9 n10 n11 n12 n13 n14 n15 n16 = absurd (n7 refl)
unlisted (suc (suc (suc (suc (suc (suc (suc (suc zero)))))))) a b n2 n3 n4 n5 n6 n7 n8 n9 n10 n11 n12 n13 n14 n15 n16 = absurd (n8 refl)
unlisted (suc (suc (suc (suc (suc (suc (suc (suc (suc zero))))))))) a b n2 n3 n4 n5 n6 n7 n8 n9 n10 n11 n12 n13 n14 n15 n16 = absurd (n9 refl)
unlisted (suc (suc (suc (suc (suc (suc (suc (suc (suc (suc zero)))))))))) a b n2 n3 n4 n5 n6 n7 n8 n9 n10 n11 n12 n13 n14 n15 n16 = absurd (n10 refl)
unlisted (suc (suc (suc (suc (suc (suc (suc (suc (suc (suc (suc zero))))))))))) a b n2 n3 n4 n5 n6 n7 n8 n9 n10 n11 n12 n13 n14 n15 n16 = absurd (n11 refl)
unlisted (suc (suc (suc (suc (suc (suc (suc (suc (suc (suc (suc (suc zero)))))))))))) a b n2 n3 n4 n5 n6 n7 n8 n9 n10 n11 n12 n13 n14 n15 n16 = absurd (n12 refl)
unlisted (suc (suc (suc (suc (suc (suc (suc (suc (suc (suc (suc (suc (suc zero))))))))))))) a b n2 n3 n4 n5 n6 n7 n8 n9 n10 n11 n12 n13 n14 n15 n16 = absurd (n13 refl)
unlisted (suc (suc (suc (suc (suc (suc (suc (suc (suc (suc (suc (suc (suc (suc zero)))))))))))))) a b n2 n3 n4 n5 n6 n7 n8 n9 n10 n11 n12 n13 n14 n15 n16 = absurd (n14 refl)
unlisted (suc (suc (suc (suc (suc (suc (suc (suc (suc (suc (suc (suc (suc (suc (suc zero))))))))))))))) a b n2 n3 n4 n5 n6 n7 n8 n9 n10 n11 n12 n13 n14 n15 n16 = absurd (n15 refl)
unlisted (suc (suc (suc (suc (suc (suc (suc (suc (suc (suc (suc (suc (suc (suc (suc (suc zero)))))))))))))))) a b n2 n3 n4 n5 n6 n7 n8 n9 n10 n11 n12 n13 n14 n15 n16 = absurd (n16 refl)
unlisted (suc (suc (suc (suc (suc (suc (suc (suc (suc (suc (suc (suc (suc (suc (suc (suc (suc c))))))))))))))))) a b n2 n3 n4 n5 n6 n7 n8 n9 n10 n11 n12 n13 n14 n15 n16 = refl

-- ---- a code that was written is read

pub flag_back : (b : Bool) → flag_of (flag_code b) ≡ b
flag_back false = refl
flag_back true = refl

pub flag_small : (b : Bool) → flag_code b < 2
flag_small false = omega arith
flag_small true = omega arith

pub primary-back : (p : Option DataNodeId) → primary_of (primary_code p) (primary_node p) ≡ p
primary-back None = refl
primary-back (Some n) = refl

pub primary_small : (p : Option DataNodeId) → primary_code p < 2
primary_small None = omega arith
primary_small (Some n) = omega arith

rejection_back : (r : Rejection) → outcome_of (coded (rejection_coded r).code (rejection_coded r).first (rejection_coded r).second) ≡ Rejected r
unfolding outcome_of rejection_of
rejection_back Older = refl
rejection_back Exists = refl
rejection_back ZeroSpec = refl
rejection_back PlacementMismatch = refl
rejection_back (NotAlive a) = refl
rejection_back NoCollection = refl
rejection_back (KnownIncarnation a b) = refl
rejection_back (NotAtIncarnation a b) = refl
rejection_back NoShard = refl
rejection_back (OtherEpoch a b) = refl
rejection_back (AlreadyHeld a) = refl
rejection_back RemovesPrimary = refl
rejection_back (NotHeld a) = refl
rejection_back (NotInSync a) = refl
rejection_back ShrinksPrimary = refl
rejection_back (AlreadyInSync a) = refl

pub outcome-back : (o : Outcome) → outcome_of (coded (outcome_coded o).code (outcome_coded o).first (outcome_coded o).second) ≡ o
unfolding outcome_of
outcome-back Applied = refl
outcome-back (Rejected r) = rejection_back r

rejection_small : (r : Rejection) → (rejection_coded r).code < 17
rejection_small Older = omega arith
rejection_small Exists = omega arith
rejection_small ZeroSpec = omega arith
rejection_small PlacementMismatch = omega arith
rejection_small (NotAlive a) = omega arith
rejection_small NoCollection = omega arith
rejection_small (KnownIncarnation a b) = omega arith
rejection_small (NotAtIncarnation a b) = omega arith
rejection_small NoShard = omega arith
rejection_small (OtherEpoch a b) = omega arith
rejection_small (AlreadyHeld a) = omega arith
rejection_small RemovesPrimary = omega arith
rejection_small (NotHeld a) = omega arith
rejection_small (NotInSync a) = omega arith
rejection_small ShrinksPrimary = omega arith
rejection_small (AlreadyInSync a) = omega arith

pub outcome_small : (o : Outcome) → (outcome_coded o).code < 17
outcome_small Applied = omega arith
outcome_small (Rejected r) = rejection_small r

-- ---- copies of a shard, and ids, as values and back

pub replicas-back : (l : List Replica) → map replica_read (map replica_value l) ≡ l
replicas-back [] = refl
replicas-back (x ∷ l) = ap (λ (k : List Replica). x ∷ k) (replicas-back l)

pub ids-back : (l : List DataNodeId) → map id_of (map id_value l) ≡ l
ids-back [] = refl
ids-back (x ∷ l) = ap (λ (k : List DataNodeId). x ∷ k) (ids-back l)
