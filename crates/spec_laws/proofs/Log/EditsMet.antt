-- Paper 02, 2.10: the laws of Edits.antt met by the logs of crate spec, Cases/Edits.antt. Assumes nothing.
use Prim.Native.Nat.{ℕ}
use mathlib.Core.Path.{◌≡◌, refl, ap}
use mathlib.Core.List.{List, [], ◌∷◌, ◌++◌}
use native.Mathlib.Omega.{arith}
use lib.Ieee.{Float}
use Rattle.spec.specs.declared.Metric.TheVariants.{Euclidean}
use Rattle.spec.specs.Nearest.Search.{hits}
use Rattle.spec.specs.Log.{Entry, upsert, delete, play, ShardReplica, empty_replica, append}
use Rattle.spec_laws.proofs.Log.Play.{InStep, in_step_empty, in_step_append}
use Rattle.spec_laws.proofs.Log.Edits.{swap_edits, later_counts, logs_differ, swap_appends, later_append, appends_differ}
use Rattle.spec_laws.proofs.Log.EditsSearched.{swap_search}
use Rattle.spec.proofs.Cases.Edits.{one, two, entry, set-five}

abbrev sets-three : Entry
sets-three = entry 2 (upsert 3 (two ∷ []))

abbrev removes_five : Entry
removes_five = entry 3 (delete 5)

pub swapped : play (set-five ++ (sets-three ∷ removes_five ∷ [])) ≡ play (set-five ++ (removes_five ∷ sets-three ∷ []))
swapped = swap_edits set-five sets-three removes_five (λ q. omega arith)

pub searched : (query : List Float) (k : ℕ)
    → hits Euclidean query (play (set-five ++ (sets-three ∷ removes_five ∷ []))) k
    ≡ hits Euclidean query (play (set-five ++ (removes_five ∷ sets-three ∷ []))) k
searched query k = swap_search Euclidean query k set-five sets-three removes_five (λ q. omega arith)

pub differ : set-five ++ (sets-three ∷ removes_five ∷ []) ≡ set-five ++ (removes_five ∷ sets-three ∷ []) → ⊥
differ = logs_differ set-five sets-three removes_five (λ q. let o : ◌≡◌ {A = ℕ} 2 3 = ap (λ (e : Entry). e.offset) q in omega arith)

pub later : play (set-five ++ (entry 2 (upsert 5 (two ∷ [])) ∷ removes_five ∷ [])) ≡ play (set-five ++ (removes_five ∷ []))
later = later_counts set-five (entry 2 (upsert 5 (two ∷ []))) removes_five refl

-- a replica at epoch 1 that has set object 5
abbrev replica : ShardReplica
replica = append (empty_replica 1 Euclidean) (upsert 5 (one ∷ []))

in_step : InStep replica
in_step = in_step_append (empty_replica 1 Euclidean) (upsert 5 (one ∷ [])) (in_step_empty 1 Euclidean)

pub appended_either_way : (append (append replica (upsert 3 (two ∷ []))) (delete 5)).vectors
    ≡ (append (append replica (delete 5)) (upsert 3 (two ∷ []))).vectors
appended_either_way = swap_appends replica (upsert 3 (two ∷ [])) (delete 5) in_step (λ q. omega arith)

pub appended_later : (append (append replica (upsert 5 (two ∷ []))) (delete 5)).vectors ≡ (append replica (delete 5)).vectors
appended_later = later_append replica (upsert 5 (two ∷ [])) (delete 5) in_step refl

pub appended_differ : (append (append replica (delete 3)) (delete 5)).log ≡ (append (append replica (delete 5)) (delete 3)).log → ⊥
appended_differ = appends_differ replica (delete 3) (delete 5) (λ q. let o : ◌≡◌ {A = ℕ} 3 5 = cc in omega arith)
