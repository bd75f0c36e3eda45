-- Paper 02, 2.10: small cases of two edits, computed by the checker from the definitions alone. Assumes nothing; the laws are in
-- crate spec_laws, Log/Edits.antt.
use Prim.Native.Nat.{ℕ, ◌+◌}
use mathlib.Core.Path.{◌≡◌, refl}
use mathlib.Core.List.{List, [], ◌∷◌, ◌++◌}
use lib.Ieee.{Float}
use Rattle.spec.specs.declared.Metric.TheVariants.{Euclidean}
use Rattle.spec.specs.Nearest.Search.{Vector, hits}
use Rattle.spec.specs.Log.{Entry, Log, Op, upsert, delete, play}
use Rattle.spec.specs.Node.Wire.{float_of}
use Rattle.spec.proofs.Opened.{opened}

-- 1.0, 2.0 and 3.0
abbrev pub one : Float
one = float_of 1065353216

abbrev pub two : Float
two = float_of 1073741824

abbrev pub three : Float
three = float_of 1077936128

abbrev pub entry : ℕ → Op → Entry
entry o op = record { epoch = 1; offset = o; op = op }

-- object 5 was set to (1)
abbrev pub set-five : Log
set-five = entry 1 (upsert 5 (one ∷ [])) ∷ []

-- two edits behind a log, the second at the next offset but one
abbrev after : Log → ℕ → Op → Op → Log
after l n x y = l ++ (entry n x ∷ entry (n + 1) y ∷ [])

abbrev vector : ℕ → List Float → Vector
vector id xs = record { id = id; components = xs }

-- ---- Different ids: the same vectors in either order, by rising id

pub empty-log : play (after [] 1 (upsert 5 (one ∷ [])) (upsert 3 (two ∷ []))) ≡ vector 3 (two ∷ []) ∷ vector 5 (one ∷ []) ∷ []
unfolding opened
empty-log = refl

pub empty_log_turned : play (after [] 1 (upsert 3 (two ∷ [])) (upsert 5 (one ∷ []))) ≡ vector 3 (two ∷ []) ∷ vector 5 (one ∷ []) ∷ []
unfolding opened
empty_log_turned = refl

pub absent-deletes : play (after set-five 2 (delete 7) (delete 9)) ≡ vector 5 (one ∷ []) ∷ []
unfolding opened
absent-deletes = refl

pub absent_deletes_turned : play (after set-five 2 (delete 9) (delete 7)) ≡ vector 5 (one ∷ []) ∷ []
unfolding opened
absent_deletes_turned = refl

pub set_and_removed : play (after set-five 2 (upsert 3 (two ∷ [])) (delete 5)) ≡ vector 3 (two ∷ []) ∷ []
unfolding opened
set_and_removed = refl

pub removed_and_set : play (after set-five 2 (delete 5) (upsert 3 (two ∷ []))) ≡ vector 3 (two ∷ []) ∷ []
unfolding opened
removed_and_set = refl

pub nearest_first : hits Euclidean (one ∷ []) (play (after [] 1 (upsert 5 (one ∷ [])) (upsert 3 (two ∷ [])))) 2
    ≡ record { id = 5; distance = float_of 0 } ∷ record { id = 3; distance = one } ∷ []
unfolding opened
nearest_first = refl

pub nearest_first_turned : hits Euclidean (one ∷ []) (play (after [] 1 (upsert 3 (two ∷ [])) (upsert 5 (one ∷ [])))) 2
    ≡ record { id = 5; distance = float_of 0 } ∷ record { id = 3; distance = one } ∷ []
unfolding opened
nearest_first_turned = refl

-- ---- One id: the order counts, and the later edit is what is left

pub then-removed : play (after set-five 2 (upsert 5 (two ∷ [])) (delete 5)) ≡ []
unfolding opened
then-removed = refl

pub then-set : play (after set-five 2 (delete 5) (upsert 5 (two ∷ []))) ≡ vector 5 (two ∷ []) ∷ []
unfolding opened
then-set = refl

-- two Upserts of different lengths
pub then-longer : play (after set-five 2 (upsert 5 (two ∷ [])) (upsert 5 (one ∷ three ∷ []))) ≡ vector 5 (one ∷ three ∷ []) ∷ []
unfolding opened
then-longer = refl

pub then_shorter : play (after set-five 2 (upsert 5 (one ∷ three ∷ [])) (upsert 5 (two ∷ []))) ≡ vector 5 (two ∷ []) ∷ []
unfolding opened
then_shorter = refl
