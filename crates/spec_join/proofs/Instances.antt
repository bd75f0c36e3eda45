-- Paper 02, 2.2: the laws met by a collection of three shards, each with two vectors, some of them equally far. Assumes nothing.
use mathlib.Core.Path.{◌≡◌, refl}
use mathlib.Core.Bool.{true, false, not}
use mathlib.Core.List.Permᴰ
use mathlib.Core.List.{List, [], ◌∷◌, ◌++◌, map, flatten, Permᴰ, reverse}
use mathlib.Core.Option.{some}
use native.Mathlib.Omega.{arith}
use Prim.Native.Nat.{ℕ}
use lib.IntN.{pos}
use lib.Ieee.{Float, fin, add, sub, mul, binary32, to_bits}
use Rattle.spec.specs.declared.Metric.TheVariants.{Euclidean}
use Rattle.spec.specs.Lists.{◌and◌, nth, every, any, rising}
use Rattle.spec.specs.Layout.Format.{concat_map, All}
use Rattle.spec.specs.Layout.ShardOf.{shard_of, mixed}
use Rattle.spec.specs.Log.{Vectors}
use Rattle.spec.specs.Nearest.Root.{root_by, root, root_units, sqrt}
use Rattle.spec.specs.Nearest.Order.{before, class}
use Rattle.spec.specs.Nearest.Distance.{sum_from, distance}
use Rattle.spec.specs.Nearest.Search.{Vector, neighbor, nearer, insert, ordered}
use Rattle.spec.specs.Nearest.Search as nearest
use Rattle.spec_join.specs.Join.{Hit, Answer, hit, nearer_hit, in_order, apart, sound, owned, all_hits, joined, found, outOfOrder, otherShard, no_room, join_answers}
use Rattle.spec_join.specs.Collection.{full_answers, HoldOwn}
use Rattle.spec_join.specs.Words.{Sound, Owned}
use Rattle.spec_join.proofs.OneSearch.{one_search}
use Rattle.spec_join.proofs.Decided.{sound_says, owned_says, tells_28, tells_29, tells_23, tells-found, told_28, told_29}
use Rattle.spec_join.specs.Answers.{answers_in}
use Rattle.spec_join.proofs.Disjoint.{disjoint}
use Rattle.spec_join.proofs.Reading.{GoodAnswer, answer_bytes, read_back, one_search_bytes}
use Rattle.spec_join.proofs.Cases.{at, answer, near, mid, far, order_first, wrong_shard}

-- ---- one search
abbrev vector : ℕ → ℕ → Vector
vector i n = record { id = i; components = fin false n (pos 0) ∷ [] }

abbrev shards : List Vectors
shards = (vector 3 1 ∷ vector 7 2 ∷ []) ∷ (vector 2 1 ∷ vector 4 3 ∷ []) ∷ (vector 1 2 ∷ vector 5 3 ∷ []) ∷ []

abbrev query : List Float
query = fin false 0 (pos 0) ∷ []

own : HoldOwn 3 0 shards
unfolding rising every ◌and◌ shard_of mixed
own = ((refl, refl, (refl, refl, (refl, refl, tt))))

-- all vectors, the last first
abbrev all : Vectors
all = vector 5 3 ∷ vector 1 2 ∷ vector 4 3 ∷ vector 2 1 ∷ vector 7 2 ∷ vector 3 1 ∷ []

reversed : Permᴰ all (flatten shards)
unfolding flatten
reversed = Permᴰ.reverse (flatten shards)

pub searched : join_answers 3 4 4 (some (full_answers Euclidean query 4 0 shards)) ≡ found (map hit (nearest.hits Euclidean query all 4))
searched = one_search Euclidean query 4 4 shards all (omega arith) own reversed (omega arith)

-- and what that is
pub searched_is : map hit (nearest.hits Euclidean query all 4) ≡ at 2 near ∷ at 3 near ∷ at 1 mid ∷ at 7 mid ∷ []
unfolding nearest.hits ordered insert nearer neighbor before class distance sum_from sqrt root_units root root_by add sub mul to_bits
searched_is = refl

full_good : All GoodAnswer (full_answers Euclidean query 4 0 shards)
unfolding full_answers nearest.hits ordered insert nearer neighbor before class distance sum_from sqrt root_units root root_by add sub mul to_bits
full_good = (
  (omega arith, (omega arith, omega arith, ((omega arith, omega arith), ((omega arith, omega arith), tt)))),
  (
    (omega arith, (omega arith, omega arith, ((omega arith, omega arith), ((omega arith, omega arith), tt)))),
    ((omega arith, (omega arith, omega arith, ((omega arith, omega arith), ((omega arith, omega arith), tt)))), tt),
  ),
)

pub searched_bytes : join_answers 3 4 4 (answers_in (concat_map answer_bytes (full_answers Euclidean query 4 0 shards)))
    ≡ found (map hit (nearest.hits Euclidean query all 4))
searched_bytes = one_search_bytes Euclidean query 4 4 shards all (omega arith) own reversed (omega arith) full_good

-- ---- 28, 29, and no id in two answers
abbrev answers : List Answer
answers = answer 0 (at 3 near ∷ at 7 mid ∷ []) ∷ answer 1 (at 2 near ∷ at 4 far ∷ []) ∷ []

is-sound : Sound answers
unfolding sound in_order apart nearer_hit every any rising ◌and◌ before class
is-sound = sound_says answers refl

is-owned : Owned 3 answers
unfolding owned every shard_of mixed
is-owned = owned_says 3 answers refl

pub apart-ids : ◌≡◌ {A = ℕ} 3 2 → ⊥
unfolding nth
apart-ids = disjoint 3 answers is-sound is-owned 0 1 (answer 0 (at 3 near ∷ at 7 mid ∷ [])) (answer 1 (at 2 near ∷ at 4 far ∷ [])) (omega arith) refl refl 0 0 (at 3 near) (at 2 near) refl refl

abbrev disordered : List Answer
disordered = answer 0 (at 1 near ∷ []) ∷ answer 1 (at 2 mid ∷ at 4 near ∷ []) ∷ []

pub not_sound : Sound disordered → ⊥
not_sound = told_28 3 9 9 disordered order_first

pub told-again : join_answers 3 9 9 (some disordered) ≡ outOfOrder
told-again = tells_28 3 9 9 disordered not_sound

abbrev strayed : List Answer
strayed = answer 0 (at 3 near ∷ at 1 mid ∷ []) ∷ []

pub not_owned : Sound strayed × (Owned 3 strayed → ⊥)
not_owned = told_29 3 1 0 strayed wrong_shard

pub told-strayed : join_answers 3 1 0 (some strayed) ≡ otherShard
told-strayed = tells_29 3 1 0 strayed not_owned.0 not_owned.1

pub told-short : join_answers 3 9 3 (some answers) ≡ no_room
unfolding all_hits
told-short = tells_23 3 9 3 answers is-sound is-owned (omega arith)

pub told-found : join_answers 3 9 4 (some answers) ≡ found (joined 9 answers)
unfolding all_hits
told-found = tells-found 3 9 4 answers (record { sounds = is-sound; owns = is-owned; fits = omega arith })

-- ---- as bytes: 60 of them
pub read : answers_in (concat_map answer_bytes answers) ≡ some answers
read = read_back answers (
  (omega arith, (omega arith, omega arith, ((omega arith, omega arith), ((omega arith, omega arith), tt)))),
  ((omega arith, (omega arith, omega arith, ((omega arith, omega arith), ((omega arith, omega arith), tt)))), tt),
)
