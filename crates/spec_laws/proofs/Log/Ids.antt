-- Paper 01, 'The log': the vectors of a replica rise by id. Assumes nothing.
use Prim.Native.Nat.{ℕ, ◌≤◌, ◌<◌}
use mathlib.Core.Path.{◌≡◌, refl, sym, ap, ◌∙◌}
use mathlib.Core.Bool.{Bool, true, false, cond}
use mathlib.Core.List.{List, [], ◌∷◌, ◌++◌}
use native.Mathlib.Omega.{arith}
use lib.Dec.{eqb, ltb}
use borrow.Author.Tests.{ltb-true, ltb-false, lt-ltb}
use Rattle.spec.specs.Lists.{filter, rising, put}
use Rattle.spec.specs.Nearest.Search.{Vector}
use Rattle.spec.specs.Log.{Entry, Log, Op, upsert, delete, Vectors, vector_below, other_id, apply_op, play_from, play}
use Rattle.spec_laws.proofs.Rising.{ByKey, put-rising, filter-rising}

pub by-id : ByKey vector_below
by-id = record {
  through = λ a b c p q. (let h = ltb-true a.id b.id p in let g = ltb-true b.id c.id q in lt-ltb a.id c.id (omega arith));
  level =
      λ a b c p q r.
      (let h = ltb-false a.id b.id p in let g = ltb-false b.id a.id q in let f = ltb-true c.id b.id r in
      lt-ltb c.id a.id (omega arith));
  level' =
      λ a b c p q r.
      (let h = ltb-false a.id b.id p in let g = ltb-false b.id a.id q in let f = ltb-true b.id c.id r in
      lt-ltb a.id c.id (omega arith));
}

pub op-rising : (vs : Vectors) (op : Op) → rising vector_below vs ≡ true → rising vector_below (apply_op vs op) ≡ true
unfolding apply_op
op-rising vs (upsert id xs) h = put-rising vector_below by-id (record { id = id; components = xs }) vs h
op-rising vs (delete id) h = filter-rising vector_below by-id (other_id id) vs h

pub play_rising_from : (vs : Vectors) (l : Log) → rising vector_below vs ≡ true → rising vector_below (play_from vs l) ≡ true
unfolding play_from
play_rising_from vs [] h = h
play_rising_from vs (e ∷ es) h = play_rising_from (apply_op vs e.op) es (op-rising vs e.op h)

pub play-rising : (l : Log) → rising vector_below (play l) ≡ true
unfolding play rising
play-rising l = play_rising_from [] l refl
