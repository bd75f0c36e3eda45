-- Paper 02, 2.2: the full answers of a collection's shards join to one search over all of its vectors. Assumes nothing.
use mathlib.Core.Path.{◌≡◌, refl, sym, ap, ◌∙◌, subst}
use mathlib.Core.Bool.{Bool, true, false, cond}
use mathlib.Core.List.Permᴰ
use mathlib.Core.List.{List, [], ◌∷◌, ◌++◌, map, flatten, Permᴰ}
use mathlib.Core.Option.{some}
use Prim.Native.Nat.{ℕ, zero, suc, ◌+◌, ◌≤◌, ◌<◌, min}
use native.Mathlib.Omega.{arith}
use borrow.Author.Tests.{le-leb, lt-ltb}
use lib.Dec.{eqb, ltb, leb}
use lib.Ieee.{Float}
use lib.ListN.{length, take, length-map}
use Rattle.spec.specs.declared.Metric.{Metric}
use Rattle.spec.specs.Lists.{◌and◌, every, rising}
use Rattle.spec.specs.Layout.ShardOf.{shard_of}
use Rattle.spec.specs.Log.{Vectors}
use Rattle.spec.specs.Nearest.Search.{Vector, neighbor}
use Rattle.spec.specs.Nearest.Search as nearest
use Rattle.spec_laws.proofs.Lists.{and_true}
use Rattle.spec_laws.proofs.Map.Rows.{every_cons}
use Rattle.spec_laws.proofs.Rising.{rising_cons}
use Rattle.spec_laws.proofs.Nearest.Search.{hits-length}
use Rattle.spec_join.specs.Join.{Hit, Answer, hit, shard_below, sound_answer, sound, owned, ordered_hits, all_hits, joined, found, join_answers}
use Rattle.spec_join.specs.Collection.{full_answer, full_answers, HoldOwn}
use Rattle.spec_join.proofs.Ordered.{ordered_same, first_behind, first-kept}
use Rattle.spec_join.proofs.Full.{hits_of, found-is, full-sound, full-owned}

module _ (m : Metric) (q : List Float) (k : ℕ) where
  -- ---- not refused
  answers-length : (s : ℕ) (vss : List Vectors) → length (full_answers m q k s vss) ≡ length vss
  unfolding full_answers
  answers-length s [] = refl
  answers-length s (vs ∷ vss) = ap suc (answers-length (suc s) vss)

  answers-rise : (s : ℕ) (vss : List Vectors) → rising shard_below (full_answers m q k s vss) ≡ true
  unfolding full_answers rising
  answers-rise s [] = refl
  answers-rise s (vs ∷ []) = refl
  answers-rise s (vs ∷ ws ∷ vss) =
      and_true (ltb s (suc s)) (rising shard_below (full_answers m q k (suc s) (ws ∷ vss))) (lt-ltb s (suc s) (omega arith)) (answers-rise (suc s) (ws ∷ vss))

  each_sound : (shards s : ℕ) (vss : List Vectors) → HoldOwn shards s vss → every sound_answer (full_answers m q k s vss) ≡ true
  unfolding full_answers every
  each_sound shards s [] h = refl
  each_sound shards s (vs ∷ vss) h =
      every_cons sound_answer (full_answer m q k s vs) (full_answers m q k (suc s) vss) (full-sound m q k s vs h.0) (each_sound shards (suc s) vss h.2)

  answers-sound : (shards : ℕ) (vss : List Vectors) → length vss ≤ 16 → HoldOwn shards 0 vss → sound (full_answers m q k 0 vss) ≡ true
  unfolding sound
  answers-sound shards vss few h =
      let l = answers-length 0 vss in
      and_true (leb (length (full_answers m q k 0 vss)) 16) (rising shard_below (full_answers m q k 0 vss) and every sound_answer (full_answers m q k 0 vss))
      (le-leb (length (full_answers m q k 0 vss)) 16 (omega arith))
      (and_true (rising shard_below (full_answers m q k 0 vss)) (every sound_answer (full_answers m q k 0 vss)) (answers-rise 0 vss) (each_sound shards 0 vss h))

  abbrev own_answer : ℕ → Answer → Bool
  own_answer shards a = every (λ (h : Hit). eqb (shard_of h.id shards) a.shard) a.hits

  answers-owned : (shards s : ℕ) (vss : List Vectors) → HoldOwn shards s vss → owned shards (full_answers m q k s vss) ≡ true
  unfolding owned full_answers every
  answers-owned shards s [] h = refl
  answers-owned shards s (vs ∷ vss) h =
      every_cons (own_answer shards) (full_answer m q k s vs) (full_answers m q k (suc s) vss) (full-owned m q k s vs shards h.1) (answers-owned shards (suc s) vss h.2)

  -- ---- the same hits
  hits-append : (vs ws : Vectors) → hits_of m q (vs ++ ws) ≡ hits_of m q vs ++ hits_of m q ws
  hits-append [] ws = refl
  hits-append (v ∷ vs) ws = ap (λ (l : List Hit). hit (neighbor m q v) ∷ l) (hits-append vs ws)

  -- one shard after the other: each has only its first k counted
  joined-first : (s : ℕ) (vss : List Vectors) → take k (ordered_hits (all_hits (full_answers m q k s vss))) ≡ take k (ordered_hits (hits_of m q (flatten vss)))
  unfolding full_answers all_hits flatten
  joined-first s [] = refl
  joined-first s (vs ∷ vss) =
      let rest = all_hits (full_answers m q k (suc s) vss) in
      first_behind k (map hit (nearest.hits m q vs k)) rest (hits_of m q (flatten vss)) (joined-first (suc s) vss)
      ∙ ap (λ (l : List Hit). take k (ordered_hits (l ++ hits_of m q (flatten vss)))) (found-is m q k vs)
      ∙ sym (first-kept k (hits_of m q vs) (hits_of m q (flatten vss)))
      ∙ ap (λ (l : List Hit). take k (ordered_hits l)) (sym (hits-append vs (flatten vss)))

  joined_is : (s : ℕ) (vss : List Vectors) (all : Vectors) → Permᴰ all (flatten vss)
      → joined k (full_answers m q k s vss) ≡ map hit (nearest.hits m q all k)
  unfolding joined Permᴰ.map
  joined_is s vss all p =
      joined-first s vss
      ∙ ap (take k) (sym (ordered_same (Permᴰ.map hit (Permᴰ.map (neighbor m q) p))))
      ∙ sym (found-is m q k all)

  -- every shard gave its full answer and holds only its own ids: the joined list is one search over all vectors together, in whatever order they
  -- are taken. Neither 28 nor 29 is told.
  pub one_search : (room : ℕ) (vss : List Vectors) (all : Vectors) → length vss ≤ 16 → HoldOwn (length vss) 0 vss
      → Permᴰ all (flatten vss) → min k (length all) ≤ room
      → join_answers (length vss) k room (some (full_answers m q k 0 vss)) ≡ found (map hit (nearest.hits m q all k))
  unfolding join_answers
  one_search room vss all few own p fits =
      let e = joined_is 0 vss all p in
      let l = length-map (nearest.hits m q all k) hit in
      let n = hits-length m q all k in
      rw (answers-sound (length vss) vss few own, answers-owned (length vss) 0 vss own, e, le-leb (length (map hit (nearest.hits m q all k))) room (omega arith))
