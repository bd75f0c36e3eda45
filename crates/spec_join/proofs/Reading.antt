-- Answers within the format's limits, written one after the other, are read back. Assumes nothing.
use Prim.Native.Nat.{ℕ, zero, suc, ◌+◌, ◌≤◌, ◌<◌, min}
use mathlib.Core.Path.{◌≡◌, refl, sym, ap, ◌∙◌, subst}
use mathlib.Core.Bool.{Bool, true, false, cond}
use mathlib.Core.List.{List, [], ◌∷◌, ◌++◌, map, flatten, Permᴰ}
use mathlib.Core.Option.{Option, none, some}
use native.Mathlib.Omega.{arith}
use borrow.Author.Tests.{eq-eqb, ne_eqb}
use lib.Dec.{eqb}
use lib.ListN.{length, drop, length-drop, length-append}
use lib.Ieee.{Float}
use Rattle.spec.specs.declared.Metric.{Metric}
use Rattle.spec.specs.Log.{Vectors}
use Rattle.spec.specs.Nearest.Search as nearest
use Rattle.spec.specs.Lists.{◌and◌}
use Rattle.spec.specs.Layout.Format.{encode, fits, next, value, concat_map, Good, All}
use Rattle.spec.specs.Layout.Format as format
use Rattle.spec_laws.proofs.Wire.Formats.{wrote}
use Rattle.spec_laws.proofs.Wire.Bytes.{cut-append, room}
use Rattle.spec_join.specs.Join.{Hit, Answer, hit, found, join_answers}
use Rattle.spec_join.specs.Answers.{hit_of, wire_hit, answer_f, answer_of, wire_answer, and_then, answers_from, answers_in}
use Rattle.spec_join.specs.Collection.{full_answers, HoldOwn}
use Rattle.spec_join.proofs.OneSearch.{one_search}

-- a shard below 2^32, at most 1,024 hits, ids below 2^64 and patterns below 2^32
abbrev pub GoodAnswer : Answer → Type 0
GoodAnswer a = Good answer_f (wire_answer a)

abbrev pub answer_bytes : Answer → List ℕ
answer_bytes a = encode answer_f (wire_answer a)

-- the format's own numbers leave no doubt
no_doubt : format.sound answer_f ≡ true
unfolding ◌and◌
no_doubt = refl

same-hits : (l : List Hit) → map hit_of (map wire_hit l) ≡ l
same-hits [] = refl
same-hits (h ∷ l) = ap (λ (m : List Hit). h ∷ m) (same-hits l)

same_answer : (a : Answer) → answer_of (wire_answer a) ≡ a
same_answer a = ap (λ (l : List Hit). record { shard = a.shard; hits = l }) (same-hits a.hits)

one-read : (b c : Bool) (a : Answer) (o : Option (List Answer)) → b ≡ false → c ≡ true → cond b (some []) (cond c (and_then a o) none) ≡ and_then a o
one-read b c a o p q = rw (p, q)

module _ (s : List ℕ) where
  from-read : (xs : List Answer) (at most : ℕ) → length xs ≤ most → All GoodAnswer xs → at ≤ length s → drop at s ≡ concat_map answer_bytes xs
      → answers_from most s at ≡ some xs
  unfolding answers_from
  from-read [] at most h g l e = at-end at most (let k = ap (λ (b : List ℕ). length b) e in let d = length-drop at s in omega arith)
    where
      at-end : (at most : ℕ) → at ≡ length s → answers_from most s at ≡ some []
      at-end at zero q = rw (eq-eqb at (length s) q)
      at-end at (suc most) q = rw (eq-eqb at (length s) q)
  from-read (x ∷ xs) at zero h g l e = absurd (omega arith)
  from-read (x ∷ xs) at (suc most) h g l e =
      let w = wrote s answer_f no_doubt (wire_answer x) at (concat_map answer_bytes xs) g.0 l e in
      let r = room s at (answer_bytes x) (concat_map answer_bytes xs) l e in
      let d = ne_eqb at (length s) (λ q. omega arith) in
      let rest = from-read xs (at + length (answer_bytes x)) most (omega arith) g.1 r (cut-append s at (answer_bytes x) (concat_map answer_bytes xs) e) in
      one-read (eqb at (length s)) (fits answer_f s at) (answer_of (value answer_f s at)) (answers_from most s (next answer_f s at)) d w.ok
      ∙ ap (λ (a : Answer). and_then a (answers_from most s (next answer_f s at))) (ap answer_of w.same ∙ same_answer x)
      ∙ ap (and_then x) (ap (answers_from most s) w.after ∙ rest)

few_bytes : (xs : List Answer) → length xs ≤ length (concat_map answer_bytes xs)
few_bytes [] = omega arith
few_bytes (x ∷ xs) = let k = few_bytes xs in let l = length-append (answer_bytes x) (concat_map answer_bytes xs) in omega arith

pub read_back : (xs : List Answer) → All GoodAnswer xs → answers_in (concat_map answer_bytes xs) ≡ some xs
unfolding answers_in
read_back xs g = from-read (concat_map answer_bytes xs) xs 0 (length (concat_map answer_bytes xs)) (few_bytes xs) g (omega arith) refl

-- one search, of the answers' bytes
pub one_search_bytes : (m : Metric) (q : List Float) (k room : ℕ) (vss : List Vectors) (all : Vectors) → length vss ≤ 16 → HoldOwn (length vss) 0 vss
    → Permᴰ all (flatten vss) → min k (length all) ≤ room → All GoodAnswer (full_answers m q k 0 vss)
    → join_answers (length vss) k room (answers_in (concat_map answer_bytes (full_answers m q k 0 vss))) ≡ found (map hit (nearest.hits m q all k))
one_search_bytes m q k room vss all few own p fits good =
    ap (join_answers (length vss) k room) (read_back (full_answers m q k 0 vss) good) ∙ one_search m q k room vss all few own p fits
