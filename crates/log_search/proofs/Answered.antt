-- The answer of a search over a tested store, by the hits that were found. Assumes nothing.
use Prim.Native.Nat.{ℕ, ◌≤◌, ◌<◌, min}
use mathlib.Core.Path.{◌≡◌, refl, sym, ap, ◌∙◌, subst}
use mathlib.Core.Bool.{Bool, true, false, not, cond}
use mathlib.Core.List.{List, ◌++◌, map}
use native.Mathlib.Omega.{arith}
use native.Mathlib.Nat.{min-eq_left, min-eq_right, min-le_left, min-le_right}
use lib.Dec.{ltb}
use lib.Ieee.{Float}
use borrow.Author.Tests.{ltb-true, ltb-false, lt-ltb, le-ltb}
use lib.ListN.{length, take, drop, length-map}
use lib.Seq.{take_all, length-take-le}
use Rattle.spec.specs.Refusals.{outside_domain, malformed, no_room}
use Rattle.spec.specs.Nearest.Search.{Vector, neighbor, ordered, hits}
use Rattle.spec.specs.Node.WellFormed.{well_formed_vector}
use Rattle.spec.specs.Node.Client.{SearchAnswer, found, search_refused}
use Rattle.spec.specs.declared.Metric.{Metric}
use Rattle.spec.specs.declared.Neighbor.{Neighbor}
use Rattle.spec_laws.proofs.Nearest.Search.{ordered-length}
use Rattle.log_store.specs.Table.{vector_of, vectors_of}
use Rattle.log_store.specs.Store.{Store, store_log, store_rows, well_formed_store, Sized}
use Rattle.log_store.proofs.Facts.{facts, keys-fit, places-fit}
use Rattle.log_store.proofs.Rows.{rows-length}
use Rattle.log_search.specs.declared.answer.Found.TheVariants.{Hits, Refused}
use Rattle.log_select.specs.Written.{id_of, distance_of}
use Rattle.log_search.specs.Search.{search_store, Searched}

-- the lesser of two
pub least_both : (r a b : ℕ) → r ≡ min a b → (r ≤ a) × (r ≤ b)
least_both r a b e = (subst (λ (x : ℕ). x ≤ a) (sym e) (min-le_left a b), subst (λ (x : ℕ). x ≤ b) (sym e) (min-le_right a b))

pub least_most : (r a b : ℕ) → r ≡ min a b → r ≤ b
least_most r a b e = (least_both r a b e).1

-- no more than m are stored, so that no more need be asked for
hits-most : (m : Metric) (q : List Float) (vs : List Vector) (k most : ℕ) → length vs ≤ most → hits m q vs (min k most) ≡ hits m q vs k
unfolding hits
hits-most m q vs k most h = go (ltb k most) refl
  where
    l : List Neighbor
    l = ordered (map (neighbor m q) vs)

    short : length l ≡ length vs
    short = ordered-length (map (neighbor m q) vs) ∙ length-map vs (neighbor m q)

    go : (b : Bool) → ltb k most ≡ b → take (min k most) l ≡ take k l
    go true e = ap (λ (n : ℕ). take n l) (min-eq_left {n = k} {m = most} (let a = ltb-true k most e in omega arith))
    go false e =
        let a = ltb-false k most e in
        ap (λ (n : ℕ). take n l) (min-eq_right {n = most} {m = k} a)
        ∙ take_all most l (omega (arith, short)) ∙ sym (take_all k l (omega (arith, short)))

module _ (s : Store) (m : Metric) (q : List Float) (k room : ℕ) (sized : Sized s) (well : well_formed_store s ≡ true)
    (asked : well_formed_vector q ≡ true) where
  abbrev all : List Vector
  all = vectors_of (store_log s) (store_rows s)

  stored-length : length all ≤ 1024
  unfolding vectors_of
  stored-length =
      let f = facts s well in
      omega (arith, f.stored, length-map (store_rows s) (vector_of (store_log s)), rows-length s.keys s.places s.stored (keys-fit s f sized) (places-fit s f sized))

  abbrev answer : List Neighbor → SearchAnswer
  answer h = cond (ltb room (length h)) (search_refused no_room) (found h)

  search_is : search_store s m q k room ≡ answer (hits m q all k)
  unfolding search_store
  search_is =
      ap (λ (b : Bool). cond (not b) (search_refused outside_domain) (cond (not (well_formed_store s)) (search_refused malformed) (answer (hits m q all k)))) asked
      ∙ ap (λ (b : Bool). cond (not b) (search_refused malformed) (answer (hits m q all k))) well

  -- the first n of some items are the hits of as many as can be stored
  module _ (items : List Neighbor) (n : ℕ) (fits : n ≤ length items) (hit : take n items ≡ hits m q all (min k 1024)) (is : List ℕ) (ds : List Float) where
    hit-all : take n items ≡ hits m q all k
    hit-all = hit ∙ hits-most m q all k 1024 stored-length

    counted : length (take n items) ≡ n
    counted = length-take-le n items fits

    answered : (b : Bool) → ltb room n ≡ b → search_store s m q k room ≡ cond b (search_refused no_room) (found (take n items))
    answered b e =
        search_is ∙ ap answer (sym hit-all) ∙ ap (λ (x : ℕ). cond (ltb room x) (search_refused no_room) (found (take n items))) counted
        ∙ ap (λ (x : Bool). cond x (search_refused no_room) (found (take n items))) e

    pub answered-short : room < n → Searched (search_store s m q k room) (Refused 23) is is ds ds
    answered-short h =
        subst (λ (a : SearchAnswer). Searched a (Refused 23) is is ds ds) (sym (answered true (lt-ltb room n h))) (refl, refl, refl)

    pub answered-found : n ≤ room → (is' : List ℕ) (ds' : List Float)
        → is' ≡ map id_of (take n items) ++ drop n is → ds' ≡ map distance_of (take n items) ++ drop n ds
        → Searched (search_store s m q k room) (Hits n) is is' ds ds'
    answered-found h is' ds' p r =
        subst (λ (a : SearchAnswer). Searched a (Hits n) is is' ds ds') (sym (answered false (le-ltb room n h))) (
          ap Hits (sym counted),
          p ∙ ap (λ (x : ℕ). map id_of (take n items) ++ drop x is) (sym counted),
          r ∙ ap (λ (x : ℕ). map distance_of (take n items) ++ drop x ds) (sym counted),
        )
