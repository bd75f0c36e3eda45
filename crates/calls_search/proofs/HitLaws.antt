-- Neighbours written to the outputs, way by way. Assumes nothing.
use Prim.Native.Nat.{ℕ, ◌+◌, ◌*◌, ◌≤◌, ◌<◌}
use mathlib.Core.Path.{◌≡◌, sym, ap, subst, ◌∙◌}
use mathlib.Core.Bool.{Bool, true, false, cond}
use mathlib.Core.List.{List, ◌++◌, map}
use native.Mathlib.Omega.{arith}
use lib.Ieee.{Float, nan}
use lib.ListN.{length, get_or, take, get_or-map, get_or-append, length-map}
use lib.Seq.{sets, get_or-take, length-take-le}
use borrow.Author.Tests.{lt-ltb, le-ltb}
use Rattle.spec.specs.Layout.Format.{bytes_of, concat_map}
use Rattle.spec.specs.Node.Wire.{bits_of}
use Rattle.spec.specs.declared.Neighbor.{Neighbor}
use Rattle.log_store.proofs.Firsts.{firsts_same}
use Rattle.log_select.specs.Written.{id_of, distance_of}
use Rattle.calls_parts.specs.Answer.{answer_lent, number_put}
use Rattle.node_search.specs.Searches.{Output, output}
use Rattle.calls_client_out.specs.Hits.{hit_at, hit_bytes, hits_bytes}
use Rattle.calls_client_out.specs.Found.{ended, found_in, hits_lent}
use Rattle.calls_client_out.proofs.HitLaws.{hits-put}
use Rattle.calls_client_out.proofs.Found.{found-short, found-put}
use Rattle.calls_search.specs.Served.{hits_ended}

-- ---- one neighbour more

module _ (items : List Neighbor) (l out p q : List ℕ) (i : ℕ) (x : Neighbor) (here : x ≡ get_or items i (record { id = 0; distance = nan }))
    (so : out ≡ sets l 0 (hits_bytes (map id_of items) (map distance_of items) i)) (b : ℕ) (bits : b ≡ bits_of x.distance)
    (put : p ≡ sets out (12 * i) (bytes_of 8 x.id)) (putb : q ≡ sets p (12 * i + 8) (bytes_of 4 b)) where
  id-is : x.id ≡ get_or (map id_of items) i 0
  id-is = ap id_of here ∙ sym (get_or-map id_of items i (record { id = 0; distance = nan }))

  distance_is : x.distance ≡ get_or (map distance_of items) i nan
  distance_is = ap distance_of here ∙ sym (get_or-map distance_of items i (record { id = 0; distance = nan }))

  pub one_more : q ≡ sets l 0 (hits_bytes (map id_of items) (map distance_of items) (i + 1))
  one_more =
      putb
      ∙ ap (λ (z : List ℕ). sets z (12 * i + 8) (bytes_of 4 b)) (put ∙ ap (λ (z : List ℕ). sets z (12 * i) (bytes_of 8 x.id)) so)
      ∙ ap (λ (z : ℕ). sets (sets (sets l 0 (hits_bytes (map id_of items) (map distance_of items) i)) (12 * i) (bytes_of 8 x.id)) (12 * i + 8) (bytes_of 4 z)) (bits ∙ ap bits_of distance_is)
      ∙ ap (λ (z : ℕ). sets (sets (sets l 0 (hits_bytes (map id_of items) (map distance_of items) i)) (12 * i) (bytes_of 8 z)) (12 * i + 8) (bytes_of 4 (bits_of (get_or (map distance_of items) i nan)))) id-is
      ∙ hits-put (map id_of items) (map distance_of items) l i

-- ---- the outputs

module _ (o a : List ℕ) (items : List Neighbor) (n : ℕ) where
  abbrev columns : Output
  columns = output (map id_of items) (map distance_of items)

  pub ended-short : (room : ℕ) → room ≡ hits_lent o → room < n → ended 23 o a ≡ hits_ended o a items n
  unfolding hits_ended
  ended-short room e h = sym (ap (λ (b : Bool). cond b (ended 23 o a) (found_in o a columns n)) (lt-ltb (hits_lent o) n (subst (λ (z : ℕ). z < n) e h)))

  module _ (room : ℕ) (e : room ≡ hits_lent o) (h : n ≤ room) where
    enough : found_in o a columns n ≡ hits_ended o a items n
    unfolding hits_ended
    enough = sym (ap (λ (b : Bool). cond b (ended 23 o a) (found_in o a columns n)) (le-ltb (hits_lent o) n (subst (λ (z : ℕ). n ≤ z) e h)))

    pub ended_uncounted : answer_lent a ≡ false → (a' : List ℕ) → a' ≡ number_put a n → ended 23 o a' ≡ hits_ended o a items n
    ended_uncounted q a' p = found-short o a columns n q n a' p ∙ enough

    pub ended-found : answer_lent a ≡ true → (o' a' : List ℕ) → o' ≡ sets o 0 (hits_bytes (map id_of items) (map distance_of items) n) → a' ≡ number_put a n
        → ended 0 o' a' ≡ hits_ended o a items n
    ended-found q o' a' p r = found-put o a columns n q o' a' p r ∙ enough

-- ---- the same neighbours in front of two columns

front : {A B : Type 0} (f : A → B) (items : List A) (n : ℕ) (rest : List B) (i : ℕ) (d : A) → n ≤ length items → i < n
    → get_or (map f items) i (f d) ≡ get_or (map f (take n items) ++ rest) i (f d)
front f items n rest i d fit h =
    let l = length-take-le n items fit in
    get_or-map f items i d ∙ ap f (sym (get_or-take n items i d h)) ∙ sym (get_or-map f (take n items) i d)
    ∙ sym (get_or-append (map f (take n items)) rest (f d) i (omega (arith, length-map (take n items) f)))

pub same-hits : (items : List Neighbor) (n : ℕ) → n ≤ length items → (is : List ℕ) (ds : List Float)
    → hits_bytes (map id_of items) (map distance_of items) n ≡ hits_bytes (map id_of (take n items) ++ is) (map distance_of (take n items) ++ ds) n
unfolding hits_bytes
same-hits items n fit is ds =
    ap (concat_map hit_bytes)
    (firsts_same (hit_at (map id_of items) (map distance_of items)) (hit_at (map id_of (take n items) ++ is) (map distance_of (take n items) ++ ds)) n
    (λ i h.
    let d : Neighbor = record { id = 0; distance = nan } in
    ap (λ (z : ℕ). record { id = z; distance = get_or (map distance_of items) i nan }) (front id_of items n is i d fit h)
    ∙ ap (λ (z : Float). record { id = get_or (map id_of (take n items) ++ is) i 0; distance = z }) (front distance_of items n ds i d fit h)))
