-- What a search leaves in the buffers, by its tests. Assumes nothing.
use Prim.Native.Nat.{ℕ, zero, suc, ◌*◌, ◌/◌, ◌≤◌, min}
use mathlib.Core.Path.{◌≡◌, refl, sym, ap, subst, ◌∙◌}
use mathlib.Core.Bool.{true, false}
use mathlib.Core.List.{List, ◌∷◌}
use native.Mathlib.Omega.{arith}
use lib.Ieee.{Float}
use lib.ListN.{length, take, replicate, length-replicate}
use lib.Seq.{sets}
use Rattle.spec.specs.Limits.{max_entries}
use Rattle.spec.specs.Node.Wire.{float_of}
use Rattle.log_search.proofs.Answered.{least_both}
use Rattle.node_header.specs.declared.Node.{Node}
use Rattle.node_lent.specs.Lend.{LentStore}
use Rattle.calls_parts.specs.Answer.{answer_lent, number_put}
use Rattle.calls_parts.proofs.AnswerLaws.{number_unput}
use Rattle.node_search.specs.declared.NodeSearched.{NodeSearched}
use Rattle.node_search.specs.Searches.{Output, output, room, SearchesAt}
use Rattle.calls_client_out.specs.Hits.{hits_bytes}
use Rattle.calls_client_out.specs.Found.{SearchEnded, ended, found_in, search_ended, fresh_hits, hits_lent, SearchServed}

module _ (o a : List ℕ) (p : Output) (n : ℕ) where
  pub found-short : answer_lent a ≡ false → (x : ℕ) (a' : List ℕ) → a' ≡ number_put a x → ended 23 o a' ≡ found_in o a p n
  found-short e x a' f = ap (ended 23 o) (f ∙ number_unput a x e) ∙ (rw e refl)

  pub found-put : answer_lent a ≡ true → (o' a' : List ℕ) → o' ≡ sets o 0 (hits_bytes p.ids p.distances n) → a' ≡ number_put a n
      → ended 0 o' a' ≡ found_in o a p n
  found-put h o' a' e f =
      ap (λ (x : List ℕ). ended 0 x a') e ∙ ap (ended 0 _) f ∙ (rw h refl)

-- a fresh column's front
take-fresh : {A : Type 0} (x : A) (r m : ℕ) → r ≤ m → take r (replicate m x) ≡ replicate r x
take-fresh x zero m h = refl
take-fresh x (suc r) zero h = absurd (omega arith)
take-fresh x (suc r) (suc m) h = ap (λ (l : List _). x ∷ l) (take-fresh x r m (omega arith))

module _ (r q : ℕ) (e : r ≡ min 1024 q) where
  pub front_least : r ≤ 1024
  front_least = (least_both r 1024 q e).0

  pub front_long : {A : Type 0} (x : A) → r ≡ length (take r (replicate 1024 x))
  front_long x = sym (ap length (take-fresh x r 1024 front_least) ∙ length-replicate r x)

-- ---- fresh columns, as long as the buffer has room for neighbours

module _ (o is : List ℕ) (ds : List Float) (fresh : output is ds ≡ fresh_hits (hits_lent o)) where
  fresh-ids : length is ≡ hits_lent o
  unfolding fresh_hits
  fresh-ids = ap (λ (x : Output). length x.ids) fresh ∙ length-replicate (hits_lent o) 0

  fresh-distances : length ds ≡ hits_lent o
  unfolding fresh_hits
  fresh-distances = ap (λ (x : Output). length x.distances) fresh ∙ length-replicate (hits_lent o) (float_of 0)

  -- neighbours that fit the columns fit the buffer
  pub fresh-room : (n : ℕ) → n ≤ room (output is ds) → (12 * n ≤ length o) × (n ≤ length is) × (n ≤ length ds)
  fresh-room n h =
      let r = least_both (room (output is ds)) (length is) (length ds) refl in
      let l = least_both (hits_lent o) max_entries (length o / 12) refl in
      let q : n ≤ length o / 12 = omega (arith, fresh-ids, r.0, l.1) in
      (omega (arith, q), omega (arith, r.0), omega (arith, r.1))

  -- the call on them
  pub served : (n : Node) (a : LentStore) (m : List ℕ) (clock : ℕ) (p : Output) (r : NodeSearched) → SearchesAt n a m clock (output is ds) p 0 r
      → (answer : List ℕ) (e : SearchEnded) → e ≡ search_ended o answer p r.answer → SearchServed n a m clock o answer e
  served n a m clock p r d answer e q = record {
    left = p;
    told = r;
    call = subst (λ (x : Output). SearchesAt n a m clock x p 0 r) fresh d;
    is = q;
  }
