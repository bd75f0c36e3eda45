-- How Create ends, as a number: 2, 3, then by the tests of a placement and the room for it. Assumes nothing.
use Prim.Native.Nat.{ℕ}
use mathlib.Core.Path.{◌≡◌, refl, sym, ap, ◌∙◌}
use mathlib.Core.Bool.{Bool, true, false, cond, not}
use mathlib.Core.List.{List, [], ◌∷◌, ◌++◌, flatten}
use mathlib.Core.Option.{Option, none, some}
use lib.ListN.{length}
use lib.Dec.{eqb}
use borrow.Author.Tests.{eqb-true}
use Rattle.spec.specs.Lists.{◌and◌, every, find}
use Rattle.spec.specs.Keys.{Name}
use Rattle.spec.specs.Refusals.{exists, zero_spec, placement_mismatch, no_room}
use Rattle.spec.specs.Map.Tables.{NodeInfo, Spec, Map, refused}
use Rattle.spec.specs.Map.Change.{accepts, rejects}
use Rattle.spec.specs.Map.Create.{Placement, node_at, is_alive, has_collection, zero_in, list_matches, matches, first_not_alive, create_on, create_room, create_answer}
use Rattle.spec.specs.Map.Calls.{reason_number}
use Rattle.spec_laws.proofs.Lists.{and_left}
use Rattle.spec_count.specs.Closed.{room_for}
use Rattle.spec_count.proofs.Room.{room_for_lem}

-- the map knows the node, and knows it alive
abbrev pub alive : List NodeInfo → ℕ → Bool
alive ns n = is_alive (node_at ns n)

abbrev pub all_alive : List NodeInfo → Placement → Bool
all_alive ns p = every (every (alive ns)) p

module _ {A : Type 0} where
  every_append : (p : A → Bool) (xs ys : List A) → every p (xs ++ ys) ≡ every p xs and every p ys
  unfolding every ◌and◌
  every_append p [] ys = refl
  every_append p (x ∷ xs) ys = go (p x) (every_append p xs ys)
    where
      go : (b : Bool) → every p (xs ++ ys) ≡ every p xs and every p ys → cond b (every p (xs ++ ys)) false ≡ cond b (every p xs) false and every p ys
      go true e = e
      go false e = refl

  pub every_flatten : (p : A → Bool) (ls : List (List A)) → every p (flatten ls) ≡ every (every p) ls
  unfolding every ◌and◌ flatten
  every_flatten p [] = refl
  every_flatten p (l ∷ ls) = every_append p l (flatten ls) ∙ go (every p l) (every_flatten p ls)
    where
      go : (b : Bool) → every p (flatten ls) ≡ every (every p) ls → b and every p (flatten ls) ≡ cond b (every (every p) ls) false
      go true e = e
      go false e = refl

  -- both of every member: one of every member, and the other
  pub every_both : (p q : A → Bool) (xs : List A) → every (λ (x : A). p x and q x) xs ≡ every p xs and every q xs
  unfolding every ◌and◌
  every_both p q [] = refl
  every_both p q (x ∷ xs) = go (p x) (q x) (every p xs) (every_both p q xs)
    where
      go : (a b c : Bool) → every (λ (y : A). p y and q y) xs ≡ c and every q xs
          → cond (a and b) (every (λ (y : A). p y and q y) xs) false ≡ cond a c false and cond b (every q xs) false
      go true true c e = e
      go true false true e = refl
      go true false false e = refl
      go false b c e = refl

module _ {A B : Type 0} (f : Option A → B) (a b : B) (whole : f none ≡ a) (first : (x : A) → f (some x) ≡ b) (p : A → Bool) where
  -- by the first that fails, or none
  by_first : (xs : List A) → f (find (λ (x : A). not (p x)) xs) ≡ cond (every p xs) a b
  unfolding every find
  by_first [] = whole
  by_first (x ∷ xs) = go (p x) (by_first xs)
    where
      go : (t : Bool) → f (find (λ (y : A). not (p y)) xs) ≡ cond (every p xs) a b
          → f (cond (not t) (some x) (find (λ (y : A). not (p y)) xs)) ≡ cond (cond t (every p xs) false) a b
      go true e = e
      go false e = first x

-- 4, 5, then 23, by the tests: room, as many lists and nodes as may be, live nodes
abbrev pub ending : (room fits live : Bool) → ℕ
ending room fits live = cond fits (cond live (cond room 0 23) 5) 4

lists_match : (spec : Spec) (p : Placement) → matches spec p ≡ true → length p ≡ spec.shards
unfolding matches
lists_match spec p e = eqb-true (length p) spec.shards (and_left _ _ e)

module _ (m : Map) (name : Name) (spec : Spec) where
  -- 5, then 23
  on-number : (p : Placement) → reason_number (create_on m name p (first_not_alive m.nodes p))
      ≡ cond (all_alive m.nodes p) (cond (create_room m name p) 0 23) 5
  unfolding create_on first_not_alive
  on-number p =
      by_first (λ (o : Option ℕ). reason_number (create_on m name p o)) (cond (create_room m name p) 0 23) 5 (go (create_room m name p)) (λ n. refl)
      (alive m.nodes) (flatten p)
      ∙ ap (λ (t : Bool). cond t (cond (create_room m name p) 0 23) 5) (every_flatten (alive m.nodes) p)
    where
      go : (r : Bool) → reason_number (cond r accepts (refused no_room)) ≡ cond r 0 23
      go true = refl
      go false = refl

  -- 2, 3, 4, 5, 23
  pub number_of : (p : Placement) → reason_number (create_answer m name spec p)
      ≡ cond (has_collection name m.collections) 2
      (cond (zero_in spec) 3
      (ending (room_for m name spec.shards) (matches spec p) (all_alive m.nodes p)))
  unfolding create_answer
  number_of p = go (has_collection name m.collections) (zero_in spec) (matches spec p) refl
    where
      go : (a b c : Bool) → matches spec p ≡ c
          → reason_number (cond a (rejects (exists name)) (cond b (rejects zero_spec) (cond c (create_on m name p (first_not_alive m.nodes p)) (rejects placement_mismatch))))
          ≡ cond a 2 (cond b 3 (ending (room_for m name spec.shards) c (all_alive m.nodes p)))
      go true b c e = refl
      go false true c e = refl
      go false false true e = on-number p ∙ ap (λ (r : Bool). ending r true (all_alive m.nodes p)) (room_for_lem m name p ∙ ap (room_for m name) (lists_match spec p e))
      go false false false e = refl
