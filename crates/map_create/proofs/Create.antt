-- Create's answer, case by case (paper 01, 'Who is turned down': 2, 3, 4, 5, 23). Assumes nothing.
use mathlib.Core.Path.{◌≡◌, refl}
use mathlib.Core.Bool.{Bool, true, false}
use mathlib.Core.Option.{Option, none, some}
use Prim.Native.Nat.{ℕ, ◌≤◌, ◌<◌}
use native.Mathlib.Omega.{arith}
use lib.ListN.{length}
use borrow.Author.Tests.{eq-eqb, ne_eqb, lt-ltb, le-ltb, le-leb, lt-leb}
use Rattle.spec.specs.Lists.{◌and◌, every}
use Rattle.spec.specs.Keys.{Name}
use Rattle.spec.specs.Limits.{max_collections, max_shards}
use Rattle.spec.specs.Refusals.{exists, zero_spec, placement_mismatch, not_alive, no_room}
use Rattle.spec.specs.Map.Tables.{Spec, Map, refused}
use Rattle.spec.specs.Map.Change.{accepts, rejects}
use Rattle.spec.specs.Map.Create.{Placement, has_collection, zero_in, list_matches, matches, first_not_alive, created_shards, create_room, create_on, create_answer}
use Rattle.spec.specs.declared.DataNodeId.{DataNodeId}
use Rattle.map_create.specs.Walk.{walked_of}
use Rattle.std.specs.Prelude.{None, Some}

-- what the walk's end says
pub walked_some : (o : Option ℕ) (n : DataNodeId) → walked_of o ≡ Some n → o ≡ some n.0
walked_some none n e = let z : ◌≡◌ {A = ℕ} 0 1 = cc in absurd (omega arith)
walked_some (some k) n e = cc

pub walked_none : (o : Option ℕ) → walked_of o ≡ None → o ≡ none
walked_none none e = refl
walked_none (some k) e = let z : ◌≡◌ {A = ℕ} 0 1 = cc in absurd (omega arith)

and_off : (t : Bool) → t and false ≡ false
unfolding ◌and◌
and_off true = refl
and_off false = refl

module _ (spec : Spec) (p : Placement) where
  pub other-count : (length p ≡ spec.shards → ⊥) → matches spec p ≡ false
  unfolding matches ◌and◌
  other-count ne = rw (ne_eqb (length p) spec.shards ne)

  pub other_lists : every (list_matches spec.replication) p ≡ false → matches spec p ≡ false
  unfolding matches
  other_lists e = rw e (and_off _)

  pub all_match : length p ≡ spec.shards → every (list_matches spec.replication) p ≡ true → matches spec p ≡ true
  unfolding matches ◌and◌
  all_match e f = rw (eq-eqb (length p) spec.shards e, f)

module _ (m : Map) (name : Name) (p : Placement) where
  pub collections-full : max_collections ≤ length m.collections → create_room m name p ≡ false
  unfolding create_room ◌and◌
  collections-full h = rw (le-ltb (length m.collections) max_collections h)

  pub shards-full : max_shards < length (created_shards m name p) → create_room m name p ≡ false
  unfolding create_room
  shards-full h = rw (lt-leb (length (created_shards m name p)) max_shards h) (and_off _)

  pub has_room : length m.collections < max_collections → length (created_shards m name p) ≤ max_shards → create_room m name p ≡ true
  unfolding create_room ◌and◌
  has_room h k = rw (lt-ltb (length m.collections) max_collections h, le-leb (length (created_shards m name p)) max_shards k)

module _ (m : Map) (name : Name) (spec : Spec) (p : Placement) where
  pub exists_answer : has_collection name m.collections ≡ true → create_answer m name spec p ≡ rejects (exists name)
  unfolding create_answer
  exists_answer e = rw e

  module _ (new : has_collection name m.collections ≡ false) where
    pub zero_answer : zero_in spec ≡ true → create_answer m name spec p ≡ rejects zero_spec
    unfolding create_answer
    zero_answer e = rw (new, e)

    module _ (spare : zero_in spec ≡ false) where
      pub mismatch_answer : matches spec p ≡ false → create_answer m name spec p ≡ rejects placement_mismatch
      unfolding create_answer
      mismatch_answer e = rw (new, spare, e)

      module _ (fit : matches spec p ≡ true) where
        pub dead-answer : (n : ℕ) → first_not_alive m.nodes p ≡ some n → create_answer m name spec p ≡ rejects (not_alive n)
        unfolding create_answer create_on
        dead-answer n e = rw (new, spare, fit, e)

        pub full-answer : first_not_alive m.nodes p ≡ none → create_room m name p ≡ false → create_answer m name spec p ≡ refused no_room
        unfolding create_answer create_on
        full-answer e r = rw (new, spare, fit, e, r)

        pub room-answer : first_not_alive m.nodes p ≡ none → create_room m name p ≡ true → create_answer m name spec p ≡ accepts
        unfolding create_answer create_on
        room-answer e r = rw (new, spare, fit, e, r)
