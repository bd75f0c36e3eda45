-- Laws of the walk over a placement: what is left of it from a list and a node on. Assumes nothing.
use mathlib.Core.Path.{◌≡◌, ◌∙◌}
use mathlib.Core.Bool.{Bool, true, false, cond}
use mathlib.Core.List.{List, ◌++◌, flatten}
use mathlib.Core.Option.{none, some}
use Prim.Native.Nat.{ℕ, ◌+◌, ◌≤◌, ◌<◌}
use native.Mathlib.Numerals.{add-one}
use native.Mathlib.Omega.{arith}
use lib.ListN.{length, drop, get_or, drop_of_length-le}
use lib.Seq.{drop-cons}
use borrow.Author.Tests.{lt-ltb, le-ltb, le-leb, lt-leb}
use Rattle.spec.specs.Lists.{find, ◌and◌}
use Rattle.spec.specs.Map.Create.{list_matches}

module _ {ℓ} {A : Type ℓ} (p : A → Bool) where
  module _ (v : List (List A)) (i : ℕ) where
    -- the next list is walked, then the rest
    pub open_list : (l : List A) (d : List A) → i < length v → get_or v i d ≡ l
        → find p (flatten (drop i v)) ≡ find p (l ++ flatten (drop (i + 1) v))
    unfolding flatten
    open_list l d h e = rw (drop-cons v i d h, e, add-one)

    pub no_list_lem : length v ≤ i → find p (flatten (drop i v)) ≡ none
    unfolding flatten find
    no_list_lem h = rw (drop_of_length-le v {i = i} h)

  module _ (l r : List A) (j : ℕ) where
    open_node : (d : A) → j < length l → find p (drop j l ++ r) ≡ cond (p (get_or l j d)) (some (get_or l j d)) (find p (drop (j + 1) l ++ r))
    unfolding find
    open_node d h = rw (drop-cons l j d h, add-one)

    pub node-on : (d : A) → j < length l → p (get_or l j d) ≡ false → find p (drop j l ++ r) ≡ find p (drop (j + 1) l ++ r)
    node-on d h e = open_node d h ∙ rw e

    pub node_stop : (d : A) → j < length l → p (get_or l j d) ≡ true → find p (drop j l ++ r) ≡ some (get_or l j d)
    node_stop d h e = open_node d h ∙ rw e

    pub nodes-end : length l ≤ j → find p (drop j l ++ r) ≡ find p r
    nodes-end h = rw (drop_of_length-le l {i = j} h)

-- 4: a list with no node, with too many, and one that matches
module _ (replication n : ℕ) (l : List ℕ) (is : n ≡ length l) where
  pub match_none : n ≡ 0 → list_matches replication l ≡ false
  unfolding ◌and◌
  match_none e = rw (le-ltb 0 (length l) (omega arith))

  pub match_over : (n ≡ 0 → ⊥) → replication < n → list_matches replication l ≡ false
  unfolding ◌and◌
  match_over ne h = rw (lt-ltb 0 (length l) (omega arith), lt-leb (length l) replication (omega arith))

  pub match_yes : (n ≡ 0 → ⊥) → n ≤ replication → list_matches replication l ≡ true
  unfolding ◌and◌
  match_yes ne h = rw (lt-ltb 0 (length l) (omega arith), le-leb (length l) replication (omega arith))
