-- Laws of choosing the lightest node, and of choosing for each replica and each shard in turn. Assumes nothing.
use mathlib.Core.Path.{◌≡◌, refl, sym, ap, ◌∙◌}
use mathlib.Core.Bool.{Bool, true, false}
use mathlib.Core.List.{List, [], ◌∷◌, ◌++◌, map}
use mathlib.Core.Option.{Option, none, some}
use Prim.Native.Nat.{ℕ, suc, ◌+◌, ◌-◌, ◌≤◌, ◌<◌}
use native.Mathlib.Omega.{arith}
use lib.ListN.{length, take, drop, set, drop_of_length-le}
use lib.Seq.{append_snoc}
use lib.Dec.{ltb}
use borrow.Author.Tests.{lt-ltb, le-ltb, eq-eqb, ne_eqb}
use Rattle.spec.specs.Lists.{◌and◌, ◌or◌, filter}
use Rattle.spec.specs.Map.Apply.{update}
use Rattle.spec.specs.Map.Place.{Load, lighter, lightest, lightest_from, is_load, raised, Round, chosen_of, choose_node, choose_nodes, place_shards}
use Rattle.map_tables.specs.View.{view_list}
use Rattle.map_tables.specs.declared.NodeList.{NodeList}
use Rattle.map_tables.proofs.Tables.{used-size}
use Rattle.map_place.specs.Read.{better, unlisted}
use Rattle.map_place.proofs.Collecting.{map_add}

-- ---- the lighter of two

module _ (a b : Load) where
  pub fewer : a.count < b.count → lighter a b ≡ true
  unfolding lighter ◌or◌
  fewer h = rw (lt-ltb a.count b.count h)

  pub more : b.count < a.count → lighter a b ≡ false
  unfolding lighter ◌or◌ ◌and◌
  more h = rw (le-ltb a.count b.count (omega arith), ne_eqb a.count b.count (λ e. omega arith))

  pub level : b.count ≤ a.count → a.count ≤ b.count → lighter a b ≡ ltb a.node b.node
  unfolding lighter ◌or◌ ◌and◌
  level h k = rw (le-ltb a.count b.count h, eq-eqb a.count b.count (omega arith))

-- ---- the lightest of those that are left

abbrev pub lightest_after : Option Load → List Load → Option Load
lightest_after none l = lightest l
lightest_after (some x) l = some (lightest_from x l)

pub after_next : (o : Option Load) (y : Load) (l : List Load) → lightest_after o (y ∷ l) ≡ lightest_after (some (better o y)) l
unfolding lightest lightest_from
after_next none y l = refl
after_next (some x) y l = refl

pub after-end : (o : Option Load) → lightest_after o [] ≡ o
unfolding lightest lightest_from
after-end none = refl
after-end (some x) = refl

module _ {A : Type 0} (v : A → Load) (p : Load → Bool) (xs : List A) (n : ℕ) (le : n ≤ length xs) (i : ℕ) (o : Option Load) (t : Option Load)
    (inv : t ≡ lightest_after o (filter p (drop i (map v (take n xs))))) where
  pub pick_end : n ≤ i → o ≡ t
  unfolding filter
  pick_end h =
      sym (inv ∙ ap (lightest_after o) (rw (drop_of_length-le (map v (take n xs)) {i = i} (rw (used-size v xs n le) h))) ∙ after-end o)

-- ---- one node more

-- nobody is left
pub chosen_none : (r : Round) → lightest (filter (unlisted r.nodes) r.loads) ≡ none → r ≡ choose_node r
unfolding choose_node chosen_of
chosen_none r q = rw q

pub chosen_some : (r s : Round) (l : Load) → lightest (filter (unlisted r.nodes) r.loads) ≡ some l
    → s.loads ≡ update (is_load l.node) raised r.loads → s.nodes ≡ r.nodes ++ (l.node ∷ []) → s ≡ choose_node r
unfolding choose_node chosen_of
chosen_some r s l q e f = rw (q, ← e, ← f)

-- ---- in turn

pub chooses_next : (n i : ℕ) (r : Round) → i < n → choose_nodes (n - i) r ≡ choose_nodes (n - (i + 1)) (choose_node r)
unfolding choose_nodes
chooses_next n i r h = let q : n - i ≡ suc (n - (i + 1)) = omega arith in rw q

pub chooses_end : (n i : ℕ) (r : Round) → n ≤ i → choose_nodes (n - i) r ≡ r
unfolding choose_nodes
chooses_end n i r h = let q : n - i ≡ 0 = omega arith in rw q

-- one shard more has its list
lists_next : (s i k : ℕ) (l : List Load) (before : List (List ℕ)) (r : Round) → i < s → r ≡ choose_nodes k (record { loads = l; nodes = [] })
    → before ++ place_shards (s - i) k l ≡ (before ++ (r.nodes ∷ [])) ++ place_shards (s - (i + 1)) k r.loads
unfolding place_shards
lists_next s i k l before r h e = let q : s - i ≡ suc (s - (i + 1)) = omega arith in rw (q, ← e, append_snoc)

-- and stands in the array of lists
pub placed-next : (s i k : ℕ) (l : List Load) (lists : List NodeList) (list : NodeList) (after : List Load) → i < s → i < length lists
    → record { loads = after; nodes = view_list list } ≡ choose_nodes k (record { loads = l; nodes = [] })
    → map view_list (take i lists) ++ place_shards (s - i) k l ≡ map view_list (take (i + 1) (set lists i list)) ++ place_shards (s - (i + 1)) k after
placed-next s i k l lists list after h room e =
    lists_next s i k l (map view_list (take i lists)) (record { loads = after; nodes = view_list list }) h e
    ∙ ap (λ (b : List (List ℕ)). b ++ place_shards (s - (i + 1)) k after) (sym (map_add view_list lists i list room))

pub lists_end : (s i k : ℕ) (l : List Load) (before : List (List ℕ)) → s ≤ i → before ++ place_shards (s - i) k l ≡ before
unfolding place_shards
lists_end s i k l before h = let q : s - i ≡ 0 = omega arith in rw q (nothing-after before)
  where
    nothing-after : (b : List (List ℕ)) → b ++ [] ≡ b
    nothing-after [] = refl
    nothing-after (y ∷ ys) = ap (λ (w : List (List ℕ)). y ∷ w) (nothing-after ys)
