-- The turns of the loops that copy items out of a message: nodes, lists. Assumes nothing.
use Prim.Native.Nat.{ℕ, suc, ◌+◌, ◌-◌, ◌*◌, ◌≤◌, ◌<◌}
use mathlib.Core.Path.{◌≡◌, refl, sym, ap, subst, ◌∙◌}
use mathlib.Core.Bool.{Bool, true}
use mathlib.Core.List.{List, [], ◌∷◌, ◌++◌, map, append-nil}
use native.Mathlib.Omega.{arith}
use native.Mathlib.Numerals.{add-one}
use lib.ListN.{length, get_or, take, set}
use lib.Seq.{take-suc, take-suc-set, take_all, append_snoc}
use borrow.Author.Tests.{leb-true}
use Rattle.spec.specs.Lists.{every}
use Rattle.spec.specs.Layout.Format.{fits, fits_n, next, value, value_n, number_at}
use Rattle.spec.specs.Layout.Parts.{u64}
use Rattle.spec.specs.declared.DataNodeId.{DataNodeId}
use Rattle.spec_laws.proofs.Wire.Tests.{and_left, and_right}
use Rattle.spec_laws.proofs.Map.Rows.{every_tail, every_cons}
use Rattle.wire_read.specs.declared.Part.{Part}
use Rattle.wire_read.proofs.Places.{length-value_n}
use Rattle.wire_read.proofs.Skips.{fixed_fits, fixed_next}
use Rattle.wire_read.proofs.Items.{word_item}
use Rattle.map_tables.specs.View.{view_list}
use Rattle.map_tables.specs.declared.NodeList.{NodeList}
use Rattle.map_request.specs.Parts.{nodes_at, list_f, Nodes}

-- ---- one more item at the end of those that are copied

module _ {A B : Type 0} (f : A → B) where
  map-append : (l m : List A) → map f (l ++ m) ≡ map f l ++ map f m
  map-append [] m = refl
  map-append (x ∷ xs) m = ap (λ (r : List B). f x ∷ r) (map-append xs m)

  -- the items copied so far, with one more
  pub copied_on : (rows : List A) (i : ℕ) (x : A) → i < length rows → map f (take (i + 1) (set rows i x)) ≡ map f (take i rows) ++ (f x ∷ [])
  copied_on rows i x h = rw (add-one, take-suc-set rows i x h) (map-append (take i rows) (x ∷ []))

module _ {A B : Type 0} (f : A → B) (rows : List A) (items : List B) (i : ℕ) (x : A) (d : B) where
  -- the copies of the first items are theirs, one item on
  pub copied_more : map f (take i rows) ≡ take i items → i < length rows → i < length items → f x ≡ get_or items i d
      → map f (take (i + 1) (set rows i x)) ≡ take (i + 1) items
  copied_more e h l q =
      copied_on f rows i x h
      ∙ ap (λ (r : List B). r ++ (f x ∷ [])) e
      ∙ ap (λ (y : B). take i items ++ (y ∷ [])) q
      ∙ sym (ap (λ (n : ℕ). take n items) (add-one i) ∙ take-suc items i d l)

-- ---- the nodes of a list

module _ (s : List ℕ) (p : Part) where
  pub nodes-length : length (nodes_at s p) ≡ p.len
  nodes-length = length-value_n (value u64 s) (next u64 s) p.len p.at

  pub node-room : Nodes s p → (i : ℕ) → i < p.len → p.at + i * 8 + 8 ≤ length s
  node-room h i l = let a = h.inside in omega arith

  pub node-more : (nodes : List DataNodeId) (i : ℕ) (x : DataNodeId) → map (λ (n : DataNodeId). n.0) (take i nodes) ≡ take i (nodes_at s p)
      → i < length nodes → i < p.len → x.0 ≡ number_at 8 s (p.at + i * 8)
      → map (λ (n : DataNodeId). n.0) (take (i + 1) (set nodes i x)) ≡ take (i + 1) (nodes_at s p)
  node-more nodes i x e h l q =
      copied_more (λ (n : DataNodeId). n.0) nodes (nodes_at s p) i x 0 e h (rw nodes-length l) (q ∙ sym (word_item 8 s p.len p.at i l))

  pub nodes-all : (i : ℕ) → p.len ≤ i → take i (nodes_at s p) ≡ nodes_at s p
  nodes-all i l = take_all i (nodes_at s p) (rw nodes-length l)

-- ---- the lists of a placement

-- the nodes of a list at a place: as many as its count byte says
abbrev pub nodes_part : List ℕ → ℕ → Part
nodes_part s at = record { at = at + 1; len = length (value list_f s at) }

module _ (s : List ℕ) (at : ℕ) where
  list-size : length (value list_f s at) ≡ number_at 1 s at
  list-size = length-value_n (value u64 s) (next u64 s) (number_at 1 s at) (at + 1)

  pub list_held : fits list_f s at ≡ true → Nodes s (nodes_part s at)
  list_held e =
      let few : number_at 1 s at ≤ 8 = leb-true _ _ (and_left _ _ (and_right _ _ (and_right _ _ e))) in
      let l : at + 1 ≤ length s = leb-true _ _ (and_left _ _ e) in
      let r : at + 1 + number_at 1 s at * 8 ≤ length s =
      leb-true _ _ (sym (fixed_fits s 8 (number_at 1 s at) (at + 1) l) ∙ and_right _ _ (and_right _ _ (and_right _ _ e))) in
      record { few = omega (arith, list-size); inside = rw list-size r }

  pub list-nodes : nodes_at s (nodes_part s at) ≡ value list_f s at
  list-nodes = ap (λ (n : ℕ). value_n (value u64 s) (next u64 s) n (at + 1)) list-size

  pub list-next : at + 1 + length (value list_f s at) * 8 ≡ next list_f s at
  list-next = ap (λ (n : ℕ). at + 1 + n * 8) list-size ∙ sym (fixed_next s 8 (number_at 1 s at) (at + 1))

-- what is left of a row of n lists before a turn
abbrev pub Left : List ℕ → (n i at : ℕ) → Type 0
Left s n i at = fits_n (fits list_f s) (next list_f s) (n - i) at ≡ true

module _ (s : List ℕ) (n i at : ℕ) (l : i < n) where
  one_less : n - i ≡ suc (n - (i + 1))
  one_less = omega arith

  module _ (h : Left s n i at) where
    more : fits_n (fits list_f s) (next list_f s) (suc (n - (i + 1))) at ≡ true
    more = rw one_less at h

    pub row_first : fits list_f s at ≡ true
    row_first = and_left _ _ more

    pub row-rest : Left s n (i + 1) (next list_f s at)
    row-rest = and_right _ _ more

  -- the lists copied so far and those that are left, one list on
  pub list-more : (rows : List NodeList) (x : NodeList) (all : List (List ℕ))
      → map view_list (take i rows) ++ value_n (value list_f s) (next list_f s) (n - i) at ≡ all
      → i < length rows → view_list x ≡ value list_f s at
      → map view_list (take (i + 1) (set rows i x)) ++ value_n (value list_f s) (next list_f s) (n - (i + 1)) (next list_f s at) ≡ all
  list-more rows x all e h q =
      let tail = value_n (value list_f s) (next list_f s) (n - (i + 1)) (next list_f s at) in
      ap (λ (r : List (List ℕ)). r ++ tail) (copied_on view_list rows i x h)
      ∙ append_snoc (map view_list (take i rows)) (view_list x) tail
      ∙ ap (λ (y : List ℕ). map view_list (take i rows) ++ y ∷ tail) q
      ∙ ap (λ (m : ℕ). map view_list (take i rows) ++ value_n (value list_f s) (next list_f s) m at) (sym one_less)
      ∙ e

  -- the same, where the list's nodes were read as a part
  module _ (h : Left s n i at) (r : Part) (q : r ≡ nodes_part s at) where
    pub part_held : Nodes s r
    part_held = subst (Nodes s) (sym q) (list_held s at (row_first h))

    part-next : next list_f s at ≡ r.at + r.len * 8
    part-next = sym (ap (λ (z : Part). z.at + z.len * 8) q ∙ list-next s at)

    pub part-after : Left s n (i + 1) (r.at + r.len * 8)
    part-after = subst (Left s n (i + 1)) part-next (row-rest h)

    pub part-more : (rows : List NodeList) (x : NodeList) (all : List (List ℕ))
        → map view_list (take i rows) ++ value_n (value list_f s) (next list_f s) (n - i) at ≡ all
        → i < length rows → view_list x ≡ nodes_at s r
        → map view_list (take (i + 1) (set rows i x)) ++ value_n (value list_f s) (next list_f s) (n - (i + 1)) (r.at + r.len * 8) ≡ all
    part-more rows x all e k v =
        subst (λ (m : ℕ). map view_list (take (i + 1) (set rows i x)) ++ value_n (value list_f s) (next list_f s) (n - (i + 1)) m ≡ all) part-next
        (list-more rows x all e k (v ∙ ap (nodes_at s) q ∙ list-nodes s at))

-- after the last turn
pub lists_end : (s : List ℕ) (rows : List NodeList) (n i at : ℕ) (all : List (List ℕ)) → i ≡ n
    → map view_list (take i rows) ++ value_n (value list_f s) (next list_f s) (n - i) at ≡ all → map view_list (take n rows) ≡ all
lists_end s rows n i at all e h =
    let z : n - i ≡ 0 = omega arith in
    let last : map view_list (take i rows) ++ [] ≡ all =
    subst (λ (m : ℕ). map view_list (take i rows) ++ value_n (value list_f s) (next list_f s) m at ≡ all) z h in
    subst (λ (m : ℕ). map view_list (take m rows) ≡ all) e (sym (append-nil (map view_list (take i rows))) ∙ last)

module _ {A : Type 0} (p : A → Bool) where
  every_snoc : (l : List A) (x : A) → every p l ≡ true → p x ≡ true → every p (l ++ (x ∷ [])) ≡ true
  unfolding every
  every_snoc [] x h q = every_cons p x [] q refl
  every_snoc (y ∷ ys) x h q = let t = every_tail p y ys h in every_cons p y (ys ++ (x ∷ [])) t.0 (every_snoc ys x t.1 q)

  -- the rows in use, with one more
  pub every_more : (rows : List A) (i : ℕ) (x : A) → i < length rows → every p (take i rows) ≡ true → p x ≡ true
      → every p (take (i + 1) (set rows i x)) ≡ true
  every_more rows i x h e q = rw (add-one, take-suc-set rows i x h) (every_snoc (take i rows) x e q)
