-- A header that was written is well formed if the specification's node is, its slots are apart and its tables fit: every count is written as that of
-- the rows in use. Assumes nothing.
use Prim.Native.Nat.{ℕ, ◌≤◌}
use mathlib.Core.Bool.{true}
use mathlib.Core.Path.{◌≡◌, refl, ap, ◌∙◌, subst}
use mathlib.Core.List.{List, [], ◌∷◌, map}
use native.Mathlib.Omega.{arith}
use lib.Dec.{leb}
use lib.ListN.{length, take}
use borrow.Author.Tests.{le-leb, leb-true}
use Rattle.spec.specs.Lists.{◌and◌, every, rising}
use Rattle.spec.specs.Limits.{max_held, max_name, max_entries, max_replicas, max_workers}
use Rattle.spec.specs.Log.{last_offset}
use Rattle.spec.specs.Node.Shards.{held_below, row_below}
use Rattle.spec.specs.Node.WellFormed.{ack_fits, well_formed_held, well_formed_header}
use Rattle.spec_laws.proofs.Lists.{and_true, and_left, and_right}
use Rattle.spec_laws.proofs.Map.Rows.{every_tail, every_cons}
use Rattle.map_tables.specs.Names.{view_name}
use Rattle.node_header.specs.declared.HeldRow.{HeldRow}
use Rattle.node_header.specs.declared.Node.{Node}
use Rattle.node_header.specs.View.{Stores, view_held_row, view_node, used}
use Rattle.node_header.specs.Formed.{counts_fit, slots_fit, lent_node, formed_node}
use Rattle.node_header.proofs.Lists.{by_case}
use Rattle.node_header.proofs.Formed.{formed-lent}
use Rattle.image_parts.specs.Shape.{in_use}
use Rattle.image_header_row.specs.Tidy.{tidy_held, tidy_held_row}
use Rattle.image_header.specs.Image.{node_at}
use Rattle.image_header.specs.Becomes.{Counted, table_fits, HeaderBecomes}
use Rattle.image_header.proofs.Formed.{slots-formed}

most : (n : ℕ) → in_use 8 n ≤ 8
most n = by_case (leb n 8) (λ e. rw e (leb-true n 8 e)) (λ e. rw e (omega arith))

module _ (st : Stores) (counted : Counted st) where
  -- one row as it was written
  row_fits_lem : (x : HeldRow) → well_formed_held (view_held_row st x) ≡ true → table_fits (view_held_row st x) ≡ true → counts_fit (tidy_held_row x) ≡ true
  unfolding counts_fit tidy_held_row tidy_held well_formed_held
  row_fits_lem x e f =
      let h = view_held_row st x in
      let a = leb (length (view_name x.key.collection)) max_name in
      let b = leb (length (take x.held.holders x.held.replicas)) max_replicas in
      let c = leb (last_offset h.replica) max_entries in
      let d = leb (length (take x.held.count x.held.peers)) max_workers in
      let g = rising row_below h.peers and every ack_fits h.peers in
      let r = and_right a (b and c and d and g) e in
      let u = and_right c (d and g) (and_right b (c and d and g) r) in
      let k : leb x.stored max_entries ≡ true =
      subst (λ (i : ℕ). leb i max_entries ≡ true) (counted x.slot x.held.last x.stored) f in
      and_true a (leb x.stored max_entries and b and d) (and_left a (b and c and d and g) e)
      (and_true (leb x.stored max_entries) (b and d) k
      (and_true b d (and_left b (c and d and g) r) (and_left d g u)))

  rows_fit_lem : (l : List HeldRow) → every well_formed_held (map (view_held_row st) l) ≡ true → every table_fits (map (view_held_row st) l) ≡ true
      → every counts_fit (map tidy_held_row l) ≡ true
  rows_fit_lem [] e f = unfold every in refl
  rows_fit_lem (x ∷ xs) e f =
      let p = every_tail well_formed_held (view_held_row st x) (map (view_held_row st) xs) e in
      let q = every_tail table_fits (view_held_row st x) (map (view_held_row st) xs) f in
      every_cons counts_fit (tidy_held_row x) (map tidy_held_row xs) (row_fits_lem x p.0 q.0) (rows_fit_lem xs p.1 q.1)

  helds : (n : Node) → well_formed_header (view_node st n) ≡ true → every well_formed_held (view_node st n).held ≡ true
  unfolding well_formed_header
  helds n e =
      let l = (view_node st n).held in
      and_right (rising held_below l) (every well_formed_held l)
      (and_right (leb (length l) max_held) (rising held_below l and every well_formed_held l) e)

  pub formed-written : (s t : List ℕ) (n : Node) → HeaderBecomes s t n → slots_fit (used n) ≡ true → well_formed_header (view_node st n) ≡ true
      → every table_fits (view_node st n).held ≡ true → formed_node (node_at t) ≡ true
  unfolding lent_node
  formed-written s t n b apart w f =
      let m = node_at t in
      let fit = every counts_fit (used m) in
      let own = slots_fit (used m) in
      let well = well_formed_header (view_node st m) in
      let z = most n.count in
      let few : m.count ≤ 8 = omega (arith, b.count) in
      formed-lent m st
      ∙ and_true (leb m.count max_held) (fit and own and well) (le-leb m.count 8 few)
      (and_true fit (own and well) (ap (every counts_fit) b.rows ∙ rows_fit_lem (used n) (helds n w) f)
      (and_true own well (ap slots_fit b.rows ∙ slots-formed (used n) ∙ apart) (ap well_formed_header (b.read st) ∙ w)))
