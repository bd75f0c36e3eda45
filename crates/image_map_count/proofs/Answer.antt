-- Laws of the answer: 24, 36, 35, then the counts. Assumes nothing.
use Prim.Native.Nat.{ℕ, ◌≤◌, ◌<◌}
use mathlib.Core.Path.{◌≡◌, sym, ap, ◌∙◌}
use mathlib.Core.Bool.{Bool, true, false}
use native.Mathlib.Omega.{arith}
use lib.Dec.{ltb}
use lib.ListN.{length}
use borrow.Author.Tests.{leb-true, leb-false, lt-ltb, le-ltb, le-leb}
use Rattle.spec.specs.Limits.{max_u64}
use Rattle.spec.specs.Refusals as said
use Rattle.map_tables.specs.Names.{view_name}
use Rattle.map_tables.specs.View.{view_map, view_spec}
use Rattle.map_tables.specs.declared.Name.{Name}
use Rattle.map_tables.specs.declared.ShardMap.{ShardMap}
use Rattle.map_tables.specs.declared.Spec.{Spec}
use Rattle.map_check.specs.Lent.{well_formed_lent}
use Rattle.spec_count.specs.Counts.{Six, six, beyond, too_wide, not_counted, placements_of, is_beyond, count_by}
use Rattle.spec_count.specs.Closed.{geometric, total_of, closed_six}
use Rattle.spec_count.proofs.Closed.{closed}
use Rattle.spec_count.proofs.Cover.{beyond_closed}
use Rattle.spec_count.proofs.Sums.{few_lists}
use Rattle.image_map_count.specs.Answers.{count_lent}
use Rattle.image_map_count.specs.Read.{view_ids, wide_lent, SumAs}
use Rattle.image_map_count.specs.declared.IdSet.{IdSet}
use Rattle.image_map_count.specs.declared.Summed.{Summed}

module _ (m : ShardMap) (name : Name) (spec : Spec) (ids : IdSet) (lists nodes : ℕ) where
  pub malformed_answer : well_formed_lent m ≡ false → not_counted said.malformed ≡ count_lent m name spec ids lists nodes
  unfolding count_lent count_by
  malformed_answer e = rw e

  module _ (formed : well_formed_lent m ≡ true) where
    pub wide-answer : wide_lent ids lists nodes ≡ true → too_wide ≡ count_lent m name spec ids lists nodes
    unfolding count_lent count_by
    wide-answer w = rw (formed, w)

    module _ (narrow : wide_lent ids lists nodes ≡ false) where
      past : (b : Bool) → ltb max_u64 (total_of (length (view_ids ids)) lists nodes) ≡ b → is_beyond (placements_of lists nodes (view_ids ids)) ≡ b
      past b e = beyond_closed (view_map m) (view_name name) (view_spec spec) (view_ids ids) lists nodes ∙ e

      pub beyond-answer : max_u64 < total_of (length (view_ids ids)) lists nodes → beyond ≡ count_lent m name spec ids lists nodes
      unfolding count_lent count_by
      beyond-answer h = rw (formed, narrow, past true (lt-ltb max_u64 (total_of (length (view_ids ids)) lists nodes) h))

      pub six_answer : (x : Six) → total_of (length (view_ids ids)) lists nodes ≤ max_u64
          → x ≡ closed_six (view_map m) (view_name name) (view_spec spec) (view_ids ids) lists nodes → six x ≡ count_lent m name spec ids lists nodes
      unfolding count_lent count_by
      six_answer x h e =
          rw (formed, narrow, past false (le-ltb max_u64 (total_of (length (view_ids ids)) lists nodes) h))
          (ap six (e ∙ sym (closed (view_map m) (view_name name) (view_spec spec) (view_ids ids) lists nodes)))

-- the total, by two sums
module _ (given k n size : ℕ) (few : given ≤ 4) (held : n ≤ 8) (g : given ≡ size) (x y : Summed) (one : SumAs given n x) (two : SumAs x.sum k y) where
  each_of : x.sum ≡ geometric given n
  each_of = one.sum (one.fits ∙ le-leb (geometric given n) max_u64 (omega (arith, few_lists given n few held)))

  whole_of : geometric x.sum k ≡ total_of size k n
  unfolding total_of
  whole_of = ap (λ (z : ℕ). geometric z k) (each_of ∙ ap (λ (z : ℕ). geometric z n) g)

  pub total_of_lem : y.fits ≡ true → y.sum ≡ total_of size k n
  total_of_lem t = two.sum t ∙ whole_of

  pub total-fits : y.fits ≡ true → total_of size k n ≤ max_u64
  total-fits t = omega (arith, leb-true (geometric x.sum k) max_u64 (sym two.fits ∙ t), whole_of)

  pub total-beyond : y.fits ≡ false → max_u64 < total_of size k n
  total-beyond t = omega (arith, leb-false (geometric x.sum k) max_u64 (sym two.fits ∙ t), whole_of)
