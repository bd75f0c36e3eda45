use borrow.Author.Rules.{rules}
use Prim.Native.Nat.{◌+◌, ◌-◌, ◌*◌}
use mathlib.Core.Bool.{true, false}
use Rattle.std.proofs.Common.{inl, inr}
use Rattle.std.proofs.lemmas.Bool.{cases_Bool}
use Rattle.map_check.specs.Rows.{follows, collection_under, collection_ok}
use native.Mathlib.Omega.{arith}
use mathlib.Core.Path.{◌≡◌, ◌∙◌}
use Rattle.spec.specs.Layout.Format.{number_at}
use Rattle.spec.specs.Map.Create.{collection_below}
use Rattle.spec.specs.Map.WellFormed.{collection_fits}
use Rattle.map_tables.specs.View.{view_collection}
use Rattle.image_map_row.specs.Rows.{collection_at}
use Rattle.map_check.specs.Rows.{collection_counted}
use Rattle.image_map.specs.Image.{no_collection}
use Rattle.image_map_check.proofs.RowLaws.{pass_over, pass_all, pass_some}
use Rattle.image_map_check.proofs.formed.collections_fit.Goals as goal

pub returns-then-n-gt16 : goal.returns-then-n-gt16
returns-then-n-gt16 c =
    let e = c.get8-n.ensures in let t = c.if-n-gt16.true in pass_over 16 56 3112 (collection_at c.args.s.now) no_collection (number_at 8 c.args.s.now 16) view_collection collection_below collection_counted collection_fits (omega arith)

pub returns : goal.returns
returns c =
    let e = c.get8-n.ensures in let few = c.if-n-gt16.false in
    elim (cases_Bool c.each_follows.result) [
      | inl y ↦ y ∙ pass_all 16 56 3112 (collection_at c.args.s.now) no_collection (number_at 8 c.args.s.now 16) view_collection collection_below collection_counted collection_fits (omega arith) (λ i lt. let b = c.each_follows.ensures.all y i (omega arith) in let z : follows collection_under collection_ok i (collection_at c.args.s.now (3112 + 56 * (i - 1))) (collection_at c.args.s.now (3112 + 56 * i)) ≡ true = search rules in z)
      | inr off ↦
          let f = c.each_follows.ensures.some off in
          off ∙ pass_some 16 56 3112 (collection_at c.args.s.now) no_collection (number_at 8 c.args.s.now 16) view_collection collection_below collection_counted collection_fits (omega arith) f.0 (let lt = f.1 in omega arith) (λ k lt. let b = f.2 k lt in let z : follows collection_under collection_ok k (collection_at c.args.s.now (3112 + 56 * (k - 1))) (collection_at c.args.s.now (3112 + 56 * k)) ≡ true = search rules in z) (let b = f.3 in let z : follows collection_under collection_ok f.0 (collection_at c.args.s.now (3112 + 56 * (f.0 - 1))) (collection_at c.args.s.now (3112 + 56 * f.0)) ≡ false = search rules in z)
    ]
