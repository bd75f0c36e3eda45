use borrow.Author.Rules.{rules}
use Prim.Native.Nat.{◌+◌, ◌-◌, ◌*◌}
use mathlib.Core.Bool.{true, false}
use Rattle.std.proofs.Common.{inl, inr}
use Rattle.std.proofs.lemmas.Bool.{cases_Bool}
use Rattle.map_check.specs.Rows.{follows, node_under, node_ok}
use native.Mathlib.Omega.{arith}
use mathlib.Core.Path.{◌≡◌, ◌∙◌}
use Rattle.spec.specs.Layout.Format.{number_at}
use Rattle.spec.specs.Map.Apply.{node_below}
use Rattle.spec.specs.Map.WellFormed.{node_fits}
use Rattle.map_tables.specs.View.{view_node}
use Rattle.image_map_row.specs.Rows.{node_at}
use Rattle.map_check.specs.Rows.{node_counted}
use Rattle.image_map.specs.Image.{no_node}
use Rattle.image_map_check.proofs.RowLaws.{pass_over, pass_all, pass_some}
use Rattle.image_map_check.proofs.formed.nodes_fit.Goals as goal

pub returns-then-n-gt32 : goal.returns-then-n-gt32
returns-then-n-gt32 c =
    let e = c.get8-n.ensures in let t = c.if-n-gt32.true in pass_over 32 96 40 (node_at c.args.s.now) no_node (number_at 8 c.args.s.now 8) view_node node_below node_counted node_fits (omega arith)

pub returns : goal.returns
returns c =
    let e = c.get8-n.ensures in let few = c.if-n-gt32.false in
    elim (cases_Bool c.each_follows.result) [
      | inl y ↦ y ∙ pass_all 32 96 40 (node_at c.args.s.now) no_node (number_at 8 c.args.s.now 8) view_node node_below node_counted node_fits (omega arith) (λ i lt. let b = c.each_follows.ensures.all y i (omega arith) in let z : follows node_under node_ok i (node_at c.args.s.now (40 + 96 * (i - 1))) (node_at c.args.s.now (40 + 96 * i)) ≡ true = search rules in z)
      | inr off ↦
          let f = c.each_follows.ensures.some off in
          off ∙ pass_some 32 96 40 (node_at c.args.s.now) no_node (number_at 8 c.args.s.now 8) view_node node_below node_counted node_fits (omega arith) f.0 (let lt = f.1 in omega arith) (λ k lt. let b = f.2 k lt in let z : follows node_under node_ok k (node_at c.args.s.now (40 + 96 * (k - 1))) (node_at c.args.s.now (40 + 96 * k)) ≡ true = search rules in z) (let b = f.3 in let z : follows node_under node_ok f.0 (node_at c.args.s.now (40 + 96 * (f.0 - 1))) (node_at c.args.s.now (40 + 96 * f.0)) ≡ false = search rules in z)
    ]
