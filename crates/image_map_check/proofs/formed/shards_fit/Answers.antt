use borrow.Author.Rules.{rules}
use Prim.Native.Nat.{◌+◌, ◌-◌, ◌*◌}
use mathlib.Core.Bool.{true, false}
use Rattle.std.proofs.Common.{inl, inr}
use Rattle.std.proofs.lemmas.Bool.{cases_Bool}
use Rattle.map_check.specs.Rows.{follows, shard_under, shard_ok}
use native.Mathlib.Omega.{arith}
use mathlib.Core.Path.{◌≡◌, ◌∙◌}
use Rattle.spec.specs.Layout.Format.{number_at}
use Rattle.spec.specs.Map.Create.{shard_below}
use Rattle.spec.specs.Map.WellFormed.{shard_fits}
use Rattle.map_tables.specs.View.{view_shard}
use Rattle.image_map_row.specs.Rows.{shard_at}
use Rattle.map_check.specs.Rows.{shard_counted}
use Rattle.image_map.specs.Image.{no_shard}
use Rattle.image_map_check.proofs.RowLaws.{pass_over, pass_all, pass_some}
use Rattle.image_map_check.proofs.formed.shards_fit.Goals as goal

pub returns-then-n-gt64 : goal.returns-then-n-gt64
returns-then-n-gt64 c =
    let e = c.get8-n.ensures in let t = c.if-n-gt64.true in pass_over 64 272 4008 (shard_at c.args.s.now) no_shard (number_at 8 c.args.s.now 24) view_shard shard_below shard_counted shard_fits (omega arith)

pub returns : goal.returns
returns c =
    let e = c.get8-n.ensures in let few = c.if-n-gt64.false in
    elim (cases_Bool c.each_follows.result) [
      | inl y ↦ y ∙ pass_all 64 272 4008 (shard_at c.args.s.now) no_shard (number_at 8 c.args.s.now 24) view_shard shard_below shard_counted shard_fits (omega arith) (λ i lt. let b = c.each_follows.ensures.all y i (omega arith) in let z : follows shard_under shard_ok i (shard_at c.args.s.now (4008 + 272 * (i - 1))) (shard_at c.args.s.now (4008 + 272 * i)) ≡ true = search rules in z)
      | inr off ↦
          let f = c.each_follows.ensures.some off in
          off ∙ pass_some 64 272 4008 (shard_at c.args.s.now) no_shard (number_at 8 c.args.s.now 24) view_shard shard_below shard_counted shard_fits (omega arith) f.0 (let lt = f.1 in omega arith) (λ k lt. let b = f.2 k lt in let z : follows shard_under shard_ok k (shard_at c.args.s.now (4008 + 272 * (k - 1))) (shard_at c.args.s.now (4008 + 272 * k)) ≡ true = search rules in z) (let b = f.3 in let z : follows shard_under shard_ok f.0 (shard_at c.args.s.now (4008 + 272 * (f.0 - 1))) (shard_at c.args.s.now (4008 + 272 * f.0)) ≡ false = search rules in z)
    ]
