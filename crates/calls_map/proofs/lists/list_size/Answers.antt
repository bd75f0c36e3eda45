use borrow.Author.Rules.{rules}
use native.Mathlib.Omega.{arith}
use mathlib.Core.Path.{◌≡◌, sym, ap, ◌∙◌}
use Prim.Native.Nat.{ℕ, ◌*◌}
use lib.ListN.{length}
use Rattle.map_tables.proofs.Tables.{of_field}
use Rattle.calls_map.proofs.ListLaws.{list_long}
use Rattle.calls_map.proofs.lists.list_size.Goals as goal

pub returns : goal.returns
returns c =
    let k : length c.args.l.nodes ≡ 8 = search (rules, of_field) in
    (ap (λ (x : ℕ). 8 * x) c.in_use.ensures.0 ∙ sym (list_long c.args.l k), omega (arith, c.in_use.ensures.1))
