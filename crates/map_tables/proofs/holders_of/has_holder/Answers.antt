use Rattle.std.proofs.Common.{rules, tests}
use mathlib.Core.Path.{◌∙◌}
use Rattle.std.proofs.lemmas.Iterator.{YieldsList-from_slice}
use Rattle.std.proofs.lemmas.Iterator.Search.{any_from_yields_List}
use Rattle.spec.specs.Map.Change.{holds, is_on}
use Rattle.map_tables.specs.View.{view_holders}
use Rattle.map_tables.proofs.Tables.{any-list}
use Rattle.map_tables.proofs.holders_of.has_holder.Goals as goal

pub returns : goal.returns
unfolding holds
returns c =
    let xs = view_holders c.args.h in
    any_from_yields_List (is_on c.args.node.0) _ _ _ c.any.ensures.ran (YieldsList-from_slice xs cc) (λ x b q k. search (rules, tests)) ∙ any-list (is_on c.args.node.0) xs
