use Rattle.std.proofs.Common.{rules, tests}
use mathlib.Core.Path.{◌∙◌}
use Rattle.std.proofs.lemmas.Iterator.{YieldsList-from_slice}
use Rattle.std.proofs.lemmas.Iterator.Search.{any_from_yields_List}
use Rattle.spec.specs.Map.Change.{in_sync, is_id}
use Rattle.map_tables.specs.View.{view_in_sync}
use Rattle.map_tables.proofs.Tables.{any-list}
use Rattle.map_tables.proofs.holders_of.has_synced.Goals as goal

pub returns : goal.returns
unfolding in_sync
returns c =
    let xs = view_in_sync c.args.s in
    any_from_yields_List (is_id c.args.node.0) _ _ _ c.any.ensures.ran (YieldsList-from_slice xs cc) (λ x b q k. search (rules, tests)) ∙ any-list (is_id c.args.node.0) xs
