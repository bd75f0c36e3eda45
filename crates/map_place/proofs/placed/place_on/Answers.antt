use borrow.Author.Rules.{rules}
use native.Mathlib.Omega.{arith}
use mathlib.Core.Path.{sym, ◌∙◌, ap}
use Rattle.map_tables.specs.View.{view_spec}
use Rattle.map_place.specs.Read.{view_loads}
use Rattle.map_place.proofs.Answered.{too_few, many_lists, long_lists, placed_on_lem}
use Rattle.spec.specs.Map.Place as place
use Rattle.map_place.proofs.placed.place_on.Goals as goal

pub returns-then-loads-replication : goal.returns-then-loads-replication
returns-then-loads-replication c =
    sym (too_few (view_spec c.args.spec) (view_loads c.args.loads) (omega (arith, c.requires.1)))

pub returns-then-shards-gt16 : goal.returns-then-shards-gt16
returns-then-shards-gt16 c =
    sym (many_lists (view_spec c.args.spec) (view_loads c.args.loads) (omega (arith, c.requires.1)) (search rules))

pub returns-then-replication-gt8 : goal.returns-then-replication-gt8
returns-then-replication-gt8 c =
    sym (long_lists (view_spec c.args.spec) (view_loads c.args.loads) (omega (arith, c.requires.1)) (search rules) (search rules))

pub place_lists-placement-requires : goal.place_lists-placement-requires
place_lists-placement-requires c =
    (record { named = search rules; counted = search rules; few = c.requires.0 }, search rules, search rules, c.requires.2)

pub returns : goal.returns
returns c =
    ap place.placed_on c.place_lists-placement.ensures
    ∙ sym (placed_on_lem (view_spec c.args.spec) (view_loads c.args.loads) (omega (arith, c.requires.1)) (search rules) (search rules))
