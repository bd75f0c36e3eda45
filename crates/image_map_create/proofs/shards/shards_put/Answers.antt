use borrow.Author.Rules.{rules}
use native.Mathlib.Omega.{arith}
use mathlib.Core.Path.{◌≡◌, refl, sym, ◌∙◌, ap}
use mathlib.Core.List.{List, [], ◌∷◌, ◌++◌}
use Prim.Native.Nat.{ℕ, ◌+◌, ◌-◌, ◌*◌, ◌≤◌, ◌<◌}
use lib.ListN.{length, get_or, take, drop, set}
use Rattle.map_tables.specs.Names.{view_name}
use Rattle.map_tables.specs.View.{view_list, view_placement, view_shard}
use Rattle.map_tables.proofs.Defaults.{no_list}
use Rattle.map_tables.proofs.Tables.{used-size, used-row, of_field}
use Rattle.image_map_create.proofs.Grown.{Grown, grown-start, grown-room, grown-step, grown-end}
use Rattle.image_map_create.proofs.shards.shards_put.Goals as goal
use Rattle.image_map_create.proofs.shards.shards_put.Goals.{Start}

fits : (c : Start) → c.args.p.count ≤ length c.args.p.lists
fits c = let h : length c.args.p.lists ≡ 16 = search (rules, of_field) in omega (arith, c.requires.1)

size : (c : Start) → length (view_placement c.args.p) ≡ c.args.p.count
size c = used-size view_list c.args.p.lists c.args.p.count (fits c)

-- a list of the placement is a row
row : (c : Start) (i : ℕ) → i < c.args.p.count → get_or (view_placement c.args.p) i [] ≡ view_list (get_or c.args.p.lists i no_list)
row c i h = used-row view_list c.args.p.lists c.args.p.count (fits c) i no_list h

pub loop-i-init : goal.loop-i-init
loop-i-init c =
    (search rules, grown-start c.args.out.now (view_name c.args.name) (view_placement c.args.p) c.requires.0)

pub overflow_cast-i : goal.overflow_cast-i
overflow_cast-i c = let h = c.requires.1 in let t = c.loop-i-test.true in omega arith

pub new_shard-row-requires : goal.new_shard-row-requires
new_shard-row-requires c = c.loop-i.invariant.1.few

pub loop-i-preserved : goal.loop-i-preserved
loop-i-preserved c =
    let t = c.loop-i-test.true in (omega arith, grown-step c.args.out.now (view_name c.args.name) (view_placement c.args.p) c.loop-i.out c.loop-i.i c.loop-i.invariant.1 (omega (arith, size c.before.before.before.before.before.before.before.before.before.before, t)) _ _ (row c.before.before.before.before.before.before.before.before.before.before c.loop-i.i t) c.new_shard-row.ensures.0 c.requires.2 _ c.shard_put.ensures)

pub shape_of-out : goal.shape_of-out
shape_of-out c = c.loop-i.invariant.1.become.apart.long

pub returns : goal.returns
returns c =
    grown-end c.args.out.now (view_name c.args.name) (view_placement c.args.p) c.loop-i.out c.loop-i.i c.loop-i.invariant.1 (omega (arith, size (goal.at.returns c).Start, c.loop-i-test.false))

pub shard_put-requires : goal.shard_put-requires
shard_put-requires c =
    (c.loop-i.invariant.1.few, grown-room c.args.out.now (view_name c.args.name) (view_placement c.args.p) c.loop-i.out c.loop-i.i c.loop-i.invariant.1 (omega (arith, size (goal.at.shard_put-requires c).Start, c.loop-i-test.true)) _ _ (row (goal.at.shard_put-requires c).Start c.loop-i.i c.loop-i-test.true) c.new_shard-row.ensures.0 c.requires.2, c.new_shard-row.ensures.1)
