use borrow.Author.Rules.{rules}
use native.Mathlib.Omega.{arith}
use mathlib.Core.Path.{◌≡◌, sym, ◌∙◌}
use Prim.Native.Nat.{ℕ}
use lib.ListN.{length}
use Rattle.spec.specs.Map.Create.{node_at, is_alive}
use Rattle.spec_count.specs.Closed.{alive_among}
use Rattle.map_tables.specs.View.{view_map}
use Rattle.image_map.specs.Image.{map_at}
use Rattle.image_map_count.proofs.Ids.{many_goes, many_adds, many-ends}
use Rattle.image_map_count.proofs.TestLaws.{nodes-few}
use Rattle.image_map_count.proofs.tests.alive_among.Goals as goal
use Rattle.image_map_count.proofs.tests.alive_among.Goals.{Start}

four : (c : Start) → length c.args.ids.items ≡ 4
four c = search rules

pub get8-known-requires : goal.get8-known-requires
get8-known-requires c = let l = c.requires.0.long in omega arith

pub loop-i-init : goal.loop-i-init
loop-i-init c = (omega arith, omega arith, omega arith)

pub is_alive-requires : goal.is_alive-requires
is_alive-requires c =
    let e = c.get8-known.ensures in (c.requires.0.long, omega (arith, nodes-few c.args.map.now c.requires.0), sym e)

pub overflow_add-n : goal.overflow_add-n
overflow_add-n c = omega (arith, c.loop-i.invariant.1, c.loop-i.invariant.0, c.requires.1)

pub loop-i-preserved : goal.loop-i-preserved
unfolding alive_among map_at
loop-i-preserved c =
    let h = four (goal.at.loop-i-preserved c).Start in
    (search rules, search rules, many_adds c.args.ids.items c.args.ids.count (omega (arith, c.requires.1)) c.loop-i.i (search rules) (λ (k : ℕ). is_alive (node_at (view_map (map_at c.args.map.now)).nodes k)) c.loop-i.n _ c.loop-i.invariant.2 (sym c.is_alive.ensures ∙ c.if-not-is_alive.false))

pub loop-i-preserved-then-not-is_alive : goal.loop-i-preserved-then-not-is_alive
unfolding alive_among map_at
loop-i-preserved-then-not-is_alive c =
    let h = four (goal.at.loop-i-preserved-then-not-is_alive c).Start in
    (search rules, omega (arith, c.loop-i.invariant.1), many_goes c.args.ids.items c.args.ids.count (omega (arith, c.requires.1)) c.loop-i.i (search rules) (λ (k : ℕ). is_alive (node_at (view_map (map_at c.args.map.now)).nodes k)) c.loop-i.n _ c.loop-i.invariant.2 (sym c.is_alive.ensures ∙ c.if-not-is_alive.true))

pub returns : goal.returns
unfolding alive_among
returns c =
    let h = four (goal.at.returns c).Start in
    many-ends c.args.ids.items c.args.ids.count (omega (arith, c.requires.1)) c.loop-i.i (search rules) (λ (k : ℕ). is_alive (node_at (view_map (map_at c.args.map.now)).nodes k)) c.loop-i.n _ c.loop-i.invariant.2
