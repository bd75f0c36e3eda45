use borrow.Author.Rules.{rules}
use native.Mathlib.Omega.{arith}
use mathlib.Core.Path.{◌≡◌, ◌∙◌, subst}
use mathlib.Core.List.{map}
use Prim.Native.Nat.{ℕ, ◌≤◌, ◌<◌}
use lib.ListN.{length, take}
use Rattle.spec.specs.declared.DataNodeId.{DataNodeId}
use Rattle.map_request.specs.Parts.{nodes_at}
use Rattle.map_request.proofs.Rows.{node-more, nodes-all}
use Rattle.map_request.proofs.lists.load_list.Goals as goal

pub loop-i-preserved : goal.loop-i-preserved
loop-i-preserved c =
    let l = c.loop-i in
    let a = c.args in
    let n : l.i < a.p.len = omega arith in
    let few : a.p.len ≤ 8 = l.invariant.2.few in
    let short : l.i < length l.nodes = omega arith in
    (omega arith, l.invariant.1, l.invariant.2, search rules, node-more a.s.now a.p l.nodes l.i c.node_at.result l.invariant.4 short n c.node_at.ensures)

pub returns : goal.returns
returns c =
    let l = c.loop-i in
    let a = c.args in
    let e : l.i ≡ a.p.len = omega arith in
    (subst (λ (n : ℕ). map (λ (d : DataNodeId). d.0) (take n l.nodes) ≡ take n (nodes_at a.s.now a.p)) e l.invariant.4 ∙ nodes-all a.s.now a.p a.p.len (omega arith), l.invariant.2.few)
