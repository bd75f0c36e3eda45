use borrow.Author.Rules.{rules}
use native.Mathlib.Omega.{arith}
use mathlib.Core.Path.{refl, sym, ◌∙◌, ap, subst}
use mathlib.Core.List.{List}
use Prim.Native.Nat.{◌+◌, ◌<◌}
use lib.ListN.{length, get_or, take}
use Rattle.spec.specs.Limits.{max_workers}
use Rattle.spec.specs.Node.Shown.{new_row}
use Rattle.spec.specs.declared.Peer.{Peer}
use Rattle.node_shard.specs.View.{others, below}
use Rattle.node_show_shard.proofs.Grow.{grow_end, grow_me, grow_has, grow_full, grow_new, place-most}
use Rattle.image_show.proofs.RowLaws.{no_copy}
use Rattle.image_header_row.specs.Rows.{peers_at}
use Rattle.image_header_check.proofs.Rows.{peers_long}
use Rattle.calls_show_row.specs.Peers.{peers_in}
use Rattle.calls_show_row.proofs.PeerLaws.{only_none, only_then, peers-full, place_in}
use Rattle.calls_show_row.proofs.peers.grow.Goals as goal

pub loop-i-init : goal.loop-i-init
loop-i-init c = (c.requires.1, only_none c.args.out.now c.args.row, refl, search rules)

pub loop-i-preserved-then-node-me : goal.loop-i-preserved-then-node-me
loop-i-preserved-then-node-me c =
    let a = c.args in let l = c.loop-i in let out = l.out in let row = a.row in let n = l.n in let rs = a.replicas in let lt = c.loop-i-test.true in let o = l.invariant.1.outside.long in let room = c.requires.0 in let g = peers-full out row in let most = l.invariant.0 in
    (most, l.invariant.1, sym (grow_me a.me (take a.synced a.insync) rs a.holders l.i l.invariant.3 lt no_copy (take n (peers_in out row)) c.if-node-me.true) ∙ l.invariant.2, l.invariant.3)

pub overflow_add-row : goal.overflow_add-row
overflow_add-row c =
    let a = c.args in let l = c.loop-i in let out = l.out in let row = a.row in let n = l.n in let rs = a.replicas in let lt = c.loop-i-test.true in let o = l.invariant.1.outside.long in let room = c.requires.0 in let g = peers-full out row in let most = l.invariant.0 in
    omega arith

pub place_of-requires : goal.place_of-requires
place_of-requires c =
    let a = c.args in let l = c.loop-i in let out = l.out in let row = a.row in let n = l.n in let rs = a.replicas in let lt = c.loop-i-test.true in let o = l.invariant.1.outside.long in let room = c.requires.0 in let g = peers-full out row in let most = l.invariant.0 in
    (omega arith, most)

pub loop-i-preserved-then-place_of-n : goal.loop-i-preserved-then-place_of-n
loop-i-preserved-then-place_of-n c =
    let a = c.args in let l = c.loop-i in let out = l.out in let row = a.row in let n = l.n in let rs = a.replicas in let lt = c.loop-i-test.true in let o = l.invariant.1.outside.long in let room = c.requires.0 in let g = peers-full out row in let most = l.invariant.0 in
    (most, l.invariant.1, sym (grow_has a.me (take a.synced a.insync) rs a.holders l.i l.invariant.3 lt no_copy c.if-node-me.false (peers_in out row) n c.place_of.result (omega arith) (place_in out row (others (get_or rs l.i no_copy).node.0) n c.place_of.result c.place_of.ensures) c.if-place_of-n.true) ∙ l.invariant.2, l.invariant.3)

pub shape_of-out-then-n-ge32 : goal.shape_of-out-then-n-ge32
shape_of-out-then-n-ge32 c = c.loop-i.invariant.1.outside.long

pub returns-then-n-ge32 : goal.returns-then-n-ge32
returns-then-n-ge32 c =
    let a = c.args in let l = c.loop-i in let out = l.out in let row = a.row in let n = l.n in let rs = a.replicas in let lt = c.loop-i-test.true in let o = l.invariant.1.outside.long in let room = c.requires.0 in let g = peers-full out row in let most = l.invariant.0 in
    record { most = omega arith; outside = l.invariant.1.outside; fits = λ k. absurd (omega arith); over = λ _. subst (λ (x : List Peer). max_workers < length x) l.invariant.2 (grow_full a.me (take a.synced a.insync) rs a.holders l.i l.invariant.3 lt no_copy c.if-node-me.false (peers_in out row) n c.place_of.result (omega arith) (place_in out row (others (get_or rs l.i no_copy).node.0) n c.place_of.result c.place_of.ensures) c.if-place_of-n.false c.if-n-ge32.true) }

pub in_nodes-requires : goal.in_nodes-requires
in_nodes-requires c = c.requires.3

pub place_for-to-requires : goal.place_for-to-requires
place_for-to-requires c =
    let a = c.args in let l = c.loop-i in let out = l.out in let row = a.row in let n = l.n in let rs = a.replicas in let lt = c.loop-i-test.true in let o = l.invariant.1.outside.long in let room = c.requires.0 in let g = peers-full out row in let most = l.invariant.0 in
    (omega arith, most)

pub put_in-requires : goal.put_in-requires
put_in-requires c =
    let a = c.args in let l = c.loop-i in let out = l.out in let row = a.row in let n = l.n in let rs = a.replicas in let lt = c.loop-i-test.true in let o = l.invariant.1.outside.long in let room = c.requires.0 in let g = peers-full out row in let most = l.invariant.0 in
    let h = c.if-n-ge32.false in let e = c.place_for-to.ensures in let k = peers_long out (row + 256) in let m = place-most (get_or rs l.i no_copy).node.0 (peers_at out (row + 256)) n (omega arith) in (omega arith, omega arith, omega arith)

pub overflow_add-n : goal.overflow_add-n
overflow_add-n c = let h = c.if-n-ge32.false in omega arith

pub loop-i-preserved : goal.loop-i-preserved
loop-i-preserved c =
    let a = c.args in let l = c.loop-i in let out = l.out in let row = a.row in let n = l.n in let rs = a.replicas in let lt = c.loop-i-test.true in let o = l.invariant.1.outside.long in let room = c.requires.0 in let g = peers-full out row in let most = l.invariant.0 in
    let h = c.if-n-ge32.false in (omega arith, only_then a.out.now out _ row l.invariant.1 c.put_in.ensures.becomes, sym (grow_new a.me (take a.synced a.insync) rs a.holders l.i l.invariant.3 lt no_copy c.if-node-me.false (peers_in out row) n c.place_of.result (omega arith) (place_in out row (others (get_or rs l.i no_copy).node.0) n c.place_of.result c.place_of.ensures) c.if-place_of-n.false c.place_for-to.result (place_in out row (below (get_or rs l.i no_copy).node.0) n c.place_for-to.result c.place_for-to.ensures) c.row_new-x.result (c.row_new-x.ensures ∙ ap (new_row _) c.in_nodes.ensures) _ c.put_in.ensures.rows) ∙ l.invariant.2, l.invariant.3)

pub shape_of-out : goal.shape_of-out
shape_of-out c = c.loop-i.invariant.1.outside.long

pub returns : goal.returns
returns c =
    let a = c.args in let l = c.loop-i in let t = c.loop-i-test.false in let most = l.invariant.0 in (most, record { most = omega arith; outside = l.invariant.1.outside; fits = λ k. record { becomes = l.invariant.1; rows = sym (grow_end a.me (take a.synced a.insync) a.replicas a.holders l.i l.invariant.3 (take l.n (peers_in l.out a.row)) (omega arith)) ∙ l.invariant.2 }; over = λ h. absurd (omega arith) })
