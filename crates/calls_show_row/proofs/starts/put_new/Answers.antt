use native.Mathlib.Omega.{arith}
use mathlib.Core.Path.{sym, ap, subst}
use mathlib.Core.List.{List}
use Prim.Native.Nat.{◌+◌, ◌*◌, ◌≤◌}
use lib.ListN.{length, get_or, take, length-take}
use Rattle.spec.specs.Lists.{collect}
use Rattle.spec.specs.Node.Shown.{is_new, worker_for, Worker}
use Rattle.map_tables.specs.Names.{view_key}
use Rattle.node_shard.specs.View.{no_peer}
use Rattle.image_header_row.specs.Rows.{peers_at}
use Rattle.image_header_check.proofs.Rows.{peers_long, count-is}
use Rattle.calls_show_row.specs.Leave.{PutsNew}
use Rattle.calls_show_row.proofs.NewsLaws.{collect-takes, collect-passes, collect-ends, collect-most, is-new, is_known, node-is}
use Rattle.calls_show_row.proofs.StartLaws.{putting_start, putting_same, putting_step, putting_end, worker_as, starts_are}
use Rattle.calls_show_row.proofs.starts.put_new.Goals as goal
use Rattle.calls_show_row.proofs.starts.put_new.Goals.{then-was-place_of, else-was-place_of}

pub key_at-key-requires : goal.key_at-key-requires
key_at-key-requires c = let r = c.requires.2 in omega arith

pub role_at-role-requires : goal.role_at-role-requires
role_at-role-requires c = let r = c.requires.2 in omega arith

pub get8-count-requires : goal.get8-count-requires
get8-count-requires c = let r = c.requires.2 in omega arith

pub loop-i-init : goal.loop-i-init
loop-i-init c =
    let a = c.args in let c0 = c.get8-count.ensures in let few = c.requires.3 in let n = count-is a.t.now 0 in
    let e = starts_are (peers_at a.s.now a.at) a.t.now a.was a.metric c.key_at-key.result c.role_at-role.result c.epoch_of-epoch.result.0 c.get8-count.result c.key_at-key.ensures c.role_at-role.ensures c.epoch_of-epoch.ensures c.get8-count.ensures in
    let m = collect-most (is_new (take a.was (peers_at a.s.now a.at))) (worker_for (view_key c.key_at-key.result) c.epoch_of-epoch.result.0 a.metric) (take c.get8-count.result (peers_at a.t.now 256)) in
    let k = length-take c.get8-count.result (peers_at a.t.now 256) in
    (omega arith, subst (λ (l : List Worker). a.to + 54 * length l ≤ length a.starts.now) e c.requires.5, putting_start a.starts.now a.to (collect (is_new (take a.was (peers_at a.s.now a.at))) (worker_for (view_key c.key_at-key.result) c.epoch_of-epoch.result.0 a.metric) (take c.get8-count.result (peers_at a.t.now 256))))

pub overflow_mul-i : goal.overflow_mul-i
overflow_mul-i c = let l = c.loop-i-test.true in let k : c.get8-count.result ≤ 32 = (let e = c.get8-count.ensures in let few = c.requires.3 in let n = count-is c.args.t.now 0 in omega arith) in omega arith

pub overflow_add-i : goal.overflow_add-i
overflow_add-i c = let l = c.loop-i-test.true in let k : c.get8-count.result ≤ 32 = (let e = c.get8-count.ensures in let few = c.requires.3 in let n = count-is c.args.t.now 0 in omega arith) in omega arith

pub get8-peer-requires : goal.get8-peer-requires
get8-peer-requires c = let l = c.loop-i-test.true in let k : c.get8-count.result ≤ 32 = (let e = c.get8-count.ensures in let few = c.requires.3 in let n = count-is c.args.t.now 0 in omega arith) in let r = c.requires.2 in omega arith

pub place_of-requires : goal.place_of-requires
place_of-requires c = (c.requires.0, c.requires.1)

pub put_worker-requires : goal.put_worker-requires
put_worker-requires c =
    let a = c.args in let l = c.loop-i in let t = c.loop-i-test.true in let k : c.get8-count.result ≤ 32 = (let e = c.get8-count.ensures in let few = c.requires.3 in let n = count-is c.args.t.now 0 in omega arith) in let room = l.invariant.1 in let few = l.invariant.0 in let low = c.requires.4 in let g = peers_long a.t.now 256 in let u = l.invariant.2.0 in let v = l.invariant.2.1 in
    let e = collect-takes (is_new (take a.was (peers_at a.s.now a.at))) (worker_for (view_key c.key_at-key.result) c.epoch_of-epoch.result.0 a.metric) (peers_at a.t.now 256) c.get8-count.result l.i no_peer (omega arith) t (is-new a.s.now a.at a.was c.requires.1 a.t.now 256 l.i (omega arith) c.get8-peer.result c.get8-peer.ensures c.place_of.result c.place_of.ensures c.if-was-place_of.true) in
    let w = ap (λ (x : List Worker). length x) e in omega arith

pub overflow_add-next : goal.overflow_add-next
overflow_add-next c =
    let a = c.args in let l = c.loop-i in let t = c.loop-i-test.true in let k : c.get8-count.result ≤ 32 = (let e = c.get8-count.ensures in let few = c.requires.3 in let n = count-is c.args.t.now 0 in omega arith) in let room = l.invariant.1 in let few = l.invariant.0 in let low = c.requires.4 in let g = peers_long a.t.now 256 in let u = l.invariant.2.0 in let v = l.invariant.2.1 in
    let e = collect-takes (is_new (take a.was (peers_at a.s.now a.at))) (worker_for (view_key c.key_at-key.result) c.epoch_of-epoch.result.0 a.metric) (peers_at a.t.now 256) c.get8-count.result l.i no_peer (omega arith) t (is-new a.s.now a.at a.was c.requires.1 a.t.now 256 l.i (omega arith) c.get8-peer.result c.get8-peer.ensures c.place_of.result c.place_of.ensures c.if-was-place_of.true) in
    let w = ap (λ (x : List Worker). length x) e in omega arith

pub loop-i-preserved : goal.loop-i-preserved
loop-i-preserved c =
    let a = c.args in let l = c.loop-i in let t = c.loop-i-test.true in let k : c.get8-count.result ≤ 32 = (let e = c.get8-count.ensures in let few = c.requires.3 in let n = count-is c.args.t.now 0 in omega arith) in let room = l.invariant.1 in let few = l.invariant.0 in let low = c.requires.4 in let g = peers_long a.t.now 256 in let u = l.invariant.2.0 in let v = l.invariant.2.1 in
    elim c.if-was-place_of.branch [
      | then-was-place_of w ↦
          let e = collect-takes (is_new (take a.was (peers_at a.s.now a.at))) (worker_for (view_key c.key_at-key.result) c.epoch_of-epoch.result.0 a.metric) (peers_at a.t.now 256) c.get8-count.result l.i no_peer (omega arith) t (is-new a.s.now a.at a.was c.requires.1 a.t.now 256 l.i (omega arith) c.get8-peer.result c.get8-peer.ensures c.place_of.result c.place_of.ensures w.if-was-place_of.true) in
          (few, room, rw (w.starts-is, w.next-is) (putting_step a.starts.now a.to (collect (is_new (take a.was (peers_at a.s.now a.at))) (worker_for (view_key c.key_at-key.result) c.epoch_of-epoch.result.0 a.metric) (take c.get8-count.result (peers_at a.t.now 256))) l.starts _ l.next _ _ _ e l.invariant.2 (worker_as c.key_at-key.result c.epoch_of-epoch.result.0 c.get8-peer.result a.metric (get_or (peers_at a.t.now 256) l.i no_peer) (node-is a.s.now a.at a.was c.requires.1 a.t.now 256 l.i (omega arith) c.get8-peer.result c.get8-peer.ensures c.place_of.result c.place_of.ensures) w.put_worker.ensures)))
      | else-was-place_of w ↦
          let e = collect-passes (is_new (take a.was (peers_at a.s.now a.at))) (worker_for (view_key c.key_at-key.result) c.epoch_of-epoch.result.0 a.metric) (peers_at a.t.now 256) c.get8-count.result l.i no_peer (omega arith) t (is_known a.s.now a.at a.was c.requires.1 a.t.now 256 l.i (omega arith) c.get8-peer.result c.get8-peer.ensures c.place_of.result c.place_of.ensures w.if-was-place_of.false) in
          (few, room, rw (w.starts-is, w.next-is) (putting_same a.starts.now a.to (collect (is_new (take a.was (peers_at a.s.now a.at))) (worker_for (view_key c.key_at-key.result) c.epoch_of-epoch.result.0 a.metric) (take c.get8-count.result (peers_at a.t.now 256))) l.starts l.next _ _ e l.invariant.2))
    ]

pub shape_of-starts : goal.shape_of-starts
shape_of-starts c = c.loop-i.invariant.2.0

pub returns : goal.returns
returns c =
    let a = c.args in let l = c.loop-i in let t = c.loop-i-test.false in let k : c.get8-count.result ≤ 32 = (let e = c.get8-count.ensures in let few = c.requires.3 in let n = count-is c.args.t.now 0 in omega arith) in let g = peers_long a.t.now 256 in
    let e = starts_are (peers_at a.s.now a.at) a.t.now a.was a.metric c.key_at-key.result c.role_at-role.result c.epoch_of-epoch.result.0 c.get8-count.result c.key_at-key.ensures c.role_at-role.ensures c.epoch_of-epoch.ensures c.get8-count.ensures in
    subst (λ (x : List Worker). PutsNew a.starts.now l.starts a.to x l.next) (sym e)
    (putting_end a.starts.now a.to (collect (is_new (take a.was (peers_at a.s.now a.at))) (worker_for (view_key c.key_at-key.result) c.epoch_of-epoch.result.0 a.metric) (take c.get8-count.result (peers_at a.t.now 256))) l.starts l.next _ (collect-ends (is_new (take a.was (peers_at a.s.now a.at))) (worker_for (view_key c.key_at-key.result) c.epoch_of-epoch.result.0 a.metric) (peers_at a.t.now 256) c.get8-count.result l.i no_peer (omega arith) t) l.invariant.0 l.invariant.2)
