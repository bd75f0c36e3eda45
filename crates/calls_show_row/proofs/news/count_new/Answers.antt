use native.Mathlib.Omega.{arith}
use mathlib.Core.Path.{ap}
use mathlib.Core.List.{List}
use lib.ListN.{length, take}
use Rattle.spec.specs.Node.Client.{node_of}
use Rattle.spec.specs.Node.Shown.{is_new}
use Rattle.node_shard.specs.View.{no_peer}
use Rattle.image_header_row.specs.Rows.{peers_at}
use Rattle.image_header_check.proofs.Rows.{peers_long}
use Rattle.calls_show_row.proofs.NewsLaws.{collect-takes, collect-passes, collect-ends, is-new, is_known}
use Rattle.calls_show_row.proofs.news.count_new.Goals as goal
use Rattle.calls_show_row.proofs.news.count_new.Goals.{then-was-place_of, else-was-place_of}

pub loop-i-init : goal.loop-i-init
loop-i-init c = (omega arith, omega arith)

pub overflow_mul-i : goal.overflow_mul-i
overflow_mul-i c = let l = c.loop-i-test.true in let k = c.requires.3 in omega arith

pub overflow_add-to : goal.overflow_add-to
overflow_add-to c = let l = c.loop-i-test.true in let k = c.requires.3 in let r = c.requires.2 in omega arith

pub get8-requires : goal.get8-requires
get8-requires c = let l = c.loop-i-test.true in let k = c.requires.3 in let r = c.requires.2 in omega arith

pub place_of-requires : goal.place_of-requires
place_of-requires c = (c.requires.0, c.requires.1)

pub loop-i-preserved : goal.loop-i-preserved
loop-i-preserved c =
    let a = c.args in let l = c.loop-i in let t = c.loop-i-test.true in let k = c.requires.3 in let g = peers_long a.t.now a.to in let v = l.invariant.1 in
    elim c.if-was-place_of.branch [
      | then-was-place_of w ↦
          let e = collect-takes (is_new (take a.was (peers_at a.s.now a.at))) node_of (peers_at a.t.now a.to) a.count l.i no_peer (omega arith) t (is-new a.s.now a.at a.was c.requires.1 a.t.now a.to l.i (omega arith) c.get8.result c.get8.ensures c.place_of.result c.place_of.ensures w.if-was-place_of.true) in
          let u = ap (λ (x : List _). length x) e in (omega arith, omega arith)
      | else-was-place_of w ↦
          let e = collect-passes (is_new (take a.was (peers_at a.s.now a.at))) node_of (peers_at a.t.now a.to) a.count l.i no_peer (omega arith) t (is_known a.s.now a.at a.was c.requires.1 a.t.now a.to l.i (omega arith) c.get8.result c.get8.ensures c.place_of.result c.place_of.ensures w.if-was-place_of.false) in
          let u = ap (λ (x : List _). length x) e in (omega arith, omega arith)
    ]

pub returns : goal.returns
returns c =
    let a = c.args in let l = c.loop-i in let t = c.loop-i-test.false in let k = c.requires.3 in let g = peers_long a.t.now a.to in let v = l.invariant.1 in
    let e = collect-ends (is_new (take a.was (peers_at a.s.now a.at))) node_of (peers_at a.t.now a.to) a.count l.i no_peer (omega arith) t in
    let w = ap (λ (x : List _). length x) e in omega arith
