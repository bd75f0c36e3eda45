use native.Mathlib.Omega.{arith}
use mathlib.Core.Path.{◌≡◌, sym, ◌∙◌, ap}
use mathlib.Core.List.{List}
use Prim.Native.Nat.{ℕ, ◌+◌, ◌≤◌, ◌<◌}
use lib.ListN.{take}
use mathlib.Core.Bool.{Bool, false}
use Rattle.spec.specs.Lists.{◌and◌, every, rising}
use Rattle.spec.specs.Node.Shards.{row_below}
use Rattle.spec.specs.Node.WellFormed.{ack_fits}
use Rattle.spec.specs.declared.Peer.{Peer}
use Rattle.node_shard.proofs.Formed.{formed-holders, formed-last, formed-count, formed-rows}
use Rattle.node_header.proofs.Formed.{kept_long, kept_over, kept-rest}
use Rattle.image_header_row.specs.Rows.{peers_at, held_row_at}
use Rattle.image_header_check.proofs.Rows.{len_is, stored_is, last-is, holders-is, count-is, peers-is}
use Rattle.image_header_check.proofs.formed.row_fits.Goals as goal

pub returns-then-get8-gt32 : goal.returns-then-get8-gt32
returns-then-get8-gt32 c =
    let the-args = c.args in
    let s = the-args.s.now in
    let at = the-args.at in
    let a = len_is s at in
    let e = c.get8.ensures in
    let t = c.if-get8-gt32.true in
    let h : 32 < (held_row_at s at).key.collection.len = omega arith in
    kept_long (held_row_at s at) h

pub returns-then-get8-gt1024 : goal.returns-then-get8-gt1024
returns-then-get8-gt1024 c =
    let the-args = c.args in
    let s = the-args.s.now in
    let at = the-args.at in
    let a = len_is s at in
    let b = stored_is s at in
    let e = c.get8.ensures in
    let t = c.if-get8-gt32.false in
    let f = c.get8-2.ensures in
    let u = c.if-get8-gt1024.true in
    let g : (held_row_at s at).key.collection.len ≤ 32 = omega arith in
    let h : 1024 < (held_row_at s at).stored = omega arith in
    kept_over (held_row_at s at) g h

pub returns-then-get8-gt8 : goal.returns-then-get8-gt8
returns-then-get8-gt8 c =
    let the-args = c.args in
    let s = the-args.s.now in
    let at = the-args.at in
    let a = len_is s at in
    let b = stored_is s at in
    let d = holders-is s at in
    let e = c.get8.ensures in
    let t = c.if-get8-gt32.false in
    let f = c.get8-2.ensures in
    let u = c.if-get8-gt1024.false in
    let v = c.get8-3.ensures in
    let w = c.if-get8-gt8.true in
    let g : (held_row_at s at).key.collection.len ≤ 32 = omega arith in
    let h : (held_row_at s at).stored ≤ 1024 = omega arith in
    let k : 8 < (held_row_at s at).held.holders = omega arith in
    kept-rest (held_row_at s at) g h false (formed-holders (held_row_at s at).held k)

pub returns-then-get8-gt1024-2 : goal.returns-then-get8-gt1024-2
returns-then-get8-gt1024-2 c =
    let the-args = c.args in
    let s = the-args.s.now in
    let at = the-args.at in
    let a = len_is s at in
    let b = stored_is s at in
    let d = holders-is s at in
    let l = last-is s at in
    let e = c.get8.ensures in
    let t = c.if-get8-gt32.false in
    let f = c.get8-2.ensures in
    let u = c.if-get8-gt1024.false in
    let v = c.get8-3.ensures in
    let w = c.if-get8-gt8.false in
    let x = c.get8-4.ensures in
    let y = c.if-get8-gt1024-2.true in
    let g : (held_row_at s at).key.collection.len ≤ 32 = omega arith in
    let h : (held_row_at s at).stored ≤ 1024 = omega arith in
    let k : (held_row_at s at).held.holders ≤ 8 = omega arith in
    let m : 1024 < (held_row_at s at).held.last = omega arith in
    kept-rest (held_row_at s at) g h false (formed-last (held_row_at s at).held k m)

pub returns-then-n-gt32 : goal.returns-then-n-gt32
returns-then-n-gt32 c =
    let the-args = c.args in
    let s = the-args.s.now in
    let at = the-args.at in
    let a = len_is s at in
    let b = stored_is s at in
    let d = holders-is s at in
    let l = last-is s at in
    let n = count-is s at in
    let e = c.get8.ensures in
    let t = c.if-get8-gt32.false in
    let f = c.get8-2.ensures in
    let u = c.if-get8-gt1024.false in
    let v = c.get8-3.ensures in
    let w = c.if-get8-gt8.false in
    let x = c.get8-4.ensures in
    let y = c.if-get8-gt1024-2.false in
    let z = c.get8-n.ensures in
    let q = c.if-n-gt32.true in
    let g : (held_row_at s at).key.collection.len ≤ 32 = omega arith in
    let h : (held_row_at s at).stored ≤ 1024 = omega arith in
    let k : (held_row_at s at).held.holders ≤ 8 = omega arith in
    let m : (held_row_at s at).held.last ≤ 1024 = omega arith in
    let o : 32 < (held_row_at s at).held.count = omega arith in
    kept-rest (held_row_at s at) g h false (formed-count (held_row_at s at).held k m o)

pub rows_rise-requires : goal.rows_rise-requires
rows_rise-requires c =
    let p = c.requires in
    let k = c.if-n-gt32.false in (omega arith, omega arith)

pub acks_fit-requires : goal.acks_fit-requires
acks_fit-requires c =
    let p = c.requires in
    let k = c.if-n-gt32.false in (omega arith, omega arith)

pub returns : goal.returns
returns c =
    let the-args = c.args in
    let the-get85 = c.get8-n in
    let the-rows-rise = c.rows_rise in
    let s = the-args.s.now in
    let at = the-args.at in
    let a = len_is s at in
    let b = stored_is s at in
    let d = holders-is s at in
    let l = last-is s at in
    let n = count-is s at in
    let e = c.get8.ensures in
    let t = c.if-get8-gt32.false in
    let f = c.get8-2.ensures in
    let u = c.if-get8-gt1024.false in
    let v = c.get8-3.ensures in
    let w = c.if-get8-gt8.false in
    let x = c.get8-4.ensures in
    let y = c.if-get8-gt1024-2.false in
    let z = the-get85.ensures in
    let q = c.if-n-gt32.false in
    let g : (held_row_at s at).key.collection.len ≤ 32 = omega arith in
    let h : (held_row_at s at).stored ≤ 1024 = omega arith in
    let k : (held_row_at s at).held.holders ≤ 8 = omega arith in
    let m : (held_row_at s at).held.last ≤ 1024 = omega arith in
    let o : (held_row_at s at).held.count ≤ 32 = omega arith in
    let i : the-get85.result ≡ (held_row_at s at).held.count = z ∙ sym n in
    let r : the-rows-rise.result ≡ rising row_below (take (held_row_at s at).held.count (held_row_at s at).held.peers) = the-rows-rise.ensures ∙ ap (λ (j : ℕ). rising row_below (take j (peers_at s (at + 256)))) i ∙ ap (λ (j : List Peer). rising row_below (take (held_row_at s at).held.count j)) (sym (peers-is s at)) in
    let fit : c.acks_fit.result ≡ every ack_fits (take (held_row_at s at).held.count (held_row_at s at).held.peers) = c.acks_fit.ensures ∙ ap (λ (j : ℕ). every ack_fits (take j (peers_at s (at + 256)))) i ∙ ap (λ (j : List Peer). every ack_fits (take (held_row_at s at).held.count j)) (sym (peers-is s at)) in
    kept-rest (held_row_at s at) g h c.both.result (formed-rows (held_row_at s at).held k m o c.both.result (c.both.ensures ∙ ap (λ (j : Bool). j and c.acks_fit.result) r ∙ ap (λ (j : Bool). rising row_below (take (held_row_at s at).held.count (held_row_at s at).held.peers) and j) fit))
