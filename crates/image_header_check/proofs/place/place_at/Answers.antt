use borrow.Author.Rules.{rules}
use native.Mathlib.Omega.{arith}
use mathlib.Core.Path.{◌≡◌, sym, ◌∙◌, ap}
use Prim.Native.Nat.{◌+◌, ◌*◌}
use mathlib.Core.Bool.{not}
use Rattle.spec.specs.Keys.{same_key}
use Rattle.map_tables.specs.Names.{view_key}
use Rattle.node_header.specs.View.{no_held_row, other_key}
use Rattle.node_shard.proofs.Loops.{lead-on, lead_stop, lead-end}
use Rattle.image_parts.specs.Parts.{key_at}
use Rattle.image_header.specs.Image.{node_at}
use Rattle.image_header_check.proofs.Rows.{held_long, row_at, other-is}
use Rattle.image_header_check.proofs.place.place_at.Goals as goal

pub returns-then-same_key : goal.returns-then-same_key
returns-then-same_key c =
    let a = c.args in
    let the-pre = c.requires in
    let l = c.loop-i in
    let s = a.s.now in
    let i = l.i in
    let n = a.count in
    let p = other_key (view_key a.key) in
    let k = the-pre.1 in
    let g = held_long s in
    let lt = c.loop-i-test.true in
    let r : c.same_key.result ≡ same_key (view_key (key_at s (48 + 1280 * i))) (view_key a.key) = c.same_key.ensures ∙ (rw c.key_at-k.ensures) in
    lead_stop p (node_at s).held n i (omega arith) l.invariant.1 no_held_row (ap p (row_at s n (the-pre) i no_held_row lt) ∙ other-is s (48 + 1280 * i) (view_key a.key) ∙ ap not (sym r ∙ c.if-same_key.true)) lt

pub loop-i-preserved : goal.loop-i-preserved
loop-i-preserved c =
    let a = c.args in
    let the-pre = c.requires in
    let l = c.loop-i in
    let s = a.s.now in
    let i = l.i in
    let n = a.count in
    let p = other_key (view_key a.key) in
    let k = the-pre.1 in
    let g = held_long s in
    let lt = c.loop-i-test.true in
    let r : c.same_key.result ≡ same_key (view_key (key_at s (48 + 1280 * i))) (view_key a.key) = c.same_key.ensures ∙ (rw c.key_at-k.ensures) in
    (omega arith, lead-on p (node_at s).held n i (omega arith) l.invariant.1 no_held_row (ap p (row_at s n (the-pre) i no_held_row lt) ∙ other-is s (48 + 1280 * i) (view_key a.key) ∙ ap not (sym r ∙ c.if-same_key.false)) lt)

pub returns : goal.returns
returns c =
    let a = c.args in
    let s = a.s.now in
    let k = c.requires.1 in
    let g = held_long s in
    let e : c.args.count ≡ c.loop-i.i = omega arith in
    e ∙ lead-end (other_key (view_key a.key)) (node_at s).held a.count c.loop-i.i (omega arith) c.loop-i.invariant.1 (search rules)
