use borrow.Author.Rules.{rules}
use native.Mathlib.Omega.{arith}
use mathlib.Core.Path.{◌≡◌, sym, ◌∙◌, ap}
use Prim.Native.Nat.{◌+◌, ◌*◌}
use Rattle.spec.specs.Keys.{key_below}
use Rattle.node_shard.proofs.Loops.{lead-on, lead_stop, lead-end}
use Rattle.map_tables.specs.Names.{view_key}
use Rattle.node_header.specs.View.{no_held_row}
use Rattle.node_header.specs.Grow.{below_key}
use Rattle.image_parts.specs.Parts.{key_at}
use Rattle.image_header.specs.Image.{node_at}
use Rattle.image_header_check.proofs.Rows.{held_long, row_at}
use Rattle.image_header_begin.proofs.RowLaws.{below_key_lem}
use Rattle.image_header_begin.proofs.places.key_place.Goals as goal

pub key_at-k-requires : goal.key_at-k-requires
key_at-k-requires c = let p = c.requires.0 in let k = c.requires.1 in let lt = c.loop-i-test.true in omega arith

pub returns-then-not-key_below : goal.returns-then-not-key_below
returns-then-not-key_below c =
    let a = c.args in let s = a.s.now in let l = c.loop-i in let i = l.i in let n = a.count in let p = below_key (view_key a.key) in let k = c.requires.1 in let g = held_long s in let lt = c.loop-i-test.true in
    let r : c.key_below.result ≡ key_below (view_key (key_at s (48 + 1280 * i))) (view_key a.key) = c.key_below.ensures ∙ (rw c.key_at-k.ensures) in
    lead_stop p (node_at s).held n i (omega arith) l.invariant.1 no_held_row (ap p (row_at s n c.requires i no_held_row lt) ∙ below_key_lem s (48 + 1280 * i) (view_key a.key) ∙ sym r ∙ c.if-not-key_below.true) lt

pub loop-i-preserved : goal.loop-i-preserved
loop-i-preserved c =
    let a = c.args in let s = a.s.now in let l = c.loop-i in let i = l.i in let n = a.count in let p = below_key (view_key a.key) in let k = c.requires.1 in let g = held_long s in let lt = c.loop-i-test.true in
    let r : c.key_below.result ≡ key_below (view_key (key_at s (48 + 1280 * i))) (view_key a.key) = c.key_below.ensures ∙ (rw c.key_at-k.ensures) in
    (omega arith, lead-on p (node_at s).held n i (omega arith) l.invariant.1 no_held_row (ap p (row_at s n c.requires i no_held_row lt) ∙ below_key_lem s (48 + 1280 * i) (view_key a.key) ∙ sym r ∙ c.if-not-key_below.false) lt)

pub returns : goal.returns
returns c =
    let a = c.args in let s = a.s.now in let k = c.requires.1 in let g = held_long s in let e : a.count ≡ c.loop-i.i = omega arith in
    e ∙ lead-end (below_key (view_key a.key)) (node_at s).held a.count c.loop-i.i (omega arith) c.loop-i.invariant.1 (search rules)
