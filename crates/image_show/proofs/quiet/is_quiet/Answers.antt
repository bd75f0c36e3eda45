use native.Mathlib.Omega.{arith}
use mathlib.Core.Path.{refl, sym, ◌∙◌}
use mathlib.Core.Bool.{true, false}
use borrow.Author.Tests.{eqb-true}
use Rattle.spec_laws.proofs.Lists.{not_both}
use Rattle.image_header.specs.Image.{node_at}
use Rattle.image_show.proofs.MapRows.{shards-many}
use Rattle.image_header_set.proofs.Place.{few-there}
use Rattle.image_show.proofs.QuietLaws.{quiet_start, quiet_sized, turn_past, turn_on, turn_end}
use Rattle.image_show.proofs.quiet.is_quiet.Goals as goal
use Rattle.image_show.proofs.quiet.is_quiet.Goals.{then-is_listed+else-count-j+else-place_at-j+else-not-row_quiet, else-is_listed}

pub get8-total-requires : goal.get8-total-requires
get8-total-requires c = let p = c.requires.2 in omega arith

pub get8-me-requires : goal.get8-me-requires
get8-me-requires c = let p = c.requires.0.0 in omega arith

pub get8-own-requires : goal.get8-own-requires
get8-own-requires c = let p = c.requires.0.0 in omega arith

pub loop-i-init : goal.loop-i-init
loop-i-init c = (omega arith, omega arith, quiet_start (node_at c.args.header.now) c.args.map.now)

pub overflow_mul-i : goal.overflow_mul-i
overflow_mul-i c =
    let q = c.requires.3.shards.count in let m = shards-many c.args.map.now in let g = c.get8-total.ensures in let lt = c.loop-i-test.true in omega arith

pub overflow_add-i : goal.overflow_add-i
overflow_add-i c =
    let q = c.requires.3.shards.count in let m = shards-many c.args.map.now in let g = c.get8-total.ensures in let lt = c.loop-i-test.true in omega arith

pub shard_at-row-requires : goal.shard_at-row-requires
shard_at-row-requires c =
    let p = c.requires.2 in let q = c.requires.3.shards.count in let m = shards-many c.args.map.now in let g = c.get8-total.ensures in let lt = c.loop-i-test.true in omega arith

pub is_listed-requires : goal.is_listed-requires
is_listed-requires c =
    let m = shards-many c.args.map.now in let g = c.get8-total.ensures in let lt = c.loop-i-test.true in (quiet_sized (node_at c.args.header.now) c.args.map.now c.requires.3 c.loop-i.j c.loop-i.i c.loop-i.invariant.2 (omega arith) c.shard_at-row.result c.shard_at-row.ensures).held

pub returns-then-count-j : goal.returns-then-count-j
returns-then-count-j c = λ e. not_both false e refl

pub place_at-requires : goal.place_at-requires
place_at-requires c = c.requires.0

pub returns-then-place_at-j : goal.returns-then-place_at-j
returns-then-place_at-j c = λ e. not_both false e refl

pub overflow_mul-j : goal.overflow_mul-j
overflow_mul-j c = let f = c.requires.0.1 in let lt = c.if-count-j.false in omega arith

pub overflow_add-j : goal.overflow_add-j
overflow_add-j c = let f = c.requires.0.1 in let lt = c.if-count-j.false in omega arith

pub row_quiet-requires : goal.row_quiet-requires
row_quiet-requires c =
    let p = c.requires.0.0 in let f = c.requires.0.1 in let lt = c.if-count-j.false in let m = shards-many c.args.map.now in let g = c.get8-total.ensures in let go = c.loop-i-test.true in (omega arith, few-there c.args.header.now c.args.count c.requires.0 c.loop-i.j lt c.requires.1, quiet_sized (node_at c.args.header.now) c.args.map.now c.requires.3 c.loop-i.j c.loop-i.i c.loop-i.invariant.2 (omega arith) c.shard_at-row.result c.shard_at-row.ensures)

pub returns-then-not-row_quiet : goal.returns-then-not-row_quiet
returns-then-not-row_quiet c = λ e. not_both false e refl

pub overflow_add-j-then-is_listed : goal.overflow_add-j-then-is_listed
overflow_add-j-then-is_listed c = let f = c.requires.0.1 in let lt = c.if-count-j.false in omega arith

pub loop-i-preserved : goal.loop-i-preserved
loop-i-preserved c =
    let m = shards-many c.args.map.now in let g = c.get8-total.ensures in let go = c.loop-i-test.true in
    elim c.if-is_listed.branch [
      | then-is_listed+else-count-j+else-place_at-j+else-not-row_quiet w ↦ let lt = w.if-count-j.false in rw w.j-is (omega arith, omega arith, turn_on c.args.header.now c.args.map.now c.args.count c.requires.0 c.requires.3 c.loop-i.j c.loop-i.i c.loop-i.invariant.2 (omega arith) c.shard_at-row.result c.shard_at-row.ensures c.get8-me.result c.get8-own.result c.get8-me.ensures c.get8-own.ensures (sym c.is_listed.ensures ∙ w.if-is_listed.true) lt w.place_at.result w.place_at.ensures w.if-place_at-j.false (w.row_quiet.ensures (w.if-not-row_quiet.false)))
      | else-is_listed w ↦ rw w.j-is (omega arith, c.loop-i.invariant.1, turn_past c.args.header.now c.args.map.now c.args.count c.requires.0 c.requires.3 c.loop-i.j c.loop-i.i c.loop-i.invariant.2 (omega arith) c.shard_at-row.result c.shard_at-row.ensures c.get8-me.result c.get8-own.result c.get8-me.ensures c.get8-own.ensures (sym c.is_listed.ensures ∙ w.if-is_listed.false))
    ]

pub returns : goal.returns
returns c =
    λ e. let m = shards-many c.args.map.now in let g = c.get8-total.ensures in let go = c.loop-i-test.false in turn_end c.args.header.now c.args.map.now c.args.count c.requires.0 c.requires.3 c.loop-i.j c.loop-i.i c.loop-i.invariant.2 (omega arith) (eqb-true _ _ e)
