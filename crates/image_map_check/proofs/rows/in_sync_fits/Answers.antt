use native.Mathlib.Omega.{arith}
use mathlib.Core.Path.{refl}
use Rattle.image_map_check.proofs.Sync.{synced_start, synced_stop, synced_on, synced_end}
use Rattle.image_map_check.proofs.rows.in_sync_fits.Goals as goal

pub loop-i-init : goal.loop-i-init
loop-i-init c = (omega arith, refl, refl, refl, c.requires.2, synced_start c.args.s.now c.args.at)

pub returns-then-not-id_follows : goal.returns-then-not-id_follows
returns-then-not-id_follows c =
    synced_stop c.args.s.now c.args.at c.args.held c.args.count c.requires.3 c.requires.4 c.requires.2 c.loop-i.i c.loop-i.last c.loop-i.invariant.1 c.loop-i.invariant.5 c.loop-i-test.true _ _ c.get8-before.ensures c.get8-id.ensures _ c.id_follows.ensures (c.if-not-id_follows.true)

pub loop-i-preserved : goal.loop-i-preserved
loop-i-preserved c =
    (omega arith, omega arith, c.loop-i.invariant.2, c.loop-i.invariant.3, c.requires.2, synced_on c.args.s.now c.args.at c.args.held c.args.count c.requires.3 c.requires.4 c.requires.2 c.loop-i.i c.loop-i.last c.loop-i.invariant.1 c.loop-i.invariant.5 c.loop-i-test.true _ _ c.get8-before.ensures c.get8-id.ensures _ c.id_follows.ensures (c.if-not-id_follows.false))

pub returns : goal.returns
returns c =
    synced_end c.args.s.now c.args.at c.args.held c.args.count c.requires.3 c.requires.4 c.requires.2 c.loop-i.i c.loop-i.last c.loop-i.invariant.1 c.loop-i.invariant.5 c.loop-i-test.false
