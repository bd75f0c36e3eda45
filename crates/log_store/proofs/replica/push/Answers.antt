use native.Mathlib.Omega.{arith}
use Rattle.log_store.proofs.Push.{pushed_set, pushed_drop}
use Rattle.log_store.proofs.Facts.{facts, room_of_lem, stored-most, rows-rising}
use Rattle.log_store.proofs.replica.push.Goals as goal

pub write_entry-requires : goal.write_entry-requires
write_entry-requires c =
    let p = c.requires in
    (room_of_lem _ (facts _ p.1) p.0, p.2, p.3.short, p.3.domain)

pub set_row-requires : goal.set_row-requires
set_row-requires c =
    let p = c.requires in
    let m = stored-most _ (facts _ p.1) p.0 in
    (omega (arith, p.0.keys, p.2), omega (arith, p.0.places, p.2))

pub returns-then-code-eq1 : goal.returns-then-code-eq1
returns-then-code-eq1 c =
    let p = c.requires in
    pushed_set _ p.0 p.1 p.2 _ _ _ _ p.3 _ _ _ _ c.write_entry.ensures c.if-code-eq1.true c.set_row.ensures

pub drop_row-requires : goal.drop_row-requires
drop_row-requires c =
    let p = c.requires in
    let m = stored-most _ (facts _ p.1) p.0 in
    (omega (arith, p.0.keys, p.2), omega (arith, p.0.places, p.2), rows-rising _ (facts _ p.1))

pub returns : goal.returns
returns c =
    let p = c.requires in
    pushed_drop _ p.0 p.1 p.2 _ _ _ _ p.3 _ _ _ _ c.write_entry.ensures c.if-code-eq1.false c.drop_row.ensures
