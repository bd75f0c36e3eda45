use native.Mathlib.Omega.{arith}
use mathlib.Core.Path.{refl}
use Rattle.log_store.proofs.Adopting.{aligned_older, aligned-same, aligned-cut, aligned-whole}
use Rattle.log_store.proofs.Arrived.{count_most}
use Rattle.log_store.proofs.replica.adopt.Goals as goal

pub returns-then-epoch-own : goal.returns-then-epoch-own
returns-then-epoch-own c = let p = c.requires in aligned_older _ p.0 p.1 _ _ _ _ _ refl c.if-epoch-own.true

pub returns-then-epoch-own-2 : goal.returns-then-epoch-own-2
returns-then-epoch-own-2 c = let p = c.requires in aligned-same _ p.0 p.1 _ _ _ _ _ refl c.if-epoch-own-2.true

pub kept-kept-requires : goal.kept-kept-requires
kept-kept-requires c =
    let p = c.requires in
    let m = count_most _ p.1 in
    (omega (arith, p.0.epochs), omega (arith, p.0.offsets), p.2, p.3)

pub rebuild-rows-requires : goal.rebuild-rows-requires
rebuild-rows-requires c =
    let p = c.requires in
    let m = count_most _ p.1 in
    let h = c.if-kept-count.true in
    (omega (arith, p.0.offsets), omega (arith, p.0.ids), omega (arith, p.0.codes), omega (arith, p.0.keys), omega (arith, p.0.places))

pub returns-then-kept-count : goal.returns-then-kept-count
returns-then-kept-count c =
    let a = c.args in
    let p = c.requires in
    let u = c.if-epoch-own-2.false in
    let v = c.if-epoch-own.false in
    aligned-cut _ p.0 p.1 _ _ _ _ (omega arith) _ (c.kept-kept.ensures a.ids.now a.codes.now a.lengths.now a.floats.now)
    _ _ _ _ refl c.if-kept-count.true c.rebuild-rows.ensures

pub returns : goal.returns
returns c =
    let a = c.args in
    let p = c.requires in
    let u = c.if-epoch-own-2.false in
    let v = c.if-epoch-own.false in
    aligned-whole _ p.0 p.1 _ _ _ _ (omega arith) _ (c.kept-kept.ensures a.ids.now a.codes.now a.lengths.now a.floats.now)
    _ refl c.if-kept-count.false
