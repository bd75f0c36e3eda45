use mathlib.Core.Path.{refl}
use Rattle.log_store.proofs.Arrived.{count_most}
use Rattle.log_arrive.specs.Parts.{entries_in}
use Rattle.log_arrive.proofs.Batch.{grows_last, fitting, overflowing, batch-none, batch_some, copies-none, copies_stale, copies-full, copies-all}
use Rattle.log_arrive.proofs.copy.copy.Goals as goal

pub returns-then-p-eq0 : goal.returns-then-p-eq0
returns-then-p-eq0 c =
    let p = c.requires in let b = c.args.s.now in let r = c.args.p in copies-none _ _ _ _ p.0 p.1 (batch-none b r c.if-p-eq0.true) _ refl

pub returns-then-epoch-own : goal.returns-then-epoch-own
returns-then-epoch-own c =
    let p = c.requires in let b = c.args.s.now in let r = c.args.p in copies_stale _ _ _ _ p.0 p.1 (batch_some b r c.if-p-eq0.false) c.if-epoch-own.true _ refl

pub grows_to-last-requires : goal.grows_to-last-requires
grows_to-last-requires c = let p = c.requires in (p.2, count_most _ p.1)

pub returns-then-last-gt1024 : goal.returns-then-last-gt1024
returns-then-last-gt1024 c =
    let p = c.requires in let b = c.args.s.now in let r = c.args.p in copies-full _ _ _ _ p.0 p.1 (batch_some b r c.if-p-eq0.false) c.if-epoch-own.false (overflowing _ (entries_in b r) _ _ c.grows_to-last.ensures c.if-last-gt1024.true)

pub store_all-t-requires : goal.store_all-t-requires
store_all-t-requires c =
    let p = c.requires in
    let a = c.args in
    (p.0, p.1, p.2, p.3, fitting a.own.0 (entries_in a.s.now a.p) _ _ c.grows_to-last.ensures c.if-last-gt1024.false)

pub returns : goal.returns
returns c =
    let p = c.requires in let b = c.args.s.now in let r = c.args.p in copies-all _ _ _ _ p.0 p.1 (batch_some b r c.if-p-eq0.false) c.if-epoch-own.false _ c.store_all-t.ensures _ (grows_last _ (entries_in b r) _ _ c.grows_to-last.ensures) c.if-last-gt1024.false _ refl
