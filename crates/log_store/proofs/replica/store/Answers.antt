use native.Mathlib.Omega.{arith}
use mathlib.Core.Path.{refl}
use Rattle.log_store.proofs.Arrived.{arrived_stale, arrived_old, arrived_far, arrived_full, arrived_pushed, below-full, count_most}
use Rattle.log_store.proofs.replica.store.Goals as goal

pub returns-then-epoch-own : goal.returns-then-epoch-own
returns-then-epoch-own c = let p = c.requires in arrived_stale _ _ _ _ p.0 p.1 _ refl c.if-epoch-own.true

pub overflow_add-next : goal.overflow_add-next
overflow_add-next c = let m = count_most _ c.requires.1 in omega arith

pub returns-then-o-next : goal.returns-then-o-next
returns-then-o-next c = let p = c.requires in arrived_old _ _ _ _ p.0 p.1 c.if-epoch-own.false _ refl (omega arith)

pub returns-then-next-o : goal.returns-then-next-o
returns-then-next-o c = let p = c.requires in arrived_far _ _ _ _ p.0 p.1 c.if-epoch-own.false _ refl (omega arith)

pub returns-then-count-eq1024 : goal.returns-then-count-eq1024
returns-then-count-eq1024 c =
    let p = c.requires in arrived_full _ _ _ _ p.0 p.1 c.if-epoch-own.false (omega arith) c.if-count-eq1024.true

pub push-rows-requires : goal.push-rows-requires
push-rows-requires c = let p = c.requires in (p.0, p.1, below-full _ (count_most _ p.1) c.if-count-eq1024.false, p.2)

pub returns : goal.returns
returns c =
    let p = c.requires in
    arrived_pushed _ _ _ _ _ _ _ p.0 p.1 c.if-epoch-own.false _ refl (omega arith) (below-full _ (count_most _ p.1) c.if-count-eq1024.false) c.push-rows.ensures
