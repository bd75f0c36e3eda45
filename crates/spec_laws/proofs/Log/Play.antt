-- Paper 01, 'The log': a joined log is played part after part; the vectors beside a log stay the log played. Assumes nothing.
use Prim.Native.Nat.{ℕ, zero, suc, ◌+◌, ◌≤◌, ◌<◌}
use mathlib.Core.Path.{◌≡◌, refl, sym, ap, ◌∙◌, subst}
use mathlib.Core.Bool.{Bool, true, false, cond}
use mathlib.Core.List.{List, [], ◌∷◌, ◌++◌}
use native.Mathlib.Omega.{arith}
use lib.Dec.{eqb, ltb}
use lib.ListN.{length}
use borrow.Author.Tests.{ltb-false}
use Rattle.spec.specs.declared.Metric.{Metric}
use Rattle.spec.specs.Log.{Entry, End, Log, Op, Vectors, apply_op, play_from, play, ShardReplica, empty_replica, last_offset, push, append, store, store_all, keep, cut_to, adopted, promote}
use Rattle.spec_laws.proofs.Lists.{by-test, within_same}
use Rattle.spec_laws.proofs.Log.Store.{store_cases}
use Rattle.spec_laws.proofs.Log.Keep.{keep-within}

pub play_join_from : (vs : Vectors) (l m : Log) → play_from vs (l ++ m) ≡ play_from (play_from vs l) m
unfolding play_from
play_join_from vs [] m = refl
play_join_from vs (e ∷ es) m = play_join_from (apply_op vs e.op) es m

pub play_join : (l m : Log) → play (l ++ m) ≡ play_from (play l) m
unfolding play
play_join l m = play_join_from [] l m

pub play_snoc : (l : Log) (e : Entry) → play (l ++ (e ∷ [])) ≡ apply_op (play l) e.op
unfolding play_from
play_snoc l e = play_join l (e ∷ [])

-- a replica whose vectors are its log played
abbrev pub InStep : ShardReplica → Type 0
InStep r = r.vectors ≡ play r.log

pub in_step_empty : (e : ℕ) (m : Metric) → InStep (empty_replica e m)
unfolding play play_from
in_step_empty e m = refl

pub in_step_push : (r : ShardReplica) (e : Entry) → InStep r → InStep (push r e)
unfolding push
in_step_push r e h = ap (λ (vs : Vectors). apply_op vs e.op) h ∙ sym (play_snoc r.log e)

pub in_step_append : (r : ShardReplica) (op : Op) → InStep r → InStep (append r op)
unfolding append
in_step_append r op h = in_step_push r (record { epoch = r.epoch; offset = last_offset r + 1; op = op }) h

pub in_step_store : (r : ShardReplica) (epoch : ℕ) (e : Entry) → InStep r → InStep (store r epoch e).replica
in_step_store r epoch e h =
    store_cases (λ v. InStep v.replica) r epoch e (λ p q. in_step_push r e h) (λ p q. h) (λ p q. h) (λ p. h)

pub in_step_store_all : (r : ShardReplica) (epoch : ℕ) (es : List Entry) → InStep r → InStep (store_all r epoch es)
unfolding store_all
in_step_store_all r epoch [] h = h
in_step_store_all r epoch (e ∷ es) h =
    in_step_store_all (store r epoch e).replica epoch es (in_step_store r epoch e h)

pub in_step_cut : (r : ShardReplica) (epoch end : ℕ) (t : List End) → InStep r → InStep (cut_to r epoch end t)
unfolding cut_to
in_step_cut r epoch end t h =
    by-test (λ v. v ≡ play (keep end t r.log)) (ltb (length (keep end t r.log)) (last_offset r))
    (λ q. refl)
    (λ q. h ∙ ap play (sym (within_same (keep end t r.log) r.log (keep-within end t r.log) (ltb-false (length (keep end t r.log)) (last_offset r) q))))

pub in_step_adopted : (r : ShardReplica) (epoch end : ℕ) (t : List End) → InStep r → InStep (adopted r epoch end t)
unfolding adopted
in_step_adopted r epoch end t h = by-test InStep (eqb epoch r.epoch) (λ p. h) (λ p. in_step_cut r epoch end t h)

pub in_step_promote : (r : ShardReplica) (epoch : ℕ) → InStep r → InStep (promote r epoch)
unfolding promote
in_step_promote r epoch h = h
