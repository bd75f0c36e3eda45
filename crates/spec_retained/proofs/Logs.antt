-- What storing, appending and aligning keep of a log. Assumes nothing.
use Prim.Native.Nat.{ℕ, ◌≤◌, min}
use mathlib.Core.Path.{◌≡◌, refl, sym, ap, ◌∙◌, subst}
use mathlib.Core.Bool.{true, false}
use mathlib.Core.List.{List, ◌∷◌, []}
use native.Mathlib.Omega.{arith}
use native.Mathlib.Nat.{min-eq_left, min-eq_right}
use lib.Dec.{eqb, ltb}
use lib.ListN.{length, take}
use lib.Seq.{take_all}
use borrow.Author.Tests.{ltb-false}
use Rattle.spec.specs.Limits.{max_entries}
use Rattle.spec.specs.Log.{Op, Entry, End, Log, ShardReplica, last_offset, push, append, store, store_all, keep, cut_to, adopted}
use Rattle.spec.specs.Node.Client.{overfull}
use Rattle.spec_laws.proofs.Lists.{by-test, Within, within-length, within-take, within-append}
use Rattle.spec_laws.proofs.Log.Keep.{keep-length, keep-within}
use Rattle.spec_laws.proofs.Log.Store.{store-holds, store_all_holds}
use Rattle.spec_retained.specs.Retained.{Retains}

pub retains_same : (l : Log) → Retains l l
retains_same l = refl

-- appended to
pub retains_longer : (l m : Log) → Within l m → Retains l m
retains_longer l m w =
    let e : min (length l) (length m) ≡ length l = min-eq_left (within-length l m w) in
    ap (λ (n : ℕ). take n m) e ∙ within-take l m w ∙ sym (take_all (length l) l (omega arith)) ∙ ap (λ (n : ℕ). take n l) (sym e)

-- cut
pub retains_cut : (l m : Log) → Within m l → Retains l m
retains_cut l m w =
    let e : min (length l) (length m) ≡ length m = min-eq_right (within-length m l w) in
    ap (λ (n : ℕ). take n m) e ∙ take_all (length m) m (omega arith) ∙ sym (within-take m l w) ∙ ap (λ (n : ℕ). take n l) (sym e)

pub append_retains : (r : ShardReplica) (op : Op) → Retains r.log (append r op).log
unfolding append push
append_retains r op = retains_longer r.log _ (within-append r.log _)

pub store_retains : (r : ShardReplica) (epoch : ℕ) (e : Entry) → Retains r.log (store r epoch e).replica.log
store_retains r epoch e = retains_longer r.log _ (store-holds r epoch e)

pub store_all_retains : (r : ShardReplica) (epoch : ℕ) (es : List Entry) → Retains r.log (store_all r epoch es).log
store_all_retains r epoch es = retains_longer r.log _ (store_all_holds epoch r es)

pub adopted_retains : (r : ShardReplica) (epoch end : ℕ) (t : List End) → Retains r.log (adopted r epoch end t).log
unfolding adopted cut_to
adopted_retains r epoch end t =
    by-test (λ (v : ShardReplica). Retains r.log v.log) (eqb epoch r.epoch) (λ p. retains_cut r.log r.log (λ i x q. q))
    (λ p. retains_cut r.log (keep end t r.log) (keep-within end t r.log))

-- ---- within the limit

pub not_over : (r : ShardReplica) → overfull r ≡ false → last_offset r ≤ max_entries
not_over r e = ltb-false max_entries (last_offset r) e

pub adopted-length : (r : ShardReplica) (epoch end : ℕ) (t : List End) → last_offset (adopted r epoch end t) ≤ last_offset r
unfolding adopted cut_to
adopted-length r epoch end t =
    by-test (λ (v : ShardReplica). last_offset v ≤ last_offset r) (eqb epoch r.epoch) (λ p. omega arith) (λ p. keep-length end t r.log)
