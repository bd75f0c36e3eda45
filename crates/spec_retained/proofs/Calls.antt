-- Each call at a node leaves every shard that it held in its place, with its log appended to or cut. Assumes nothing.
use Prim.Native.Nat.{ℕ, zero, suc, ◌≤◌}
use mathlib.Core.Path.{◌≡◌, refl, sym, ap, ◌∙◌, subst}
use mathlib.Core.Bool.{Bool, true, false, cond, not}
use mathlib.Core.List.{List, [], ◌∷◌, map}
use mathlib.Core.Option.{Option, none, some}
use native.Mathlib.Omega.{arith}
use Rattle.spec.specs.Lists.{nth, every}
use Rattle.spec.specs.Keys.{Key}
use Rattle.spec.specs.Log.{Op, Entry, End, append, store, store_all}
use Rattle.spec.specs.Layout.Message.{Write, decode_write, Replicated, decode_replicate, NewEpoch, decode_new_epoch, Copied, decode_copy_shard}
use Rattle.spec.specs.Map.Apply.{update}
use Rattle.spec.specs.Node.Held.{Held, Node}
use Rattle.spec.specs.Node.Shards.{Result, of_key, held_shard, with_held, at_shard}
use Rattle.spec.specs.Node.Wire.{op_in_domain, entry_in_domain, stored_op, stored_entry}
use Rattle.spec.specs.Node.Client.{WriteAnswer, write_held, on_write}
use Rattle.spec.specs.Node.Backup.{BackupAnswer, replicate_held, new_epoch_held, copy_held, on_replicate, on_copy, new_epoch_at, on_new_epoch}
use Rattle.spec.specs.Node.Calls.{late_time, write_of, write_with, replicate_of, replicate_with, new_epoch_of, new_epoch_with, copy_of, copy_with}
use Rattle.spec_laws.proofs.Lists.{by-test, none_some, some_same, nth-nil}
use Rattle.spec_laws.proofs.Node.Shards.{at_cases}
use Rattle.spec_laws.proofs.Node.After.{write-after, replicate_after, new_epoch_after, copy_after}
use Rattle.spec_retained.specs.Retained.{Carries, CarriesAll}
use Rattle.spec_retained.proofs.Logs.{append_retains, store_retains, store_all_retains, adopted_retains, not_over, adopted-length}

-- ---- one shard

pub carries_same : (h : Held) → Carries h h
carries_same h = record { key = refl; log = refl; most = λ m. m }

write_carries : (lease : Bool) (least epoch : ℕ) (op : Op) (h : Held) → Carries h (write_held lease least epoch op h).after
write_carries lease least epoch op h =
    write-after (Carries h) h (carries_same h) lease least epoch op
    (λ e. record { key = refl; log = append_retains h.replica op; most = λ m. not_over (append h.replica op) e })

replicate_carries : (epoch offset : ℕ) (op : Op) (h : Held) → Carries h (replicate_held epoch offset op h).after
replicate_carries epoch offset op h =
    replicate_after (Carries h) h (carries_same h) epoch offset op
    (λ e. record { key = refl; log = store_retains h.replica epoch _; most = λ m. not_over (store h.replica epoch (record { epoch = epoch; offset = offset; op = op })).replica e })

new_epoch_carries : (epoch end : ℕ) (t : List End) (h : Held) → Carries h (new_epoch_held epoch end t h).after
new_epoch_carries epoch end t h =
    new_epoch_after (Carries h) h (carries_same h) epoch end t
    (λ p q. record { key = refl; log = adopted_retains h.replica epoch end t; most = λ m. let a = adopted-length h.replica epoch end t in omega arith })

copy_carries : (epoch : ℕ) (es : List Entry) (h : Held) → Carries h (copy_held epoch es h).after
copy_carries epoch es h =
    copy_after (Carries h) h (carries_same h) epoch es
    (λ e. record { key = refl; log = store_all_retains h.replica epoch es; most = λ m. not_over (store_all h.replica epoch es) e })

-- ---- a node

all_same : (n : Node) → CarriesAll n n
all_same n i h e = (h, e, carries_same h)

module _ (p : Held → Bool) (f : Held → Held) (each : (h : Held) → Carries h (f h)) where
  update_carries : (l : List Held) (i : ℕ) (h : Held) → nth l i ≡ some h → (g : Held) × (nth (update p f l) i ≡ some g) × Carries h g
  unfolding update nth
  update_carries [] i h e = nth-nil i h e
  update_carries (x ∷ xs) zero h e =
      by-test (λ (l : List Held). (g : Held) × (nth l 0 ≡ some g) × Carries h g) (p x) {x = f x ∷ xs} {y = x ∷ update p f xs}
      (λ q. (f x, refl, subst (λ (y : Held). Carries y (f x)) (some_same e) (each x)))
      (λ q. (h, e, carries_same h))
  update_carries (x ∷ xs) (suc i) h e =
      let more = update_carries xs i h e in
      by-test (λ (l : List Held). (g : Held) × (nth l (suc i) ≡ some g) × Carries h g) (p x) {x = f x ∷ xs} {y = x ∷ update p f xs}
      (λ q. (h, e, carries_same h))
      (λ q. more)

at_carries : {A : Type 0} (n : Node) (k : Key) (absent : A) (f : Held → Result A Held) → ((h : Held) → Carries h (f h).after)
    → CarriesAll n (at_shard n k absent f).after
at_carries n k absent f each =
    at_cases n k absent f (λ r. CarriesAll n r.after) (λ e. all_same n) (λ h e. update_carries (of_key k) (λ x. (f x).after) each n.held)

-- ---- the calls, whatever the test of the lent state

module _ (n : Node) (lent : Key → Bool) where
  write_of_lem : (now least : ℕ) (m : Option Write) → CarriesAll n (write_of lent n now least m).after
  unfolding on_write
  write_of_lem now least none = all_same n
  write_of_lem now least (some w) =
      let P : Result WriteAnswer Node → Type 0 = λ v. CarriesAll n v.after in
      by-test P (not (op_in_domain w.op)) (λ p. all_same n)
      (λ p. by-test P (not (lent w.key)) (λ q. all_same n)
      (λ q. at_carries n w.key _ _ (write_carries _ least w.epoch (stored_op w.op))))

  pub write_retains : (now least : ℕ) (s : List ℕ) → CarriesAll n (write_with lent n now least s).after
  unfolding write_with
  write_retains now least s =
      by-test (λ (v : Result WriteAnswer Node). CarriesAll n v.after) (late_time now) (λ p. all_same n) (λ p. write_of_lem now least (decode_write s))

  replicate_of_lem : (m : Option Replicated) → CarriesAll n (replicate_of lent n m).after
  unfolding on_replicate
  replicate_of_lem none = all_same n
  replicate_of_lem (some w) =
      let P : Result BackupAnswer Node → Type 0 = λ v. CarriesAll n v.after in
      by-test P (not (op_in_domain w.op)) (λ p. all_same n)
      (λ p. by-test P (not (lent w.key)) (λ q. all_same n)
      (λ q. at_carries n w.key _ _ (replicate_carries w.epoch w.offset (stored_op w.op))))

  pub replicate_retains : (s : List ℕ) → CarriesAll n (replicate_with lent n s).after
  unfolding replicate_with
  replicate_retains s = replicate_of_lem (decode_replicate s)

  copy_of_lem : (m : Option Copied) → CarriesAll n (copy_of lent n m).after
  unfolding on_copy
  copy_of_lem none = all_same n
  copy_of_lem (some w) =
      let P : Result BackupAnswer Node → Type 0 = λ v. CarriesAll n v.after in
      by-test P (not (every entry_in_domain w.entries)) (λ p. all_same n)
      (λ p. by-test P (not (lent w.key)) (λ q. all_same n)
      (λ q. at_carries n w.key _ _ (copy_carries w.epoch (map stored_entry w.entries))))

  pub copy_retains : (s : List ℕ) → CarriesAll n (copy_with lent n s).after
  unfolding copy_with
  copy_retains s = copy_of_lem (decode_copy_shard s)

  -- NewEpoch, at a shard that is held
  new_epoch_at_lem : (k : Key) (w : NewEpoch) (o : Option Held) → (h : Held) → o ≡ some h
      → CarriesAll n (new_epoch_at n k w.epoch w.end w.table w.metric o).after
  new_epoch_at_lem k w none h e = none_some e
  new_epoch_at_lem k w (some x) h e = at_carries n k _ _ (new_epoch_carries w.epoch w.end w.table)

  new_epoch_of_lem : (m : Option NewEpoch) → ((w : NewEpoch) → m ≡ some w → (h : Held) × (held_shard n w.key ≡ some h))
      → CarriesAll n (new_epoch_of lent n m).after
  unfolding on_new_epoch
  new_epoch_of_lem none held = all_same n
  new_epoch_of_lem (some w) held =
      by-test (λ (v : Result BackupAnswer Node). CarriesAll n v.after) (not (lent w.key)) (λ q. all_same n)
      (λ q. let x = held w refl in new_epoch_at_lem w.key w (held_shard n w.key) x.0 x.1)

  pub new_epoch_retains : (s : List ℕ) → ((w : NewEpoch) → decode_new_epoch s ≡ some w → (h : Held) × (held_shard n w.key ≡ some h))
      → CarriesAll n (new_epoch_with lent n s).after
  unfolding new_epoch_with
  new_epoch_retains s held = new_epoch_of_lem (decode_new_epoch s) held
