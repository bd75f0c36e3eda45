-- Laws of the decisions before the log, one for each way out. Assumes nothing.
use mathlib.Core.List.{List, [], ◌∷◌, ◌++◌}
use mathlib.Core.Path.{◌≡◌, refl, ap, sym, ◌∙◌, subst}
use mathlib.Core.Bool.{Bool, true, false, cond, not}
use Prim.Native.Nat.{ℕ, suc, ◌+◌, ◌<◌, ◌≤◌}
use native.Mathlib.Omega.{arith}
use borrow.Author.Tests.{lt-ltb, le-ltb}
use lib.Dec.{ltb}
use lib.ListN.{length, take, get_or, length-append}
use Rattle.spec.specs.Lists.{filter}
use Rattle.spec.specs.Limits.{max_entries}
use Rattle.spec.specs.Log.{Op, Log, ShardReplica, append, last_offset}
use Rattle.spec.specs.Node.Shards.{leads_at}
use Rattle.spec.specs.Node.Client.{is_member, ack_count, overfull, write_held, search_held}
use Rattle.spec.specs.Node.Backup.{leads_from, new_epoch_held}
use Rattle.spec.specs.declared.Peer.{Peer}
use Rattle.spec_laws.proofs.Log.Store.{push-length}
use Rattle.node_shard.specs.declared.Held.{Held}
use Rattle.node_shard.proofs.Loops.{take_next}
use Rattle.node_admit.specs.declared.Admit.TheVariants as A
use Rattle.node_admit.specs.declared.Epochs.TheVariants as E
use Rattle.node_admit.specs.Admits.{AdmitsWrite, AdmitsSearch, TakesEpoch}

-- ---- counting those that pass

module _ {A : Type 0} (p : A → Bool) where
  filter-append : (l m : List A) → filter p (l ++ m) ≡ filter p l ++ filter p m
  unfolding filter
  filter-append [] m = refl
  filter-append (y ∷ ys) m = go (p y) (filter p (ys ++ m)) (filter p ys) (filter-append ys m)
    where
      go : (b : Bool) (k l : List A) → k ≡ l ++ filter p m → cond b (y ∷ k) k ≡ cond b (y ∷ l) l ++ filter p m
      go true k l e = ap (λ (x : List A). y ∷ x) e
      go false k l e = e

  pub filter-on : (xs : List A) (i n : ℕ) (d : A) → n ≡ length (filter p (take i xs)) → p (get_or xs i d) ≡ true → i < length xs
      → n + 1 ≡ length (filter p (take (i + 1) xs))
  unfolding filter
  filter-on xs i n d inv t h =
      let a : filter p (take (i + 1) xs) ≡ filter p (take i xs) ++ (get_or xs i d ∷ []) =
      ap (filter p) (take_next xs i d h) ∙ filter-append (take i xs) (get_or xs i d ∷ []) ∙ rw t in
      sym (ap length a ∙ length-append (filter p (take i xs)) (get_or xs i d ∷ []) ∙ ap (λ (k : ℕ). k + 1) (sym inv))

  pub filter_past : (xs : List A) (i n : ℕ) (d : A) → n ≡ length (filter p (take i xs)) → p (get_or xs i d) ≡ false → i < length xs
      → n ≡ length (filter p (take (i + 1) xs))
  unfolding filter
  filter_past xs i n d inv t h =
      let a : filter p (take (i + 1) xs) ≡ filter p (take i xs) ++ [] =
      ap (filter p) (take_next xs i d h) ∙ filter-append (take i xs) (get_or xs i d ∷ []) ∙ rw t in
      sym (ap length a ∙ length-append (filter p (take i xs)) [] ∙ (let e = inv in omega arith))

-- ---- Write

longer : (r : ShardReplica) (op : Op) → last_offset (append r op) ≡ last_offset r + 1
unfolding append
longer r op = push-length r (record { epoch = r.epoch; offset = last_offset r + 1; op = op })

module _ (h : Held) (epoch : ℕ) (lease : Bool) (least : ℕ) where
  pub write_not : leads_at h.role epoch ≡ false → AdmitsWrite h epoch lease least (A.NotPrimary h.epoch.0)
  unfolding write_held
  write_not n k l v op e = rw n

  module _ (leads : leads_at h.role epoch ≡ true) where
    pub write_unleased : lease ≡ false → AdmitsWrite h epoch lease least A.NoLease
    unfolding write_held
    write_unleased n k l v op e = rw (leads, n)

    module _ (leased : lease ≡ true) (size : ℕ) (is : size ≡ length (filter is_member (take h.count h.peers)) + cond h.own 1 0) where
      pub write-few : size < least → AdmitsWrite h epoch lease least A.TooFew
      unfolding write_held ack_count
      write-few s k l v op e = rw (leads, leased, ← is, lt-ltb size least s)

      module _ (enough : least ≤ size) where
        pub write-full : max_entries ≤ h.last → AdmitsWrite h epoch lease least A.NoRoom
        unfolding write_held ack_count
        write-full f k l v op e =
            let r : ShardReplica = record { epoch = h.epoch.0; metric = h.metric; log = l; vectors = v } in
            let o : overfull (append r op) ≡ true = lt-ltb max_entries (last_offset (append r op)) (let a = longer r op in omega arith) in
            rw (leads, leased, ← is, le-ltb size least enough, o)

        pub write_yes : h.last < max_entries → AdmitsWrite h epoch lease least A.Yes
        unfolding write_held ack_count
        write_yes f k l v op e =
            let r : ShardReplica = record { epoch = h.epoch.0; metric = h.metric; log = l; vectors = v } in
            let o : overfull (append r op) ≡ false = le-ltb max_entries (last_offset (append r op)) (let a = longer r op in omega arith) in
            rw (leads, leased, ← is, le-ltb size least enough, o)

-- ---- Search

module _ (h : Held) (epoch : ℕ) (lease : Bool) where
  pub search_not : leads_at h.role epoch ≡ false → AdmitsSearch h epoch lease (A.NotPrimary h.epoch.0)
  unfolding search_held
  search_not n key l v room k q = rw n

  pub search_unleased : leads_at h.role epoch ≡ true → lease ≡ false → AdmitsSearch h epoch lease A.NoLease
  unfolding search_held
  search_unleased leads n key l v room k q = rw (leads, n)

  pub search_yes : leads_at h.role epoch ≡ true → lease ≡ true → AdmitsSearch h epoch lease A.Yes
  unfolding search_held
  search_yes leads y key l v room k q = rw (leads, y)

-- ---- NewEpoch

module _ (h : Held) (epoch : ℕ) where
  pub epoch_led : leads_from h.role epoch ≡ true → TakesEpoch h epoch (E.Stale h.epoch.0)
  unfolding new_epoch_held
  epoch_led f k l v end t = rw f

  module _ (free : leads_from h.role epoch ≡ false) where
    pub epoch-below : epoch < h.epoch.0 → TakesEpoch h epoch (E.Stale h.epoch.0)
    unfolding new_epoch_held
    epoch-below b k l v end t = rw (free, lt-ltb epoch h.epoch.0 b)

    pub epoch-taken : h.epoch.0 ≤ epoch → TakesEpoch h epoch E.Taken
    unfolding new_epoch_held
    epoch-taken b k l v end t = rw (free, le-ltb epoch h.epoch.0 b)
