-- What the calls leave alone: the node's own fields, every shard but the one that a call names, and under a shown map every log with its
-- vectors. Assumes nothing.
use Prim.Native.Nat.{ℕ}
use mathlib.Core.Path.{◌≡◌, refl, sym, ap, ◌∙◌, subst}
use mathlib.Core.Bool.{Bool, true, false, cond, not}
use mathlib.Core.List.{List, [], ◌∷◌}
use mathlib.Core.Option.{Option, none, some}
use Rattle.spec.specs.Lists.{◌and◌, any, find, put}
use Rattle.spec.specs.Keys.{Key, key_below, same_key}
use Rattle.spec.specs.Log.{ShardReplica, promote}
use Rattle.spec.specs.Map.Tables.{ShardInfo}
use Rattle.spec.specs.Map.Apply.{update}
use Rattle.spec.specs.Node.Held.{Held, Node}
use Rattle.spec.specs.Node.Shards.{Result, held_below, of_key, held_shard, with_held, at_shard}
use Rattle.spec.specs.Node.Shown.{Showing, is_primary, promotes, promoted_to, kept_as, show_held}
use Rattle.spec.specs.declared.Metric.{Metric}
use Rattle.spec.specs.declared.Role.{Role}
use Rattle.spec.specs.declared.Role.TheVariants.{Backup, Primary}
use Rattle.spec_laws.proofs.Lists.{by-test, not_both, none_some, some_same}
use Rattle.spec_laws.proofs.Map.Orders.{keys, same_key_lem, key-same}
use Rattle.spec_laws.proofs.Map.Rows.{find_true, find-update, find-other}
use Rattle.spec_laws.proofs.Node.Shards.{by_both, at_cases}

-- two keys that differ, by the test
other_key_lem : (h : Held) (k j : Key) → same_key k j ≡ false → of_key k h ≡ true → of_key j h ≡ false
other_key_lem h k j d e = subst (λ (x : Key). same_key x j ≡ false) (sym (same_key_lem h.key k e)) d

-- ---- a call on the one shard that it names

module _ {A : Type 0} (n : Node) (k : Key) (absent : A) (f : Held → Result A Held) (key : (h : Held) → (f h).after.key ≡ h.key) where
  -- every other shard is as it was
  pub at_other : (j : Key) → same_key k j ≡ false → held_shard (at_shard n k absent f).after j ≡ held_shard n j
  unfolding held_shard
  at_other j d =
      at_cases n k absent f (λ r. find (of_key j) r.after.held ≡ find (of_key j) n.held) (λ e. refl)
      (λ h e. find-other (of_key k) (λ x. (f x).after) (of_key j) (λ x p. other_key_lem x k j d p)
      (λ x p. ap (λ (y : Key). same_key y j) (key x) ∙ other_key_lem x k j d p) n.held)

  -- the shard itself is what the call makes of it
  pub at_after : (h : Held) → held_shard n k ≡ some h → held_shard (at_shard n k absent f).after k ≡ some (f h).after
  unfolding held_shard
  at_after h e =
      at_cases n k absent f (λ r. find (of_key k) r.after.held ≡ some (f h).after)
      (λ z. none_some (sym z ∙ e))
      (λ g z.
      (let q : (f g).after ≡ (f h).after = ap (λ (x : Held). (f x).after) (some_same (sym z ∙ e)) in
      find-update (of_key k) (λ x. (f x).after) n.held g (ap (λ (y : Key). same_key y k) (key g) ∙ find_true (of_key k) n.held g z) z ∙ ap some q))

  pub at-id : (at_shard n k absent f).after.id ≡ n.id
  at-id = at_cases n k absent f (λ r. r.after.id ≡ n.id) (λ e. refl) (λ h e. refl)

  pub at_incarnation : (at_shard n k absent f).after.incarnation ≡ n.incarnation
  at_incarnation = at_cases n k absent f (λ r. r.after.incarnation ≡ n.incarnation) (λ e. refl) (λ h e. refl)

  pub at_expiry : (at_shard n k absent f).after.expiry ≡ n.expiry
  at_expiry = at_cases n k absent f (λ r. r.after.expiry ≡ n.expiry) (λ e. refl) (λ h e. refl)

  pub at_version : (at_shard n k absent f).after.version ≡ n.version
  at_version = at_cases n k absent f (λ r. r.after.version ≡ n.version) (λ e. refl) (λ h e. refl)

-- ---- a shard that NewEpoch begins

-- two that stand neither way have one key
level-key : (a b : Held) → held_below a b ≡ false → held_below b a ≡ false → a.key ≡ b.key
level-key a b p q = keys.level a.key b.key p q

pub put_other : (h : Held) (j : Key) → same_key h.key j ≡ false → (l : List Held) → find (of_key j) (put held_below h l) ≡ find (of_key j) l
unfolding find put
put_other h j d [] = rw d
put_other h j d (x ∷ xs) =
    let more = put_other h j d xs in
    by-test (λ (v : List Held). find (of_key j) v ≡ cond (of_key j x) (some x) (find (of_key j) xs)) (held_below h x) {x = h ∷ x ∷ xs} (λ p. rw d)
    (λ p. by-test (λ (v : List Held). find (of_key j) v ≡ cond (of_key j x) (some x) (find (of_key j) xs)) (held_below x h) {x = x ∷ put held_below h xs} {y = h ∷ xs}
    (λ q. ap (λ (o : Option Held). cond (of_key j x) (some x) o) more)
    (λ q. rw (d, ap (λ (y : Key). same_key y j) (sym (level-key h x p q)) ∙ d)))

pub put-found : (h : Held) (l : List Held) → find (of_key h.key) (put held_below h l) ≡ some h
unfolding find put
put-found h [] = rw (key-same h.key)
put-found h (x ∷ xs) =
    let more = put-found h xs in
    let own : of_key h.key h ≡ true = key-same h.key in
    by-test (λ (v : List Held). find (of_key h.key) v ≡ some h) (held_below h x) {x = h ∷ x ∷ xs} (λ p. rw own)
    (λ p. by-test (λ (v : List Held). find (of_key h.key) v ≡ some h) (held_below x h) {x = x ∷ put held_below h xs} {y = h ∷ xs}
    (λ q. rw (apart x q) more) (λ q. rw own))
  where
    apart : (x : Held) → held_below x h ≡ true → of_key h.key x ≡ false
    apart x q = go (same_key x.key h.key) refl
      where
        go : (b : Bool) → same_key x.key h.key ≡ b → b ≡ false
        go true e =
            let z = same_key_lem x.key h.key e in
            not_both (key_below h.key h.key) (subst (λ (y : Key). key_below y h.key ≡ true) z q)
            (keys.apart h.key h.key (subst (λ (y : Key). key_below y h.key ≡ true) z q))
        go false e = refl

-- ---- a shown map

-- the log and its vectors stay; only a promotion raises the epoch
pub record SameLog (r s : ShardReplica) : Type 0 where
  pub log : s.log ≡ r.log
  pub vectors : s.vectors ≡ r.vectors
  pub metric : s.metric ≡ r.metric

same_log : (r : ShardReplica) → SameLog r r
same_log r = record { log = refl; vectors = refl; metric = refl }

pub show_log : (me : ℕ) (i : ShardInfo) (m : Metric) (h : Held) → SameLog h.replica (show_held me i m h).held.replica
unfolding show_held
show_log me i m h =
    let P : Showing → Type 0 = λ s. SameLog h.replica s.held.replica in
    by-test P (is_primary i.primary me)
    (λ p. by-test P (promotes h i) (λ q. unfold promoted_to promote in record { log = refl; vectors = refl; metric = refl }) (λ q. kept h.role))
    (λ p. same_log h.replica)
  where
    kept : (r : Role) → SameLog h.replica (kept_as me i m h r).held.replica
    kept Backup = unfold kept_as in same_log h.replica
    kept (Primary e o) = unfold kept_as in same_log h.replica
