-- Paper 01, 'The log', store: a replica's log that is a prefix of its primary's stays one, never shrinks, and the answer tells its
-- length. Assumes nothing.
use Prim.Native.Nat.{ℕ, zero, suc, ◌+◌, ◌≤◌, ◌<◌}
use mathlib.Core.Path.{◌≡◌, refl, sym, ap, ◌∙◌, subst}
use mathlib.Core.Bool.{Bool, true, false, cond}
use mathlib.Core.List.{List, [], ◌∷◌, ◌++◌}
use mathlib.Core.Logic.{◌⊎◌, inl, inr}
use mathlib.Core.Option.{Option, none, some}
use native.Mathlib.Omega.{arith}
use lib.Dec.{eqb, ltb}
use lib.ListN.{length, length-append}
use borrow.Author.Tests.{eqb-true, eqb-false, eq-eqb, ne_eqb}
use Rattle.spec.specs.Lists.{nth}
use Rattle.spec.specs.Log.{Entry, End, Log, entry_at, ShardReplica, last_offset, push, append, Op, Stored, through, gap, stale, StoreResult, store, store_all, keep, cut_to, adopted, promote}
use Rattle.spec_laws.proofs.Lists.{by-test, nth_snoc, Within, within-append, within-length, within_trans}
use Rattle.spec_laws.proofs.Log.Numbered.{Numbered, numbered_snoc}
use Rattle.spec_laws.proofs.Log.Keep.{keep-numbered}

pub push-length : (r : ShardReplica) (e : Entry) → last_offset (push r e) ≡ last_offset r + 1
unfolding push
push-length r e = length-append r.log (e ∷ [])

pub push-numbered : (r : ShardReplica) (e : Entry) → Numbered r.log → e.offset ≡ last_offset r + 1 → Numbered (push r e).log
unfolding push
push-numbered r e h q = numbered_snoc r.log e h (omega arith)

pub append-numbered : (r : ShardReplica) (op : Op) → Numbered r.log → Numbered (append r op).log
unfolding append
append-numbered r op h = push-numbered r (record { epoch = r.epoch; offset = last_offset r + 1; op = op }) h refl

-- a fact of the result of a store: of each of its four ways out
pub store_cases {κ} : (P : StoreResult → Type κ) (r : ShardReplica) (epoch : ℕ) (e : Entry)
    → ((epoch ≡ r.epoch) → (e.offset ≡ last_offset r + 1) → P (record { answer = through (last_offset r + 1); replica = push r e }))
    → ((epoch ≡ r.epoch) → (e.offset ≤ last_offset r) → P (record { answer = through (last_offset r); replica = r }))
    → ((epoch ≡ r.epoch) → (last_offset r + 1 < e.offset) → P (record { answer = gap (last_offset r + 1); replica = r }))
    → ((epoch ≡ r.epoch → ⊥) → P (record { answer = stale r.epoch; replica = r }))
    → P (store r epoch e)
unfolding store
store_cases P r epoch e new old far other =
    by-test P (eqb epoch r.epoch)
    (λ p. let p' = eqb-true epoch r.epoch p in
    by-test P (eqb e.offset (last_offset r + 1))
    (λ q. new p' (eqb-true e.offset (last_offset r + 1) q))
    (λ q. by-test P (ltb e.offset (last_offset r + 1))
    (λ s. let s' = borrow.Author.Tests.ltb-true e.offset (last_offset r + 1) s in old p' (omega arith))
    (λ s. let s' = borrow.Author.Tests.ltb-false e.offset (last_offset r + 1) s in
    let q' = eqb-false e.offset (last_offset r + 1) q in far p' (strict (last_offset r + 1) e.offset s' (λ z. q' (sym z))))))
    (λ p. other (eqb-false epoch r.epoch p))
  where
    strict : (a b : ℕ) → a ≤ b → (a ≡ b → ⊥) → a < b
    strict a b h n = omega (arith, n)

module _ (r : ShardReplica) (epoch : ℕ) (e : Entry) where
  -- another epoch changes nothing, and is told the replica's own
  pub store_other : (epoch ≡ r.epoch → ⊥) → store r epoch e ≡ record { answer = stale r.epoch; replica = r }
  store_other n =
      store_cases (λ v. v ≡ record { answer = stale r.epoch; replica = r }) r epoch e
      (λ p q. absurd (n p)) (λ p q. absurd (n p)) (λ p q. absurd (n p)) (λ p. refl)

  -- at the own epoch: the next offset, one already held, a later one
  module _ (own : epoch ≡ r.epoch) where
    pub store-next : e.offset ≡ last_offset r + 1
        → store r epoch e ≡ record { answer = through (last_offset r + 1); replica = push r e }
    store-next h =
        store_cases (λ v. v ≡ record { answer = through (last_offset r + 1); replica = push r e }) r epoch e
        (λ p q. refl) (λ p q. absurd (omega arith)) (λ p q. absurd (omega arith)) (λ n. absurd (n own))

    pub store-old : e.offset ≤ last_offset r → store r epoch e ≡ record { answer = through (last_offset r); replica = r }
    store-old h =
        store_cases (λ v. v ≡ record { answer = through (last_offset r); replica = r }) r epoch e
        (λ p q. absurd (omega arith)) (λ p q. refl) (λ p q. absurd (omega arith)) (λ n. absurd (n own))

    pub store-far : last_offset r + 1 < e.offset → store r epoch e ≡ record { answer = gap (last_offset r + 1); replica = r }
    store-far h =
        store_cases (λ v. v ≡ record { answer = gap (last_offset r + 1); replica = r }) r epoch e
        (λ p q. absurd (omega arith)) (λ p q. absurd (omega arith)) (λ p q. refl) (λ n. absurd (n own))

  -- at the own epoch the answer tells the length: all held, or the next offset that is missing
  pub store-answer : epoch ≡ r.epoch
      → ((store r epoch e).answer ≡ through (last_offset (store r epoch e).replica))
      ⊎ ((store r epoch e).answer ≡ gap (last_offset (store r epoch e).replica + 1))
  store-answer p =
      store_cases
      (λ v. (v.answer ≡ through (last_offset v.replica)) ⊎ (v.answer ≡ gap (last_offset v.replica + 1)))
      r epoch e
      (λ p q. inl (ap through (sym (push-length r e)))) (λ p q. inl refl) (λ p q. inr refl) (λ n. absurd (n p))

  pub store-epoch : (store r epoch e).replica.epoch ≡ r.epoch
  unfolding push
  store-epoch = store_cases (λ v. v.replica.epoch ≡ r.epoch) r epoch e (λ p q. refl) (λ p q. refl) (λ p q. refl) (λ p. refl)

  pub store_metric : (store r epoch e).replica.metric ≡ r.metric
  unfolding push
  store_metric = store_cases (λ v. v.replica.metric ≡ r.metric) r epoch e (λ p q. refl) (λ p q. refl) (λ p q. refl) (λ p. refl)

  -- what was held is held
  pub store-holds : Within r.log (store r epoch e).replica.log
  unfolding push
  store-holds =
      store_cases (λ v. Within r.log v.replica.log) r epoch e
      (λ p q. within-append r.log (e ∷ [])) (λ p q i x h. h) (λ p q i x h. h) (λ p i x h. h)

  pub store-longer : last_offset r ≤ last_offset (store r epoch e).replica
  store-longer = within-length r.log (store r epoch e).replica.log store-holds

  -- a log grows by one entry at most
  pub store_one_more : last_offset (store r epoch e).replica ≤ last_offset r + 1
  store_one_more =
      store_cases (λ v. last_offset v.replica ≤ last_offset r + 1) r epoch e
      (λ p q. let h = push-length r e in omega arith) (λ p q. omega arith) (λ p q. omega arith) (λ p. omega arith)

  pub store-numbered : Numbered r.log → Numbered (store r epoch e).replica.log
  store-numbered h =
      store_cases (λ v. Numbered v.replica.log) r epoch e
      (λ p q. push-numbered r e h q) (λ p q. h) (λ p q. h) (λ p. h)

  -- a prefix of a log that has the entry at its offset stays a prefix of it
  pub store-within : (l : Log) → Within r.log l → entry_at l e.offset ≡ some e → Within (store r epoch e).replica.log l
  unfolding push entry_at
  store-within l w h =
      store_cases (λ v. Within v.replica.log l) r epoch e
      (λ p q. nth_snoc (λ i x. nth l i ≡ some x) r.log e w (sym (ap (entry_at l) (plus_one e.offset (last_offset r) q)) ∙ h))
      (λ p q. w) (λ p q. w) (λ p. w)
    where
      plus_one : (a b : ℕ) → a ≡ b + 1 → a ≡ suc b
      plus_one a b q = omega arith

-- a fact that every store keeps, the whole batch keeps
pub store_all_keeps {κ} : (P : ShardReplica → Type κ) (epoch : ℕ)
    → ((s : ShardReplica) (e : Entry) → P s → P (store s epoch e).replica)
    → (r : ShardReplica) (es : List Entry) → P r → P (store_all r epoch es)
unfolding store_all
store_all_keeps P epoch f r [] h = h
store_all_keeps P epoch f r (e ∷ es) h = store_all_keeps P epoch f (store r epoch e).replica es (f r e h)

module _ (epoch : ℕ) where
  pub store_all_epoch : (r : ShardReplica) (es : List Entry) → (store_all r epoch es).epoch ≡ r.epoch
  store_all_epoch r es = store_all_keeps (λ s. s.epoch ≡ r.epoch) epoch (λ s e h. store-epoch s epoch e ∙ h) r es refl

  pub store_all_metric : (r : ShardReplica) (es : List Entry) → (store_all r epoch es).metric ≡ r.metric
  store_all_metric r es = store_all_keeps (λ s. s.metric ≡ r.metric) epoch (λ s e h. store_metric s epoch e ∙ h) r es refl

  pub store_all_holds : (r : ShardReplica) (es : List Entry) → Within r.log (store_all r epoch es).log
  store_all_holds r es =
      store_all_keeps (λ s. Within r.log s.log) epoch
      (λ s e w. within_trans r.log s.log (store s epoch e).replica.log w (store-holds s epoch e)) r es (λ i x h. h)

  pub store_all_longer : (r : ShardReplica) (es : List Entry) → last_offset r ≤ last_offset (store_all r epoch es)
  store_all_longer r es = within-length r.log (store_all r epoch es).log (store_all_holds r es)

  pub store_all_numbered : (r : ShardReplica) (es : List Entry) → Numbered r.log → Numbered (store_all r epoch es).log
  store_all_numbered r es h = store_all_keeps (λ s. Numbered s.log) epoch (λ s e. store-numbered s epoch e) r es h

  pub store_all_other : (r : ShardReplica) (es : List Entry) → (epoch ≡ r.epoch → ⊥) → store_all r epoch es ≡ r
  unfolding store_all
  store_all_other r [] n = refl
  store_all_other r (e ∷ es) n =
      let h : (store r epoch e).replica ≡ r = ap (λ v. v.replica) (store_other r epoch e n) in
      ap (λ s. store_all s epoch es) h ∙ store_all_other r es n

  -- each entry of the batch stands in l at its offset: a prefix of l stays one
  pub store_all_within : (l : Log) (r : ShardReplica) (es : List Entry) → Within r.log l
      → ((i : ℕ) (e : Entry) → nth es i ≡ some e → entry_at l e.offset ≡ some e) → Within (store_all r epoch es).log l
  unfolding store_all nth
  store_all_within l r [] w f = w
  store_all_within l r (e ∷ es) w f =
      store_all_within l (store r epoch e).replica es (store-within r epoch e l w (f 0 e refl)) (λ i. f (suc i))

-- adopt: what is kept is numbered; the length of the log that is left
pub adopted-numbered : (r : ShardReplica) (epoch end : ℕ) (t : List End) → Numbered r.log → Numbered (adopted r epoch end t).log
unfolding adopted cut_to
adopted-numbered r epoch end t h =
    by-test (λ (v : ShardReplica). Numbered v.log) (eqb epoch r.epoch) (λ p. h) (λ p. keep-numbered end t r.log h)

pub promote-log : (r : ShardReplica) (epoch : ℕ) → (promote r epoch).log ≡ r.log
unfolding promote
promote-log r epoch = refl
