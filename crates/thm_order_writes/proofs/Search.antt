-- Two nodes that are the same but for their logs: a Search reads no log, so it answers both alike. Assumes nothing.
use Prim.Native.Nat.{ℕ}
use mathlib.Core.Path.{◌≡◌, refl, sym, ap, ◌∙◌}
use mathlib.Core.Bool.{Bool, cond, not}
use mathlib.Core.Logic.{◌⊎◌, inl, inr}
use mathlib.Core.List.{List, []}
use mathlib.Core.Option.{Option, none, some}
use lib.Dec.{ltb}
use lib.Ieee.{Float}
use lib.ListN.{length}
use Rattle.spec.specs.Refusals.{unknown_shard, not_primary, no_lease, no_room, malformed}
use Rattle.spec.specs.Keys.{Key}
use Rattle.spec.specs.Nearest.Search.{hits}
use Rattle.spec.specs.Layout.Message.{Query, decode_search}
use Rattle.spec.specs.Node.Held.{Held, Node}
use Rattle.spec.specs.Node.Lease.{before, leased}
use Rattle.spec.specs.Node.Shards.{Result, leads_at, held_shard, with_replica}
use Rattle.spec.specs.Node.Wire.{patterns_in_domain, floats_of}
use Rattle.spec.specs.Node.Client.{SearchAnswer, found, search_refused, search_held, on_search}
use Rattle.spec.specs.Node.Calls.{late_time, search_of, search_with}
use Rattle.spec_laws.proofs.Node.Shards.{by_both, at_cases}
use Rattle.node_header.proofs.Lists.{by_case}

-- a held shard, and one that may not be held, without its log
abbrev pub bare : Held → Held
bare h = with_replica h (record { epoch = h.replica.epoch; metric = h.replica.metric; log = []; vectors = h.replica.vectors })

abbrev pub unlogged : Option Held → Option Held
unlogged none = none
unlogged (some h) = some (bare h)

-- what a Search reads of a node is the same
pub record Alike (n p : Node) : Type 0 where
  pub expiry : n.expiry ≡ p.expiry
  pub shards : (j : Key) → unlogged (held_shard n j) ≡ unlogged (held_shard p j)

module _ (room epoch k : ℕ) (query : List Float) where
  -- what it says of a shard
  abbrev said : Bool → Held → SearchAnswer
  said lease h =
      let l = hits h.replica.metric query h.replica.vectors k in
      cond (not (leads_at h.role epoch)) (search_refused (not_primary h.replica.epoch))
      (cond (not lease) (search_refused no_lease) (cond (ltb room (length l)) (search_refused no_room) (found l)))

  is_said : (lease : Bool) (h : Held) → (search_held lease room epoch k query h).answer ≡ said lease h
  unfolding search_held
  is_said lease h =
      let l = hits h.replica.metric query h.replica.vectors k in
      let P : Result SearchAnswer Held → SearchAnswer → Type 0 = λ r a. r.answer ≡ a in
      by_both P (not (leads_at h.role epoch)) (λ e. refl)
      (λ e. by_both P (not lease) (λ e. refl) (λ e. by_both P (ltb room (length l)) (λ e. refl) (λ e. refl)))

  abbrev said_of : Bool → Option Held → SearchAnswer
  said_of lease none = search_refused unknown_shard
  said_of lease (some h) = said lease h

  said-bare : (lease : Bool) (o : Option Held) → said_of lease o ≡ said_of lease (unlogged o)
  said-bare lease none = refl
  said-bare lease (some h) = refl

  on-said : (n : Node) (now : ℕ) (key : Key) → (on_search n now room key epoch k query).answer ≡ said_of (leased n now) (held_shard n key)
  unfolding on_search
  on-said n now key =
      at_cases n key (search_refused unknown_shard) (search_held (leased n now) room epoch k query)
      (λ r. r.answer ≡ said_of (leased n now) (held_shard n key))
      (λ e. sym (ap (said_of (leased n now)) e))
      (λ h e. is_said (leased n now) h ∙ sym (ap (said_of (leased n now)) e))

  pub on_alike : (n p : Node) → Alike n p → (now : ℕ) (key : Key)
      → (on_search n now room key epoch k query).answer ≡ (on_search p now room key epoch k query).answer
  unfolding leased
  on_alike n p a now key =
      on-said n now key ∙ said-bare (leased n now) (held_shard n key)
      ∙ ap (λ (d : Option ℕ). said_of (before d now) (unlogged (held_shard n key))) a.expiry
      ∙ ap (said_of (leased p now)) (a.shards key)
      ∙ sym (said-bare (leased p now) (held_shard p key)) ∙ sym (on-said p now key)

-- of bytes, by any tests of the lent state: one of the two finds it malformed, or they answer alike
abbrev pub Either : (r s : Result SearchAnswer Node) → Type 0
Either r s = (r.answer ≡ search_refused malformed) ⊎ ((s.answer ≡ search_refused malformed) ⊎ (r.answer ≡ s.answer))

pub with_alike : (t u : Key → Bool) (n p : Node) → Alike n p → (now room : ℕ) (m : List ℕ)
    → Either (search_with t n now room m) (search_with u p now room m)
unfolding search_with
with_alike t u n p a now room m = by_both Either (late_time now) (λ e. inr (inr refl)) (λ e. of (decode_search m))
  where
    of : (o : Option Query) → Either (search_of t n now room o) (search_of u p now room o)
    of none = inr (inr refl)
    of (some q) =
        by_both Either (not (patterns_in_domain q.bits)) (λ e. inr (inr refl))
        (λ e. by_case (t q.key)
        (λ b. by_case (u q.key)
        (λ c. inr (inr (rw (b, c) (on_alike room q.epoch q.k (floats_of q.bits) n p a now q.key))))
        (λ c. inr (inl (rw c refl))))
        (λ b. inl (rw b refl)))
