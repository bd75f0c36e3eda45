-- An accepted Write of the definition: what was tested, and what it leaves of the node. Assumes nothing.
use Prim.Native.Nat.{ℕ, ◌+◌, ◌≤◌}
use mathlib.Core.Path.{◌≡◌, sym, ap, ◌∙◌}
use mathlib.Core.Bool.{Bool, true, false}
use mathlib.Core.List.{List}
use mathlib.Core.Option.{Option, none, some}
use native.Mathlib.Omega.{arith}
use lib.Dec.{ltb}
use borrow.Author.Tests.{le-ltb, ltb-false}
use Rattle.spec.specs.Refusals.{Refusal, unknown_shard, undecodable, outside_domain, malformed}
use Rattle.spec.specs.Keys.{Key, same_key}
use Rattle.spec.specs.Log.{Op, ShardReplica, append, last_offset}
use Rattle.spec.specs.Layout.Message as message
use Rattle.spec.specs.Node.Held.{Held, Node}
use Rattle.spec.specs.Node.Lease.{before, leased}
use Rattle.spec.specs.Node.Shards.{Result, gives, leads_at, held_shard, with_replica}
use Rattle.spec.specs.Node.Wire.{op_in_domain, stored_op}
use Rattle.spec.specs.Node.Client.{WriteAnswer, accepted, write_refused, ack_count, overfull, write_held, on_write}
use Rattle.spec.specs.Node.Calls.{late_time, write_with}
use Rattle.spec_laws.proofs.Lists.{none_some, some_same}
use Rattle.spec_laws.proofs.Log.Store.{push-length}
use Rattle.spec_laws.proofs.Node.Shards.{at_cases, at_held}
use Rattle.spec_laws.proofs.Node.After.{write-key}
use Rattle.spec_laws.proofs.Node.Frames.{at_other, at_after, at_expiry}
use Rattle.node_header.proofs.Lists.{by_case}

-- ---- no refusal is an acceptance

abbrev offset_in : WriteAnswer → Option ℕ
offset_in (accepted o) = some o
offset_in (write_refused r) = none

pub no_offset : {A : Type 0} (r : Refusal) (o : ℕ) → write_refused r ≡ accepted o → A
no_offset r o e = none_some (ap offset_in e)

pub longer : (r : ShardReplica) (op : Op) → last_offset (append r op) ≡ last_offset r + 1
unfolding append
longer r op = push-length r (record { epoch = r.epoch; offset = last_offset r + 1; op = op })

-- ---- at one shard

-- the tests of the admission, 23 apart: none of them reads the log
pub record Admits (leased : Bool) (least epoch : ℕ) (h : Held) : Type 0 where
  pub leads : leads_at h.role epoch ≡ true
  pub lease : leased ≡ true
  pub enough : ltb (ack_count h) least ≡ false

module _ (lease : Bool) (least epoch : ℕ) (op : Op) (h : Held) where
  abbrev r : ShardReplica
  r = append h.replica op

  pub admitted : Admits lease least epoch h → overfull r ≡ false → write_held lease least epoch op h ≡ gives (accepted (last_offset r)) (with_replica h r)
  unfolding write_held
  admitted a full = rw (a.leads, a.lease, a.enough, full)

  pub held-accepted : (o : ℕ) → (write_held lease least epoch op h).answer ≡ accepted o → Admits lease least epoch h × (overfull r ≡ false)
  unfolding write_held
  held-accepted o e =
      by_case (leads_at h.role epoch)
      (λ a. by_case lease
      (λ b. by_case (ltb (ack_count h) least)
      (λ c. no_offset _ o (rw (a, b, c) at e))
      (λ c. by_case (overfull r)
      (λ d. no_offset _ o (rw (a, b, c, d) at e))
      (λ d. (record { leads = a; lease = b; enough = c }, d))))
      (λ b. no_offset _ o (rw (a, b) at e)))
      (λ a. no_offset _ o (rw a at e))

-- ---- at the shard that it names

-- accepted at the offset o, it leaves p of the node n: the shard with the operation appended, and all else as it was
pub record Appended (n p : Node) (clock least : ℕ) (k : Key) (epoch : ℕ) (op : Op) (o : ℕ) : Type 0 where
  pub shard : Held
  pub held : held_shard n k ≡ some shard
  pub admits : Admits (leased n clock) least epoch shard
  pub room : last_offset shard.replica ≤ 1023
  pub offset : o ≡ last_offset shard.replica + 1
  pub after : held_shard p k ≡ some (with_replica shard (append shard.replica op))
  pub others : (j : Key) → same_key k j ≡ false → held_shard p j ≡ held_shard n j
  pub expiry : p.expiry ≡ n.expiry

module _ (n : Node) (clock least : ℕ) (k : Key) (epoch : ℕ) (op : Op) where
  abbrev does : Held → Result WriteAnswer Held
  does = write_held (leased n clock) least epoch op

  found : (o : ℕ) → (on_write n clock least k epoch op).answer ≡ accepted o → (h : Held) × (held_shard n k ≡ some h) × ((does h).answer ≡ accepted o)
  unfolding on_write
  found o =
      at_cases n k (write_refused unknown_shard) does
      (λ z. z.answer ≡ accepted o → (h : Held) × (held_shard n k ≡ some h) × ((does h).answer ≡ accepted o))
      (λ e q. no_offset unknown_shard o q) (λ h e q. (h, e, q))

  pub on-accepted : (o : ℕ) → (on_write n clock least k epoch op).answer ≡ accepted o
      → Appended n (on_write n clock least k epoch op).after clock least k epoch op o
  unfolding on_write
  on-accepted o e =
      let f = found o e in
      let h = f.0 in
      let a = held-accepted (leased n clock) least epoch op h o f.2 in
      let is = admitted (leased n clock) least epoch op h a.0 a.1 in
      let absent = write_refused unknown_shard in
      let key = write-key (leased n clock) least epoch op in
      record {
        shard = h;
        held = f.1;
        admits = a.0;
        room = omega (arith, longer h.replica op, ltb-false 1024 (last_offset (append h.replica op)) a.1);
        offset = some_same (ap offset_in (sym f.2 ∙ ap (λ (z : Result WriteAnswer Held). z.answer) is)) ∙ longer h.replica op;
        after = at_after n k absent does key h f.1 ∙ ap (λ (z : Result WriteAnswer Held). some z.after) is;
        others = λ j d. at_other n k absent does key j d;
        expiry = at_expiry n k absent does key;
      }

  -- with the admission's tests passed and room, it is accepted
  pub on_admitted : (h : Held) → held_shard n k ≡ some h → Admits (leased n clock) least epoch h → last_offset h.replica ≤ 1023
      → (on_write n clock least k epoch op).answer ≡ accepted (last_offset h.replica + 1)
  unfolding on_write
  on_admitted h e a room =
      let g = append h.replica op in
      let l = longer h.replica op in
      let full : overfull g ≡ false = le-ltb 1024 (last_offset g) (omega arith) in
      ap (λ (z : Result WriteAnswer Node). z.answer) (at_held n k (write_refused unknown_shard) does h e)
      ∙ ap (λ (z : Result WriteAnswer Held). z.answer) (admitted (leased n clock) least epoch op h a full) ∙ ap accepted l

-- a Write that passed at a shard passes there after another Write: the admission reads neither log nor vectors
pub admits_after : (n p : Node) (clock least epoch : ℕ) (h : Held) (r : ShardReplica) → p.expiry ≡ n.expiry
    → Admits (leased n clock) least epoch h → Admits (leased p clock) least epoch (with_replica h r)
unfolding leased ack_count
admits_after n p clock least epoch h r e a =
    record { leads = a.leads; lease = ap (λ (d : Option ℕ). before d clock) e ∙ a.lease; enough = a.enough }

-- ---- of bytes

-- the checks that come first
pub record Checked (clock : ℕ) (w : message.Write) : Type 0 where
  pub early : late_time clock ≡ false
  pub inside : op_in_domain w.op ≡ true

module _ (t : Key → Bool) (n : Node) (clock least : ℕ) (m : List ℕ) (w : message.Write) (read : message.decode_write m ≡ some w) where
  abbrev call : Result WriteAnswer Node
  call = on_write n clock least w.key w.epoch (stored_op w.op)

  pub with-lent : Checked clock w → t w.key ≡ true → write_with t n clock least m ≡ call
  unfolding write_with
  with-lent c e = rw (c.early, read, c.inside, e)

  pub with_unlent : Checked clock w → t w.key ≡ false → write_with t n clock least m ≡ gives (write_refused malformed) n
  unfolding write_with
  with_unlent c e = rw (c.early, read, c.inside, e)

  pub with-accepted : (o : ℕ) → (write_with t n clock least m).answer ≡ accepted o → Checked clock w × (t w.key ≡ true)
  unfolding write_with
  with-accepted o e =
      by_case (late_time clock) (λ a. no_offset undecodable o (rw a at e))
      (λ a. by_case (op_in_domain w.op)
      (λ b. by_case (t w.key)
      (λ c. (record { early = a; inside = b }, c))
      (λ c. no_offset malformed o (rw (a, read, b, c) at e)))
      (λ b. no_offset outside_domain o (rw (a, read, b) at e)))
