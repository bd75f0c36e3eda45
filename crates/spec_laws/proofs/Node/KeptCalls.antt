-- A well-formed node stays well formed under every call on bytes: the engine never refuses its own state. Assumes nothing.
use Prim.Native.Nat.{ℕ, suc, ◌≤◌}
use mathlib.Core.Path.{◌≡◌, refl, sym, ap, ◌∙◌, subst}
use mathlib.Core.Bool.{Bool, true, false, cond, not}
use mathlib.Core.List.{List, [], ◌∷◌, map}
use mathlib.Core.Option.{Option, none, some}
use native.Mathlib.Omega.{arith}
use lib.Dec.{T, leb, ltb}
use lib.ListN.{length}
use lib.Ieee.{Float, binary32, of_bits, fits}
use lib.Ieee.Bits.{of_bits-fits}
use borrow.Author.Tests.{le-leb, not-false}
use Rattle.spec.specs.Lists.{◌and◌, ◌or◌, every}
use Rattle.spec.specs.Limits.{max_name, max_components}
use Rattle.spec.specs.Keys.{Key}
use Rattle.spec.specs.Nearest.Order.{in_domain, bits_in_domain}
use Rattle.spec.specs.Map.Tables.{Map}
use Rattle.spec.specs.Map.WellFormed.{name_fits, well_formed_map}
use Rattle.spec.specs.Layout.Format.{Bytes, All}
use Rattle.spec.specs.Layout.Parts.{WireOp, wire_upsert, wire_delete, WireEntry}
use Rattle.spec.specs.Layout.Writable.{GoodOp, GoodEntry, GoodBits}
use Rattle.spec.specs.Layout.Message.{Write, decode_write, Query, decode_search, Replicated, decode_replicate, NewEpoch, decode_new_epoch, Copied, decode_copy_shard, Reply, decode_reply}
use Rattle.spec.specs.Node.Held.{Node}
use Rattle.spec.specs.Node.Shards.{Result}
use Rattle.spec.specs.Node.Wire.{float_of, floats_of, patterns_in_domain, op_in_domain, entry_in_domain, stored_op, stored_entry}
use Rattle.spec.specs.Node.Lease.{GrantAnswer}
use Rattle.spec.specs.Node.Client.{WriteAnswer, SearchAnswer, WaitAnswer}
use Rattle.spec.specs.Node.Backup.{BackupAnswer}
use Rattle.spec.specs.Node.Ack.{AckAnswer, OutcomeAnswer, Sent, Proposal, bad_reply}
use Rattle.spec.specs.Node.Shown.{ShownAnswer}
use Rattle.spec.specs.Node.WellFormed.{component, well_formed_vector, well_formed_op, well_formed_entry, well_formed_header, well_formed_node}
use Rattle.spec.specs.Node.Calls.{late_time, write_of, write_with, call_write, call_search, replicate_of, replicate_with, call_replicate, new_epoch_of, new_epoch_with, call_new_epoch, copy_of, copy_with, call_copy, grant_with, call_grant, wait_with, call_wait, ack_of, ack_with, call_ack, outcome_with, call_outcome, shown_with, call_shown}
use Rattle.spec_laws.proofs.Lists.{by-test, and_true, and_left, and_right}
use Rattle.spec_laws.proofs.Wire.Messages.{write_forth, replicate_forth, new_epoch_forth, copy_forth}
use Rattle.spec_laws.proofs.Map.Rows.{every_tail, every_cons}
use Rattle.spec_laws.proofs.Node.Refusals.{search_same}
use Rattle.spec_laws.proofs.Node.Formed.{FormedNode, node-formed, formed-node}
use Rattle.spec_laws.proofs.Node.Kept.{write_kept, wait_kept, grant-kept, replicate_kept, new_epoch_kept, copy_kept, ack_kept, outcome-kept}
use Rattle.spec_laws.proofs.Node.KeptMap.{map-kept}

-- ---- what a message brings, once its domain test has passed

true_of : (b : Bool) → T b → b ≡ true
true_of true t = refl
true_of false t = absurd t

-- any bits give an f32
component_of : (b : ℕ) → bits_in_domain b ≡ true → component (float_of b) ≡ true
unfolding bits_in_domain
component_of b e = and_true (fits binary32 (of_bits binary32 b)) (in_domain (of_bits binary32 b)) (true_of _ (of_bits-fits binary32 b)) e

components_of_lem : (bs : List ℕ) → every bits_in_domain bs ≡ true → every component (map float_of bs) ≡ true
components_of_lem [] e = unfold every in refl
components_of_lem (b ∷ bs) e =
    let t = every_tail bits_in_domain b bs e in
    every_cons component (float_of b) (map float_of bs) (component_of b t.0) (components_of_lem bs t.1)

length-floats : (bs : List ℕ) → length (map float_of bs) ≡ length bs
length-floats [] = refl
length-floats (b ∷ bs) = ap suc (length-floats bs)

vector-formed : (bs : List ℕ) → GoodBits bs → patterns_in_domain bs ≡ true → well_formed_vector (floats_of bs) ≡ true
unfolding well_formed_vector floats_of patterns_in_domain
vector-formed bs g e =
    let l = length-floats bs in
    let a = g.0 in
    let b = g.1 in
    and_true (leb 1 (length (map float_of bs))) (leb (length (map float_of bs)) max_components and every component (map float_of bs))
    (le-leb 1 (length (map float_of bs)) (omega arith))
    (and_true (leb (length (map float_of bs)) max_components) (every component (map float_of bs))
    (le-leb (length (map float_of bs)) max_components (omega arith)) (components_of_lem bs e))

pub op-formed : (op : WireOp) → GoodOp op → op_in_domain op ≡ true → well_formed_op (stored_op op) ≡ true
unfolding stored_op
op-formed (wire_upsert id bs) g e = vector-formed bs g.1 e
op-formed (wire_delete id) g e = refl

pub entries_formed : (es : List WireEntry) → All GoodEntry es → every entry_in_domain es ≡ true
    → every well_formed_entry (map stored_entry es) ≡ true
entries_formed [] g e = unfold every in refl
entries_formed (x ∷ xs) g e =
    let t = every_tail entry_in_domain x xs e in
    every_cons well_formed_entry (stored_entry x) (map stored_entry xs) (op-formed x.op g.0.2 t.0) (entries_formed xs g.1 t.1)

-- ---- the calls, whatever the test of the lent state

module _ (n : Node) (x : FormedNode n) where
  write_of_lem : (lent : Key → Bool) (now least : ℕ) (m : Option Write) → ((w : Write) → m ≡ some w → GoodOp w.op)
      → FormedNode (write_of lent n now least m).after
  write_of_lem lent now least none g = x
  write_of_lem lent now least (some w) g =
      let P : Result WriteAnswer Node → Type 0 = λ v. FormedNode v.after in
      by-test P (not (op_in_domain w.op)) (λ p. x)
      (λ p. by-test P (not (lent w.key)) (λ q. x)
      (λ q. write_kept n now least w.key w.epoch (stored_op w.op) (op-formed w.op (g w refl) (not-false (op_in_domain w.op) p)) x))

  pub write_with_kept : (lent : Key → Bool) (now least : ℕ) (s : List ℕ) → Bytes s → FormedNode (write_with lent n now least s).after
  unfolding write_with
  write_with_kept lent now least s b =
      by-test (λ (v : Result WriteAnswer Node). FormedNode v.after) (late_time now) (λ p. x)
      (λ p. write_of_lem lent now least (decode_write s) (λ w e. (write_forth s b w e).0.2))

  replicate_of_lem : (lent : Key → Bool) (m : Option Replicated) → ((w : Replicated) → m ≡ some w → GoodOp w.op)
      → FormedNode (replicate_of lent n m).after
  replicate_of_lem lent none g = x
  replicate_of_lem lent (some w) g =
      let P : Result BackupAnswer Node → Type 0 = λ v. FormedNode v.after in
      by-test P (not (op_in_domain w.op)) (λ p. x)
      (λ p. by-test P (not (lent w.key)) (λ q. x)
      (λ q. replicate_kept n w.key w.epoch w.offset (stored_op w.op) (op-formed w.op (g w refl) (not-false (op_in_domain w.op) p)) x))

  pub replicate_with_kept : (lent : Key → Bool) (s : List ℕ) → Bytes s → FormedNode (replicate_with lent n s).after
  unfolding replicate_with
  replicate_with_kept lent s b = replicate_of_lem lent (decode_replicate s) (λ w e. (replicate_forth s b w e).0.3)

  new_epoch_of_lem : (lent : Key → Bool) (m : Option NewEpoch) → ((w : NewEpoch) → m ≡ some w → length w.key.collection ≤ max_name)
      → FormedNode (new_epoch_of lent n m).after
  new_epoch_of_lem lent none g = x
  new_epoch_of_lem lent (some w) g =
      by-test (λ (v : Result BackupAnswer Node). FormedNode v.after) (not (lent w.key)) (λ q. x)
      (λ q. new_epoch_kept n w.key w.epoch w.end w.table w.metric (le-leb (length w.key.collection) max_name (g w refl)) x)

  pub new_epoch_with_kept : (lent : Key → Bool) (s : List ℕ) → Bytes s → FormedNode (new_epoch_with lent n s).after
  unfolding new_epoch_with
  new_epoch_with_kept lent s b = new_epoch_of_lem lent (decode_new_epoch s) (λ w e. (new_epoch_forth s b w e).0.0.0.0)

  copy_of_lem : (lent : Key → Bool) (m : Option Copied) → ((w : Copied) → m ≡ some w → All GoodEntry w.entries)
      → FormedNode (copy_of lent n m).after
  copy_of_lem lent none g = x
  copy_of_lem lent (some w) g =
      let P : Result BackupAnswer Node → Type 0 = λ v. FormedNode v.after in
      by-test P (not (every entry_in_domain w.entries)) (λ p. x)
      (λ p. by-test P (not (lent w.key)) (λ q. x)
      (λ q. copy_kept n w.key w.epoch (map stored_entry w.entries) (entries_formed w.entries (g w refl) (not-false (every entry_in_domain w.entries) p)) x))

  pub copy_with_kept : (lent : Key → Bool) (s : List ℕ) → Bytes s → FormedNode (copy_with lent n s).after
  unfolding copy_with
  copy_with_kept lent s b = copy_of_lem lent (decode_copy_shard s) (λ w e. (copy_forth s b w e).0.3)

  pub grant_with_kept : (lent : Bool) (i sent lease : ℕ) → FormedNode (grant_with lent n i sent lease).after
  unfolding grant_with
  grant_with_kept lent i sent lease =
      let P : Result GrantAnswer Node → Type 0 = λ v. FormedNode v.after in
      by-test P (late_time sent or late_time lease) (λ p. x) (λ p. by-test P (not lent) (λ q. x) (λ q. grant-kept n i sent lease x))

  pub wait_with_kept : (lent : Bool) (now timeout : ℕ) (k : Key) (epoch offset : ℕ) → FormedNode (wait_with lent n now timeout k epoch offset).after
  unfolding wait_with
  wait_with_kept lent now timeout k epoch offset =
      let P : Result WaitAnswer Node → Type 0 = λ v. FormedNode v.after in
      by-test P (late_time now or late_time timeout) (λ p. x) (λ p. by-test P (not lent) (λ q. x) (λ q. wait_kept n now timeout k epoch offset x))

  ack_of_lem : (lent : Bool) (k : Key) (epoch peer : ℕ) (s : Sent) (r : Option Reply) → FormedNode (ack_of lent n k epoch peer s r).after
  ack_of_lem lent k epoch peer s none = x
  ack_of_lem lent k epoch peer s (some r) =
      let P : Result AckAnswer Node → Type 0 = λ v. FormedNode v.after in
      by-test P (bad_reply r) (λ p. x) (λ p. by-test P (not lent) (λ q. x) (λ q. ack_kept n k epoch peer s r x))

  pub ack_with_kept : (lent : Bool) (k : Key) (epoch peer : ℕ) (s : Sent) (b : List ℕ) → FormedNode (ack_with lent n k epoch peer s b).after
  unfolding ack_with
  ack_with_kept lent k epoch peer s b = ack_of_lem lent k epoch peer s (decode_reply b)

  pub outcome_with_kept : (lent : Bool) (k : Key) (epoch peer : ℕ) (what : Proposal) (applied : Bool)
      → FormedNode (outcome_with lent n k epoch peer what applied).after
  unfolding outcome_with
  outcome_with_kept lent k epoch peer what applied =
      by-test (λ (v : Result OutcomeAnswer Node). FormedNode v.after) (not lent) (λ q. x) (λ q. outcome-kept n k epoch peer what applied x)

-- ---- the calls of a node

module _ (n : Node) (w : well_formed_node n ≡ true) where
  pub call_write_kept : (now least : ℕ) (s : List ℕ) → Bytes s → well_formed_node (call_write n now least s).after ≡ true
  unfolding call_write
  call_write_kept now least s b = formed-node _ (write_with_kept n (node-formed n w) _ now least s b)

  pub call_search_kept : (now room : ℕ) (s : List ℕ) → well_formed_node (call_search n now room s).after ≡ true
  unfolding call_search
  call_search_kept now room s = subst (λ (m : Node). well_formed_node m ≡ true) (sym (search_same _ n now room s)) w

  pub call_replicate_kept : (s : List ℕ) → Bytes s → well_formed_node (call_replicate n s).after ≡ true
  unfolding call_replicate
  call_replicate_kept s b = formed-node _ (replicate_with_kept n (node-formed n w) _ s b)

  pub call_new_epoch_kept : (s : List ℕ) → Bytes s → well_formed_node (call_new_epoch n s).after ≡ true
  unfolding call_new_epoch
  call_new_epoch_kept s b = formed-node _ (new_epoch_with_kept n (node-formed n w) _ s b)

  pub call_copy_kept : (s : List ℕ) → Bytes s → well_formed_node (call_copy n s).after ≡ true
  unfolding call_copy
  call_copy_kept s b = formed-node _ (copy_with_kept n (node-formed n w) _ s b)

  pub call_grant_kept : (i sent lease : ℕ) → well_formed_node (call_grant n i sent lease).after ≡ true
  unfolding call_grant
  call_grant_kept i sent lease = formed-node _ (grant_with_kept n (node-formed n w) _ i sent lease)

  pub call_wait_kept : (now timeout : ℕ) (k : Key) (epoch offset : ℕ) → well_formed_node (call_wait n now timeout k epoch offset).after ≡ true
  unfolding call_wait
  call_wait_kept now timeout k epoch offset = formed-node _ (wait_with_kept n (node-formed n w) _ now timeout k epoch offset)

  pub call_ack_kept : (k : Key) (epoch peer : ℕ) (s : Sent) (b : List ℕ) → well_formed_node (call_ack n k epoch peer s b).after ≡ true
  unfolding call_ack
  call_ack_kept k epoch peer s b = formed-node _ (ack_with_kept n (node-formed n w) _ k epoch peer s b)

  pub call_outcome_kept : (k : Key) (epoch peer : ℕ) (what : Proposal) (applied : Bool)
      → well_formed_node (call_outcome n k epoch peer what applied).after ≡ true
  unfolding call_outcome
  call_outcome_kept k epoch peer what applied = formed-node _ (outcome_with_kept n (node-formed n w) _ k epoch peer what applied)

  pub call_shown_kept : (fresh : ℕ) (m : Map) → well_formed_node (call_shown n fresh m).after ≡ true
  unfolding call_shown shown_with
  call_shown_kept fresh m =
      by-test (λ (v : Result ShownAnswer Node). well_formed_node v.after ≡ true) (not (well_formed_header n and well_formed_map m)) (λ q. w)
      (λ q. formed-node _ (map-kept n fresh m (and_right (well_formed_header n) (well_formed_map m) (not-false (well_formed_header n and well_formed_map m) q)) (node-formed n w)))
