-- Paper 02, request 2.3: no call gives a replica an own epoch but that of its beginning, of an alignment that it adopted, or of a time as
-- primary; none that is only read in a map or in a reply. One law for each call of a node, whatever the test of what is lent says. The step of
-- a worker and its request change nothing. Assumes nothing.
use Prim.Native.Nat.{ℕ, suc, ◌≤◌}
use mathlib.Core.Path.{◌≡◌, refl, sym, ap, subst, ◌∙◌}
use mathlib.Core.Bool.{Bool, true, false, not}
use mathlib.Core.List.{List, [], ◌∷◌, map}
use mathlib.Core.Logic.{◌⊎◌, inl, inr}
use mathlib.Core.Option.{Option, none, some}
use native.Mathlib.Omega.{arith}
use lib.Dec.{eqb, leb, ltb}
use lib.Ieee.{Float}
use lib.ListN.{length}
use borrow.Author.Tests.{leb-true, ltb-true, eq-eqb, eqb-true}
use Rattle.spec.specs.Keys.{Key, same_key}
use Rattle.spec.specs.Limits.{max_held}
use Rattle.spec.specs.Lists.{◌and◌, ◌or◌, nth, every, any, find, put}
use Rattle.spec.specs.Log.{Op, Entry, End, ShardReplica, push, append, cut_to, adopted, promote, last_offset}
use Rattle.spec.specs.Layout.Message.{Write, Query, Replicated, NewEpoch, Copied, Reply, reply_adopted, decode_write, decode_search, decode_replicate, decode_new_epoch, decode_copy_shard, decode_reply}
use Rattle.spec.specs.Map.Tables.{Map, ShardInfo}
use Rattle.spec.specs.Node.Held.{Held, Node}
use Rattle.spec.specs.Node.Shards.{Result, gives, held_shard, of_key, at_shard, held_below, with_held, leads_at, begun}
use Rattle.spec.specs.Node.Wire.{patterns_in_domain, op_in_domain, entry_in_domain, floats_of, stored_op, stored_entry}
use Rattle.spec.specs.Node.Lease.{GrantAnswer, grant, leased}
use Rattle.spec.specs.Node.Client.{write_held, on_write, SearchAnswer, search_held, on_search, wait_held, on_wait}
use Rattle.spec.specs.Node.Backup.{BackupAnswer, replied, unheld, replicate_held, on_replicate, leads_from, new_epoch_held, begin_epoch, new_epoch_at, on_new_epoch, copy_held, on_copy}
use Rattle.spec.specs.Node.Ack.{Sent, bad_reply, ack_held, on_ack, Proposal, leaves, outcome_at, on_outcome}
use Rattle.spec.specs.Node.Shown.{ShownAnswer, Showing, refreshed, is_primary, promotes, promoted_to, kept_as, show_held, show_listed, listed_as, collection_metric, show_shard, or_not, showings, held_of, too_many, take_map, dead_as, on_map}
use Rattle.spec.specs.Node.Calls.{late_time, write_of, write_with, search_of, search_with, replicate_of, replicate_with, new_epoch_of, new_epoch_with, copy_of, copy_with, grant_with, wait_with, ack_of, ack_with, outcome_with, shown_with}
use Rattle.spec.specs.Node.OwnEpoch.{epoch_in, own_epoch, AfterNewEpoch, AfterMap}
use Rattle.spec.specs.declared.Metric.{Metric}
use Rattle.spec.specs.declared.Role.{Role}
use Rattle.spec.specs.declared.Role.TheVariants.{Backup, Primary}
use Rattle.spec_laws.proofs.Lists.{by-test, and_right, none_some, some_same}
use Rattle.spec_laws.proofs.Map.Orders.{same_key_lem}
use Rattle.spec_laws.proofs.Map.Rows.{find_true}
use Rattle.spec_laws.proofs.Log.Store.{store-epoch, store_all_epoch}
use Rattle.spec_laws.proofs.Node.Shards.{at-absent, at_held}
use Rattle.spec_laws.proofs.Node.After.{write-after, write-key, wait_key, wait_replica, replicate_after, replicate_key, new_epoch_key, copy_after, copy_key, ack_key, ack_replica, outcome-key, outcome-replica}
use Rattle.spec_laws.proofs.Node.Frames.{at_other, at_after, put_other, put-found}

-- ---- calls that leave every own epoch

module _ {A : Type 0} (n : Node) (k : Key) (absent : A) (f : Held → Result A Held) (key : (h : Held) → (f h).after.key ≡ h.key)
    (epoch : (h : Held) → (f h).after.replica.epoch ≡ h.replica.epoch) where
  -- a call on one shard that leaves its epoch
  at_own : (j : Key) → own_epoch (at_shard n k absent f).after j ≡ own_epoch n j
  unfolding own_epoch
  at_own j = go (same_key k j) refl
    where
      here : (o : Option Held) → held_shard n k ≡ o → epoch_in (held_shard (at_shard n k absent f).after k) ≡ epoch_in (held_shard n k)
      here none e = ap (λ (r : Result A Node). epoch_in (held_shard r.after k)) (at-absent n k absent f e)
      here (some h) e = ap epoch_in (at_after n k absent f key h e) ∙ ap some (epoch h) ∙ ap epoch_in (sym e)

      go : (b : Bool) → same_key k j ≡ b → epoch_in (held_shard (at_shard n k absent f).after j) ≡ epoch_in (held_shard n j)
      go true e = subst (λ (z : Key). epoch_in (held_shard (at_shard n k absent f).after z) ≡ epoch_in (held_shard n z)) (same_key_lem k j e) (here (held_shard n k) refl)
      go false e = ap epoch_in (at_other n k absent f key j e)

module _ (n : Node) (k : Key) where
  abbrev Same : {A : Type 0} → Result A Node → Type 0
  Same r = own_epoch r.after k ≡ own_epoch n k

  pub write-own : (lent : Key → Bool) (now least : ℕ) (s : List ℕ) → Same (write_with lent n now least s)
  unfolding write_with on_write
  write-own lent now least s = by-test Same (late_time now) (λ t. refl) (λ t. go (decode_write s))
    where
      epoch : (lease : Bool) (e : ℕ) (op : Op) (h : Held) → (write_held lease least e op h).after.replica.epoch ≡ h.replica.epoch
      epoch lease e op h = write-after (λ (x : Held). x.replica.epoch ≡ h.replica.epoch) h refl lease least e op (λ q. unfold append in unfold push in refl)

      go : (o : Option Write) → Same (write_of lent n now least o)
      go none = refl
      go (some m) =
          by-test Same (not (op_in_domain m.op)) (λ t. refl)
          (λ t. by-test Same (not (lent m.key)) (λ u. refl)
          (λ u. at_own n m.key _ (write_held (leased n now) least m.epoch (stored_op m.op)) (write-key (leased n now) least m.epoch (stored_op m.op))
          (epoch (leased n now) m.epoch (stored_op m.op)) k))

  -- a search leaves the shard
  searched : (lease : Bool) (room e c : ℕ) (q : List Float) (h : Held) → (search_held lease room e c q h).after ≡ h
  unfolding search_held
  searched lease room e c q h =
      by-test (λ (r : Result SearchAnswer Held). r.after ≡ h) (not (leads_at h.role e)) (λ t. refl)
      (λ t. by-test (λ (r : Result SearchAnswer Held). r.after ≡ h) (not lease) (λ u. refl)
      (λ u. by-test (λ (r : Result SearchAnswer Held). r.after ≡ h) (ltb room _) (λ v. refl) (λ v. refl)))

  pub search_own : (lent : Key → Bool) (now room : ℕ) (s : List ℕ) → Same (search_with lent n now room s)
  unfolding search_with on_search
  search_own lent now room s = by-test Same (late_time now) (λ t. refl) (λ t. go (decode_search s))
    where
      go : (o : Option Query) → Same (search_of lent n now room o)
      go none = refl
      go (some m) =
          by-test Same (not (patterns_in_domain m.bits)) (λ t. refl)
          (λ t. by-test Same (not (lent m.key)) (λ u. refl)
          (λ u. at_own n m.key _ (search_held (leased n now) room m.epoch m.k (floats_of m.bits))
          (λ h. ap (λ (x : Held). x.key) (searched (leased n now) room m.epoch m.k (floats_of m.bits) h))
          (λ h. ap (λ (x : Held). x.replica.epoch) (searched (leased n now) room m.epoch m.k (floats_of m.bits) h)) k))

  pub replicate_own : (lent : Key → Bool) (s : List ℕ) → Same (replicate_with lent n s)
  unfolding replicate_with on_replicate
  replicate_own lent s = go (decode_replicate s)
    where
      epoch : (e o : ℕ) (op : Op) (h : Held) → (replicate_held e o op h).after.replica.epoch ≡ h.replica.epoch
      epoch e o op h =
          replicate_after (λ (x : Held). x.replica.epoch ≡ h.replica.epoch) h refl e o op
          (λ q. store-epoch h.replica e (record { epoch = e; offset = o; op = op }))

      go : (o : Option Replicated) → Same (replicate_of lent n o)
      go none = refl
      go (some m) =
          by-test Same (not (op_in_domain m.op)) (λ t. refl)
          (λ t. by-test Same (not (lent m.key)) (λ u. refl)
          (λ u. at_own n m.key unheld (replicate_held m.epoch m.offset (stored_op m.op)) (replicate_key m.epoch m.offset (stored_op m.op))
          (epoch m.epoch m.offset (stored_op m.op)) k))

  pub copy_own : (lent : Key → Bool) (s : List ℕ) → Same (copy_with lent n s)
  unfolding copy_with on_copy
  copy_own lent s = go (decode_copy_shard s)
    where
      epoch : (e : ℕ) (es : List Entry) (h : Held) → (copy_held e es h).after.replica.epoch ≡ h.replica.epoch
      epoch e es h = copy_after (λ (x : Held). x.replica.epoch ≡ h.replica.epoch) h refl e es (λ q. store_all_epoch e h.replica es)

      go : (o : Option Copied) → Same (copy_of lent n o)
      go none = refl
      go (some m) =
          by-test Same (not (every entry_in_domain m.entries)) (λ t. refl)
          (λ t. by-test Same (not (lent m.key)) (λ u. refl)
          (λ u. at_own n m.key unheld (copy_held m.epoch (map stored_entry m.entries)) (copy_key m.epoch (map stored_entry m.entries))
          (epoch m.epoch (map stored_entry m.entries)) k))

  pub grant-own : (lent : Bool) (i sent lease : ℕ) → Same (grant_with lent n i sent lease)
  unfolding grant_with grant own_epoch held_shard
  grant-own lent i sent lease =
      by-test (Same {A = GrantAnswer}) (late_time sent or late_time lease) (λ t. refl)
      (λ t. by-test (Same {A = GrantAnswer}) (not lent) (λ u. refl)
      (λ u. by-test (λ (x : Node). epoch_in (find (of_key k) x.held) ≡ epoch_in (find (of_key k) n.held)) (eqb i n.incarnation) (λ v. refl) (λ v. refl)))

  pub wait_own : (lent : Bool) (now timeout : ℕ) (j : Key) (epoch offset : ℕ) → Same (wait_with lent n now timeout j epoch offset)
  unfolding wait_with on_wait
  wait_own lent now timeout j epoch offset =
      by-test Same (late_time now or late_time timeout) (λ t. refl)
      (λ t. by-test Same (not lent) (λ u. refl)
      (λ u. at_own n j _ (wait_held now timeout epoch offset) (wait_key now timeout epoch offset)
      (λ h. ap (λ (r : ShardReplica). r.epoch) (wait_replica now timeout epoch offset h)) k))

  pub ack_own : (lent : Bool) (j : Key) (epoch peer : ℕ) (sent : Sent) (s : List ℕ) → Same (ack_with lent n j epoch peer sent s)
  unfolding ack_with on_ack
  ack_own lent j epoch peer sent s = go (decode_reply s)
    where
      go : (o : Option Reply) → Same (ack_of lent n j epoch peer sent o)
      go none = refl
      go (some r) =
          by-test Same (bad_reply r) (λ t. refl)
          (λ t. by-test Same (not lent) (λ u. refl)
          (λ u. by-test Same (bad_reply r) (λ v. refl)
          (λ v. at_own n j _ (ack_held epoch peer sent r) (ack_key epoch peer sent r)
          (λ h. ap (λ (z : ShardReplica). z.epoch) (ack_replica epoch peer sent r h)) k)))

  pub outcome-own : (lent : Bool) (j : Key) (epoch peer : ℕ) (what : Proposal) (applied : Bool) → Same (outcome_with lent n j epoch peer what applied)
  unfolding outcome_with on_outcome
  outcome-own lent j epoch peer what applied =
      by-test Same (not lent) (λ t. refl)
      (λ t. at_own n j _ (outcome_at n.id epoch peer (leaves what applied)) (outcome-key n.id epoch peer (leaves what applied))
      (λ h. ap (λ (r : ShardReplica). r.epoch) (outcome-replica n.id epoch peer (leaves what applied) h)) k)

-- ---- NewEpoch

-- an adopted log is at the message's epoch, aligned or kept
adopted-epoch : (r : ShardReplica) (epoch end : ℕ) (t : List End) → (adopted r epoch end t).epoch ≡ epoch
unfolding adopted cut_to
adopted-epoch r epoch end t =
    by-test (λ (v : ShardReplica). v.epoch ≡ epoch) (eqb epoch r.epoch) (λ e. sym (eqb-true epoch r.epoch e)) (λ e. refl)

-- a shard after the call: its epoch as it was, or the message's, with the answer Adopted
abbrev AlignedHeld : (epoch : ℕ) → Held → Result BackupAnswer Held → Type 0
AlignedHeld epoch h r =
    (r.after.replica.epoch ≡ h.replica.epoch) ⊎ ((o : ℕ) × (r.answer ≡ replied (reply_adopted o)) × (r.after.replica.epoch ≡ epoch))

new_epoch_held_lem : (epoch end : ℕ) (t : List End) (h : Held) → AlignedHeld epoch h (new_epoch_held epoch end t h)
unfolding new_epoch_held
new_epoch_held_lem epoch end t h =
    by-test (AlignedHeld epoch h) (leads_from h.role epoch) (λ p. inl refl)
    (λ p. by-test (AlignedHeld epoch h) (ltb epoch h.replica.epoch) (λ q. inl refl)
    (λ q. inr (last_offset (adopted h.replica epoch end t), refl, adopted-epoch h.replica epoch end t)))

-- one that begins is at the message's epoch
abbrev AlignedNew : (epoch : ℕ) → Result BackupAnswer Held → Type 0
AlignedNew epoch r = (o : ℕ) × (r.answer ≡ replied (reply_adopted o)) × (r.after.replica.epoch ≡ epoch)

new_epoch_begun : (key : Key) (metric : Metric) (epoch end : ℕ) (t : List End) → AlignedNew epoch (new_epoch_held epoch end t (begun key metric))
unfolding new_epoch_held
new_epoch_begun key metric epoch end t =
    let r = (begun key metric).replica in
    by-test (AlignedNew epoch) (ltb epoch 0) (λ q. absurd (omega (arith, ltb-true epoch 0 q)))
    (λ q. (last_offset (adopted r epoch end t), refl, adopted-epoch r epoch end t))

module _ (n : Node) (k : Key) (m : NewEpoch) where
  abbrev After : Result BackupAnswer Node → Type 0
  After r = AfterNewEpoch n (some m) k r

  abbrev aligns : Held → Result BackupAnswer Held
  aligns = new_epoch_held m.epoch m.end m.table

  -- at a held shard
  new_epoch_at_lem : (h : Held) → held_shard n m.key ≡ some h → After (at_shard n m.key unheld aligns)
  unfolding own_epoch
  new_epoch_at_lem h e = go (same_key m.key k) refl
    where
      key : (x : Held) → (aligns x).after.key ≡ x.key
      key = new_epoch_key m.epoch m.end m.table

      here : m.key ≡ k → AlignedHeld m.epoch h (aligns h) → After (at_shard n m.key unheld aligns)
      here s (inl q) =
          inl (subst (λ (z : Key). epoch_in (held_shard (at_shard n m.key unheld aligns).after z) ≡ epoch_in (held_shard n z)) s
          (ap epoch_in (at_after n m.key unheld aligns key h e) ∙ ap some q ∙ ap epoch_in (sym e)))
      here s (inr q) = inr (record {
        message = m;
        decoded = refl;
        key = s;
        offset = q.0;
        answer = ap (λ (r : Result BackupAnswer Node). r.answer) (at_held n m.key unheld aligns h e) ∙ q.1;
        epoch =
            subst (λ (z : Key). epoch_in (held_shard (at_shard n m.key unheld aligns).after z) ≡ some m.epoch) s
            (ap epoch_in (at_after n m.key unheld aligns key h e) ∙ ap some q.2);
      })

      go : (b : Bool) → same_key m.key k ≡ b → After (at_shard n m.key unheld aligns)
      go true s = here (same_key_lem m.key k s) (new_epoch_held_lem m.epoch m.end m.table h)
      go false s = inl (ap epoch_in (at_other n m.key unheld aligns key k s))

  -- at one that begins
  new_epoch_begins : After (begin_epoch n m.key m.epoch m.end m.table m.metric)
  unfolding own_epoch held_shard
  new_epoch_begins = by-test After (leb max_held (length n.held)) (λ t. inl refl) (λ t. go (same_key m.key k) refl)
    where
      new : Result BackupAnswer Held
      new = aligns (begun m.key m.metric)

      named : new.after.key ≡ m.key
      named = new_epoch_key m.epoch m.end m.table (begun m.key m.metric)

      found : m.key ≡ k → find (of_key k) (put held_below new.after n.held) ≡ some new.after
      found s = subst (λ (z : Key). find (of_key z) (put held_below new.after n.held) ≡ some new.after) (named ∙ s) (put-found new.after n.held)

      go : (b : Bool) → same_key m.key k ≡ b → After (gives new.answer (with_held n (put held_below new.after n.held)))
      go true s =
          let q = new_epoch_begun m.key m.metric m.epoch m.end m.table in
          inr (record {
            message = m;
            decoded = refl;
            key = same_key_lem m.key k s;
            offset = q.0;
            answer = q.1;
            epoch = ap epoch_in (found (same_key_lem m.key k s)) ∙ ap some q.2;
          })
      go false s =
          inl (ap epoch_in (put_other new.after k (ap (λ (z : Key). same_key z k) named ∙ s) n.held))

  new_epoch_cases : (o : Option Held) → held_shard n m.key ≡ o → After (new_epoch_at n m.key m.epoch m.end m.table m.metric o)
  new_epoch_cases none e = new_epoch_begins
  new_epoch_cases (some h) e = new_epoch_at_lem h e

-- the own epoch is that of an alignment that was adopted, or as it was
pub new_epoch_own : (n : Node) (k : Key) (lent : Key → Bool) (s : List ℕ) → AfterNewEpoch n (decode_new_epoch s) k (new_epoch_with lent n s)
unfolding new_epoch_with on_new_epoch
new_epoch_own n k lent s = go (decode_new_epoch s)
  where
    go : (o : Option NewEpoch) → AfterNewEpoch n o k (new_epoch_of lent n o)
    go none = inl refl
    go (some m) =
        by-test (AfterNewEpoch n (some m) k) (not (lent m.key)) (λ t. inl refl) (λ t. new_epoch_cases n k m (held_shard n m.key) refl)

-- ---- a shown map

-- a shard after the map: its epoch as it was, or the map's, at which the node leads
record ShownHeld (me : ℕ) (i : ShardInfo) (h g : Held) : Type 0 where
  key : g.key ≡ h.key
  epoch :
      (g.replica.epoch ≡ h.replica.epoch)
      ⊎ ((is_primary i.primary me ≡ true) × (leads_at g.role i.epoch ≡ true) × (g.replica.epoch ≡ i.epoch))

show_own : (me : ℕ) (i : ShardInfo) (metric : Metric) (h : Held) → ShownHeld me i h (show_held me i metric h).held
unfolding show_held
show_own me i metric h =
    by-test P (is_primary i.primary me)
    (λ p. by-test P (promotes h i) (λ q. promoted p (leb-true h.replica.epoch i.epoch (and_right _ _ q))) (λ q. kept h.role))
    (λ p. record { key = refl; epoch = inl refl })
  where
    P : Showing → Type 0
    P s = ShownHeld me i h s.held

    promoted : is_primary i.primary me ≡ true → h.replica.epoch ≤ i.epoch → P (promoted_to me i metric h)
    promoted p le =
        unfold promoted_to in
        unfold promote in
        record { key = refl; epoch = inr (p, eq-eqb i.epoch i.epoch refl, omega (arith, le)) }

    kept : (r : Role) → P (kept_as me i metric h r)
    kept Backup = unfold kept_as in record { key = refl; epoch = inl refl }
    kept (Primary e o) = unfold kept_as in record { key = refl; epoch = inl refl }

module _ (n : Node) (m : Map) (k : Key) where
  -- a node that is left as it was
  left : (o : Option Held) → held_shard n k ≡ o → AfterMap n m k o
  unfolding own_epoch
  left none e = tt
  left (some h) e = inl (ap epoch_in e)

  -- one shard of the map, which stands at a place
  module _ (i : ShardInfo) (place : ℕ) (at : nth m.shards place ≡ some i) where
    shown-from : (h g : Held) → h.key ≡ i.key → ShownHeld n.id i h g → g.key ≡ k
        → ((h.replica.epoch ≡ g.replica.epoch) → AfterMap n m k (some g)) → AfterMap n m k (some g)
    shown-from h g named s same else = go s.epoch
      where
        go : (g.replica.epoch ≡ h.replica.epoch)
            ⊎ ((is_primary i.primary n.id ≡ true) × (leads_at g.role i.epoch ≡ true) × (g.replica.epoch ≡ i.epoch))
            → AfterMap n m k (some g)
        go (inl q) = else (sym q)
        go (inr q) = inr (inr (record {
          shard = i;
          place = place;
          listed = at;
          key = sym named ∙ sym s.key ∙ same;
          named = q.0;
          role = q.1;
          epoch = q.2;
        }))

    -- a shard that was held
    from-held : (h g : Held) → held_shard n i.key ≡ some h → ShownHeld n.id i h g → g.key ≡ k → AfterMap n m k (some g)
    unfolding own_epoch held_shard
    from-held h g e s same =
        let named : h.key ≡ i.key = same_key_lem h.key i.key (find_true (of_key i.key) n.held h e) in
        let at-k : i.key ≡ k = sym named ∙ sym s.key ∙ same in
        shown-from h g named s same
        (λ q. inl (subst (λ (z : Key). epoch_in (find (of_key z) n.held) ≡ some g.replica.epoch) at-k (ap epoch_in e ∙ ap some q)))

    -- one that begins
    from-begun : (metric : Metric) (g : Held) → held_shard n i.key ≡ none → ShownHeld n.id i (begun i.key metric) g → g.key ≡ k
        → AfterMap n m k (some g)
    from-begun metric g e s same =
        shown-from (begun i.key metric) g refl s same
        (λ q. inr (inl (record { new = subst (λ (z : Key). held_shard n z ≡ none) (sym s.key ∙ same) e; epoch = sym q })))

    listed_own : (c : Option Metric) (o : Option Held) → held_shard n i.key ≡ o → (s : Showing) → show_listed n.id i c o ≡ some s
        → s.held.key ≡ k → AfterMap n m k (some s.held)
    unfolding show_listed
    listed_own none none e s q = none_some q
    listed_own none (some h) e s q =
        subst (λ (z : Showing). z.held.key ≡ k → AfterMap n m k (some z.held)) (some_same q)
        (λ same. from-held h (refreshed i h) e (record { key = refl; epoch = inl refl }) same)
    listed_own (some metric) none e s q =
        subst (λ (z : Showing). z.held.key ≡ k → AfterMap n m k (some z.held)) (some_same q)
        (λ same. from-begun metric _ e (show_own n.id i metric (begun i.key metric)) same)
    listed_own (some metric) (some h) e s q =
        subst (λ (z : Showing). z.held.key ≡ k → AfterMap n m k (some z.held)) (some_same q)
        (λ same. from-held h _ e (show_own n.id i metric h) same)

    shard-own : (s : Showing) → show_shard n m i ≡ some s → s.held.key ≡ k → AfterMap n m k (some s.held)
    unfolding show_shard
    shard-own s =
        by-test (λ (v : Option Showing). v ≡ some s → s.held.key ≡ k → AfterMap n m k (some s.held))
        (any (listed_as n.id n.incarnation) i.replicas)
        (λ t q. listed_own (collection_metric m i.key.collection) (held_shard n i.key) refl s q) (λ t q. none_some q)

  -- all of them
  list-own : (is : List ShardInfo) → ((j : ℕ) (i : ShardInfo) → nth is j ≡ some i → (place : ℕ) × (nth m.shards place ≡ some i))
      → AfterMap n m k (find (of_key k) (map held_of (showings n m is)))
  unfolding showings find nth
  list-own [] at = tt
  list-own (i ∷ is) at = go (show_shard n m i) refl (list-own is (λ j x e. at (suc j) x e))
    where
      go : (o : Option Showing) → show_shard n m i ≡ o → AfterMap n m k (find (of_key k) (map held_of (showings n m is)))
          → AfterMap n m k (find (of_key k) (map held_of (or_not o (showings n m is))))
      go none e rest = rest
      go (some s) e rest =
          let p = at 0 i refl in
          by-test (AfterMap n m k) (of_key k s.held) (λ t. shard-own i p.0 p.1 s e (same_key_lem s.held.key k t)) (λ t. rest)

-- the own epoch is as it was, that of the beginning, or that of a time as primary: an epoch that the map only has is not taken
pub shown-own : (n : Node) (k : Key) (lent : Bool) (fresh : ℕ) (m : Map) → AfterMap n m k (held_shard (shown_with lent n fresh m).after k)
unfolding shown_with on_map take_map held_shard find
shown-own n k lent fresh m =
    let P : Result ShownAnswer Node → Type 0 = λ r. AfterMap n m k (find (of_key k) r.after.held) in
    let stays = left n m k (held_shard n k) refl in
    by-test P (not lent) (λ t. stays)
    (λ t. by-test P (ltb m.version n.version) (λ u. stays)
    (λ u. by-test P (any (dead_as n) m.nodes) (λ v. tt)
    (λ v. by-test P (too_many (showings n m m.shards)) (λ w. stays) (λ w. list-own n m k m.shards (λ j i e. (j, e))))))
