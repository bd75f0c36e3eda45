-- A batch appended entry by entry: the store on the way, with what is left of the batch. Assumes nothing.
use Prim.Native.Nat.{ℕ, ◌+◌, ◌-◌, ◌*◌, ◌≤◌, ◌<◌}
use mathlib.Core.Path.{◌≡◌, refl, sym, ap, ◌∙◌, subst}
use mathlib.Core.Bool.{true}
use mathlib.Core.Logic.{◌⊎◌, ⊎_elim}
use mathlib.Core.List.{List, [], ◌∷◌, map}
use native.Mathlib.Omega.{arith}
use borrow.Author.Tests.{eqb-true, eqb-false}
use lib.Dec.{eqb}
use lib.ListN.{length, get_or}
use Rattle.spec.specs.Log.{Entry, Log, ShardReplica, StoreResult, last_offset, push, store, store_all}
use Rattle.spec.specs.Lists.{every}
use Rattle.spec.specs.Layout.Format.{Bytes, next, value}
use Rattle.spec.specs.Layout.Parts.{entry_f, entry_of, WireEntry}
use Rattle.spec.specs.Node.Wire.{op_in_domain, entry_in_domain, stored_entry}
use Rattle.spec.specs.declared.Metric.{Metric}
use Rattle.spec.specs.declared.Metric.TheVariants.{Euclidean}
use Rattle.spec_laws.proofs.Log.Store.{push-length, store-next, store-old, store-far, store_all_longer}
use Rattle.wire_read.specs.Shown.{part, entry_shown}
use Rattle.wire_read.specs.declared.Part.{Part}
use Rattle.wire_read.specs.declared.EntryPart.{EntryPart}
use Rattle.log_store.specs.Table.{play_rows}
use Rattle.log_store.specs.Store.{replica_in}
use Rattle.log_domain.specs.Parts.{op_in, OpThere, entries_in, EntriesThere}
use Rattle.log_domain.proofs.InMessage.{entry_in, entries_all, entries_none, entries_split, entry-op, domain_first}
use Rattle.log_arrive.proofs.Stores.{last-is, own-epoch}
use Rattle.node_header.proofs.Lists.{by_case}
use Rattle.image_store.specs.Image.{log_at, well_formed_image}
use Rattle.image_store.specs.Write.{log_put}
use Rattle.image_store.proofs.Stored.{lt_or_ge}
use Rattle.image_store_append.specs.Put.{Grown, entry_by, longer}
use Rattle.image_store_append.proofs.EntryLaws.{longer-few}
use Rattle.image_node_grow.proofs.Ops.{stores-op}
use Rattle.image_node_batch.specs.declared.Stock.{Stock}
use Rattle.image_node_batch.specs.Batch.{store_at, Steps, Appends}
use Rattle.image_node_batch.proofs.Grown.{log_long, grown-well, grown-log, grown-replica}
use Rattle.image_node_batch.proofs.Bytes.{log-none, outside_step}

module _ (s : List ℕ) (slot count stored : ℕ) (es : List Entry) where
  abbrev base : ℕ
  base = slot * 174080

  abbrev replica : List ℕ → (c k own : ℕ) → Metric → ShardReplica
  replica t c k own z = replica_in own z (store_at t base c k)

  -- the bytes t, with so many entries and rows, and the rest of the batch
  pub record Going (t : List ℕ) (c k : ℕ) (rest : List Entry) : Type 0 where
    pub long : length t ≡ length s
    pub longer : count ≤ c
    pub well : well_formed_image t base c k ≡ true
    pub same : (own : ℕ) (z : Metric) → store_all (replica t c k own z) own rest ≡ store_all (replica s count stored own z) own es
    pub apart : (j : ℕ) → (j < base + 157696) ⊎ (base + 174080 ≤ j) → get_or t j 0 ≡ get_or (log_put s base count (log_at t base c)) j 0

  pub begun : well_formed_image s base count stored ≡ true → Going s count stored es
  begun well = record {
    long = refl;
    longer = omega arith;
    well = well;
    same = λ own z. refl;
    apart = λ j h. ap (λ (t : List ℕ). get_or t j 0) (sym (log-none s base (log_at s base count) count (log_long s base count)));
  }

  pub gone : (t : List ℕ) (r : Stock) → Going t r.count r.stored [] → Appends s t slot count stored es r
  unfolding store_all
  gone t r g = record { long = g.long; longer = g.longer; well = g.well; same = g.same; apart = g.apart }

  module _ (t : List ℕ) (c k : ℕ) (e : Entry) (rest : List Entry) (g : Going t c k (e ∷ rest)) where
    last_here : (own : ℕ) (z : Metric) → last_offset (replica t c k own z) ≡ c
    last_here own z = last-is own z (store_at t base c k)

    at_own : (own : ℕ) (z : Metric) → own ≡ (replica t c k own z).epoch
    at_own own z = sym (own-epoch own z (store_at t base c k))

    taken : e.offset ≡ c + 1 → (own : ℕ) (z : Metric) → (store (replica t c k own z) own e).replica ≡ push (replica t c k own z) e
    taken h own z =
        ap (λ (v : StoreResult). v.replica) (store-next (replica t c k own z) own e (at_own own z) (let l = last_here own z in omega arith))

    left : (e.offset ≡ c + 1 → ⊥) → (own : ℕ) (z : Metric) → (store (replica t c k own z) own e).replica ≡ replica t c k own z
    left h own z =
        let l = last_here own z in
        ⊎_elim
        (λ (q : e.offset < c + 1). ap (λ (v : StoreResult). v.replica) (store-old (replica t c k own z) own e (at_own own z) (omega arith)))
        (λ (q : c + 1 ≤ e.offset). ap (λ (v : StoreResult). v.replica) (store-far (replica t c k own z) own e (at_own own z) (omega (arith, h))))
        (lt_or_ge e.offset (c + 1))

    -- the next entry has a place
    pub free-next : ((q : ShardReplica) → last_offset q ≡ count → last_offset (store_all q q.epoch es) ≤ 1024) → e.offset ≡ c + 1 → c < 1024
    unfolding store_all
    free-next fits h =
        let q = replica s count stored 0 Euclidean in
        let r = replica t c k 0 Euclidean in
        let f : last_offset (store_all q 0 es) ≤ 1024 =
        subst (λ (x : ℕ). last_offset (store_all q x es) ≤ 1024) (own-epoch 0 Euclidean (store_at s base count stored)) (fits q (last-is 0 Euclidean (store_at s base count stored))) in
        let a : last_offset (store_all (store r 0 e).replica 0 rest) ≡ last_offset (store_all q 0 es) = ap last_offset (g.same 0 Euclidean) in
        let b = store_all_longer 0 (store r 0 e).replica rest in
        let d : last_offset (store r 0 e).replica ≡ last_offset (push r e) = ap last_offset (taken h 0 Euclidean) in
        let p = push-length r e in
        let l = last_here 0 Euclidean in
        omega arith

    -- an entry that is not the next
    pub stays : (e.offset ≡ c + 1 → ⊥) → Going t c k rest
    unfolding store_all
    stays h = record {
      long = g.long;
      longer = g.longer;
      well = g.well;
      same = λ own z. ap (λ (r : ShardReplica). store_all r own rest) (sym (left h own z)) ∙ g.same own z;
      apart = g.apart;
    }

  -- an entry of a message
  module _ (t u m : List ℕ) (c k : ℕ) (p : EntryPart) (rest : List Entry) (g : Going t c k (stored_entry (entry_in m p) ∷ rest)) (r : Stock)
      (small : slot < 8) (there : 1392640 ≤ length s) (bytes : Bytes t) (op : OpThere m p.op) (inside : op_in_domain (op_in m p.op) ≡ true)
      (fits : (q : ShardReplica) → last_offset q ≡ count → last_offset (store_all q q.epoch es) ≤ 1024)
      (same_long : length u ≡ length t) where
    abbrev e : Entry
    e = stored_entry (entry_in m p)

    grows : p.offset.0 ≡ c + 1 → Grown t u base c (entry_by p.epoch.0 c m p.op) r.stored → Going u (c + 1) r.stored rest
    unfolding store_all
    grows h w =
        let is : entry_by p.epoch.0 c m p.op ≡ e = ap (λ (o : ℕ). record { epoch = p.epoch.0; offset = o; op = e.op }) (sym h) in
        let free = free-next t c k e rest g fits h in
        let there' : 1392640 ≤ length t = (let q = g.long in omega arith) in
        let st = stores-op m p.op op inside in
        let log = grown-log t u m slot c k small there' bytes g.well free p.epoch.0 p.op st r.stored w in
        record {
          long = same_long ∙ g.long;
          longer = (let q = g.longer in omega arith);
          well = grown-well t u m slot c k small there' bytes g.well free p.epoch.0 p.op st r.stored w;
          same = λ own z.
              ap (λ (q : ShardReplica). store_all q own rest)
              (grown-replica t u m slot c k small there' bytes g.well free p.epoch.0 p.op st r.stored w own z
              ∙ ap (push (replica t c k own z)) is ∙ sym (taken t c k e rest g h own z))
              ∙ g.same own z;
          apart = λ j away.
              outside_step s t u base count c (log_at t base c) (entry_by p.epoch.0 c m p.op) (play_rows (longer t base c (entry_by p.epoch.0 c m p.op)))
              g.long (log_long t base c) g.longer (longer-few t base c (entry_by p.epoch.0 c m p.op) free) w.appended.image j away (g.apart j away)
              ∙ ap (λ (l : Log). get_or (log_put s base count l) j 0) (sym log);
        }

    pub steps : Steps t u base c k m p r → Going u r.count r.stored rest
    steps w =
        by_case (eqb p.offset.0 (c + 1))
        (λ q.
        let h = eqb-true p.offset.0 (c + 1) q in
        let d = w.next h in
        subst (λ (n : ℕ). Going u n r.stored rest) (sym d.0) (grows h d.1))
        (λ q.
        let h = eqb-false p.offset.0 (c + 1) q in
        let d = w.other h in
        subst (λ (n : ℕ). Going u n r.stored rest) (sym d.0)
        (subst (λ (n : ℕ). Going u c n rest) (sym d.1)
        (subst (λ (b : List ℕ). Going b c k rest) (sym d.2) (stays t c k e rest g h))))

-- ---- over the entries of a message

module _ (s : List ℕ) (slot count stored : ℕ) (m : List ℕ) where
  pub begun_in : (p : Part) → well_formed_image s (slot * 174080) count stored ≡ true
      → Going s slot count stored (map stored_entry (entries_in m p)) s count stored (map stored_entry (entries_in m (part p.at (p.len - 0))))
  begun_in p well =
      subst (λ (l : List WireEntry). Going s slot count stored (map stored_entry (entries_in m p)) s count stored (map stored_entry l)) (sym (entries_all m p))
      (begun s slot count stored (map stored_entry (entries_in m p)) well)

  module _ (es : List Entry) (n at i : ℕ) (t : List ℕ) (c k : ℕ) (g : Going s slot count stored es t c k (map stored_entry (entries_in m (part at (n - i))))) where
    pub gone_in : n ≤ i → Appends s t slot count stored es (record { count = c; stored = k })
    gone_in h =
        gone s slot count stored es t (record { count = c; stored = k })
        (subst (λ (l : List WireEntry). Going s slot count stored es t c k (map stored_entry l)) (entries_none m n at i h) g)

    module _ (l : i < n) (h : EntriesThere m (part at (n - i))) (e : EntryPart) (q : e ≡ entry_shown at (entry_of (value entry_f m at)) (next entry_f m at))
        (fits : (z : ShardReplica) → last_offset z ≡ count → last_offset (store_all z z.epoch es) ≤ 1024) where
      abbrev rest : List Entry
      rest = map stored_entry (entries_in m (part e.next (n - (i + 1))))

      split : Going s slot count stored es t c k (stored_entry (entry_in m e) ∷ rest)
      split = subst (λ (r : List WireEntry). Going s slot count stored es t c k (map stored_entry r)) (entries_split m n at i l h e q) g

      pub free_in_lem : e.offset.0 ≡ c + 1 → c < 1024
      free_in_lem j = free-next s slot count stored es t c k (stored_entry (entry_in m e)) rest split fits j

      pub turn_in : (u : List ℕ) (r : Stock) → slot < 8 → 1392640 ≤ length s → Bytes t → every entry_in_domain (entries_in m (part at (n - i))) ≡ true
          → length u ≡ length t → Steps t u (slot * 174080) c k m e r → Going s slot count stored es u r.count r.stored rest
      turn_in u r small there bytes d long w =
          steps s slot count stored es t u m c k e rest split r small there bytes (entry-op m n at i l h e q) (domain_first m n at i l h e q d) fits long w
