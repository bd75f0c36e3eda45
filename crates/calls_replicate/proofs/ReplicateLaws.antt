-- A Replicate in place meets the contract of Replicate at a shard, one law for each way out. The columns that the contract speaks of are
-- written down, and no code makes them. Assumes nothing.
use Prim.Native.Nat.{ℕ, ◌+◌, ◌*◌, ◌≤◌, ◌<◌}
use mathlib.Core.Path.{◌≡◌, refl, sym, ap, ◌∙◌, subst}
use mathlib.Core.Bool.{Bool, true, false, cond}
use mathlib.Core.List.{List}
use native.Mathlib.Omega.{arith}
use borrow.Author.Tests.{leb-true, leb-false}
use lib.Dec.{leb}
use lib.ListN.{length}
use Rattle.spec.specs.Keys.{Key}
use Rattle.spec.specs.Log.{Op, Entry}
use Rattle.spec.specs.Layout.Format.{Bytes, number_at}
use Rattle.spec.specs.Node.Wire.{stored_op}
use Rattle.spec.specs.declared.Epoch.{Epoch}
use Rattle.spec.specs.declared.Offset.{Offset}
use Rattle.spec_laws.proofs.Lists.{not_both}
use Rattle.wire_read.specs.declared.ReplicatePart.{ReplicatePart}
use Rattle.wire_write.specs.declared.Reply.{Reply}
use Rattle.wire_write.specs.declared.Reply.TheVariants as R
use Rattle.log_arrive.specs.Parts.{op_in}
use Rattle.log_arrive.specs.Arrivals.{Arrives, answer_as}
use Rattle.log_arrive.proofs.Messages.{replicate_there}
use Rattle.log_arrive.proofs.Stores.{arrives_stale}
use Rattle.log_store.specs.View.{op_from}
use Rattle.log_store.specs.Table.{play_rows}
use Rattle.log_store.specs.Store.{Store, Pushed}
use Rattle.log_store.specs.declared.replica.Outcome.{Outcome}
use Rattle.log_store.specs.declared.replica.Outcome.TheVariants.{Through, Gap, Stale, Full}
use Rattle.log_store.proofs.Arrived.{arrived_old, arrived_far, arrived_full, arrived_pushed, count_most}
use Rattle.node_log_backup.specs.declared.Answer.{Answer}
use Rattle.node_log_backup.specs.declared.Answer.TheVariants as A
use Rattle.node_log_backup.specs.declared.Backed.{Backed}
use Rattle.node_log_backup.specs.Backs.{answered}
use Rattle.node_log_backup.proofs.Backup.{with_last, replicates}
use Rattle.node_header.specs.declared.HeldRow.{HeldRow}
use Rattle.node_header.specs.declared.Node.{Node}
use Rattle.image_header.specs.Image.{node_at}
use Rattle.image_header.specs.Becomes.{HeaderWrites}
use Rattle.node_lent.specs.Lend.{LentStore, store_in, store_of, place_of, held_row_with, with_store}
use Rattle.node_lent.specs.declared.Lent.TheVariants as L
use Rattle.node_lent.proofs.Put.{put_same}
use Rattle.image_store.specs.Write.{Fits, rows_put, log_put}
use Rattle.image_node.specs.Lent.{begin_of, lent_store_at, lent_store_in, StorePuts, Puts}
use Rattle.node_replicate.specs.declared.PeerReply.{PeerReply}
use Rattle.node_replicate.specs.declared.PeerReply.TheVariants as P
use Rattle.node_replicate.specs.declared.PeerAnswer.{PeerAnswer}
use Rattle.node_replicate.specs.Peers.{word, ReplicatesAt}
use Rattle.node_replicate.proofs.Named.{replicate_key}
use Rattle.node_replicate.proofs.Peers.{replicate_reads, replicate_backs, unfit, gone, served}
use Rattle.calls_peer_out.specs.Ends.{Buffers, buffers, outcome, Replies}
use Rattle.calls_peer_out.specs.declared.Outcome.TheVariants as O
use Rattle.calls_peer.specs.PeerCalls as calls
use Rattle.calls_peer.specs.PeerCalls.{AtShard}
use Rattle.calls_peer.proofs.States.{replicate_state}
use Rattle.calls_peer.proofs.Ways as ways
use Rattle.calls_peer.proofs.Ways.{States, store_here, puts-at}
use Rattle.image_store_append.specs.Put.{Appended, longer, entry_by}
use Rattle.image_store_append.proofs.EntryLaws.{longer-few}
use Rattle.image_store_append.proofs.Left.{left, left_pushed, left-put, left-fits}
use Rattle.image_node_check.specs.Find.{AbsentIn, FoundIn, FindsIn}
use Rattle.image_node_grow.specs.Grow.{row_in, Grows}
use Rattle.image_header_form.proofs.FrontLaws.{epoch-is}
use Rattle.image_header_check.specs.Rows.{Counts}
use Rattle.image_node_grow.proofs.GrowLaws.{row_is}
use Rattle.image_node_grow.proofs.Ops.{Stores, stores-op}
use Rattle.image_node_grow.proofs.Kept.{kept_image, kept-fits}
use Rattle.calls_replicate.specs.Asked.{Asked, laid}

pub row-own : (h : List ℕ) (at : ℕ) (counts : Counts h (node_at h).count) (under : at < (node_at h).count) → (row_in h at).held.epoch.0 ≡ number_at 8 h (48 + 1280 * at + 64)
row-own h at counts under = ap (λ (y : HeldRow). y.held.epoch.0) (row_is h at counts under) ∙ epoch-is h (48 + 1280 * at)

module _ (h s t m : List ℕ) (k : Key) (bytes : Bytes s) (p : ReplicatePart) (q : Asked m p k) where
  abbrev n : Node
  n = node_at h

  abbrev lent_store : LentStore
  lent_store = lent_store_in s n k

  abbrev b : Buffers
  b = buffers h s t

  abbrev Call : (y : LentStore) → PeerAnswer → Type 0
  Call y w = ReplicatesAt n lent_store y m w

  abbrev Image : Buffers → ℕ → Type 0
  Image c r = AtShard ReplicatesAt calls.replicates k m b c r

  states : States ReplicatesAt calls.replicates m h s k
  states h' s' y w e g z u d = replicate_state m h s h' s' k y w e g z u (λ v i. q.named ∙ replicate_key m p q.read v i) d

  -- ---- 24, an unknown shard

  pub malformed : FindsIn h s k L.Malformed → Image b 24
  malformed f =
      ways.malformed ReplicatesAt calls.replicates m h s k states bytes t
      (λ e. unfit _ _ _ _ n lent_store _ _ _ _ (replicate_reads n m p q.read) true (sym q.inside) refl k q.named L.Malformed (f e) refl)

  pub absent : AbsentIn h s k → (t' : List ℕ) (r : ℕ) → Replies (R.StaleEpoch (record { 0 = 0 })) t t' r → Image (buffers h s t') r
  absent f t' r d =
      ways.stale ReplicatesAt calls.replicates m h s k states bytes t f.lends (record { 0 = 0 })
      (gone _ _ _ _ n lent_store _ _ _ _ (replicate_reads n m p q.read) true (sym q.inside) refl k q.named L.Absent f.absent refl (λ v. refl)) t' r d

  -- ---- at a shard that is held

  module _ (at : ℕ) (f : FoundIn h s k at) where
    abbrev x : HeldRow
    x = row_in h at

    abbrev last : ℕ
    last = x.held.last

    abbrev own : ℕ
    own = x.held.epoch.0

    abbrev store : Store
    store = store_of lent_store x

    abbrev entry : Entry
    entry = record { epoch = p.epoch.0; offset = p.offset.0; op = stored_op (op_in m p.op) }

    abbrev node_with : (n' stored : ℕ) → Node
    node_with n' stored = with_store n at (with_last x.held n') stored

    pub last-most : last ≤ 1024
    last-most = count_most store f.found.well

    -- what became of the entry, in a store y of n' entries
    called : (y : LentStore) (n' stored : ℕ) (a : Answer) (o : Outcome) → answered a ≡ answer_as o → Arrives own p.epoch.0 entry store (store_in y n' stored) o
        → (v : Node) → v ≡ node_with n' stored → Call y (record { answer = word (answered a); node = v })
    called y n' stored a o e d v is =
        let r : Backed = record { answer = a; stored = stored; held = with_last x.held n' } in
        served _ _ _ _ n lent_store _ _ _ _ (replicate_reads n m p q.read) true (sym q.inside) refl k q.named (L.At at) f.found at refl y r
        (replicate_backs n m p q.read x.held store (store_in y n' stored) r
        (replicates m x.held store (store_in y n' stored) n' a o stored refl refl e p q.read d))
        (word (answered a)) refl v is

    same-node : n ≡ node_with last x.stored
    same-node = sym (put_same n at x.held x.stored refl refl)

    -- ---- StaleEpoch

    pub stale : (o : ℕ) → o ≡ own → (p.epoch.0 ≡ o → ⊥) → (t' : List ℕ) (r : ℕ) → Replies (R.StaleEpoch (record { 0 = o })) t t' r → Image (buffers h s t') r
    stale o e d t' r z =
        let w : Epoch = record { 0 = o } in
        ways.stale ReplicatesAt calls.replicates m h s k states bytes t f.lends w
        (called lent_store last x.stored (A.StaleEpoch w) (Stale w) refl
        (arrives_stale own p.epoch.0 entry store f.found.sized f.found.well w e (λ i. d (i ∙ sym e))) n same-node) t' r z

    module _ (level : p.epoch.0 ≡ own) where
      -- ---- 23, a full log

      pub full : p.offset.0 ≡ last + 1 → last ≡ 1024 → Image b 23
      full e d =
          ways.refused ReplicatesAt calls.replicates m h s k states bytes t f.lends 23
          (called lent_store last x.stored A.NoRoom Full refl
          (record { arrived = arrived_full own p.epoch.0 entry store f.found.sized f.found.well level e d; kept = λ z. refl }) n same-node)

      -- ---- an entry that is not the next

      module _ (other : p.offset.0 ≡ last + 1 → ⊥) where
        abbrev tidied : Node
        tidied = node_with last x.stored

        abbrev Says : PeerReply → Type 0
        Says w = Call lent_store (record { answer = w; node = tidied })

        old : p.offset.0 ≤ last → Says (P.Stored (record { 0 = last }))
        old e =
            let o : Offset = record { 0 = last } in
            called lent_store last x.stored (A.Stored o) (Through o) refl
            (record { arrived = arrived_old own p.epoch.0 entry store f.found.sized f.found.well level o refl e; kept = λ z. not_both false z refl })
            tidied refl

        far : last < p.offset.0 → Says (P.Gap (record { 0 = last + 1 }))
        far e =
            let o : Offset = record { 0 = last + 1 } in
            called lent_store last x.stored (A.Gap o) (Gap o) refl
            (record { arrived = arrived_far own p.epoch.0 entry store f.found.sized f.found.well level o refl (omega (arith, other)); kept = λ z. not_both false z refl })
            tidied refl

        puts : (h' : List ℕ) → HeaderWrites h h' tidied → Puts h h' s s n tidied lent_store (place_of n k)
        puts h' w =
            puts-at h s k at f.found h' s (with_last x.held last) x.stored lent_store w
            (subst (λ (l : LentStore). StorePuts s s x x l) (sym (store_here h s k at f.found))
            (record { image = kept_image s x bytes f.well; fits = kept-fits s x bytes f.well }))

        -- told with the header in the one form
        sent : (w : PeerReply) (v : Reply) → outcome w ≡ O.Changed v → Says w → (h' t' : List ℕ) (r : ℕ) → HeaderWrites h h' tidied → Replies v t t' r → r ≡ 0
            → Image (buffers h' s t') r
        sent w v e call h' t' r d z i =
            ways.sent ReplicatesAt calls.replicates m h s k states bytes t f.lends lent_store (record { answer = w; node = tidied }) call v e h' s t' r (puts h' d) z i

        -- no room for the reply
        unsent : (w : PeerReply) (v : Reply) → outcome w ≡ O.Changed v → Says w → length t < 9 → Image b 23
        unsent w v e call brief =
            ways.short ReplicatesAt calls.replicates m h s k states bytes t f.lends lent_store (record { answer = w; node = tidied }) call v e brief

        pub stays : (h' t' : List ℕ) (r : ℕ) (v : Reply) → v ≡ laid p.offset.0 last → HeaderWrites h h' tidied → Replies v t t' r → r ≡ 0 → Image (buffers h' s t') r
        stays h' t' r v e d z i = go (leb p.offset.0 last) refl (subst (λ (u : Reply). Replies u t t' r) e z)
          where
            go : (c : Bool) → leb p.offset.0 last ≡ c → Replies (cond c (R.Stored (record { 0 = last })) (R.Gap (record { 0 = last + 1 }))) t t' r → Image (buffers h' s t') r
            go true j z = sent (P.Stored (record { 0 = last })) (R.Stored (record { 0 = last })) refl (old (leb-true _ _ j)) h' t' r d z i
            go false j z = sent (P.Gap (record { 0 = last + 1 })) (R.Gap (record { 0 = last + 1 })) refl (far (leb-false _ _ j)) h' t' r d z i

        pub stays_short : length t < 9 → Image b 23
        stays_short e = go (leb p.offset.0 last) refl
          where
            go : (c : Bool) → leb p.offset.0 last ≡ c → Image b 23
            go true j = unsent (P.Stored (record { 0 = last })) (R.Stored (record { 0 = last })) refl (old (leb-true _ _ j)) e
            go false j = unsent (P.Gap (record { 0 = last + 1 })) (R.Gap (record { 0 = last + 1 })) refl (far (leb-false _ _ j)) e

      -- ---- the next entry

      module _ (next : p.offset.0 ≡ last + 1) (free : last < 1024) where
        stores : Stores m p.op
        stores = stores-op m p.op (replicate_there m p q.read) q.inside

        abbrev op : Op
        op = op_from stores.code stores.id stores.bits

        abbrev new : Entry
        new = record { epoch = own; offset = last + 1; op = op }

        new_is : entry_by own last m p.op ≡ new
        new_is = ap (λ (o : Op). record { epoch = own; offset = last + 1; op = o }) (sym stores.is)

        abbrev columns : LentStore
        columns = left s x f.room f.well free own stores.code stores.id stores.bits stores.storable

        -- u the stores that the append leaves, r the rows of the table then
        module _ (u : List ℕ) (r : ℕ) (appends : Appended s u (begin_of x) last new r) (few : r ≤ 1024) where
          abbrev grown : Node
          grown = node_with (last + 1) r

          abbrev told : PeerReply
          told = P.Stored (record { 0 = last + 1 })

          pushes : Pushed store (store_in columns (last + 1) r) (record { epoch = p.epoch.0; offset = last + 1; op = stored_op (op_in m p.op) })
          pushes =
              subst (λ (l : LentStore). Pushed (store_of l x) (store_in columns (last + 1) r) (record { epoch = p.epoch.0; offset = last + 1; op = stored_op (op_in m p.op) })) (sym (store_here h s k at f.found))
              (subst (λ (e : ℕ). Pushed (store_of (lent_store_at s x) x) (store_in columns (last + 1) r) (record { epoch = e; offset = last + 1; op = stored_op (op_in m p.op) })) (sym level)
              (subst (λ (o : Op). Pushed (store_of (lent_store_at s x) x) (store_in columns (last + 1) r) (record { epoch = own; offset = last + 1; op = o })) stores.is
              (left_pushed s x f.room f.well free own stores.code stores.id stores.bits stores.storable u r appends few)))

          call : Call columns (record { answer = told; node = grown })
          call =
              let o : Offset = record { 0 = last + 1 } in
              called columns (last + 1) r (A.Stored o) (Through o) refl
              (record {
                arrived = arrived_pushed own p.epoch.0 p.epoch.0 p.offset.0 (stored_op (op_in m p.op)) store (store_in columns (last + 1) r)
                    f.found.sized f.found.well level o refl next free pushes;
                kept = λ z. not_both false z refl;
              }) grown refl

          grown-puts : (h' : List ℕ) → HeaderWrites h h' grown → Fits new → Puts h h' s u n grown columns (place_of n k)
          grown-puts h' w fit =
              let y = held_row_with x (with_last x.held (last + 1)) r in
              puts-at h s k at f.found h' u (with_last x.held (last + 1)) r columns w
              (record {
                image = left-put s x f.room f.well free own stores.code stores.id stores.bits stores.storable u r appends few y refl refl;
                fits = left-fits s x f.room f.well free own stores.code stores.id stores.bits stores.storable u r appends few bytes fit y refl refl;
              })

          next-sent : (h' t' : List ℕ) (v : ℕ) → HeaderWrites h h' grown → Fits new → Replies (R.Stored (record { 0 = last + 1 })) t t' v → v ≡ 0 → Image (buffers h' u t') v
          next-sent h' t' v d fit z i =
              ways.sent ReplicatesAt calls.replicates m h s k states bytes t f.lends columns (record { answer = told; node = grown }) call
              (R.Stored (record { 0 = last + 1 })) refl h' u t' v (grown-puts h' d fit) z i

          next-short : length t < 9 → Image b 23
          next-short e =
              ways.short ReplicatesAt calls.replicates m h s k states bytes t f.lends columns (record { answer = told; node = grown }) call
              (R.Stored (record { 0 = last + 1 })) refl e

        pub grows_sent : (h' u t' : List ℕ) (v o : ℕ) → Grows h h' s u at m p.op → o ≡ last + 1 → Replies (R.Stored (record { 0 = o })) t t' v → v ≡ 0 → Image (buffers h' u t') v
        grows_sent h' u t' v o g e z i =
            next-sent u g.rows (subst (λ (j : Entry). Appended s u (begin_of x) last j g.rows) new_is g.store.appended) g.store.few
            h' t' v g.header (subst Fits new_is g.store.fits) (subst (λ (j : ℕ). Replies (R.Stored (record { 0 = j })) t t' v) e z) i

        pub grows_short : length t < 9 → Image b 23
        grows_short e =
            let l = longer s (begin_of x) last new in
            next-short (rows_put (log_put s (begin_of x) last l) (begin_of x) (play_rows l)) (length (play_rows l)) (record { image = refl; rows = refl })
            (longer-few s (begin_of x) last new free) e
