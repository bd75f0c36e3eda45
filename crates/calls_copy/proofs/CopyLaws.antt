-- A CopyShard in place meets the contract of CopyShard at a shard, one law for each way out. The columns that the contract speaks of are
-- written down, and no code makes them. Assumes nothing.
use Prim.Native.Nat.{ℕ, ◌+◌, ◌*◌, ◌≤◌, ◌<◌, min}
use mathlib.Core.Path.{◌≡◌, refl, sym, ap, ◌∙◌, subst}
use mathlib.Core.Bool.{Bool, true, false}
use mathlib.Core.List.{List, [], map}
use native.Mathlib.Omega.{arith}
use borrow.Author.Tests.{eqb-true, eqb-false, leb-true}
use lib.Dec.{eqb, leb}
use lib.ListN.{length}
use Rattle.spec.specs.Keys.{Key}
use Rattle.spec.specs.Log.{Entry, Log, ShardReplica, last_offset, store_all}
use Rattle.spec.specs.Layout.Format.{Bytes, All, number_at}
use Rattle.spec.specs.Node.Wire.{stored_entry}
use Rattle.spec.specs.declared.Epoch.{Epoch}
use Rattle.spec.specs.declared.Metric.{Metric}
use Rattle.spec.specs.declared.Metric.TheVariants.{Euclidean}
use Rattle.spec_laws.proofs.Lists.{and_left, and_right}
use Rattle.wire_read.specs.declared.CopyPart.{CopyPart}
use Rattle.wire_write.specs.declared.Reply.{Reply}
use Rattle.wire_write.specs.declared.Reply.TheVariants as R
use Rattle.log_domain.specs.Parts.{entries_in}
use Rattle.log_arrive.specs.Arrivals.{HasRoom, Copies}
use Rattle.log_arrive.proofs.Messages.{copy_there}
use Rattle.log_arrive.proofs.Stores.{last-is, own-epoch}
use Rattle.log_arrive.proofs.Batch.{batch-none, batch_some, copies-none, copies_stale, copies-full, copies-all}
use Rattle.log_store.specs.Table.{play_rows}
use Rattle.log_store.specs.Store.{Store, store_log, store_rows, replica_in}
use Rattle.log_store.specs.declared.replica.Outcome.TheVariants.{Through, Stale, Full}
use Rattle.log_store.proofs.Arrived.{count_most}
use Rattle.log_store.proofs.Columns.{log-length}
use Rattle.log_store.proofs.Facts.{facts, keys-fit, places-fit}
use Rattle.log_store.proofs.Rows.{rows-length}
use Rattle.node_log_backup.specs.declared.Answer.{Answer}
use Rattle.node_log_backup.specs.declared.Answer.TheVariants as A
use Rattle.node_log_backup.specs.declared.Backed.{Backed}
use Rattle.node_log_backup.specs.Backs.{answered, CopiesShard}
use Rattle.node_log_backup.proofs.Backup.{with_last, copies}
use Rattle.node_header.specs.declared.HeldRow.{HeldRow}
use Rattle.node_header.specs.declared.Node.{Node}
use Rattle.node_header.proofs.Lists.{by_case}
use Rattle.image_header.specs.Image.{header_lent, node_at}
use Rattle.image_header.specs.Becomes.{HeaderWrites}
use Rattle.image_header_check.specs.Rows.{Counts}
use Rattle.image_header_counts.specs.Counts.{with_counts}
use Rattle.image_header_form.proofs.FrontLaws.{epoch-is}
use Rattle.node_lent.specs.Lend.{LentStore, store_in, store_of, place_of, held_row_with, with_store}
use Rattle.node_lent.specs.declared.Lent.TheVariants as L
use Rattle.node_lent.proofs.Put.{lent_store_of, put_same}
use Rattle.image_store.specs.Image.{keys_in, places_in, log_at, rows_at}
use Rattle.image_store.specs.Write.{Fits, RowFits, log_put, rows_put}
use Rattle.image_store.proofs.Words.{words-length}
use Rattle.image_node.specs.Lent.{lent_store_at, lent_store_in, lends_state, store_put, StoreFits, Puts}
use Rattle.image_node_check.specs.Find.{AbsentIn, FoundIn, FindsIn}
use Rattle.node_replicate.specs.declared.PeerReply.{PeerReply}
use Rattle.node_replicate.specs.declared.PeerReply.TheVariants as P
use Rattle.node_replicate.specs.declared.PeerAnswer.{PeerAnswer}
use Rattle.node_replicate.specs.Peers.{word, CopiesAt}
use Rattle.node_replicate.proofs.Named.{copy_key}
use Rattle.node_replicate.proofs.Peers.{copy_reads, copy_backs, unfit, gone, served}
use Rattle.calls_peer_out.specs.Ends.{Buffers, buffers, Replies}
use Rattle.calls_peer.specs.PeerCalls as calls
use Rattle.calls_peer.specs.PeerCalls.{AtShard}
use Rattle.calls_peer.proofs.States.{copy_state}
use Rattle.calls_peer.proofs.Ways as ways
use Rattle.calls_peer.proofs.Ways.{States, store_here, puts-at}
use Rattle.image_node_grow.specs.Grow.{row_in}
use Rattle.image_node_grow.proofs.GrowLaws.{row_is}
use Rattle.image_node_grow.proofs.Kept.{kept-fits}
use Rattle.image_node_batch.specs.Batch.{HoldsAll, RoomAnswered, store_at}
use Rattle.image_node_batch.proofs.Grown.{row_of, at-log, at-most, at-well, log_long}
use Rattle.image_node_batch.proofs.Columns.{Holds, batch-held}
use Rattle.calls_copy.specs.Asked.{Asked, GrowsAll}

pub row-own : (h : List ℕ) (at : ℕ) (counts : Counts h (node_at h).count) (under : at < (node_at h).count) → (row_in h at).held.epoch.0 ≡ number_at 8 h (48 + 1280 * at + 64)
row-own h at counts under = ap (λ (y : HeldRow). y.held.epoch.0) (row_is h at counts under) ∙ epoch-is h (48 + 1280 * at)

pub stores_there : (h s : List ℕ) (k : Key) → lends_state h s k ≡ true → 1392640 ≤ length s
unfolding lends_state
stores_there h s k e =
    leb-true 1392640 (length s) (and_left (leb 1392640 (length s)) _ (and_right (leb (node_at h).count 8) _ (and_right (header_lent h) _ e)))

module _ (h s t m : List ℕ) (k : Key) (bytes : Bytes s) (p : CopyPart) (q : Asked m p k) where
  abbrev n : Node
  n = node_at h

  abbrev lent_store : LentStore
  lent_store = lent_store_in s n k

  abbrev b : Buffers
  b = buffers h s t

  abbrev es : List Entry
  es = map stored_entry (entries_in m p.entries)

  abbrev Call : (y : LentStore) → PeerAnswer → Type 0
  Call y w = CopiesAt n lent_store y m w

  abbrev Image : Buffers → ℕ → Type 0
  Image c r = AtShard CopiesAt calls.copies k m b c r

  states : States CopiesAt calls.copies m h s k
  states h' s' y w e g z u d = copy_state m h s h' s' k y w e g z u (λ v i. q.named ∙ copy_key m p q.read v i) d

  -- ---- 24, an unknown shard

  pub malformed : FindsIn h s k L.Malformed → Image b 24
  malformed f =
      ways.malformed CopiesAt calls.copies m h s k states bytes t
      (λ e. unfit _ _ _ _ n lent_store _ _ _ _ (copy_reads n m p q.read) true (sym q.inside) refl k q.named L.Malformed (f e) refl)

  pub absent : AbsentIn h s k → (t' : List ℕ) (r : ℕ) → Replies (R.StaleEpoch (record { 0 = 0 })) t t' r → Image (buffers h s t') r
  absent f t' r d =
      ways.stale CopiesAt calls.copies m h s k states bytes t f.lends (record { 0 = 0 })
      (gone _ _ _ _ n lent_store _ _ _ _ (copy_reads n m p q.read) true (sym q.inside) refl k q.named L.Absent f.absent refl (λ v. refl)) t' r d

  -- ---- at a shard that is held

  module _ (at : ℕ) (f : FoundIn h s k at) where
    abbrev x : HeldRow
    x = row_in h at

    abbrev last : ℕ
    last = x.held.last

    abbrev own : ℕ
    own = x.held.epoch.0

    abbrev store : Store
    store = store_of lent_store x

    abbrev node_with : (n' stored : ℕ) → Node
    node_with n' stored = with_store n at (with_last x.held n') stored

    pub last-most : last ≤ 1024
    last-most = count_most store f.found.well

    -- what became of the batch, in a store y of n' entries
    called : (y : LentStore) (n' stored : ℕ) (a : Answer) → CopiesShard m x.held store (store_in y n' stored) (record { answer = a; stored = stored; held = with_last x.held n' })
        → (v : Node) → v ≡ node_with n' stored → Call y (record { answer = word (answered a); node = v })
    called y n' stored a d v is =
        let r : Backed = record { answer = a; stored = stored; held = with_last x.held n' } in
        served _ _ _ _ n lent_store _ _ _ _ (copy_reads n m p q.read) true (sym q.inside) refl k q.named (L.At at) f.found at refl y r
        (copy_backs n m p q.read x.held store (store_in y n' stored) r d)
        (word (answered a)) refl v is

    same-node : n ≡ node_with last x.stored
    same-node = sym (put_same n at x.held x.stored refl refl)

    -- ---- StaleEpoch

    pub stale : (o : ℕ) → o ≡ own → (p.entries.len ≡ 0 → ⊥) × (p.epoch.0 ≡ o → ⊥) → (t' : List ℕ) (r : ℕ) → Replies (R.StaleEpoch (record { 0 = o })) t t' r
        → Image (buffers h s t') r
    stale o e d t' r z =
        let w : Epoch = record { 0 = o } in
        ways.stale CopiesAt calls.copies m h s k states bytes t f.lends w
        (called lent_store last x.stored (A.StaleEpoch w)
        (copies m x.held store store last (A.StaleEpoch w) (Stale w) x.stored refl refl refl p q.read
        (copies_stale own p.epoch.0 es store f.found.sized f.found.well (batch_some m p.entries d.0) (λ i. d.1 (i ∙ sym e)) w e))
        n same-node) t' r z

    -- what was told of the room, by the number that was read
    pub room-read : (l : ℕ) (r : Bool) → l ≡ last → r ≡ true → RoomAnswered (entries_in m p.entries) l r → HoldsAll (entries_in m p.entries) last
    room-read l r e y told = subst (HoldsAll (entries_in m p.entries)) e (told.yes y)

    -- ---- an empty batch, or one of the own epoch

    module _ (fresh : (p.entries.len ≡ 0 → ⊥) × (p.epoch.0 ≡ own → ⊥) → ⊥) where
      level : (p.entries.len ≡ 0 → ⊥) → p.epoch.0 ≡ own
      level some =
          by_case (eqb p.epoch.0 own) (λ e. eqb-true p.epoch.0 own e) (λ e. absurd (fresh (some, eqb-false p.epoch.0 own e)))

      -- 23, a log without room
      pub full : (l : ℕ) (r : Bool) → l ≡ last → r ≡ false → RoomAnswered (entries_in m p.entries) l r → Image b 23
      unfolding store_all
      full l r j y told =
          let over : (z : Metric) → 1024 < last_offset (store_all (replica_in own z store) own es) =
          λ z.
          subst (λ (e : ℕ). 1024 < last_offset (store_all (replica_in own z store) e es)) (own-epoch own z store)
          (told.over y (replica_in own z store) (last-is own z store ∙ sym j)) in
          let some : p.entries.len ≡ 0 → ⊥ =
          λ e.
          let o = over Euclidean in
          let i : last_offset (store_all (replica_in own Euclidean store) own es) ≡ last =
          ap (λ (l : List Entry). last_offset (store_all (replica_in own Euclidean store) own l)) (batch-none m p.entries e) ∙ last-is own Euclidean store in
          omega (arith, last-most) in
          ways.refused CopiesAt calls.copies m h s k states bytes t f.lends 23
          (called lent_store last x.stored A.NoRoom
          (copies m x.held store store last A.NoRoom Full x.stored refl refl refl p q.read
          (copies-full own p.epoch.0 es store f.found.sized f.found.well (batch_some m p.entries some) (level some) over))
          n same-node)

      module _ (room : HoldsAll (entries_in m p.entries) last) where
        fit : HasRoom own es store
        fit z =
            subst (λ (e : ℕ). last_offset (store_all (replica_in own z store) e es) ≤ 1024) (own-epoch own z store)
            (room (replica_in own z store) (last-is own z store))

        held : Holds own es store
        held = batch-held own m p.entries store f.found.sized f.found.well (copy_there m p q.read) q.inside fit

        abbrev after : Store
        after = held.after

        abbrev columns : LentStore
        columns = lent_store_of after

        count-is : (z : Metric) → after.count ≡ last_offset (store_all (replica_in own z store) own es)
        count-is z = sym (last-is own z after) ∙ ap last_offset (held.all.replica z)

        stored-all : Copies own p.epoch.0 es store after (Through (record { 0 = after.count }))
        unfolding store_all
        stored-all =
            by_case (eqb p.entries.len 0)
            (λ e.
            let none : es ≡ [] = batch-none m p.entries (eqb-true p.entries.len 0 e) in
            let same : after ≡ store =
            held.all.spares.same
            (count-is Euclidean ∙ ap (λ (l : List Entry). last_offset (store_all (replica_in own Euclidean store) own l)) none ∙ last-is own Euclidean store) in
            subst (λ (y : Store). Copies own p.epoch.0 es store y (Through (record { 0 = y.count }))) (sym same)
            (copies-none own p.epoch.0 es store f.found.sized f.found.well none (record { 0 = store.count }) refl))
            (λ e.
            let some = eqb-false p.entries.len 0 e in
            copies-all own p.epoch.0 es store f.found.sized f.found.well (batch_some m p.entries some) (level some) after held.all
            after.count count-is (count_most after held.all.well) (record { 0 = after.count }) refl)

        abbrev grown : Node
        grown = node_with after.count after.stored

        abbrev reply : Reply
        reply = R.Stored (record { 0 = after.count })

        abbrev told : PeerReply
        told = P.Stored (record { 0 = after.count })

        call : Call columns (record { answer = told; node = grown })
        call =
            called columns after.count after.stored (A.Stored (record { 0 = after.count }))
            (copies m x.held store after after.count (A.Stored (record { 0 = after.count })) (Through (record { 0 = after.count })) after.stored refl refl refl p q.read stored-all)
            grown refl

        -- no room for the reply
        pub short : length t < 9 → Image b 23
        short e = ways.short CopiesAt calls.copies m h s k states bytes t f.lends columns (record { answer = told; node = grown }) call reply refl e

        -- ---- the images that the batch leaves

        module _ (h' u : List ℕ) (c : ℕ) (g : GrowsAll h h' s u at es c) where
          abbrev on : List ℕ
          on = g.store.on

          abbrev base : ℕ
          base = x.slot * 174080

          abbrev y : HeldRow
          y = held_row_with x (with_last x.held after.count) after.stored

          store_is : store ≡ store_at s base last x.stored
          unfolding lent_store_at
          store_is = ap (λ (l : LentStore). store_of l x) (store_here h s k at f.found)

          replica-is : (z : Metric) → replica_in own z after ≡ replica_in own z (store_at on base c g.rows)
          replica-is z =
              held.all.replica z ∙ ap (λ (a : Store). store_all (replica_in own z a) own es) store_is ∙ sym (g.store.appends.same own z)

          log_is : store_log after ≡ log_at on base c
          unfolding replica_in
          log_is = ap (λ (r : ShardReplica). r.log) (replica-is Euclidean) ∙ at-log on x.slot c g.rows g.store.appends.well

          rows_is : store_rows after ≡ rows_at on base g.rows
          rows_is =
              (facts after held.all.well).rows ∙ ap play_rows log_is
              ∙ sym ((facts (store_at on base c g.rows) (at-well on x.slot c g.rows g.store.appends.well)).rows
              ∙ ap play_rows (at-log on x.slot c g.rows g.store.appends.well))

          count_same : after.count ≡ c
          count_same = sym (log-length after.columns after.count) ∙ ap length log_is ∙ log_long on base c

          stored_same : after.stored ≡ g.rows
          stored_same =
              let few = at-most on x.slot c g.rows g.store.appends.well in
              let a = facts after held.all.well in
              sym (rows-length after.keys after.places after.stored (keys-fit after a held.all.sized) (places-fit after a held.all.sized))
              ∙ ap length rows_is
              ∙ rows-length (keys_in on base) (places_in on base) g.rows
              (omega (arith, words-length 8 1024 on (base + 157696))) (omega (arith, words-length 8 1024 on (base + 165888)))

          image : u ≡ store_put s x y columns
          unfolding store_put
          image =
              let l = g.store.appends.longer in
              let e = count_same in
              let i : last ≡ min last after.count = omega arith in
              g.store.image
              ∙ ap (λ (a : Log). rows_put (log_put s base last a) base (rows_at on base g.rows)) (sym log_is)
              ∙ ap (λ (j : ℕ). rows_put (log_put s base j (store_log after)) base (rows_at on base g.rows)) i
              ∙ ap (rows_put (log_put s base (min last after.count) (store_log after)) base) (sym rows_is)

          fits : StoreFits y columns
          unfolding lent_store_at
          fits =
              let r = row_of x.slot c g.rows in
              let k = kept-fits on r g.store.bytes g.store.appends.well in
              record {
                log = subst (All Fits) (at-log on x.slot c g.rows g.store.appends.well ∙ sym log_is) k.log;
                rows = subst (All RowFits) (sym rows_is) k.rows;
              }

          header_here : HeaderWrites h h' grown
          header_here =
              subst (λ (i : ℕ). HeaderWrites h h' (with_counts n at i after.stored)) (sym count_same)
              (subst (λ (i : ℕ). HeaderWrites h h' (with_counts n at c i)) (sym stored_same) g.header)

          puts : Puts h h' s u n grown columns (place_of n k)
          puts = puts-at h s k at f.found h' u (with_last x.held after.count) after.stored columns header_here (record { image = image; fits = fits })

          pub sent : (t' : List ℕ) (v : ℕ) → Replies (R.Stored (record { 0 = c })) t t' v → v ≡ 0 → Image (buffers h' u t') v
          sent t' v d z =
              ways.sent CopiesAt calls.copies m h s k states bytes t f.lends columns (record { answer = told; node = grown }) call reply refl h' u t' v puts
              (subst (λ (i : ℕ). Replies (R.Stored (record { 0 = i })) t t' v) (sym count_same) d) z
