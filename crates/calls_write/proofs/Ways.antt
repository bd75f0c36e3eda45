-- A Write in place meets the contract of Write at a shard, one law for each way out. The columns that the contract speaks of are written down,
-- and no code makes them: those that the bytes are read as, and after an append those of the longer log. Assumes nothing.
use Prim.Native.Nat.{ℕ, ◌+◌, ◌*◌, ◌≤◌, ◌<◌}
use mathlib.Core.Path.{◌≡◌, refl, sym, ap, ◌∙◌, subst}
use mathlib.Core.Bool.{Bool, true, false, cond, not}
use mathlib.Core.List.{List, []}
use native.Mathlib.Omega.{arith}
use borrow.Author.Tests.{lt-ltb, le-leb}
use lib.Dec.{eqb}
use lib.ListN.{length, get_or}
use lib.Seq.{get_or-set_same}
use Rattle.spec.specs.Lists.{every}
use Rattle.spec.specs.Keys.{Key}
use Rattle.spec.specs.Log.{Op, Entry}
use Rattle.spec.specs.Layout.Format.{Bytes}
use Rattle.spec.specs.Node.Held as model
use Rattle.spec.specs.Node.Wire.{op_in_domain, patterns_in_domain, stored_op}
use Rattle.spec.specs.Node.Lease.{before}
use Rattle.spec.specs.Node.Refused.{counted}
use Rattle.spec_laws.proofs.Lists.{not_both}
use Rattle.node_shard.specs.declared.Held.{Held}
use Rattle.wire_read.specs.declared.WritePart.{WritePart}
use Rattle.wire_read.specs.declared.OpPart.{OpPart}
use Rattle.wire_read.specs.declared.OpPart.TheVariants as O
use Rattle.log_domain.proofs.InMessage.{bits-length}
use Rattle.log_arrive.specs.Parts.{bits_in, op_in, OpThere}
use Rattle.log_arrive.proofs.Messages.{write-there}
use Rattle.node_admit.specs.View.{view_expiry}
use Rattle.node_admit.specs.Admits.{write_as, AdmitsWrite}
use Rattle.node_admit.specs.declared.Admit.{Admit}
use Rattle.node_admit.specs.declared.Admit.TheVariants as A
use Rattle.log_store.specs.View.{op_from}
use Rattle.log_store.specs.Store.{Storable, Pushed}
use Rattle.node_log_write.specs.declared.Written.{Written}
use Rattle.node_log_write.specs.Writes.{written_as}
use Rattle.node_log_write.proofs.Write.{admitted_room, writes-refused, writes_pushed}
use Rattle.node_header.specs.declared.HeldRow.{HeldRow}
use Rattle.node_header.specs.declared.Node.{Node}
use Rattle.node_header.specs.View.{no_held_row}
use Rattle.node_header.proofs.Lists.{by_case}
use Rattle.image_header_row.specs.Rows.{held_row_at}
use Rattle.image_header.specs.Image.{node_at}
use Rattle.image_header.specs.Becomes.{HeaderWrites}
use Rattle.node_lent.specs.Lend.{LentStore, store_in, store_of, place_of, held_row_with, with_store}
use Rattle.node_lent.specs.declared.Lent.TheVariants as L
use Rattle.node_lent.proofs.Put.{put_same}
use Rattle.calls_parts.specs.Answer.{answer_lent, number_put}
use Rattle.image_store.specs.Write.{Fits, rows_put, log_put}
use Rattle.log_store.specs.Table.{play_rows}
use Rattle.image_node.specs.Lent.{no_lent_store, begin_of, lent_store_at, lent_store_in, lends_state, StorePuts, Picks, Puts}
use Rattle.image_node.specs.declared.Picked.{Picked}
use Rattle.image_node.proofs.Put.{puts-kept}
use Rattle.node_write.specs.declared.WriteReply.TheVariants as R
use Rattle.node_write.specs.declared.WriteReply.{WriteReply}
use Rattle.node_write.specs.declared.WriteAnswer.{WriteAnswer}
use Rattle.node_write.specs.ClientWrites.{WriteNames, WritesMessage, reply_as, Serves, WritesAt}
use Rattle.node_write.proofs.Writes.{writes-message, unfit, gone, served, counts}
use Rattle.node_write.proofs.Named.{write-key}
use Rattle.calls_client_out.specs.Ends.{Buffers, ended}
use Rattle.calls_client_out.proofs.Ends.{told-short, told-accepted, told_elsewhere, told-refused, not_accepted}
use Rattle.calls_client.specs.Written.{buffers, WritesShard}
use Rattle.calls_client.proofs.Written.{shard-lent}
use Rattle.image_store_append.specs.Put.{Appended, Grown, longer, entry_by}
use Rattle.image_store_append.proofs.EntryLaws.{longer-few}
use Rattle.image_store_append.proofs.Left.{left, left_pushed, left-put, left-fits}
use Rattle.image_node_check.specs.Find.{held_row_in, FoundIn, FindsIn}
use Rattle.image_header_counts.specs.Counts.{last_as}
use Rattle.calls_write.specs.Asked.{Asked}
use Rattle.image_node_grow.specs.Grow.{Grows}
use Rattle.image_node_grow.proofs.GrowLaws.{row_is}

-- ---- an operation of a message, by its code

pub record Stores (m : List ℕ) (o : OpPart) : Type 0 where
  pub code : ℕ
  pub id : ℕ
  pub bits : List ℕ
  pub is : op_from code id bits ≡ stored_op (op_in m o)
  pub storable : Storable code bits

stores-op : (m : List ℕ) (o : OpPart) → OpThere m o → op_in_domain (op_in m o) ≡ true → Stores m o
unfolding op_from stored_op patterns_in_domain every
stores-op m (O.Upsert id v) t e =
    let l = bits-length m v in
    record {
      code = 1;
      id = id;
      bits = bits_in m v;
      is = refl;
      storable = record { listed = le-leb 1 (length (bits_in m v)) (omega (arith, t.0)); short = omega (arith, t.1); domain = e };
    }
stores-op m (O.Delete id) t e = record {
  code = 2;
  id = id;
  bits = [];
  is = refl;
  storable = record { listed = refl; short = omega arith; domain = refl };
}

module _ (h s a : List ℕ) (k : Key) (clock least : ℕ) (m : List ℕ) (bytes : Bytes s) (p : WritePart) (q : Asked m p k clock) where
  abbrev n : Node
  n = node_at h

  abbrev lent_store : LentStore
  lent_store = lent_store_in s n k

  abbrev b : Buffers
  b = buffers h s a

  names : WriteNames m k
  names v d = q.named ∙ write-key m p q.read v d

  -- ---- the call that the contract speaks of

  module _ (lends : lends_state h s k ≡ true) where
    abbrev picked : Picked
    picked = record { found = true; at = place_of n k; node = n }

    picks : Picks h s k lent_store picked
    picks = record { found = sym lends; read = λ z. refl; at = λ z. refl; lent_store = λ z. refl; bytes = λ z w. bytes }

    refused : (x : ℕ) → Serves n lent_store lent_store clock least m (record { answer = R.Refused x; node = n }) → WritesShard b k clock least m (ended x b)
    refused x d =
        let w : WriteAnswer = record { answer = R.Refused x; node = n; refused = counted 0 (not (eqb x 0)) } in
        shard-lent h s a k lent_store picked picks clock least m refl lent_store w
        (counts n lent_store lent_store clock least m 0 (record { answer = R.Refused x; node = n }) d x refl (counted 0 (not (eqb x 0))) refl) names (ended x b)
        (record { is = told-refused h s a n (place_of n k) lent_store w x refl; puts = λ z e. not_accepted (R.Refused x) (R.Refused x) refl refl z })

    elsewhere : (o : ℕ) → Serves n lent_store lent_store clock least m (record { answer = R.NotPrimary (record { 0 = o }); node = n }) → (a' : List ℕ)
        → a' ≡ number_put a o → WritesShard b k clock least m (ended 18 (buffers h s a'))
    elsewhere o d a' f =
        let y : WriteReply = R.NotPrimary (record { 0 = o }) in
        let w : WriteAnswer = record { answer = y; node = n; refused = counted 0 (not (eqb 18 0)) } in
        shard-lent h s a k lent_store picked picks clock least m refl lent_store w
        (counts n lent_store lent_store clock least m 0 (record { answer = y; node = n }) d 18 refl (counted 0 (not (eqb 18 0))) refl) names (ended 18 (buffers h s a'))
        (record { is = told_elsewhere h s a n (place_of n k) lent_store w o refl a' f; puts = λ z e. not_accepted y y refl refl z })

  -- ---- 24, 17

  pub malformed : FindsIn h s k L.Malformed → WritesShard b k clock least m (ended 24 b)
  malformed f =
      by_case (lends_state h s k)
      (λ e. refused e 24 (unfit n lent_store clock least m q.early p q.read true (sym q.inside) refl k q.named L.Malformed (f e) refl))
      (λ e. record { unlent = λ z. refl; lent = λ z. not_both (lends_state h s k) z e })

  pub absent : FindsIn h s k L.Absent → WritesShard b k clock least m (ended 17 b)
  absent f =
      refused f.lends 17
      (gone n lent_store clock least m q.early p q.read true (sym q.inside) refl k q.named L.Absent f.absent refl)

  -- ---- past 17

  module _ (at : ℕ) (f : FoundIn h s k at) where
    abbrev x : HeldRow
    x = held_row_in h s k at

    abbrev last : ℕ
    last = x.held.last

    abbrev lease : Bool
    lease = before (view_expiry n.expiry) clock

    abbrev Admits : Admit → Type 0
    Admits y = AdmitsWrite x.held p.epoch.0 lease least y

    -- an admission, of the row where it stands in the bytes
    pub admits_so : (r y : Admit) → AdmitsWrite (held_row_at h (48 + 1280 * at)).held p.epoch.0 lease least r → r ≡ y → Admits y
    admits_so r y d e =
        subst (λ (z : HeldRow). AdmitsWrite z.held p.epoch.0 lease least y) (sym (row_is h at f.counts f.found.under))
        (subst (λ (z : Admit). AdmitsWrite (held_row_at h (48 + 1280 * at)).held p.epoch.0 lease least z) e d)

    stores : Stores m p.op
    stores = stores-op m p.op (write-there m p q.read) q.inside

    abbrev op : Op
    op = op_from stores.code stores.id stores.bits

    at-shard : (c : LentStore) (r : Written) → WritesMessage m lease least x.held (store_of lent_store x) (store_in c r.held.last r.stored) r
        → (w : WriteReply) → w ≡ reply_as r.admit r.held.last → (v : Node) → v ≡ with_store n at r.held r.stored
        → Serves n lent_store c clock least m (record { answer = w; node = v })
    at-shard c r d w e v g =
        served n lent_store clock least m q.early p q.read true (sym q.inside) refl k q.named (L.At at) f.found at refl c lease refl r d w r.held.last e refl v g

    -- an admission that turns the call down
    turned : (y : Admit) → Admits y → ((z : model.Held) → written_as y z ≡ write_as y op z)
        → Serves n lent_store lent_store clock least m (record { answer = reply_as y last; node = n })
    turned y d same =
        let r : Written = record { admit = y; stored = x.stored; held = x.held } in
        at-shard lent_store r
        (writes-message m lease least x.held (store_of lent_store x) (store_of lent_store x) r p q.read op stores.is
        (writes-refused x.held (store_of lent_store x) refl p.epoch.0 lease least op y d f.found.well f.found.sized same x.stored))
        (reply_as y last) refl n (sym (put_same n at x.held x.stored refl refl))

    pub not_primary_lem : (o : ℕ) → Admits (A.NotPrimary o) → (a' : List ℕ) → a' ≡ number_put a o → WritesShard b k clock least m (ended 18 (buffers h s a'))
    not_primary_lem o d a' e = elsewhere f.lends o (turned (A.NotPrimary o) d (λ z. refl)) a' e

    pub no_lease_lem : Admits A.NoLease → WritesShard b k clock least m (ended 19 b)
    no_lease_lem d = refused f.lends 19 (turned A.NoLease d (λ z. refl))

    pub too_few : Admits A.TooFew → WritesShard b k clock least m (ended 20 b)
    too_few d = refused f.lends 20 (turned A.TooFew d (λ z. refl))

    pub no_room_lem : Admits A.NoRoom → WritesShard b k clock least m (ended 23 b)
    no_room_lem d = refused f.lends 23 (turned A.NoRoom d (λ z. refl))

    -- ---- admitted

    module _ (yes : Admits A.Yes) where
      pub free : last < 1024
      free = admitted_room x.held (store_of lent_store x) refl p.epoch.0 lease least op yes k

      abbrev entry : Entry
      entry = record { epoch = x.held.epoch.0; offset = last + 1; op = op }

      entry-is : entry_by x.held.epoch.0 last m p.op ≡ entry
      entry-is = ap (λ (o : Op). record { epoch = x.held.epoch.0; offset = last + 1; op = o }) (sym stores.is)

      abbrev columns : LentStore
      columns = left s x f.room f.well free x.held.epoch.0 stores.code stores.id stores.bits stores.storable

      lent_store_is : lent_store ≡ lent_store_at s x
      lent_store_is =
          let g = f.found in
          let u = g.under in
          let e = g.is in
          ap (λ (c : Bool). cond c (lent_store_at s (get_or n.held (place_of n k) no_held_row)) no_lent_store) (lt-ltb (place_of n k) n.count (omega arith))
          ∙ ap (λ (i : ℕ). lent_store_at s (get_or n.held i no_held_row)) (sym e)

      -- t the stores that the append leaves, r the rows of the table then
      module _ (t : List ℕ) (r : ℕ) (appends : Appended s t (begin_of x) last entry r) (few : r ≤ 1024) where
        abbrev held : Held
        held = last_as x.held (last + 1)

        abbrev node : Node
        node = with_store n at held r

        abbrev reply : WriteReply
        reply = R.Accepted (record { 0 = last + 1 })

        abbrev told : WriteAnswer
        told = record { answer = reply; node = node; refused = counted 0 (not (eqb 0 0)) }

        pushes : Pushed (store_of lent_store x) (store_in columns (last + 1) r) entry
        pushes =
            subst (λ (l : LentStore). Pushed (store_of l x) (store_in columns (last + 1) r) entry) (sym lent_store_is)
            (left_pushed s x f.room f.well free x.held.epoch.0 stores.code stores.id stores.bits stores.storable t r appends few)

        call : WritesAt n lent_store columns clock least m 0 told
        call =
            let w : Written = record { admit = A.Yes; stored = r; held = held } in
            counts n lent_store columns clock least m 0 (record { answer = reply; node = node })
            (at-shard columns w
            (writes-message m lease least x.held (store_of lent_store x) (store_in columns (last + 1) r) w p q.read op stores.is
            (writes_pushed x.held (store_of lent_store x) refl p.epoch.0 lease least op (store_in columns (last + 1) r) pushes yes r))
            reply refl node refl)
            0 refl (counted 0 (not (eqb 0 0))) refl

        -- no room for the offset: 23, and nothing is written
        unanswered : answer_lent a ≡ false → (a' : List ℕ) → a' ≡ number_put a (last + 1) → WritesShard b k clock least m (ended 23 (buffers h s a'))
        unanswered short a' e =
            shard-lent h s a k lent_store (picked f.lends) (picks f.lends) clock least m refl columns told call names (ended 23 (buffers h s a'))
            (record {
              is = told-short h s a n (place_of n k) columns told (last + 1) refl short (last + 1) a' e;
              puts = λ z w. let y : ◌≡◌ {A = ℕ} 23 0 = w in absurd (omega arith);
            })

        after_is : get_or node.held at no_held_row ≡ held_row_with x held r
        after_is =
            let g = f.found in
            let u = g.under in
            let v = g.inside in
            get_or-set_same n.held at (held_row_with x held r) no_held_row (omega arith)

        accepted : answer_lent a ≡ true → Fits entry → (h' : List ℕ) → HeaderWrites h h' node → (a' : List ℕ) → a' ≡ number_put a (last + 1)
            → WritesShard b k clock least m (ended 0 (buffers h' t a'))
        accepted lent fit h' writes a' e =
            let puts : Puts h h' s t n node columns at =
            puts-kept h h' s t n node columns at writes f.found.under
            (subst (λ (y : HeldRow). StorePuts s t x y columns) (sym after_is)
            (record {
              image = left-put s x f.room f.well free x.held.epoch.0 stores.code stores.id stores.bits stores.storable t r appends few (held_row_with x held r) refl refl;
              fits = left-fits s x f.room f.well free x.held.epoch.0 stores.code stores.id stores.bits stores.storable t r appends few bytes fit (held_row_with x held r) refl refl;
            })) in
            let puts' : Puts h h' s t n node columns (place_of n k) = subst (λ (i : ℕ). Puts h h' s t n node columns i) f.found.is puts in
            shard-lent h s a k lent_store (picked f.lends) (picks f.lends) clock least m refl columns told call names (ended 0 (buffers h' t a'))
            (record {
              is = told-accepted h s a n (place_of n k) columns told (last + 1) refl lent h' t a' puts' e;
              puts = λ z w. puts';
            })

      -- ---- the two ways out

      pub no_answer : answer_lent a ≡ false → (o : ℕ) → o ≡ last + 1 → (a' : List ℕ) → a' ≡ number_put a o
          → WritesShard b k clock least m (ended 23 (buffers h s a'))
      no_answer short o is a' e =
          unanswered (rows_put (log_put s (begin_of x) last (longer s (begin_of x) last entry)) (begin_of x) (play_rows (longer s (begin_of x) last entry)))
          (length (play_rows (longer s (begin_of x) last entry))) (record { image = refl; rows = refl }) (longer-few s (begin_of x) last entry free)
          short a' (e ∙ ap (number_put a) is)

      pub grown_so : answer_lent a ≡ true → (o : ℕ) → o ≡ last + 1 → (a' : List ℕ) → a' ≡ number_put a o → (h' t : List ℕ) → Grows h h' s t at m p.op
          → WritesShard b k clock least m (ended 0 (buffers h' t a'))
      grown_so lent o is a' e h' t g =
          let y = subst (λ (z : Entry). Grown s t (begin_of x) last z g.rows) entry-is g.store in
          accepted t g.rows y.appended y.few lent y.fits h' g.header a' (e ∙ ap (number_put a) is)
