-- A NewEpoch in place meets the contract of NewEpoch at a shard, one law for each way out. The columns that the contract speaks of are
-- written down, and no code makes them. Assumes nothing.
use Prim.Native.Nat.{ℕ, ◌+◌, ◌*◌, ◌≤◌, ◌<◌}
use mathlib.Core.Path.{◌≡◌, refl, sym, ap, ◌∙◌, subst}
use mathlib.Core.Bool.{Bool, true, false, cond}
use mathlib.Core.List.{List}
use native.Mathlib.Omega.{arith}
use borrow.Author.Tests.{lt-ltb, le-leb, ltb-true, ltb-false}
use lib.Dec.{ltb}
use lib.ListN.{length, get_or}
use lib.Seq.{get_or-set_same}
use Rattle.spec.specs.Keys.{Key}
use Rattle.spec.specs.Layout.Format.{Bytes, number_at}
use Rattle.spec.specs.Node.Backup.{leads_from}
use Rattle.spec.specs.declared.Epoch.{Epoch}
use Rattle.spec.specs.declared.Offset.{Offset}
use Rattle.spec.specs.declared.Role.{Role}
use Rattle.spec_laws.proofs.Lists.{not_both}
use Rattle.node_shard.specs.declared.Held.{Held}
use Rattle.node_admit.specs.Admits.{TakesEpoch}
use Rattle.node_admit.specs.Headers.{Realigns}
use Rattle.node_admit.specs.declared.Epochs.TheVariants as E
use Rattle.node_admit.proofs.AdmissionLaws.{epoch_led, epoch-below, epoch-taken}
use Rattle.wire_read.specs.declared.NewEpochPart.{NewEpochPart}
use Rattle.wire_write.specs.declared.Reply.{Reply}
use Rattle.wire_write.specs.declared.Reply.TheVariants as R
use Rattle.log_store.specs.Store.{Store}
use Rattle.node_log_backup.specs.declared.Answer.TheVariants as A
use Rattle.node_log_backup.specs.declared.Backed.{Backed}
use Rattle.node_log_backup.specs.Backs.{answered, TakesNewEpoch}
use Rattle.node_log_backup.proofs.Backup.{announces_older, announces-taken}
use Rattle.node_header.specs.declared.HeldRow.{HeldRow}
use Rattle.node_header.specs.declared.Node.{Node}
use Rattle.node_header.specs.View.{no_held_row}
use Rattle.node_header.proofs.Lists.{by_case}
use Rattle.image_header.specs.Image.{node_at, header_written}
use Rattle.image_header.specs.Becomes.{HeaderWrites}
use Rattle.image_header_check.specs.Rows.{Counts}
use Rattle.image_header_row.specs.Rows.{role_at}
use Rattle.image_header_form.proofs.FrontLaws.{epoch-is, role_is}
use Rattle.image_header_set.specs.Row.{aligned_held}
use Rattle.node_lent.specs.Lend.{LentStore, store_in, store_of, place_of, with_store}
use Rattle.node_lent.specs.declared.Lent.TheVariants as L
use Rattle.node_lent.proofs.Put.{put_same}
use Rattle.image_node.specs.Lent.{no_lent_store, begin_of, lent_store_at, lent_store_in, lends_state, stores_put, StorePuts, Picks, Puts}
use Rattle.image_node.specs.declared.Picked.{Picked}
use Rattle.image_node.proofs.Put.{puts-kept}
use Rattle.node_replicate.specs.declared.PeerReply.TheVariants as P
use Rattle.node_replicate.specs.declared.PeerAnswer.{PeerAnswer}
use Rattle.node_replicate.specs.Peers.{word, turned_down}
use Rattle.node_replicate.proofs.Peers.{unfit, served}
use Rattle.node_epoch.specs.NewEpochs.{NewEpochNames, NewEpochsAt}
use Rattle.node_epoch.proofs.Named.{new_epoch_key}
use Rattle.node_epoch.proofs.NewEpochs.{reads, backs}
use Rattle.calls_peer_out.specs.Ends.{Buffers, buffers, Replies, Finished}
use Rattle.calls_peer_out.specs.declared.Outcome.TheVariants as O
use Rattle.calls_peer_out.proofs.Ends as ending
use Rattle.calls_peer.specs.PeerCalls as calls
use Rattle.calls_peer.specs.PeerCalls.{AtShard}
use Rattle.calls_peer.proofs.Serves.{at-shard}
use Rattle.calls_peer.proofs.States.{new_epoch_state}
use Rattle.image_store_append.specs.Put.{Tables}
use Rattle.image_store_append.proofs.Left.{before-well, before-sized}
use Rattle.image_node_check.specs.Find.{FoundIn, FindsIn}
use Rattle.image_node_grow.specs.Grow.{row_in}
use Rattle.image_node_grow.proofs.GrowLaws.{row_is}
use Rattle.calls_epoch.specs.Asked.{Asked, stale_by, Keeps}
use Rattle.calls_epoch.proofs.Aligned as aligned
use Rattle.calls_epoch.proofs.Aligned.{played_in, cut_lent_store, after, Left}

-- a reply with room was sent
pub told_zero : (w : Reply) (s t : List ℕ) (r : ℕ) → 9 ≤ length s → Replies w s t r → r ≡ 0
told_zero w s t r e d = (ending.replied w s t r d (le-leb 9 (length s) e)).0

module _ (h : List ℕ) (at : ℕ) (counts : Counts h (node_at h).count) (under : at < (node_at h).count) where
  pub row-own : (row_in h at).held.epoch.0 ≡ number_at 8 h (48 + 1280 * at + 64)
  row-own = ap (λ (y : HeldRow). y.held.epoch.0) (row_is h at counts under) ∙ epoch-is h (48 + 1280 * at)

  pub row_role : (row_in h at).held.role ≡ role_at h (48 + 1280 * at + 108)
  row_role = ap (λ (y : HeldRow). y.held.role) (row_is h at counts under) ∙ role_is h (48 + 1280 * at)

-- ---- by the numbers that were read

pub keeps_here : (s m : List ℕ) (p : NewEpochPart) (x : HeldRow) (base last own k : ℕ) → base ≡ begin_of x → last ≡ x.held.last → own ≡ x.held.epoch.0
    → Keeps s m base last own p k → Keeps s m (begin_of x) x.held.last x.held.epoch.0 p k
keeps_here s m p x base last own k eb el eo g =
    subst (λ (i : ℕ). Keeps s m (begin_of x) x.held.last i p k) eo
    (subst (λ (i : ℕ). Keeps s m (begin_of x) i own p k) el (subst (λ (i : ℕ). Keeps s m i last own p k) eb g))

pub tables_here : (s u : List ℕ) (x : HeldRow) (base k r : ℕ) → base ≡ begin_of x → Tables s u base (played_in s base k) r → Tables s u (begin_of x) (played_in s (begin_of x) k) r
tables_here s u x base k r e d = subst (λ (i : ℕ). Tables s u i (played_in s i k) r) e d

pub stale_here : (role role' : Role) (own own' epoch : ℕ) → role ≡ role' → own ≡ own' → stale_by role own epoch ≡ stale_by role' own' epoch
stale_here role role' own own' epoch e d = ap (λ (i : Role). stale_by i own epoch) e ∙ ap (λ (i : ℕ). stale_by role' i epoch) d

-- ---- whether the epoch is taken

module _ (h : Held) (epoch : ℕ) where
  takes_stale : stale_by h.role h.epoch.0 epoch ≡ true → TakesEpoch h epoch (E.Stale h.epoch.0)
  unfolding stale_by
  takes_stale e =
      by_case (leads_from h.role epoch) (λ y. epoch_led h epoch y)
      (λ y. epoch-below h epoch y (ltb-true epoch h.epoch.0 (rw y at e)))

  not_leading : stale_by h.role h.epoch.0 epoch ≡ false → leads_from h.role epoch ≡ false
  unfolding stale_by
  not_leading e = by_case (leads_from h.role epoch) (λ y. not_both true refl (rw y at e)) (λ y. y)

  not_below : stale_by h.role h.epoch.0 epoch ≡ false → h.epoch.0 ≤ epoch
  unfolding stale_by
  not_below e = ltb-false epoch h.epoch.0 (rw (not_leading e) at e)

  takes-taken : stale_by h.role h.epoch.0 epoch ≡ false → TakesEpoch h epoch E.Taken
  takes-taken e = epoch-taken h epoch (not_leading e) (not_below e)

  realigns : (k : ℕ) → Realigns h epoch k (aligned_held h epoch k)
  realigns k = record { last = refl; same = λ key l₀ l v₀ v. refl }

module _ (h s t m : List ℕ) (k : Key) (bytes : Bytes s) (p : NewEpochPart) (q : Asked m p k) where
  abbrev n : Node
  n = node_at h

  abbrev lent_store : LentStore
  lent_store = lent_store_in s n k

  abbrev b : Buffers
  b = buffers h s t

  abbrev Call : (y : LentStore) → PeerAnswer → Type 0
  Call y w = NewEpochsAt n lent_store y m w

  abbrev Image : Buffers → ℕ → Type 0
  Image c r = AtShard NewEpochsAt calls.announces k m b c r

  names : NewEpochNames m k
  names v d = q.named ∙ new_epoch_key m p q.read v d

  -- ---- the call that the contract speaks of

  module _ (lends : lends_state h s k ≡ true) where
    abbrev picked : Picked
    picked = record { found = true; at = place_of n k; node = n }

    picks : Picks h s k lent_store picked
    picks = record { found = sym lends; read = λ z. refl; at = λ z. refl; lent_store = λ z. refl; bytes = λ z w. bytes }

    passed : (y : LentStore) (w : PeerAnswer) → 0 < length y.keys → 0 < length y.places → Call y w → (c : Buffers) (r : ℕ)
        → Finished b c n (place_of n k) y w r → Image c r
    passed y w hk hp call c r fin =
        at-shard NewEpochsAt calls.announces m h s t k lent_store picked picks refl y w call c r fin
        (λ e g z d u. new_epoch_state m h s c.header c.stores k y w e g z u hk hp names d)

    -- turned down, with the state as it was
    down : (w : PeerAnswer) → turned_down w.answer ≡ true → Call lent_store w → (c : Buffers) (r : ℕ) → Finished b c n (place_of n k) lent_store w r → Image c r
    down w no' call c r fin =
        at-shard NewEpochsAt calls.announces m h s t k lent_store picked picks refl lent_store w call c r fin (λ e g z d u. not_both (turned_down w.answer) no' z)

    pub refused : (i : ℕ) → Call lent_store (record { answer = P.Refused i; node = n }) → Image b i
    refused i call = down (record { answer = P.Refused i; node = n }) refl call b i (record { ends = refl; puts = λ z e. not_both true refl z })

    replied : (e : Epoch) → Call lent_store (record { answer = P.StaleEpoch e; node = n }) → (t' : List ℕ) (r : ℕ) → Replies (R.StaleEpoch e) t t' r → Image (buffers h s t') r
    replied e call t' r d =
        down (record { answer = P.StaleEpoch e; node = n }) refl call (buffers h s t') r
        (record {
          ends = ending.kept b (header_written h n) (stores_put s n n lent_store (place_of n k)) (P.StaleEpoch e) (O.Kept (R.StaleEpoch e)) refl (R.StaleEpoch e) t' r d refl;
          puts = λ z i. not_both true refl z;
        })

    -- ---- adopted: the state is changed, and told, or there is no room for the reply

    module _ (y : LentStore) (hk : 0 < length y.keys) (hp : 0 < length y.places) (o : Offset) (v : Node) (call : Call y (record { answer = P.Adopted o; node = v })) where
      pub sent : (h' u t' : List ℕ) (r : ℕ) → Puts h h' s u n v y (place_of n k) → Replies (R.Adopted o) t t' r → r ≡ 0 → Image (buffers h' u t') r
      sent h' u t' r w d z =
          passed y (record { answer = P.Adopted o; node = v }) hk hp call (buffers h' u t') r
          (record {
            ends = ending.done b _ _ (P.Adopted o) (O.Changed (R.Adopted o)) refl (R.Adopted o) t' r d refl z h' u w.header w.stores;
            puts = λ j l. w;
          })

      pub unsent : length t < 9 → Image b 23
      unsent e =
          passed y (record { answer = P.Adopted o; node = v }) hk hp call b 23
          (record {
            ends = ending.short b _ _ (P.Adopted o) (O.Changed (R.Adopted o)) refl (R.Adopted o) t 23 (ending.no_room_lem (R.Adopted o) t e) refl (λ z. omega arith);
            puts = λ j l. absurd (omega arith);
          })

  -- ---- 24

  pub malformed : FindsIn h s k L.Malformed → Image b 24
  malformed f =
      by_case (lends_state h s k)
      (λ e. refused e 24 (unfit _ _ _ _ n lent_store _ _ _ _ (reads n m p q.read) true refl refl k q.named L.Malformed (f e) refl))
      (λ e. record { unlent = λ z. (refl, refl); lent = λ z. not_both (lends_state h s k) z e })

  -- ---- at a shard that is held

  module _ (at : ℕ) (f : FoundIn h s k at) where
    abbrev x : HeldRow
    x = row_in h at

    abbrev last : ℕ
    last = x.held.last

    abbrev own : ℕ
    own = x.held.epoch.0

    abbrev epoch : ℕ
    epoch = p.epoch.0

    abbrev store : Store
    store = store_of (lent_store_at s x) x

    store_here : lent_store ≡ lent_store_at s x
    store_here =
        let g = f.found in
        let u = g.under in
        let e = g.is in
        ap (λ (c : Bool). cond c (lent_store_at s (get_or n.held (place_of n k) no_held_row)) no_lent_store) (lt-ltb (place_of n k) n.count (omega arith))
        ∙ ap (λ (i : ℕ). lent_store_at s (get_or n.held i no_held_row)) (sym e)

    called : (y : LentStore) (r : Backed) → TakesNewEpoch m x.held store (store_in y r.held.last r.stored) r
        → (v : Node) → v ≡ with_store n at r.held r.stored → Call y (record { answer = word (answered r.answer); node = v })
    called y r d v is =
        served _ _ _ _ n lent_store _ _ _ _ (reads n m p q.read) true refl refl k q.named (L.At at) f.found at refl y r
        (backs n m p q.read x.held (store_of lent_store x) (store_in y r.held.last r.stored) r
        (subst (λ (l : LentStore). TakesNewEpoch m x.held (store_of l x) (store_in y r.held.last r.stored) r) (sym store_here) d))
        (word (answered r.answer)) refl v is

    -- ---- StaleEpoch

    pub stale : (o : ℕ) → o ≡ own → stale_by x.held.role own epoch ≡ true → (t' : List ℕ) (r : ℕ) → Replies (R.StaleEpoch (record { 0 = o })) t t' r
        → Image (buffers h s t') r
    stale o e d t' r z =
        let w : Epoch = record { 0 = o } in
        let a : Backed = record { answer = A.StaleEpoch w; stored = x.stored; held = x.held } in
        let takes : TakesNewEpoch m x.held store store a = announces_older m x.held store p q.read o x.stored
        (subst (λ (i : ℕ). TakesEpoch x.held epoch (E.Stale i)) (sym e) (takes_stale x.held epoch d)) (before-well s x f.room f.well) (before-sized s x f.room f.well) in
        replied f.lends w
        (subst (λ (l : LentStore). Call l (record { answer = P.StaleEpoch w; node = n })) (sym store_here)
        (called (lent_store_at s x) a takes n (sym (put_same n at x.held x.stored refl refl)))) t' r z

    -- ---- the epoch is taken

    module _ (fresh : stale_by x.held.role own epoch ≡ false) where
      abbrev node_with : (left rows : ℕ) → Node
      node_with left rows = with_store n at (aligned_held x.held epoch left) rows

      puts : (h' u : List ℕ) (left rows : ℕ) (y : LentStore) → HeaderWrites h h' (node_with left rows) → StorePuts s u x (after s x f.room f.well epoch left rows) y
          → Puts h h' s u n (node_with left rows) y (place_of n k)
      puts h' u left rows y w d =
          let under = f.found.under in
          let inside = f.found.inside in
          let z = after s x f.room f.well epoch left rows in
          let row : get_or (node_with left rows).held at no_held_row ≡ z = get_or-set_same n.held at z no_held_row (omega arith) in
          subst (λ (i : ℕ). Puts h h' s u n (node_with left rows) y i) f.found.is
          (puts-kept h h' s u n (node_with left rows) y at w under (subst (λ (j : HeldRow). StorePuts s u x j y) (sym row) d))

      newer : own ≤ epoch
      newer = not_below x.held epoch fresh

      module _ (left : ℕ) (g : Left s x f.room f.well m p left) where
        -- nothing is cut
        module _ (all : last ≤ left) where
          whole-call : Call (lent_store_at s x) (record { answer = P.Adopted (record { 0 = last }); node = node_with last x.stored })
          whole-call =
              called (lent_store_at s x) (record { answer = A.Adopted (record { 0 = last }); stored = x.stored; held = aligned_held x.held epoch last })
              (announces-taken m x.held store p q.read (takes-taken x.held epoch fresh) store.columns store.keys store.places last x.stored _
              (aligned_held x.held epoch last) (aligned.whole s x f.room f.well m p newer left g all) (realigns x.held epoch last))
              (node_with last x.stored) refl

          whole-keys : 0 < length (lent_store_at s x).keys
          whole-keys = let z = before-sized s x f.room f.well in omega (arith, z.keys)

          whole-places : 0 < length (lent_store_at s x).places
          whole-places = let z = before-sized s x f.room f.well in omega (arith, z.places)

          pub whole_sent : (l w : ℕ) → l ≡ last → w ≡ x.stored → (h' t' : List ℕ) (r : ℕ) → HeaderWrites h h' (node_with l w)
              → Replies (R.Adopted (record { 0 = l })) t t' r → r ≡ 0 → Image (buffers h' s t') r
          whole_sent l w el ew h' t' r put d z =
              sent f.lends (lent_store_at s x) whole-keys whole-places (record { 0 = last }) (node_with last x.stored) whole-call h' s t' r
              (puts h' s last x.stored (lent_store_at s x)
              (subst (λ (i : ℕ). HeaderWrites h h' (node_with last i)) ew (subst (λ (i : ℕ). HeaderWrites h h' (node_with i w)) el put))
              (aligned.whole-puts s x f.room f.well bytes epoch))
              (subst (λ (i : ℕ). Replies (R.Adopted (record { 0 = i })) t t' r) el d) z

          whole-short : length t < 9 → Image b 23
          whole-short e = unsent f.lends (lent_store_at s x) whole-keys whole-places (record { 0 = last }) (node_with last x.stored) whole-call e

        -- the log is cut
        module _ (less : left < last) where
          abbrev cut_to : LentStore
          cut_to = cut_lent_store s x f.room f.well left

          abbrev rows : ℕ
          rows = length (aligned.rows s x f.room f.well left)

          cut-call : Call cut_to (record { answer = P.Adopted (record { 0 = left }); node = node_with left rows })
          cut-call =
              called cut_to (record { answer = A.Adopted (record { 0 = left }); stored = rows; held = aligned_held x.held epoch left })
              (announces-taken m x.held store p q.read (takes-taken x.held epoch fresh) store.columns cut_to.keys cut_to.places left rows _
              (aligned_held x.held epoch left) (aligned.cut s x f.room f.well m p newer left g less) (realigns x.held epoch left))
              (node_with left rows) refl

          cut-keys : 0 < length cut_to.keys
          cut-keys =
              let z = before-sized s x f.room f.well in
              let u = aligned.tabled s x f.room f.well left (omega arith) in
              omega (arith, u.keys, z.keys)

          cut-places : 0 < length cut_to.places
          cut-places =
              let z = before-sized s x f.room f.well in
              let u = aligned.tabled s x f.room f.well left (omega arith) in
              omega (arith, u.places, z.places)

          pub cut-sent : (h' u t' : List ℕ) (i r : ℕ) → Tables s u (begin_of x) (played_in s (begin_of x) left) i → HeaderWrites h h' (node_with left i)
              → Replies (R.Adopted (record { 0 = left })) t t' r → r ≡ 0 → Image (buffers h' u t') r
          cut-sent h' u t' i r a w d z =
              let e : i ≡ rows = aligned.row_count s x f.room f.well u left i a in
              sent f.lends cut_to cut-keys cut-places (record { 0 = left }) (node_with left rows) cut-call h' u t' r
              (puts h' u left rows cut_to (subst (λ (j : ℕ). HeaderWrites h h' (node_with left j)) e w)
              (subst (λ (j : ℕ). StorePuts s u x (after s x f.room f.well epoch left j) cut_to) e
              (aligned.cut-puts s x f.room f.well bytes epoch u left i (omega arith) a))) d z

          cut_short : length t < 9 → Image b 23
          cut_short e = unsent f.lends cut_to cut-keys cut-places (record { 0 = left }) (node_with left rows) cut-call e

      -- 23: no room for the reply
      pub short : length t < 9 → Image b 23
      short e =
          aligned.left_by s x f.room f.well m p
          (λ left g.
          by_case (ltb left last) (λ z. cut_short left g (ltb-true left last z) e) (λ z. whole-short left g (ltb-false left last z) e))
