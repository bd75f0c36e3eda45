-- A NewEpoch of a shard that is not held meets the contract of NewEpoch at a shard, one law for each way out. Assumes nothing.
use Prim.Native.Nat.{ℕ, ◌+◌, ◌≤◌, ◌<◌}
use mathlib.Core.Path.{◌≡◌, refl, sym, ap, ◌∙◌}
use mathlib.Core.Bool.{Bool, cond}
use mathlib.Core.List.{List, ◌∷◌}
use native.Mathlib.Omega.{arith}
use borrow.Author.Tests.{le-ltb, leb-true}
use lib.Dec.{leb}
use lib.ListN.{length, take, drop, length-append, length-drop, length-replicate}
use lib.Seq.{take_all, length-take-le}
use Rattle.spec.specs.Lists.{lead}
use Rattle.spec.specs.Limits.{max_held}
use Rattle.spec.specs.Layout.Format.{Bytes}
use Rattle.spec_laws.proofs.Lists.{and_left, and_right}
use Rattle.node_shard.specs.declared.Held.{Held}
use Rattle.node_shard.specs.View.{insert_at}
use Rattle.wire_read.specs.declared.NewEpochPart.{NewEpochPart}
use Rattle.wire_write.specs.declared.Reply.TheVariants as R
use Rattle.map_tables.specs.Names.{view_key}
use Rattle.map_tables.specs.declared.ShardKey.{ShardKey}
use Rattle.map_tables.proofs.Tables.{place-most}
use Rattle.node_header.specs.declared.HeldRow.{HeldRow}
use Rattle.node_header.specs.declared.Node.{Node}
use Rattle.node_header.specs.View.{used, no_held_row}
use Rattle.node_header.specs.Grow.{lowest_free, below_key, Inserts}
use Rattle.node_header.proofs.Grow.{inserts}
use Rattle.image_header.specs.Image.{node_at, header_lent}
use Rattle.image_header.proofs.Image.{lent_long}
use Rattle.image_header_check.specs.Rows.{Counts}
use Rattle.image_header_check.proofs.Rows.{counted}
use Rattle.image_header_begin.specs.Begun.{begun_held, Begun}
use Rattle.node_lent.specs.Lend.{LentStore, place_of}
use Rattle.node_lent.specs.declared.Lent.TheVariants as L
use Rattle.image_node.specs.Lent.{no_lent_store, lent_store_at, lent_store_in, held_row_of, lends_state}
use Rattle.image_node.proofs.Put.{puts-absent}
use Rattle.node_replicate.specs.declared.PeerReply.TheVariants as P
use Rattle.node_replicate.specs.declared.PeerAnswer.{PeerAnswer}
use Rattle.node_epoch.specs.NewEpochs.{NewEpochsAt, BeginsAt}
use Rattle.node_epoch.proofs.NewEpochs.{began}
use Rattle.node_epoch.proofs.Begin.{ninth, begins}
use Rattle.calls_peer_out.specs.Ends.{Buffers, buffers, Replies}
use Rattle.calls_peer.specs.PeerCalls as calls
use Rattle.calls_peer.specs.PeerCalls.{AtShard}
use Rattle.image_node_check.specs.Find.{AbsentIn}
use Rattle.calls_epoch.specs.Asked.{Asked}
use Rattle.calls_epoch.proofs.NewEpoch as ways

module _ (h s t m : List ℕ) (key : ShardKey) (bytes : Bytes s) (p : NewEpochPart) (q : Asked m p (view_key key)) (f : AbsentIn h s (view_key key)) where
  abbrev n : Node
  n = node_at h

  abbrev lent_store : LentStore
  lent_store = lent_store_in s n (view_key key)

  abbrev Image : Buffers → ℕ → Type 0
  Image c r = AtShard NewEpochsAt calls.announces (view_key key) m (buffers h s t) c r

  pub counts_here : Counts h n.count
  unfolding lends_state
  counts_here =
      let state = f.lends in
      let rest = and_right (header_lent h) _ state in
      (lent_long h (and_left (header_lent h) _ state), leb-true n.count max_held (and_left (leb n.count max_held) _ rest), sym (counted h))

  -- no store is read
  store-none : lent_store ≡ no_lent_store
  store-none = ap (λ (c : Bool). cond c (lent_store_at s (held_row_of n (view_key key))) no_lent_store) (le-ltb (place_of n (view_key key)) n.count f.absent.gone)

  no_keys : length no_lent_store.keys ≡ 1024
  unfolding no_lent_store
  no_keys = length-replicate {A = ℕ} 1024 0

  no_places : length no_lent_store.places ≡ 1024
  unfolding no_lent_store
  no_places = length-replicate {A = ℕ} 1024 0

  keys_long : 0 < length lent_store.keys
  keys_long = let e = ap (λ (l : LentStore). length l.keys) store-none in let k = no_keys in omega arith

  places_long : 0 < length lent_store.places
  places_long = let e = ap (λ (l : LentStore). length l.places) store-none in let k = no_places in omega arith

  called : (b : PeerAnswer) → BeginsAt n (view_key key) p.epoch.0 p.metric b → NewEpochsAt n lent_store lent_store m b
  called b d = began n m p q.read lent_store (view_key key) q.named L.Absent f.absent refl b d

  -- 23: a ninth
  pub full : 8 ≤ n.count → Image (buffers h s t) 23
  full over = ways.refused h s t m (view_key key) bytes p q f.lends 23 (called (record { answer = P.Refused 23; node = n }) (ninth n key p.epoch.0 p.metric over))

  module _ (room : n.count < 8) where
    -- the shard begins, and it is told
    pub sent : (h' t' : List ℕ) (v : ℕ) → Begun h h' key p.epoch.0 p.metric → Replies (R.Adopted (record { 0 = 0 })) t t' v → v ≡ 0 → Image (buffers h' s t') v
    sent h' t' v g d z =
        ways.sent h s t m (view_key key) bytes p q f.lends lent_store keys_long places_long (record { 0 = 0 }) g.node
        (called (record { answer = P.Adopted (record { 0 = 0 }); node = g.node })
        (begins n key p.epoch.0 p.metric room g.fresh g.held g.begins g.realigns g.node g.inserts))
        h' s t' v (puts-absent h h' s s n g.node lent_store (place_of n (view_key key)) g.writes f.absent.gone refl) d z

    -- ---- 23: no room for the reply

    abbrev at : ℕ
    at = lead (below_key (view_key key)) (used n)

    abbrev held : Held
    held = begun_held no_held_row.held p.epoch.0 p.metric

    abbrev rows : List HeldRow
    rows = insert_at (used n) at (record { key = key; slot = lowest_free (used n); stored = 0; held = held })

    rows_long : length rows ≡ n.count + 1
    rows_long =
        let size = length-take-le n.count n.held f.absent.inside in
        let most = place-most n.held n.count f.absent.inside (below_key (view_key key)) in
        length-append (take at (used n)) (record { key = key; slot = lowest_free (used n); stored = 0; held = held } ∷ drop at (used n))
        ∙ omega (arith, length-take-le at (used n) (omega arith), length-drop at (used n))

    abbrev node : Node
    node = record { id = n.id; incarnation = n.incarnation; expiry = n.expiry; version = n.version; held = rows; count = n.count + 1 }

    put_in : Inserts n key held node
    put_in = inserts n f.absent.inside key held room (lowest_free (used n)) at rows refl refl (let l = rows_long in take_all (n.count + 1) rows (omega arith))

    pub short : length t < 9 → Image (buffers h s t) 23
    short e =
        ways.unsent h s t m (view_key key) bytes p q f.lends lent_store keys_long places_long (record { 0 = 0 }) node
        (called (record { answer = P.Adopted (record { 0 = 0 }); node = node })
        (begins n key p.epoch.0 p.metric room (begun_held no_held_row.held 0 p.metric) held (record { last = refl; same = λ k. refl })
        (record { last = refl; same = λ k l₀ l v₀ v. refl }) node put_in)) e
