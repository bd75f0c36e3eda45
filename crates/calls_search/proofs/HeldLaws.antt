-- A Search on one held shard in the lent bytes, way by way. Assumes nothing.
use Prim.Native.Nat.{ℕ, ◌+◌, ◌*◌, ◌≤◌, ◌<◌, min}
use mathlib.Core.Path.{◌≡◌, refl, sym, ap, subst, ◌∙◌}
use mathlib.Core.Bool.{Bool, true, false, cond}
use mathlib.Core.List.{List, ◌++◌, map}
use native.Mathlib.Omega.{arith}
use native.Mathlib.Nat.{min-eq_left}
use lib.Dec.{ltb}
use lib.Ieee.{Float}
use lib.ListN.{length, get_or, take, drop, replicate, length-replicate}
use borrow.Author.Tests.{ltb-true, ltb-false, lt-ltb}
use Rattle.spec.specs.Keys.{Key}
use Rattle.spec.specs.Log.{Log}
use Rattle.spec.specs.Layout.Format.{number_at}
use Rattle.spec.specs.Layout.Parts.{metric_of}
use Rattle.spec.specs.declared.Metric.{Metric}
use Rattle.spec.specs.Nearest.Search.{Vector, hits}
use Rattle.spec.specs.Node.Lease.{before}
use Rattle.spec.specs.Node.Shards.{leads_at}
use Rattle.spec.specs.Node.Wire.{float_of}
use Rattle.spec.specs.Node.WellFormed.{well_formed_vector}
use Rattle.spec.specs.declared.Neighbor.{Neighbor}
use Rattle.spec.specs.declared.Role.{Role}
use Rattle.spec_laws.proofs.Lists.{and_left, and_right}
use Rattle.log_store.specs.Table.{vectors_of}
use Rattle.log_store.specs.Store.{store_log, store_rows, well_formed_store}
use Rattle.log_select.specs.declared.select.Hits.{Hits}
use Rattle.log_search.specs.declared.answer.Found.TheVariants as N
use Rattle.log_select.specs.Written.{id_of, distance_of}
use Rattle.log_search.proofs.Answered.{least_both, answered-short, answered-found}
use Rattle.image_store_search.specs.Nearest.{NearestIn}
use Rattle.node_admit.specs.declared.Admit.TheVariants as A
use Rattle.std.specs.Prelude.{Option}
use Rattle.node_admit.specs.View.{view_expiry}
use Rattle.node_admit.specs.Admits.{AdmitsSearch}
use Rattle.node_admit.proofs.AdmissionLaws.{search_not, search_unleased, search_yes}
use Rattle.node_header.specs.declared.HeldRow.{HeldRow}
use Rattle.node_header.specs.declared.Node.{Node}
use Rattle.node_header.specs.View.{no_held_row}
use Rattle.image_header_row.specs.Rows.{held_row_at, role_at, expiry_of}
use Rattle.image_header.specs.Image.{node_at}
use Rattle.image_header_check.proofs.Rows.{row_at, slot_is, last-is, stored_is}
use Rattle.image_header_form.proofs.FrontLaws.{epoch-is, metric_is, role_is}
use Rattle.node_lent.specs.Lend.{LentStore, store_of, place_of}
use Rattle.node_lent.specs.declared.Lent.TheVariants as L
use Rattle.image_store.specs.Image.{log_at, rows_at, well_formed_image}
use Rattle.image_store.specs.Read.{all_readable}
use Rattle.image_store.proofs.Read.{image_log}
use Rattle.image_store.proofs.Test.{image_test}
use Rattle.image_node.specs.Lent.{no_lent_store, begin_of, lent_store_at, lent_store_in}
use Rattle.image_node.proofs.Pick.{floats-whole}
use Rattle.calls_parts.specs.Answer.{number_put}
use Rattle.node_search.specs.declared.SearchAnswer.{SearchAnswer}
use Rattle.node_search.specs.declared.SearchAnswer.TheVariants as S
use Rattle.node_search.specs.Searches.{Output, output, room, SearchesHeld, SearchesNamed}
use Rattle.node_search.proofs.Held.{held_not, held_unleased, held_found, named-held}
use Rattle.calls_client_out.specs.Found.{SearchEnded, ended, found_in, hits_lent, fresh_hits}
use Rattle.image_node_check.specs.Find.{held_row_in, FoundIn}
use Rattle.calls_search.specs.Served.{NearestHeld, hits_ended, NamedServed}
use Rattle.calls_search.proofs.HitLaws.{same-hits}

-- as many places as fresh columns have
room-fresh : (m : ℕ) → room (fresh_hits m) ≡ m
unfolding fresh_hits
room-fresh m =
    let a = length-replicate {A = ℕ} m 0 in
    let b = length-replicate {A = Float} m (float_of 0) in
    ap (λ (z : ℕ). min z (length (replicate m (float_of 0)))) a ∙ ap (min m) b ∙ min-eq_left {n = m} {m = m} (omega arith)

module _ (h s : List ℕ) (key : Key) (at : ℕ) (f : FoundIn h s key at) where
  abbrev n : Node
  n = node_at h

  abbrev x : HeldRow
  x = held_row_in h s key at

  abbrev row : ℕ
  row = 48 + 1280 * at

  row_is : x ≡ held_row_at h row
  row_is = row_at h n.count f.counts at no_held_row f.found.under

  pub row-few : at < 8
  row-few = let u = f.found.under in let c = f.counts.1 in omega arith

  -- ---- its numbers, where they stand

  module _ (slot last stored : ℕ) (slot_read : slot ≡ number_at 8 h (row + 48)) (last-read : last ≡ number_at 8 h (row + 72))
      (stored-read : stored ≡ number_at 8 h (row + 56)) where
    slot_here : slot * 174080 ≡ begin_of x
    slot_here = ap (λ (z : ℕ). z * 174080) (slot_read ∙ sym (ap (λ (y : HeldRow). y.slot) row_is ∙ slot_is h row))

    last_here : last ≡ x.held.last
    last_here = last-read ∙ sym (ap (λ (y : HeldRow). y.held.last) row_is ∙ last-is h row)

    stored_here : stored ≡ x.stored
    stored_here = stored-read ∙ sym (ap (λ (y : HeldRow). y.stored) row_is ∙ stored_is h row)

    pub store-there : slot * 174080 + 174080 ≤ length s
    store-there = subst (λ (z : ℕ). z + 174080 ≤ length s) (sym slot_here) f.room

    pub store-well : well_formed_image s (slot * 174080) last stored ≡ true
    store-well =
        ap (λ (z : ℕ). well_formed_image s z last stored) slot_here ∙ ap (λ (z : ℕ). well_formed_image s (begin_of x) z stored) last_here
        ∙ ap (well_formed_image s (begin_of x) x.held.last) stored_here ∙ f.well

    pub nearest_held : (metric : Metric) → metric ≡ metric_of (number_at 4 h (row + 96)) → (q : List Float) (k most : ℕ) → most ≡ min k 1024 → (r : Hits)
        → NearestIn s (slot * 174080) last stored metric q most r → NearestHeld s x q k r
    nearest_held metric e q k most m r d =
        let metric-here : metric ≡ x.held.metric = e ∙ sym (ap (λ (y : HeldRow). y.held.metric) row_is ∙ metric_is h row) in
        record {
          long = d.long;
          most = omega (arith, d.most, (least_both most k 1024 m).1);
          first =
              d.first
              ∙ ap (λ (z : ℕ). hits metric q (vectors_of (log_at s z last) (rows_at s z stored)) most) slot_here
              ∙ ap (λ (z : ℕ). hits metric q (vectors_of (log_at s (begin_of x) z) (rows_at s (begin_of x) stored)) most) last_here
              ∙ ap (λ (z : ℕ). hits metric q (vectors_of (log_at s (begin_of x) x.held.last) (rows_at s (begin_of x) z)) most) stored_here
              ∙ ap (λ (z : Metric). hits z q (vectors_of (log_at s (begin_of x) x.held.last) (rows_at s (begin_of x) x.stored)) most) metric-here
              ∙ ap (hits x.held.metric q (vectors_of (log_at s (begin_of x) x.held.last) (rows_at s (begin_of x) x.stored))) m;
        }

  -- the lease's end, where it stands
  pub lease-is : (clock : ℕ) (code time : ℕ) → code ≡ number_at 4 h 36 → time ≡ number_at 8 h 40 → (e : Option ℕ) → e ≡ expiry_of code time → (b : Bool)
      → b ≡ before (view_expiry e) clock → b ≡ before (view_expiry n.expiry) clock
  unfolding node_at
  lease-is clock code time c t e x b d =
      d ∙ ap (λ (z : Option ℕ). before (view_expiry z) clock)
      (x ∙ ap (λ (z : ℕ). expiry_of z time) c ∙ ap (expiry_of (number_at 4 h 36)) t)

  epoch_here : x.held.epoch.0 ≡ number_at 8 h (row + 64)
  epoch_here = ap (λ (y : HeldRow). y.held.epoch.0) row_is ∙ epoch-is h row

  -- ---- the columns that the definition reads

  abbrev lent_store : LentStore
  lent_store = lent_store_in s n key

  lent_store_is : lent_store ≡ lent_store_at s x
  lent_store_is =
      let u = f.found.under in
      let p = f.found.is in
      ap (λ (b : Bool). cond b (lent_store_at s (get_or n.held (place_of n key) no_held_row)) no_lent_store) (lt-ltb (place_of n key) n.count (omega arith))
      ∙ ap (λ (i : ℕ). lent_store_at s (get_or n.held i no_held_row)) (sym p)

  vectors_are : vectors_of (store_log (store_of lent_store x)) (store_rows (store_of lent_store x)) ≡ vectors_of (log_at s (begin_of x) x.held.last) (rows_at s (begin_of x) x.stored)
  unfolding lent_store_at
  vectors_are =
      let base = begin_of x in
      let fs = no_lent_store.columns.floats in
      let both = image_test s base x.held.last x.stored fs floats-whole ∙ f.well in
      let st = store_of (lent_store_at s x) x in
      ap (λ (l : LentStore). vectors_of (store_log (store_of l x)) (store_rows (store_of l x))) lent_store_is
      ∙ ap (λ (l : Log). vectors_of l (store_rows st))
      (image_log s base x.held.last x.stored fs st.keys st.places floats-whole
      (and_left (all_readable s base x.held.last) (well_formed_store st) both) (and_right (all_readable s base x.held.last) (well_formed_store st) both))

  -- ---- the ways out: o and a the outputs before

  module _ (clock epoch k : ℕ) (q : List Float) (asked : well_formed_vector q ≡ true) (o a : List ℕ) (role : Role) (role-read : role ≡ role_at h (row + 108)) where
    abbrev fresh : Output
    fresh = fresh_hits (hits_lent o)

    abbrev lease : Bool
    lease = before (view_expiry n.expiry) clock

    role_here : (b : Bool) → leads_at role epoch ≡ b → leads_at x.held.role epoch ≡ b
    role_here b e = ap (λ (z : Role). leads_at z epoch) (ap (λ (y : HeldRow). y.held.role) row_is ∙ role_is h row ∙ sym role-read) ∙ e

    named : (p : Output) (r : SearchAnswer) → SearchesHeld x.held (store_of lent_store x) epoch lease k q fresh p r → SearchesNamed n lent_store key clock epoch k q fresh p r
    named p r t = named-held n lent_store key clock epoch k q fresh (L.At at) f.found at refl lease refl p r t

    pub served_not : leads_at role epoch ≡ false → (own : ℕ) → own ≡ number_at 8 h (row + 64) → (a' : List ℕ) → a' ≡ number_put a own
        → NamedServed n lent_store key clock epoch k q o a (ended 18 o a')
    unfolding fresh_hits
    served_not nay own e a' put = record {
      left = fresh;
      told = S.NotPrimary (record { 0 = x.held.epoch.0 });
      call = named fresh (S.NotPrimary (record { 0 = x.held.epoch.0 }))
          (held_not x.held (store_of lent_store x) epoch lease k q fresh.ids fresh.distances (A.NotPrimary x.held.epoch.0)
          (search_not x.held epoch lease (role_here false nay)) x.held.epoch.0 refl);
      is = ap (ended 18 o) (put ∙ ap (number_put a) (e ∙ sym epoch_here));
    }

    module _ (leads : leads_at role epoch ≡ true) (b : Bool) (tested : b ≡ lease) where
      pub served_unleased : b ≡ false → NamedServed n lent_store key clock epoch k q o a (ended 19 o a)
      unfolding fresh_hits
      served_unleased e = record {
        left = fresh;
        told = S.Refused 19;
        call = named fresh (S.Refused 19)
            (held_unleased x.held (store_of lent_store x) epoch lease k q fresh.ids fresh.distances A.NoLease
            (search_unleased x.held epoch lease (role_here true leads) (sym tested ∙ e)) refl);
        is = refl;
      }

      module _ (holds : b ≡ true) (r : Hits) (found : NearestHeld s x q k r) where
        abbrev m : ℕ
        m = r.count

        abbrev items : List Neighbor
        items = r.items

        fit : m ≤ length items
        fit = let l = found.long in let c = found.most in omega arith

        hit : take m items ≡ hits x.held.metric q (vectors_of (store_log (store_of lent_store x)) (store_rows (store_of lent_store x))) (min k 1024)
        hit = found.first ∙ ap (λ (v : List Vector). hits x.held.metric q v (min k 1024)) (sym vectors_are)

        admits : AdmitsSearch x.held epoch lease A.Yes
        admits = search_yes x.held epoch lease (role_here true leads) (sym tested ∙ holds)

        abbrev ids : List ℕ
        ids = map id_of (take m items) ++ drop m fresh.ids

        abbrev distances : List Float
        distances = map distance_of (take m items) ++ drop m fresh.distances

        by-room : (c : Bool) → ltb (hits_lent o) m ≡ c
            → NamedServed n lent_store key clock epoch k q o a (cond c (ended 23 o a) (found_in o a (output (map id_of items) (map distance_of items)) m))
        by-room true e = record {
          left = fresh;
          told = S.Refused 23;
          call = named fresh (S.Refused 23)
              (held_found x.held (store_of lent_store x) epoch lease k q fresh.ids fresh.distances A.Yes admits refl f.found.well asked (N.Refused 23)
              fresh.ids fresh.distances
              (answered-short (store_of lent_store x) x.held.metric q k (room fresh) f.found.sized f.found.well asked items m fit hit fresh.ids fresh.distances
              (subst (λ (z : ℕ). z < m) (sym (room-fresh (hits_lent o))) (ltb-true (hits_lent o) m e)))
              (S.Refused 23) refl);
          is = refl;
        }
        by-room false e = record {
          left = output ids distances;
          told = S.Found m;
          call = named (output ids distances) (S.Found m)
              (held_found x.held (store_of lent_store x) epoch lease k q fresh.ids fresh.distances A.Yes admits refl f.found.well asked (N.Hits m)
              ids distances
              (answered-found (store_of lent_store x) x.held.metric q k (room fresh) f.found.sized f.found.well asked items m fit hit fresh.ids fresh.distances
              (subst (λ (z : ℕ). m ≤ z) (sym (room-fresh (hits_lent o))) (ltb-false (hits_lent o) m e)) ids distances refl refl)
              (S.Found m) refl);
          is = ap (λ (z : List ℕ). cond (Rattle.calls_parts.specs.Answer.answer_lent a) (ended 0 (lib.Seq.sets o 0 z) (number_put a m)) (ended 23 o a))
              (same-hits items m fit (drop m fresh.ids) (drop m fresh.distances));
        }

        pub served_found : (e : SearchEnded) → e ≡ hits_ended o a items m → NamedServed n lent_store key clock epoch k q o a e
        unfolding hits_ended
        served_found e is = subst (NamedServed n lent_store key clock epoch k q o a) (sym is) (by-room (ltb (hits_lent o) m) refl)
