-- The step at the shard that was found in the bytes, and its request, one law for each way out. Assumes nothing.
use Prim.Native.Nat.{ℕ, ◌+◌, ◌*◌, ◌≤◌, ◌<◌, min}
use mathlib.Core.Path.{◌≡◌, refl, sym, ap, subst, ◌∙◌}
use mathlib.Core.Bool.{Bool, true, false, cond}
use mathlib.Core.List.{List}
use mathlib.Core.Option.{Option, some}
use native.Mathlib.Omega.{arith}
use lib.Dec.{leb, ltb}
use lib.ListN.{length, get_or, take}
use lib.Seq.{take_all}
use borrow.Author.Tests.{lt-ltb, leb-true, leb-false, not-false}
use Rattle.spec.specs.Keys.{Key, same_key}
use Rattle.spec.specs.Log.{Log, epoch_ends, entries_from}
use Rattle.spec.specs.Layout.Format.{Bytes, number_at}
use Rattle.spec.specs.Node.Held as held
use Rattle.spec.specs.Node.Worker.{Message, new_epoch_message, end_offset, sending, step_held}
use Rattle.spec.specs.declared.Metric.{Metric}
use Rattle.spec.specs.declared.Role.{Role}
use Rattle.spec_laws.proofs.Map.Orders.{same_key_lem}
use Rattle.map_tables.specs.Names.{view_key}
use Rattle.log_store.specs.Store.{Store, Sized, store_log}
use Rattle.log_store.specs.View.{Columns, log_of}
use Rattle.log_store.proofs.Columns.{log-length}
use Rattle.log_store.proofs.Firsts.{firsts-take, firsts-length}
use Rattle.node_shard.specs.Formed.{formed_held}
use Rattle.node_log_write.specs.Writes.{view_stored}
use Rattle.node_admit.specs.Steps.{step_word, Steps}
use Rattle.node_admit.specs.declared.Step.TheVariants as S
use Rattle.node_header.specs.declared.HeldRow.{HeldRow}
use Rattle.node_header.specs.declared.Node.{Node}
use Rattle.node_header.specs.declared.StepAnswer.TheVariants as stepped
use Rattle.node_header.specs.View.{other_key, no_held_row}
use Rattle.node_header.specs.Answers.{StepsNode}
use Rattle.node_header.proofs.Calls.{step-done}
use Rattle.node_header.proofs.Formed.{formed-lent, shard-formed}
use Rattle.node_header.proofs.Grow.{stop_at}
use Rattle.node_send.specs.declared.Request.{Request}
use Rattle.node_send.specs.declared.Request.TheVariants as R
use Rattle.node_send.specs.Requested.{request_on, Requested}
use Rattle.node_send.proofs.Answer.{nothing}
use Rattle.node_send.proofs.Step.{Word, align_at_lem, by_word, request-by, send_within}
use Rattle.node_lent.specs.Lend.{LentStore, store_of}
use Rattle.node_lent.specs.declared.Lent.TheVariants as L
use Rattle.node_step.specs.Requests.{Requests}
use Rattle.node_step.proofs.Requests.{sent}
use Rattle.image_header_row.specs.Rows.{held_row_at, role_at}
use Rattle.image_header.specs.Image.{node_at}
use Rattle.image_header_check.proofs.Rows.{row_at, slot_is, last-is}
use Rattle.image_header_form.proofs.FrontLaws.{role_is}
use Rattle.image_store.specs.Image.{entry_at, log_at}
use Rattle.image_node.specs.Lent.{no_lent_store, begin_of, lent_store_at, lent_store_in}
use Rattle.image_node_check.specs.Find.{FoundIn}
use Rattle.image_send_entries.specs.Store.{store_columns, Sends}
use Rattle.image_send_entries.proofs.Store.{sends_of}
use Rattle.calls_worker.specs.Found.{request_at}

-- the first `end` entries of a log, of which it may have fewer
log-first : (s : List ℕ) (base end count : ℕ) → take end (log_at s base count) ≡ log_at s base (min end count)
unfolding log_at
log-first s base end count = go (leb end count) refl
  where
    go : (b : Bool) → leb end count ≡ b → take end (log_at s base count) ≡ log_at s base (min end count)
    go true e =
        let h : end ≤ count = leb-true _ _ e in
        let m : min end count ≡ end = omega arith in
        firsts-take (entry_at s base) count end h ∙ ap (log_at s base) (sym m)
    go false e =
        let h : count < end = leb-false _ _ e in
        let m : min end count ≡ count = omega arith in
        take_all end (log_at s base count) (omega (arith, firsts-length (entry_at s base) count)) ∙ ap (log_at s base) (sym m)

module _ (h s : List ℕ) (k : Key) (at : ℕ) (d : FoundIn h s k at) where
  abbrev n : Node
  n = node_at h

  abbrev x : HeldRow
  x = get_or n.held at no_held_row

  abbrev row : ℕ
  row = 48 + 1280 * at

  pub few : at < 8
  few = let c = d.counts.1 in let u = d.found.under in omega arith

  pub row-there : row + 1280 ≤ length h
  row-there = let c = d.counts.0 in let f = few in omega arith

  kept_row : x ≡ held_row_at h row
  kept_row = row_at h n.count d.counts at no_held_row d.found.under

  pub row-formed : formed_held (held_row_at h row).held ≡ true
  row-formed = subst (λ (y : HeldRow). formed_held y.held ≡ true) kept_row (shard-formed n d.found.formed d.found.inside at d.found.under no_held_row)

  held-store : lent_store_in s n k ≡ lent_store_at s x
  held-store =
      let e = d.found.is in
      let u = d.found.under in
      ap (λ (j : ℕ). cond (ltb j n.count) (lent_store_at s (get_or n.held j no_held_row)) no_lent_store) (sym e)
      ∙ ap (λ (b : Bool). cond b (lent_store_at s x) no_lent_store) (lt-ltb at n.count u)

  -- the shard's own key is the one that it was found by
  own_key : view_key x.key ≡ k
  own_key =
      same_key_lem (view_key x.key) k
      (not-false (same_key (view_key x.key) k) (stop_at (other_key k) no_held_row n.held n.count at d.found.inside d.found.is d.found.under))

  -- ---- its store

  module _ (bytes : Bytes s) (slot last : ℕ) (slot_at : slot ≡ number_at 8 h (row + 48)) (last-at : last ≡ number_at 8 h (row + 72)) where
    slot_same : slot ≡ x.slot
    slot_same = slot_at ∙ sym (slot_is h row) ∙ ap (λ (y : HeldRow). y.slot) (sym kept_row)

    pub last-same : last ≡ x.held.last
    last-same = last-at ∙ sym (last-is h row) ∙ ap (λ (y : HeldRow). y.held.last) (sym kept_row)

    pub slot-few : slot < 8
    slot-few = let e = slot_same in let q = d.slot in omega arith

    pub sends-there : Sends s (slot * 174080) last
    sends-there =
        subst (λ (j : ℕ). Sends s (j * 174080) last) (sym slot_same)
        (subst (λ (j : ℕ). Sends s (begin_of x) j) (sym last-same)
        (sends_of s x (subst (λ (a : LentStore). Sized (store_of a x)) held-store d.found.sized) d.well d.room bytes))

    module _ (epoch peer : ℕ) (metric : Metric) (w : Word) (steps : Steps (held_row_at h row).held epoch peer w) where
      abbrev store : Store
      store = store_of (lent_store_at s x) x

      abbrev view : held.Held
      view = view_stored k x.held store

      worded : w ≡ step_word (step_held epoch peer view)
      worded =
          subst (λ (y : HeldRow). Steps y.held epoch peer w) (sym kept_row) steps
          k (store_log store) view.replica.vectors (log-length store.columns store.count)

      asked : request_at h s k at epoch peer metric ≡ by_word epoch peer metric view w
      asked = request-by epoch peer metric view w worded

      abbrev Asks : (before after : List ℕ) → Request → Type 0
      Asks before after r = Requested (request_at h s k at epoch peer metric) before after r

      by : (o : Option Message) (before after : List ℕ) (r : Request) → request_at h s k at epoch peer metric ≡ o → Requested o before after r → Asks before after r
      by o before after r e q = subst (λ (m : Option Message). Requested m before after r) (sym e) q

      pub asks_stop : w ≡ S.Stop → (out : List ℕ) → Asks out out R.Unsent
      asks_stop e out = nothing _ out (asked ∙ ap (by_word epoch peer metric view) e)

      pub asks_wait : w ≡ S.Wait → (out : List ℕ) → Asks out out R.Unsent
      asks_wait e out = nothing _ out (asked ∙ ap (by_word epoch peer metric view) e)

      log-same : store.columns ≡ store_columns s (slot * 174080) last
      unfolding lent_store_at
      log-same =
          ap (λ (j : ℕ). store_columns s (j * 174080) x.held.last) (sym slot_same) ∙ ap (store_columns s (slot * 174080)) (sym last-same)

      log_is : store_log store ≡ log_of (store_columns s (slot * 174080) last) last
      log_is = ap (λ (c : Columns). log_of c x.held.last) log-same ∙ ap (log_of (store_columns s (slot * 174080) last)) (sym last-same)

      pub asks_align : w ≡ S.Align → (role : Role) → role ≡ role_at h (row + 108) → (end : ℕ) → end ≡ end_offset role → (m : ℕ) → m ≡ min end last
          → (before after : List ℕ) (r : Request)
          → Requested (some (new_epoch_message (record { key = k; epoch = epoch; end = end; table = epoch_ends (log_at s (slot * 174080) m); metric = metric }))) before after r
          → Asks before after r
      asks_align e role role_at_lem end end_is m m-is before after r q =
          let same : x.held.role ≡ role = ap (λ (y : HeldRow). y.held.role) kept_row ∙ role_is h row ∙ sym role_at_lem in
          let table : take end (store_log store) ≡ log_at s (slot * 174080) m =
          ap (take end) (log_is ∙ sends-there.log) ∙ log-first s (slot * 174080) end last ∙ ap (log_at s (slot * 174080)) (sym m-is) in
          by _ before after r
          (asked ∙ ap (by_word epoch peer metric view) e
          ∙ align_at_lem view epoch metric end (end_is ∙ ap end_offset (sym same))
          ∙ ap (λ (l : Log). some (new_epoch_message (record { key = k; epoch = epoch; end = end; table = epoch_ends l; metric = metric }))) table) q

      module _ (first m : ℕ) (e : w ≡ S.Send first m) where
        pub send_fits : (1 ≤ first) × (1 ≤ m) × (m ≤ 256) × (first + m ≤ last + 1)
        send_fits =
            let b = send_within epoch peer view first m (sym e ∙ worded) in
            let l = log-length store.columns store.count in
            let q = last-same in
            let b₃ = b.3 in
            (b.0, b.1, b.2, omega arith)

        pub asks_send : (before after : List ℕ) (r : Request)
            → Requested (sending k epoch (entries_from (log_of (store_columns s (slot * 174080) last) last) first m)) before after r → Asks before after r
        asks_send before after r q =
            by _ before after r
            (asked ∙ ap (by_word epoch peer metric view) e ∙ ap (λ (l : Log). sending k epoch (entries_from l first m)) log_is) q

  -- ---- the step, and what is told

  module _ (epoch peer : ℕ) where
    pub steps-node : (w : Word) → Steps (held_row_at h row).held epoch peer w → StepsNode n k epoch peer (stepped.Stepped w)
    steps-node w e =
        step-done n k epoch peer (λ z. sym d.found.formed ∙ formed-lent n z) d.found.inside at d.found.is d.found.under w
        (subst (λ (y : HeldRow). Steps y.held epoch peer w) (sym kept_row) e)

    pub requests_node : (metric : Metric) (before after : List ℕ) (r : Request) → Requested (request_at h s k at epoch peer metric) before after r
        → Requests n (lent_store_in s n k) k epoch peer metric before after r
    requests_node metric before after r q =
        sent n (lent_store_in s n k) k (L.At at) d.found at refl epoch peer metric before after r
        (subst (λ (a : LentStore). Requested (request_on epoch peer metric (view_stored (view_key x.key) x.held (store_of a x))) before after r) (sym held-store)
        (subst (λ (i : Key). Requested (request_on epoch peer metric (view_stored i x.held (store_of (lent_store_at s x) x))) before after r) (sym own_key) q))
