-- Laws of the request of a worker's step at a node, one for each way out. Assumes nothing.
use Prim.Native.Nat.{ℕ, ◌-◌, ◌<◌}
use mathlib.Core.Path.{◌≡◌, refl, sym, ap, subst, ◌∙◌}
use mathlib.Core.List.{List}
use lib.ListN.{length, get_or}
use Rattle.spec.specs.Keys.{Key}
use Rattle.spec.specs.Node.Worker as worker
use Rattle.spec.specs.Node.Calls as calls
use Rattle.spec.specs.declared.Metric.{Metric}
use Rattle.map_tables.specs.Names.{view_key}
use Rattle.node_log_write.specs.Writes.{view_stored}
use Rattle.node_send.specs.declared.Request.{Request}
use Rattle.node_send.specs.declared.Request.TheVariants as R
use Rattle.node_send.specs.Requested.{answer_of, left_of, request_on, Requested}
use Rattle.node_send.proofs.Step.{request_of_lem}
use Rattle.node_header.specs.declared.HeldRow.{HeldRow}
use Rattle.node_header.specs.declared.Node.{Node}
use Rattle.node_header.specs.View.{Stores, view_held_row, view_node, no_held_row}
use Rattle.node_header.proofs.Shards.{shard-none, shard_some}
use Rattle.node_lent.specs.declared.Lent.TheVariants as L
use Rattle.node_lent.specs.declared.Lent as found
use Rattle.node_lent.specs.Lend.{LentStore, store_of, lent_for, slot_of, Lends, Finds, Found}
use Rattle.node_lent.proofs.Lend.{few-held, slot_held, lends_view}
use Rattle.node_step.specs.Requests.{Requests}

module _ (n : Node) (a : LentStore) (k : Key) (f : found.Lent) (finds : Finds n k a f) where
  module _ (epoch peer : ℕ) (metric : Metric) (out : List ℕ) where
    pub unfit : f ≡ L.Malformed → Requests n a k epoch peer metric out out (R.Refused 24)
    unfolding calls.request_with
    unfit e =
        let bad = subst (Finds n k a) e finds in
        record { answer = λ s l. rw (bad s); bytes = λ s l. rw (bad s) }

    pub gone : f ≡ L.Absent → Requests n a k epoch peer metric out out R.Unsent
    unfolding calls.request_with calls.request_of worker.on_request worker.on_step
    gone e =
        let g = subst (Finds n k a) e finds in
        record {
          answer = λ s l. rw (g.lent s) (rw (shard-none s n k g.inside _ refl g.gone));
          bytes = λ s l. rw (g.lent s) (rw (shard-none s n k g.inside _ refl g.gone));
        }

  module _ (at : ℕ) (e : f ≡ L.At at) where
    pub found_at : Found n k a at
    found_at = subst (Finds n k a) e finds

    pub found-few : at < 8
    found-few = few-held n _ a at found_at

    module _ (epoch peer : ℕ) (metric : Metric) (before : List ℕ) where
      abbrev x : HeldRow
      x = get_or n.held at no_held_row

      asked : (s : Stores) → Lends s (slot_of n k) a
          → calls.written_in (length before) (request_on epoch peer metric (view_stored (view_key x.key) x.held (store_of a x)))
          ≡ calls.request_with (lent_for s n a) (view_node s n) (length before) k epoch peer metric
      unfolding calls.request_with
      asked s l =
          let g = found_at in
          let own : x.slot ≡ slot_of n k = sym (slot_held n k at g.is g.under) in
          rw (g.lent s)
          (ap (calls.written_in (length before))
          (ap (request_on epoch peer metric) (sym (lends_view s (slot_of n k) a l x own))
          ∙ sym (request_of_lem (view_node s n) k (view_held_row s x) epoch peer metric (shard_some s n k g.inside at g.is g.under))))

      pub sent : (after : List ℕ) (r : Request) → Requested (request_on epoch peer metric (view_stored (view_key x.key) x.held (store_of a x))) before after r
          → Requests n a k epoch peer metric before after r
      sent after r d = record {
        answer = λ s l. d.answer ∙ ap answer_of (asked s l);
        bytes = λ s l. d.bytes ∙ ap (λ (w : calls.RequestAnswer). left_of w before) (asked s l);
      }
