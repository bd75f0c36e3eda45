-- The steps of node 1's worker: the alignment first, then the entry. Both satisfy the contract of `catalogue_step`, which answers 2 and 3 and
-- leaves the request and its length. Assumes nothing.
use Prim.Native.Nat.{ℕ}
use native.Mathlib.Omega.{arith}
use mathlib.Core.Path.{◌≡◌, refl, sym, ap, subst, ◌∙◌}
use mathlib.Core.Bool.{Bool, true, false}
use mathlib.Core.List.{List, [], ◌∷◌}
use lib.ListN.{length, get_or}
use lib.Seq.{sets}
use lib.Ieee.{fits, to_bits, of_bits}
use Rattle.spec.specs.Log.{Log, Vectors}
use Rattle.spec.specs.Node.Held as held
use Rattle.spec.specs.Node.Calls as calls
use Rattle.spec.specs.declared.Metric.TheVariants.{Euclidean}
use Rattle.spec_laws.proofs.Lists.{not_both}
use Rattle.spec_run.proofs.Cases.Opened.{opened}
use Rattle.std.specs.Prelude.{Some}
use Rattle.node_admit.specs.declared.Step.TheVariants as step
use Rattle.node_header.specs.declared.Node.{Node}
use Rattle.node_header.specs.declared.StepAnswer.{StepAnswer}
use Rattle.node_header.specs.declared.StepAnswer.TheVariants as stepped
use Rattle.node_header.specs.View.{Stores, view_node}
use Rattle.node_header.specs.Answers.{step_answered, StepsNode}
use Rattle.node_send.specs.declared.Request.TheVariants as request
use Rattle.node_send.specs.Requested.{answer_of, left_of}
use Rattle.node_step.specs.Requests.{Requests}
use Rattle.wire_write.specs.Written.{text_fits}
use Rattle.image_header.specs.Image.{node_at}
use Rattle.node_lent.specs.Lend.{LentStore, lent_for, slot_of, Lends}
use Rattle.image_node.specs.Lent.{lent_store_in, lends_state}
use Rattle.calls_parts.specs.Answer.{number_put}
use Rattle.calls_worker.specs.Steps.{Asking, asking, decodes, sent_number, outputs, Tells, StepsImage}
use Rattle.thm_one_node.specs.Images.{room}
use Rattle.thm_one_node.proofs.Map.{key}
use Rattle.thm_one_node.proofs.Columns.{entry, stored}
use Rattle.thm_one_node.proofs.Write.{vectors}
use Rattle.thm_one_node.proofs.Stored.{columns, columns-log, columns-rows, log-lent, vectors-lent}
use Rattle.thm_two_nodes.specs.Images.{written, aligned, space}
use Rattle.thm_two_nodes.proofs.Headers.{row, leads, read-written, read-aligned}
use Rattle.thm_two_nodes.proofs.Nodes.{first, first_one, first-full, first_slot, first-node, lends_written, lends_aligned, written-passes, aligned-passes}
use Rattle.thm_two_nodes.proofs.Messages.{align_bytes, entry_bytes}

-- the worker for node 2
abbrev pub worker : Asking
worker = asking (0x73 ∷ []) 0 1 2 0

is-worker : decodes worker ≡ true
unfolding opened decodes text_fits
is-worker = refl

-- ---- the steps

-- a log of one entry
align_at_lem : (l : Log) (v : Vectors) → length l ≡ 1 → stepped.Stepped step.Align ≡ step_answered (calls.step_with (λ x. true) (first l v (row 0 false)) key 1 2)
unfolding opened
align_at_lem l v e = refl

send_at : (l : Log) (v : Vectors) → length l ≡ 1 → stepped.Stepped (step.Send 1 1) ≡ step_answered (calls.step_with (λ x. true) (first l v (row 0 true)) key 1 2)
unfolding opened
send_at [] v e = absurd (omega arith)
send_at (x ∷ []) v e = refl
send_at (x ∷ y ∷ l) v e = absurd (omega arith)

aligns : StepsNode (leads (Some 100) 1 1 0 false) key 1 2 (stepped.Stepped step.Align)
aligns s = rw (first-node false s) (align_at_lem (s.log 0 1) (s.vectors 0 1 1) (s.long 0 1))

sends : StepsNode (leads (Some 100) 1 1 0 true) key 1 2 (stepped.Stepped (step.Send 1 1))
sends s = rw (first-node true s) (send_at (s.log 0 1) (s.vectors 0 1 1) (s.long 0 1))

-- ---- the requests

align_asked : (s : Stores)
    → calls.request_with (lent_for s (leads (Some 100) 1 1 0 false) columns) (first (entry ∷ []) vectors (row 0 false)) (length space) key 1 2 Euclidean
    ≡ calls.written align_bytes
unfolding opened align_bytes
align_asked s = rw (written-passes s) refl

entry-asked : (s : Stores)
    → calls.request_with (lent_for s (leads (Some 100) 1 1 0 true) columns) (first (entry ∷ []) vectors (row 0 true)) (length space) key 1 2 Euclidean
    ≡ calls.written entry_bytes
unfolding opened entry_bytes fits to_bits of_bits
entry-asked s = rw (aligned-passes s) refl

module _ (isAligned : Bool) (sends : List ℕ)
    (asked : (s : Stores)
    → calls.request_with (lent_for s (leads (Some 100) 1 1 0 isAligned) columns) (first (entry ∷ []) vectors (row 0 isAligned)) (length space) key 1 2 Euclidean
    ≡ calls.written sends) where
  abbrev n : Node
  n = leads (Some 100) 1 1 0 isAligned

  said : (s : Stores) → Lends s (slot_of n key) columns
      → calls.request_with (lent_for s n columns) (view_node s n) (length space) key 1 2 Euclidean ≡ calls.written sends
  said s c =
      let z = first_slot 1 1 isAligned in
      ap (λ (v : held.Node). calls.request_with (lent_for s n columns) v (length space) key 1 2 Euclidean)
      (first_one s isAligned (log-lent columns columns-log columns-rows s _ z c) (vectors-lent columns columns-log columns-rows s _ z c)) ∙ asked s

  requests : Requests n columns key 1 2 Euclidean space (sets space 0 sends) (request.Written (length sends))
  requests = record { answer = λ s c. ap answer_of (sym (said s c)); bytes = λ s c. ap (λ (a : calls.RequestAnswer). left_of a space) (sym (said s c)) }

  -- the call, of a header that is read as n
  module _ (h : List ℕ) (is : node_at h ≡ n) (lends : lends_state h stored key ≡ true) (told : StepAnswer) (steps : StepsNode n key 1 2 told) where
    abbrev number : ℕ
    number = sent_number (get_or (sets space 0 sends) 0 0)

    tells : Tells n (lent_store_in stored n key) key 1 2 Euclidean (outputs space room) (outputs (sets space 0 sends) (number_put room (length sends))) number
    tells = record {
      step = told;
      sent = request.Written (length sends);
      steps = steps;
      requests = subst (λ (a : LentStore). Requests n a key 1 2 Euclidean space (sets space 0 sends) (request.Written (length sends))) (sym (first-full isAligned)) requests;
      number = refl;
      answer = refl;
    }

    pub step_image : StepsImage h stored worker (outputs space room) (outputs (sets space 0 sends) (number_put room (length sends))) number
    step_image = record {
      undecoded = λ e. not_both (decodes worker) is-worker e;
      unlent = λ e l. not_both (lends_state h stored key) lends l;
      asked = λ e l. record {
        short = λ z. not_both true refl z;
        told = λ z.
            subst
            (λ (v : Node). Tells v (lent_store_in stored v key) key 1 2 Euclidean (outputs space room) (outputs (sets space 0 sends) (number_put room (length sends))) number)
            (sym is) tells;
      };
    }

-- ---- the outputs

unfoldable pub sent_align : List ℕ
sent_align = sets space 0 align_bytes

unfoldable pub sent_entry : List ℕ
sent_entry = sets space 0 entry_bytes

unfoldable pub align_length : List ℕ
align_length = number_put room (length align_bytes)

unfoldable pub entry_length : List ℕ
entry_length = number_put room (length entry_bytes)

pub steps_align : StepsImage written stored worker (outputs space room) (outputs sent_align align_length) 2
unfolding opened align_bytes sent_align align_length
steps_align = step_image false align_bytes align_asked written read-written lends_written (stepped.Stepped step.Align) aligns

pub steps-entry : StepsImage aligned stored worker (outputs space room) (outputs sent_entry entry_length) 3
unfolding opened entry_bytes sent_entry entry_length
steps-entry = step_image true entry_bytes entry-asked aligned read-aligned lends_aligned (stepped.Stepped (step.Send 1 1)) sends
