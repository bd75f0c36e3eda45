-- A worker's request, which is lent a store too, is a run of `spec_run`. Assumes nothing.
use Prim.Native.Nat.{ℕ, ◌+◌, ◌≤◌}
use native.Mathlib.Omega.{arith}
use mathlib.Core.Path.{◌≡◌, refl, sym, ap, ◌∙◌}
use mathlib.Core.Bool.{Bool, true, false, cond, not}
use mathlib.Core.List.{List}
use mathlib.Core.Option.{Option, none, some}
use mathlib.Core.Logic.{◌⊎◌, inl, inr, ⊎_elim}
use lib.Dec.{ltb}
use lib.ListN.{length, take, drop}
use lib.Seq.{sets-eq, take-append_seam}
use borrow.Author.Tests.{ltb-false}
use Rattle.spec.specs.Keys.{Key}
use Rattle.spec.specs.Refusals.{no_room, malformed}
use Rattle.spec.specs.Node.Worker.{Message, message_bytes}
use Rattle.spec.specs.Node.Calls.{RequestAnswer, unsent, written, request_refused, written_in, request_of, request_with, call_request}
use Rattle.spec.specs.Node.WellFormed.{well_formed_lent}
use Rattle.spec.specs.declared.Metric.{Metric}
use Rattle.spec_run.specs.State.{State, set_requests}
use Rattle.spec_run.specs.Event.{worker_steps}
use Rattle.spec_run.specs.Rules.{allowed}
use Rattle.spec_run.specs.Step.{posted, on_work, step}
use Rattle.node_header.specs.View.{view_node}
use Rattle.node_header.proofs.Lists.{by_case}
use Rattle.node_lent.specs.Lend.{lent_for, slot_of}
use Rattle.node_send.specs.declared.Request as outgoing
use Rattle.node_send.specs.declared.Request.TheVariants as Q
use Rattle.node_send.specs.Requested.{answer_of, left_of}
use Rattle.thm_durable.specs.Engine.{Engine, stores_of, seen}
use Rattle.thm_durable.specs.Calls.{request_said, Called}
use Rattle.thm_durable.proofs.Simulated.{Simulated, nothing, one}
use Rattle.thm_durable.proofs.Seen.{stores_lend, Beside, hosted}
use Rattle.thm_durable.proofs.Lent.{lent-well}

-- what is written has room
abbrev Fits : ℕ → RequestAnswer → Type 0
Fits room unsent = Unit {0}
Fits room (written bs) = length bs ≤ room
Fits room (request_refused r) = Unit {0}

fits : (t : Bool) (room : ℕ) (o : Option Message) → Fits room (cond (not t) (request_refused malformed) (written_in room o))
fits false room o = tt
fits true room none = tt
fits true room (some m) = go (ltb room (length (message_bytes m))) refl
  where
    go : (b : Bool) → ltb room (length (message_bytes m)) ≡ b → Fits room (cond b (request_refused no_room) (written (message_bytes m)))
    go true e = tt
    go false e = ltb-false room (length (message_bytes m)) e

request-beside : (s : State) (n : ℕ) (k : Key) (epoch peer : ℕ) (a : outgoing.Request) (out : List ℕ) → Beside s (request_said s n k epoch peer a out)
unfolding posted set_requests
request-beside s n k epoch peer Q.Unsent out = record { map = refl; nodes = refl; clients = refl }
request-beside s n k epoch peer (Q.Written c) out = record { map = refl; nodes = refl; clients = refl }
request-beside s n k epoch peer (Q.Refused r) out = record { map = refl; nodes = refl; clients = refl }

-- the request is found in the output
request-said : (s : State) (n : ℕ) (k : Key) (epoch peer : ℕ) (before : List ℕ) (a : RequestAnswer) → Fits (length before) a
    → request_said s n k epoch peer (answer_of a) (left_of a before) ≡ posted s n k epoch peer a
unfolding posted
request-said s n k epoch peer before unsent h = refl
request-said s n k epoch peer before (written bs) h =
    ap (λ (l : List ℕ). posted s n k epoch peer (written l))
    (ap (take (length bs)) (sets-eq bs before 0 (omega (arith, h))) ∙ take-append_seam bs (drop (0 + length bs) before))
request-said s n k epoch peer before (request_refused r) h = refl

-- the definition's request, or refused
request_as : (t u : Bool) (room : ℕ) (o : Option Message) → (t ≡ true → u ≡ true)
    → (cond (not t) (request_refused malformed) (written_in room o) ≡ cond (not u) (request_refused malformed) (written_in room o))
    ⊎ (cond (not t) (request_refused malformed) (written_in room o) ≡ request_refused malformed)
request_as t u room o h = by_case t (λ q. inl (rw (q, h q))) (λ q. inr (rw q))

module _ (e f : Engine) where
  pub on_work_lem : (n : ℕ) (k : Key) (epoch peer : ℕ) (metric : Metric) (space : ℕ) → allowed (seen e) (worker_steps n k epoch peer metric space) ≡ true
      → Called e (worker_steps n k epoch peer metric space) f → Simulated (seen e) (seen f)
  unfolding Called step on_work posted seen request_with call_request
  on_work_lem n k epoch peer metric space may c =
      let before = c.0 in
      let out = c.1 in
      let r = c.2 in
      let l = e.lent_stores n in
      let t = stores_of l in
      let x = e.nodes n in
      let v = view_node t x in
      let slot = slot_of x k in
      let o = request_of v k epoch peer metric in
      let z = request_with (lent_for t x (l slot)) v (length before) k epoch peer metric in
      let end : seen f ≡ posted (seen e) n k epoch peer z =
      ap seen c.5
      ∙ hosted e (λ u. request_said u n k epoch peer r out) (request-beside (seen e) n k epoch peer r out)
      ∙ ap (λ (a : outgoing.Request). request_said (seen e) n k epoch peer a out) (c.4.answer t (stores_lend l slot))
      ∙ ap (request_said (seen e) n k epoch peer (answer_of z)) (c.4.bytes t (stores_lend l slot))
      ∙ request-said (seen e) n k epoch peer before z (fits (lent_for t x (l slot) k) (length before) o) in
      ⊎_elim
      (λ q.
      one (seen e) (seen f) (worker_steps n k epoch peer metric space) may
      (sym (end ∙ ap (posted (seen e) n k epoch peer) q
      ∙ ap (λ (i : ℕ). posted (seen e) n k epoch peer (call_request v i k epoch peer metric)) c.3)))
      (λ q. nothing (seen e) (seen f) (sym (end ∙ ap (posted (seen e) n k epoch peer) q)))
      (request_as (lent_for t x (l slot) k) (well_formed_lent v k) (length before) o (lent-well t slot (l slot) x k (stores_lend l slot) refl))
