-- A worker's step on a node's images, and the request that it puts under way, are a run of `spec_run`. Assumes nothing.
use Prim.Native.Nat.{ℕ, ◌^◌, ◌≤◌, ◌<◌}
use mathlib.Core.Path.{◌≡◌, refl, sym, ap, ◌∙◌}
use mathlib.Core.Bool.{Bool, true, false, cond, not}
use mathlib.Core.List.{List, [], ◌∷◌, ◌++◌}
use mathlib.Core.Option.{Option, none, some}
use native.Mathlib.Omega.{arith}
use lib.Dec.{eqb, leb, ltb}
use lib.ListN.{length, get_or, take}
use borrow.Author.Tests.{ltb-false, leb-true}
use Rattle.spec.specs.Keys.{Key}
use Rattle.spec.specs.Refusals.{no_room, malformed}
use Rattle.spec.specs.Layout.Message.{encode_replicate, encode_new_epoch, encode_copy_shard}
use Rattle.spec.specs.Layout.Parts.{metric_code}
use Rattle.spec.specs.Node.Ack as ack
use Rattle.spec.specs.Node.Held as held
use Rattle.spec.specs.Node.Worker as worker
use Rattle.spec.specs.Node.Worker.{Message, new_epoch_message, replicate_message, copy_message, message_bytes}
use Rattle.spec.specs.Node.Calls as calls
use Rattle.spec.specs.Node.Calls.{RequestAnswer, unsent, written, request_refused, written_in, request_of, request_with, call_request}
use Rattle.spec.specs.declared.Metric.{Metric}
use Rattle.spec.specs.declared.Metric.TheVariants.{Euclidean, Angular}
use Rattle.spec_run.specs.State.{State, set_requests}
use Rattle.spec_run.specs.Event.{worker_steps}
use Rattle.spec_run.specs.Rules.{allowed}
use Rattle.spec_run.specs.Step as run
use Rattle.spec_run.specs.Step.{on_work, step}
use Rattle.node_header.specs.declared.StepAnswer.{StepAnswer}
use Rattle.node_header.specs.View.{view_node}
use Rattle.node_header.specs.Formed.{lent_node}
use Rattle.node_header.specs.Answers.{step_answered}
use Rattle.node_header.proofs.Lists.{by_case}
use Rattle.image_header.specs.Image.{node_at}
use Rattle.node_lent.specs.Lend.{lent_for}
use Rattle.image_node.specs.Lent.{lends_state}
use Rattle.image_node.specs.State.{stores_in, state_at}
use Rattle.node_send.specs.declared.Request as outgoing
use Rattle.node_send.specs.Requested.{answer_of, left_of}
use Rattle.calls_worker.specs.Steps.{Asking, asking, decodes, metric_of, sent_number, quiet_number, step_number, answer_left, outputs, Tells}
use Rattle.thm_durable.proofs.Simulated.{Simulated, nothing, one}
use Rattle.thm_durable.proofs.Seen.{Beside}
use Rattle.thm_durable_bytes.specs.Cluster.{Cluster, seen, InMemory}
use Rattle.thm_durable_bytes.specs.Calls.{beside, sent_by, posted, Asks}
use Rattle.thm_durable_bytes.proofs.Entry.{columns, test, before, lends_before, same_test, entry, state_well}
use Rattle.thm_durable_bytes.proofs.Numbers.{refusal_number}
use Rattle.thm_durable_bytes.proofs.Outputs.{first-bytes, first_byte, number-beside}
use Rattle.thm_durable_bytes.proofs.Seen.{hosted}

-- ---- the number of a step

-- nothing is put under way where nothing is sent
quiet : (z : calls.StepAnswer) → sent_by (quiet_number (step_answered z)) ≡ none
quiet (calls.stepped worker.stop) = refl
quiet (calls.stepped worker.wait) = refl
quiet (calls.stepped worker.align) = refl
quiet (calls.stepped (worker.send first count epoch)) = refl
quiet (calls.step_refused r) = (refusal_number r).sent

-- .. and of a request the step that its code says
loud : (code : ℕ) → sent_by (sent_number code) ≡ some (cond (eqb code 0x21) ack.sent_align (cond (eqb code 0x20) ack.sent_replicate ack.sent_copy))
loud code =
    by_case (eqb code 0x21) (λ e. rw e refl) (λ e. rw e (by_case (eqb code 0x20) (λ f. rw f refl) (λ f. rw f refl)))

-- ---- a request has room, and is not empty

abbrev Fits : ℕ → RequestAnswer → Type 0
Fits room unsent = Unit {0}
Fits room (written bs) = (0 < length bs) × (length bs ≤ room)
Fits room (request_refused r) = Unit {0}

some_bytes : (m : Message) → 0 < length (message_bytes m)
unfolding message_bytes encode_replicate encode_new_epoch encode_copy_shard
some_bytes (new_epoch_message m) = omega arith
some_bytes (replicate_message m) = omega arith
some_bytes (copy_message m) = omega arith

fits : (t : Bool) (room : ℕ) (o : Option Message) → Fits room (cond (not t) (request_refused malformed) (written_in room o))
fits false room o = tt
fits true room none = tt
fits true room (some m) = go (ltb room (length (message_bytes m))) refl
  where
    go : (b : Bool) → ltb room (length (message_bytes m)) ≡ b → Fits room (cond b (request_refused no_room) (written (message_bytes m)))
    go true e = tt
    go false e = (some_bytes m, ltb-false room (length (message_bytes m)) e)

-- ---- what the host does with the number, the request and its length

post-beside : (s : State) (n : ℕ) (k : Key) (epoch peer : ℕ) (o : Option ack.Sent) (request answer : List ℕ) → Beside s (posted s n k epoch peer o request answer)
unfolding set_requests
post-beside s n k epoch peer none request answer = record { map = refl; nodes = refl; clients = refl }
post-beside s n k epoch peer (some sent) request answer = record { map = refl; nodes = refl; clients = refl }

module _ (s : State) (n : ℕ) (k : Key) (epoch peer : ℕ) where
  post-none : (r : ℕ) (request answer : List ℕ) → sent_by r ≡ none → posted s n k epoch peer (sent_by r) request answer ≡ s
  post-none r request answer e = ap (λ (o : Option ack.Sent). posted s n k epoch peer o request answer) e

  -- a told answer is posted as `spec_run` posts the definition's; q and a are the outputs before
  posted_as : (z : RequestAnswer) (w : calls.StepAnswer) (q a : List ℕ) → Fits (length q) z → length q < 256 ^ 8 → 8 ≤ length a
      → posted s n k epoch peer (sent_by (step_number (step_answered w) (answer_of z) (left_of z q))) (left_of z q) (answer_left (answer_of z) a)
      ≡ run.posted s n k epoch peer z
  unfolding run.posted run.sent_of
  posted_as unsent w q a f long room = ap (λ (o : Option ack.Sent). posted s n k epoch peer o q (answer_left (answer_of unsent) a)) (quiet w)
  posted_as (request_refused r) w q a f long room = ap (λ (o : Option ack.Sent). posted s n k epoch peer o q a) (refusal_number r).sent
  posted_as (written bs) w q a f long room =
      let out = left_of (written bs) q in
      let told = answer_left (answer_of (written bs)) a in
      let most = f.1 in
      let count : beside told ≡ length bs = number-beside (length bs) a (omega arith) room in
      let made : ack.Sent → List ℕ → State =
      λ (y : ack.Sent) (l : List ℕ). set_requests s n peer (s.requests n peer ++ (record { sent = y; key = k; epoch = epoch; bytes = l } ∷ [])) in
      ap (λ (o : Option ack.Sent). posted s n k epoch peer o out told) (loud (get_or out 0 0))
      ∙ ap (λ (i : ℕ). made (cond (eqb (get_or out 0 0) 0x21) ack.sent_align (cond (eqb (get_or out 0 0) 0x20) ack.sent_replicate ack.sent_copy)) (take i out)) count
      ∙ ap (λ (i : ℕ). made (cond (eqb i 0x21) ack.sent_align (cond (eqb i 0x20) ack.sent_replicate ack.sent_copy)) (take (length bs) out)) (first_byte bs q f.0 f.1)
      ∙ ap (made (run.sent_of bs)) (first-bytes bs q f.1)

-- ---- the step

metric_code_lem : (m : Metric) → metric_of (metric_code m) ≡ m
metric_code_lem Euclidean = refl
metric_code_lem Angular = refl

module _ (d f : Cluster) (mem : InMemory d) (n : ℕ) (k : Key) (epoch peer : ℕ) (metric : Metric) (space : ℕ)
    (may : allowed (seen d) (worker_steps n k epoch peer metric space) ≡ true) (c : Asks d n k epoch peer metric space f) where
  abbrev h : List ℕ
  h = d.headers n

  abbrev s : List ℕ
  s = d.stores n

  abbrev q : List ℕ
  q = c.0

  abbrev r : ℕ
  r = c.4

  abbrev w : Asking
  w = asking k.collection k.shard epoch peer (metric_code metric)

  to_end : seen f ≡ posted (seen d) n k epoch peer (sent_by r) c.1 c.3
  to_end =
      ap seen c.8
      ∙ hosted d (λ x. posted x n k epoch peer (sent_by r) c.1 c.3) (post-beside (seen d) n k epoch peer (sent_by r) c.1 c.3)

  quietly : sent_by r ≡ none → Simulated (seen d) (seen f)
  quietly e = nothing (seen d) (seen f) (sym (to_end ∙ post-none (seen d) n k epoch peer r c.1 c.3 e))

  refused : (number : ℕ) → sent_by number ≡ none → r ≡ number → Simulated (seen d) (seen f)
  refused number z e = quietly (ap sent_by e ∙ z)

  -- the definition's request with the contract's test, on the stores with the columns lent
  abbrev lent : Metric → RequestAnswer
  lent m =
      request_with (lent_for (before h s k) (node_at h) (columns h s k)) (view_node (before h s k) (node_at h)) (length q) k epoch peer m

  asks : lends_state h s k ≡ true → 8 ≤ length c.2
      → Tells (node_at h) (columns h s k) k epoch peer (metric_of (metric_code metric)) (outputs q c.2) (outputs c.1 c.3) r
      → Simulated (seen d) (seen f)
  unfolding request_with call_request step on_work seen run.posted
  asks lends room t =
      let v = state_at h s in
      let o = request_of (view_node (before h s k) (node_at h)) k epoch peer metric in
      let z = lent metric in
      let is : lent (metric_of (metric_code metric)) ≡ z = ap lent (metric_code_lem metric) in
      let x = calls.step_with (λ _. lent_node (stores_in s) (node_at h)) v k epoch peer in
      let said : t.sent ≡ answer_of z = t.requests.answer (before h s k) (lends_before h s k) ∙ ap answer_of is in
      let left : c.1 ≡ left_of z q = t.requests.bytes (before h s k) (lends_before h s k) ∙ ap (λ (y : RequestAnswer). left_of y q) is in
      let number : r ≡ step_number (step_answered x) (answer_of z) (left_of z q) =
      t.number
      ∙ ap (λ (y : StepAnswer). step_number y t.sent c.1) (t.steps (stores_in s))
      ∙ ap (λ (y : outgoing.Request). step_number (step_answered x) y c.1) said
      ∙ ap (step_number (step_answered x) (answer_of z)) left in
      let told : c.3 ≡ answer_left (answer_of z) c.2 = t.answer ∙ ap (λ (y : outgoing.Request). answer_left y c.2) said in
      let end : seen f ≡ run.posted (seen d) n k epoch peer z =
      to_end
      ∙ ap (λ (i : ℕ). posted (seen d) n k epoch peer (sent_by i) c.1 c.3) number
      ∙ ap (λ (l : List ℕ). posted (seen d) n k epoch peer (sent_by (step_number (step_answered x) (answer_of z) (left_of z q))) l c.3) left
      ∙ ap (posted (seen d) n k epoch peer (sent_by (step_number (step_answered x) (answer_of z) (left_of z q))) (left_of z q)) told
      ∙ posted_as (seen d) n k epoch peer z x q c.2 (fits (lent_for (before h s k) (node_at h) (columns h s k) k) (length q) o)
      (let size = c.5 in let most = c.6 in omega arith) room in
      by_case (test h s k k)
      (λ p.
      let same : z ≡ call_request v space k epoch peer metric =
      ap (λ (b : Bool). cond (not b) (request_refused malformed) (written_in (length q) o)) (ap (λ (g : Key → Bool). g k) (same_test h s k) ∙ p)
      ∙ ap (λ (y : held.Node). written_in (length q) (request_of y k epoch peer metric)) (entry h s k lends (mem.stores n) p)
      ∙ ap (λ (i : ℕ). written_in i (request_of v k epoch peer metric)) c.5
      ∙ ap (λ (b : Bool). cond (not b) (request_refused malformed) (written_in space (request_of v k epoch peer metric)))
      (sym (state_well h s k lends (mem.stores n) p)) in
      one (seen d) (seen f) (worker_steps n k epoch peer metric space) may (sym (end ∙ ap (run.posted (seen d) n k epoch peer) same)))
      (λ p.
      let none-sent : z ≡ request_refused malformed =
      ap (λ (b : Bool). cond (not b) (request_refused malformed) (written_in (length q) o)) (ap (λ (g : Key → Bool). g k) (same_test h s k) ∙ p) in
      nothing (seen d) (seen f) (sym (end ∙ ap (run.posted (seen d) n k epoch peer) none-sent)))

  pub on_work_lem : Simulated (seen d) (seen f)
  on_work_lem =
      let p = c.7 in
      by_case (decodes w)
      (λ e.
      by_case (lends_state h s k)
      (λ l.
      let t = p.asked e l in
      by_case (leb 8 (length c.2)) (λ room. asks l (leb-true 8 (length c.2) room) (t.told room))
      (λ room.
      let r₁ = (t.short room).answer (stores_in s) in
      by_case (lent_for (stores_in s) (node_at h) (columns h s k) k) (λ i. refused 23 refl (rw i at r₁)) (λ i. refused 24 refl (rw i at r₁))))
      (λ l. refused 24 refl (p.unlent e l).answer))
      (λ e. refused 21 refl (p.undecoded e).answer)
