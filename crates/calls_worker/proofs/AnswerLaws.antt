-- Laws of a worker's step on a header and columns: what is told of the step and the request, one for each way out. Assumes nothing.
use Prim.Native.Nat.{ℕ, ◌≤◌, ◌<◌}
use mathlib.Core.Path.{◌≡◌, refl, sym, ap, subst, ◌∙◌}
use mathlib.Core.Bool.{Bool, true, false, cond}
use mathlib.Core.List.{List}
use lib.ListN.{length}
use lib.Dec.{leb, ltb}
use borrow.Author.Tests.{lt-leb, le-leb}
use mathlib.Core.Option.{Option, none, some}
use Rattle.spec.specs.Refusals.{no_room}
use Rattle.spec.specs.Keys.{Key}
use Rattle.spec.specs.Node.Worker.{Message, message_bytes}
use Rattle.spec.specs.Node.Calls as calls
use Rattle.spec.specs.declared.Metric.{Metric}
use Rattle.spec_laws.proofs.Lists.{not_both}
use Rattle.node_header.specs.declared.Node.{Node}
use Rattle.node_header.specs.declared.StepAnswer.{StepAnswer}
use Rattle.node_header.specs.Answers.{StepsNode}
use Rattle.node_header.specs.View.{Stores}
use Rattle.node_send.specs.declared.Request.{Request}
use Rattle.node_send.specs.declared.Request.TheVariants as R
use Rattle.node_send.specs.Requested.{answer_of, Requested}
use Rattle.node_lent.specs.Lend.{LentStore, lent_for}
use Rattle.node_step.specs.Requests.{Requests}
use Rattle.calls_worker.specs.Steps.{step_number, answer_left, outputs, StepAsked}

-- the answer and the number beside it, by the request
abbrev pub Told : StepAnswer → Request → (out a b : List ℕ) → ℕ → Type 0
Told s w out a b r = (r ≡ step_number s w out) × (b ≡ answer_left w a)

pub told_as_lem : (s : StepAnswer) (w v : Request) (out a b : List ℕ) (r : ℕ) → w ≡ v → Told s v out a b r → Told s w out a b r
told_as_lem s w v out a b r e d = subst (λ (x : Request). Told s x out a b r) (sym e) d

-- ---- a request is refused for want of room alone

refusal : Request → ℕ
refusal R.Unsent = 23
refusal (R.Written n) = 23
refusal (R.Refused x) = x

refusal_short : (room : ℕ) (m : Option Message) → refusal (answer_of (calls.written_in room m)) ≡ 23
unfolding refusal
refusal_short room none = refl
refusal_short room (some m) = go (ltb room (length (message_bytes m)))
  where
    go : (b : Bool) → refusal (answer_of (cond b (calls.request_refused no_room) (calls.written (message_bytes m)))) ≡ 23
    go true = refl
    go false = refl

pub refused_short : (m : Option Message) (o q : List ℕ) (w : Request) (x : ℕ) → Requested m o q w → w ≡ R.Refused x → 23 ≡ x
unfolding refusal
refused_short m o q w x d e = sym (refusal_short (length o) m) ∙ sym (ap refusal d.answer) ∙ ap refusal e

-- ---- the ways out

module _ (n : Node) (a : LentStore) (k : Key) (epoch peer : ℕ) (metric : Metric) (o p : List ℕ) where
  -- 23, but 24 comes before
  pub no_room_lem : length p < 8 → (b : Bool) → ((t : Stores) → lent_for t n a k ≡ b) → StepAsked n a k epoch peer metric (outputs o p) (outputs o p) (cond b 23 24)
  no_room_lem h b e = record {
    short = λ z. record { answer = λ t. ap (λ (v : Bool). cond v 23 24) (sym (e t)); kept = refl };
    told = λ z. not_both (leb 8 (length p)) z (lt-leb 8 (length p) h);
  }

  pub asked : 8 ≤ length p → (s : StepAnswer) (w : Request) → StepsNode n k epoch peer s
      → (q : List ℕ) → Requests n a k epoch peer metric o q w
      → (t : List ℕ) (r : ℕ) → Told s w q p t r → StepAsked n a k epoch peer metric (outputs o p) (outputs q t) r
  asked h s w i q j t r e = record {
    short = λ z. not_both (leb 8 (length p)) (le-leb 8 (length p) h) z;
    told = λ z. record { step = s; sent = w; steps = i; requests = j; number = e.0; answer = e.1 };
  }
