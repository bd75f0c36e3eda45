-- What the step of a worker promises over byte images (docs/IMAGES.md): the refusals in their order, then the step and the request of the
-- header and the columns that the bytes are read as. The images are only read. Definitions only.
use Rattle.std.specs.Prelude.{ℕ, ◌≡◌, Bool, true, false, cond, List, eqb, leb, get_or}
use Rattle.spec.specs.Lists.{◌and◌}
use Rattle.spec.specs.Limits.{max_name}
use Rattle.spec.specs.Keys.{Key}
use Rattle.spec.specs.declared.Metric.{Metric}
use Rattle.spec.specs.declared.Metric.TheVariants.{Euclidean, Angular}
use Rattle.wire_write.specs.Written.{text_fits, key_given}
use Rattle.node_admit.specs.declared.Step.TheVariants as step
use Rattle.node_header.specs.declared.StepAnswer.{StepAnswer}
use Rattle.node_header.specs.declared.StepAnswer.TheVariants as stepped
use Rattle.node_header.specs.View.{Stores}
use Rattle.node_header.specs.Answers.{StepsNode}
use Rattle.node_send.specs.declared.Request.{Request}
use Rattle.node_send.specs.declared.Request.TheVariants as request
use Rattle.node_header.specs.declared.Node.{Node}
use Rattle.node_lent.specs.Lend.{LentStore, lent_for}
use Rattle.node_step.specs.Requests.{Requests}
use Rattle.image_header.specs.Image.{node_at}
use Rattle.calls_parts.specs.Answer.{answer_lent, number_put}
use Rattle.image_node.specs.Lent.{lent_store_in, lends_state}

-- ---- the operands

-- the worker that asks: its key by name and number, epoch, peer, and the metric's code
pub record Asking : Type 0 where
  pub name : List ℕ
  pub shard : ℕ
  pub epoch : ℕ
  pub peer : ℕ
  pub metric : ℕ

abbrev pub asking : List ℕ → (shard epoch peer metric : ℕ) → Asking
asking name shard epoch peer metric =
    record { name = name; shard = shard; epoch = epoch; peer = peer; metric = metric }

-- 21 otherwise
unfoldable pub decodes : Asking → Bool
decodes w = text_fits max_name w.name and leb w.metric 1

abbrev pub key_of : Asking → Key
key_of w = key_given w.name w.shard

abbrev pub metric_of : ℕ → Metric
metric_of c = cond (eqb c 0) Euclidean Angular

-- ---- the answer

-- 'Bytes on the wire': 21 aligns, 20 replicates, 22 copies
abbrev pub sent_number : (code : ℕ) → ℕ
sent_number c = cond (eqb c 0x21) 2 (cond (eqb c 0x20) 3 4)

-- nothing is sent: 1 the worker stops, 0 it waits
abbrev pub quiet_number : StepAnswer → ℕ
quiet_number (stepped.Stepped step.Stop) = 1
quiet_number (stepped.Stepped step.Wait) = 0
quiet_number (stepped.Stepped step.Align) = 0
quiet_number (stepped.Stepped (step.Send first count)) = 0
quiet_number (stepped.Refused x) = x

-- the step, the request and the output after it
abbrev pub step_number : StepAnswer → Request → List ℕ → ℕ
step_number s request.Unsent out = quiet_number s
step_number s (request.Written n) out = sent_number (get_or out 0 0)
step_number s (request.Refused x) out = x

-- the number beside the answer: the request's length
abbrev pub answer_left : Request → List ℕ → List ℕ
answer_left request.Unsent a = number_put a 0
answer_left (request.Written n) a = number_put a n
answer_left (request.Refused x) a = a

-- ---- the lent outputs: a request and an answer

pub record Outputs : Type 0 where
  pub request : List ℕ
  pub answer : List ℕ

abbrev pub outputs : (request answer : List ℕ) → Outputs
outputs q a = record { request = q; answer = a }

-- a refusal before anything is asked of the node: o before, p after
pub record Refuses (number : ℕ) (o p : Outputs) (r : ℕ) : Type 0 where
  pub answer : r ≡ number
  pub kept : p ≡ o

-- what header and workers answer, on a header and columns: their step and their request, and what is told of them
pub record Tells (n : Node) (a : LentStore) (k : Key) (epoch peer : ℕ) (metric : Metric) (o p : Outputs) (r : ℕ) : Type 0 where
  pub step : StepAnswer
  pub sent : Request
  pub steps : StepsNode n k epoch peer step
  pub requests : Requests n a k epoch peer metric o.request p.request sent
  pub number : r ≡ step_number step sent p.request
  pub answer : p.answer ≡ answer_left sent o.answer

-- without room for the answer: 23, but 24 comes before; nothing is written
pub record Short (n : Node) (a : LentStore) (k : Key) (o p : Outputs) (r : ℕ) : Type 0 where
  pub answer : (t : Stores) → r ≡ cond (lent_for t n a k) 23 24
  pub kept : p ≡ o

pub record StepAsked (n : Node) (a : LentStore) (k : Key) (epoch peer : ℕ) (metric : Metric) (o p : Outputs) (r : ℕ) : Type 0 where
  pub short : answer_lent o.answer ≡ false → Short n a k o p r
  pub told : answer_lent o.answer ≡ true → Tells n a k epoch peer metric o p r

-- h and s the images of the header and of the stores, which stay as they are: 21, 24, then the step of what the bytes are read as
pub record StepsImage (h s : List ℕ) (w : Asking) (o p : Outputs) (r : ℕ) : Type 0 where
  pub undecoded : decodes w ≡ false → Refuses 21 o p r
  pub unlent : decodes w ≡ true → lends_state h s (key_of w) ≡ false → Refuses 24 o p r
  pub asked : decodes w ≡ true → lends_state h s (key_of w) ≡ true
      → StepAsked (node_at h) (lent_store_in s (node_at h) (key_of w)) (key_of w) w.epoch w.peer (metric_of w.metric) o p r
