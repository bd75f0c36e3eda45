-- What the writing of a request promises: the definition's answer, and the lent output at exit: the request's bytes from its start, the rest
-- as it was, or all of it as it was where nothing is sent or there is no room. Definitions only.
use Rattle.std.specs.Prelude.{ℕ, ◌≡◌, List, length}
use Rattle.std.proofs.Math.Option.{Option}
use Rattle.std.proofs.lemmas.List.Edits.{sets}
use Rattle.spec.specs.Refusals.{number_of}
use Rattle.spec.specs.Node.Held as held
use Rattle.spec.specs.Node.Worker as worker
use Rattle.spec.specs.Node.Calls as calls
use Rattle.spec.specs.declared.Metric.{Metric}
use Rattle.node_send.specs.declared.Request.{Request}
use Rattle.node_send.specs.declared.Request.TheVariants as R
pub use Rattle.node_send_entries.specs.Sent.{key_named}

-- the answer by its words: how many bytes, or the refusal's number
abbrev pub answer_of : calls.RequestAnswer → Request
answer_of calls.unsent = R.Unsent
answer_of (calls.written bs) = R.Written (length bs)
answer_of (calls.request_refused x) = R.Refused (number_of x)

-- the output afterwards
abbrev pub left_of : calls.RequestAnswer → List ℕ → List ℕ
left_of calls.unsent out = out
left_of (calls.written bs) out = sets out 0 bs
left_of (calls.request_refused x) out = out

-- what is promised of a request, if there is one, and of the output before and after
pub record Requested (m : Option worker.Message) (before after : List ℕ) (r : Request) : Type 0 where
  pub answer : r ≡ answer_of (calls.written_in (length before) m)
  pub bytes : after ≡ left_of (calls.written_in (length before) m) before

-- 'The node', 'Rules of a run', Messages: the request of the worker's step at a shard
unfoldable pub request_on : (epoch peer : ℕ) → Metric → held.Held → Option worker.Message
request_on epoch peer metric h = worker.request_held epoch metric h (worker.step_held epoch peer h)
