-- Laws of the request of a step: what each step asks for. Assumes nothing.
use Prim.Native.Nat.{ℕ, ◌+◌, ◌-◌, ◌≤◌, ◌<◌, max}
use mathlib.Core.Path.{◌≡◌, refl, sym, ap, ◌∙◌, subst}
use mathlib.Core.Bool.{true, false, not}
use mathlib.Core.List.{[], ◌∷◌}
use mathlib.Core.Option.{Option, none, some}
use native.Mathlib.Omega.{arith}
use lib.ListN.{length, take, drop, length-take, length-drop}
use Rattle.spec.specs.Lists.{any, find}
use Rattle.spec.specs.Limits.{max_batch}
use Rattle.spec.specs.Keys.{Key}
use Rattle.spec.specs.Log.{Entry, Log, entries_from, epoch_ends}
use Rattle.spec.specs.Node.Held as held
use Rattle.spec.specs.Node.Shards.{held_shard, leads_at, of_node, on_node}
use Rattle.spec.specs.Node.Worker.{Step, stop, wait, align, send, send_of, step_row, step_held, on_step, Message, new_epoch_message, copies, copy_of, lone_of, end_offset, alignment, sending, request_held, on_request}
use Rattle.spec.specs.Node.Calls.{request_of}
use Rattle.spec.specs.declared.Metric.{Metric}
use Rattle.spec.specs.declared.Peer.{Peer}
use Rattle.spec_laws.proofs.Lists.{by-test}
use Rattle.node_admit.specs.declared.Step as words
use Rattle.node_admit.specs.declared.Step.TheVariants as S
use Rattle.node_admit.specs.Steps.{step_word}
use Rattle.node_send.specs.Requested.{request_on}

abbrev pub Word : Type 0
Word = words.Step

-- of a node that holds the shard, the request is the shard's
pub request_of_lem : (n : held.Node) (k : Key) (h : held.Held) (epoch peer : ℕ) (metric : Metric) → held_shard n k ≡ some h
    → request_of n k epoch peer metric ≡ request_on epoch peer metric h
unfolding request_of on_request on_step request_on
request_of_lem n k h epoch peer metric e = rw e

-- ---- what is sent lies in the log

-- a Send of at least one entry, at most 256, that a log of that length has
abbrev Within : ℕ → Word → Type 0
Within last S.Stop = Unit {0}
Within last S.Wait = Unit {0}
Within last S.Align = Unit {0}
Within last (S.Send first n) = (1 ≤ first) × (1 ≤ n) × (n ≤ 256) × (first + n ≤ last + 1)

abbrev Fits : ℕ → Step → Type 0
Fits last s = Within last (step_word s)

of_entries : (l : Log) (first last : ℕ) → 1 ≤ first → length l ≤ 256 → (0 < length l → first + length l ≤ last + 1) → Fits last (send_of first l)
of_entries [] first last a b f = tt
of_entries (x ∷ xs) first last a b f = (a, omega arith, b, f (omega arith))

of_row : (l : Log) (p : Option Peer) → Fits (length l) (step_row l p)
unfolding step_row entries_from
of_row l none = tt
of_row l (some p) =
    let first = p.acked.0 + 1 in
    by-test (Fits (length l)) p.aligned
    (λ e.
    let k = length-take max_batch (drop (max first 1 - 1) l) in
    let d = length-drop (max first 1 - 1) l in
    of_entries (entries_from l first max_batch) first (length l) (omega arith) (omega arith) (λ z. omega arith))
    (λ e. tt)

of_step : (epoch peer : ℕ) (h : held.Held) → Fits (length h.replica.log) (step_held epoch peer h)
unfolding step_held
of_step epoch peer h =
    by-test (Fits (length h.replica.log)) (not (leads_at h.role epoch)) (λ e. tt)
    (λ e. by-test (Fits (length h.replica.log)) (not (any (on_node peer) h.holders)) (λ q. tt)
    (λ q. of_row h.replica.log (find (of_node peer) h.peers)))

-- ---- the request by the step's word: the first entry's epoch is not asked for

module _ (epoch peer : ℕ) (metric : Metric) (h : held.Held) where
  abbrev pub by_word : Word → Option Message
  by_word S.Stop = none
  by_word S.Wait = none
  by_word S.Align = some (new_epoch_message (alignment h epoch metric))
  by_word (S.Send first n) = sending h.key epoch (entries_from h.replica.log first n)

  by-word : (s : Step) → request_held epoch metric h s ≡ by_word (step_word s)
  unfolding request_held
  by-word stop = refl
  by-word wait = refl
  by-word align = refl
  by-word (send first n e) = refl

  pub request-by : (w : Word) → w ≡ step_word (step_held epoch peer h) → request_on epoch peer metric h ≡ by_word w
  unfolding request_on
  request-by w e = by-word (step_held epoch peer h) ∙ ap by_word (sym e)

pub send_within : (epoch peer : ℕ) (h : held.Held) (first n : ℕ) → S.Send first n ≡ step_word (step_held epoch peer h)
    → (1 ≤ first) × (1 ≤ n) × (n ≤ 256) × (first + n ≤ length h.replica.log + 1)
send_within epoch peer h first n e = subst (Within (length h.replica.log)) (sym e) (of_step epoch peer h)

-- the alignment, by the last offset when this node became primary
pub align_at_lem : (h : held.Held) (epoch : ℕ) (metric : Metric) (end : ℕ) → end ≡ end_offset h.role
    → some (new_epoch_message (alignment h epoch metric))
    ≡ some (new_epoch_message (record { key = h.key; epoch = epoch; end = end; table = epoch_ends (take end h.replica.log); metric = metric }))
unfolding alignment
align_at_lem h epoch metric end e =
    ap (λ (o : ℕ). some (new_epoch_message (record { key = h.key; epoch = epoch; end = o; table = epoch_ends (take o h.replica.log); metric = metric }))) (sym e)

-- ---- one entry, or several

module _ (k : Key) (epoch : ℕ) where
  pub send_copy : (e : Entry) → copies epoch e.epoch ≡ true → sending k epoch (e ∷ []) ≡ some (copy_of k epoch (e ∷ []))
  unfolding sending
  send_copy e t = rw t

  pub send_lone : (e : Entry) → copies epoch e.epoch ≡ false → sending k epoch (e ∷ []) ≡ some (lone_of k epoch e)
  unfolding sending
  send_lone e t = rw t

  pub send_many : (es : Log) → 2 ≤ length es → sending k epoch es ≡ some (copy_of k epoch es)
  unfolding sending
  send_many [] h = absurd (omega arith)
  send_many (e ∷ []) h = absurd (omega arith)
  send_many (e ∷ d ∷ es) h = refl
