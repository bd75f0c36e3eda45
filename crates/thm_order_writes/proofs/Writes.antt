-- One Write at a node by its contract: what it answered_as and left is the definition's. Accepted, it appended its edit to a log that the shard's
-- vectors are played from. Assumes nothing.
use Prim.Native.Nat.{ℕ}
use mathlib.Core.Path.{◌≡◌, refl, sym, ap, ◌∙◌, subst}
use mathlib.Core.Bool.{Bool, true}
use mathlib.Core.List.{List}
use mathlib.Core.Option.{Option, none, some}
use Rattle.spec.specs.Refusals.{Refusal, unknown_shard, not_primary, no_lease, too_few_in_sync, undecodable, outside_domain, no_room, malformed, last_epoch, no_worker}
use Rattle.spec.specs.Keys.{Key}
use Rattle.spec.specs.Log.{Op}
use Rattle.spec.specs.Layout.Message as message
use Rattle.spec.specs.Node.Held as held
use Rattle.spec.specs.Node.Shards.{Result, held_shard}
use Rattle.spec.specs.Node.Wire.{stored_op}
use Rattle.spec.specs.Node.Client as client
use Rattle.spec.specs.Node.Calls.{write_with}
use Rattle.spec.specs.Node.WellFormed.{well_formed_header, log_if_held, well_formed_lent}
use Rattle.spec_laws.proofs.Lists.{and_right, none_some, some_same}
use Rattle.spec_laws.proofs.Log.Play.{InStep}
use Rattle.spec_laws.proofs.Node.Logs.{log-formed}
use Rattle.spec_run.specs.State.{at}
use Rattle.node_header.specs.Answers.{Answered, answered_as}
use Rattle.node_lent.specs.Lend.{lent_for}
use Rattle.node_write.specs.declared.WriteReply.{WriteReply}
use Rattle.node_write.specs.declared.WriteReply.TheVariants as R
use Rattle.node_write.specs.ClientWrites.{refusal_word, write_word}
use Rattle.thm_durable.specs.Engine.{stores_of}
use Rattle.thm_durable.proofs.Seen.{stores_lend, stores-change}
use Rattle.thm_durable.proofs.Lent.{lent-well}
use Rattle.thm_order_writes.specs.Editors.{Owned, node_of, Edit, Moment, Writes}
use Rattle.thm_order_writes.proofs.Node.{Appended, Checked, on-accepted, with-lent, with-accepted}
use Rattle.thm_order_writes.proofs.Turns.{Taken}

-- ---- an accepting reply is an acceptance of the definition

abbrev offset_of : WriteReply → Option ℕ
offset_of (R.Accepted o) = some o.0
offset_of (R.NotPrimary e) = none
offset_of (R.Refused r) = none

refusal_none : (r : Refusal) → offset_of (refusal_word r) ≡ none
refusal_none unknown_shard = refl
refusal_none (not_primary e) = refl
refusal_none no_lease = refl
refusal_none too_few_in_sync = refl
refusal_none undecodable = refl
refusal_none outside_domain = refl
refusal_none no_room = refl
refusal_none malformed = refl
refusal_none last_epoch = refl
refusal_none no_worker = refl

word-accepted : (z : client.WriteAnswer) (o : ℕ) → offset_of (write_word z) ≡ some o → z ≡ client.accepted o
word-accepted (client.accepted i) o e = ap client.accepted (some_same e)
word-accepted (client.write_refused r) o e = none_some (sym (refusal_none r) ∙ e)

-- ---- the call

module _ (u : Owned) (c : Moment) (m : List ℕ) (v : Owned) (w : WriteReply) (x : Writes u c m v w) where
  -- the test of what it was lent
  abbrev pub lent : Key → Bool
  lent = lent_for (stores_of u.lent_stores) u.header (u.lent_stores x.slot)

  abbrev pub does : Result client.WriteAnswer held.Node
  does = write_with lent (node_of u) c.clock c.least m

  is-told : record { answer = x.told.answer; node = node_of (record { header = x.told.node; lent_stores = at u.lent_stores x.slot x.left }) } ≡ answered_as write_word does
  is-told =
      x.call.same (stores_of u.lent_stores) (stores_of (at u.lent_stores x.slot x.left)) x.slot x.named (stores-change u.lent_stores x.slot x.left)

  pub replied : w ≡ write_word does.answer
  replied = sym x.reply ∙ ap (λ (z : Answered WriteReply). z.answer) is-told

  pub left : node_of v ≡ does.after
  left = ap node_of x.leaves ∙ ap (λ (z : Answered WriteReply). z.node) is-told

  -- a shard that is lent has its vectors played from its log
  in_step : (k : message.Write) → message.decode_write m ≡ some k → lent k.key ≡ true → (h : held.Held) → held_shard (node_of u) k.key ≡ some h
      → InStep h.replica
  unfolding well_formed_lent
  in_step k read e h is =
      let well = lent-well (stores_of u.lent_stores) x.slot (u.lent_stores x.slot) u.header k.key (stores_lend u.lent_stores x.slot) (x.named k read) e in
      let log = and_right (well_formed_header (node_of u)) (log_if_held (held_shard (node_of u) k.key)) well in
      (log-formed h.replica (sym (ap log_if_held is) ∙ log)).played

-- an accepted Write of an edit
module _ (u : Owned) (c : Moment) (m : List ℕ) (k : Key) (op : Op) (e : Edit m k op) (v : Owned) (o : ℕ)
    (x : Writes u c m v (R.Accepted (record { 0 = o }))) where
  abbrev y : message.Write
  y = e.write

  accepts : (does u c m v _ x).answer ≡ client.accepted o
  accepts = word-accepted (does u c m v _ x).answer o (sym (ap offset_of (replied u c m v _ x)))

  passed : Checked c.clock y × (lent u c m v _ x y.key ≡ true)
  passed = with-accepted (lent u c m v _ x) (node_of u) c.clock c.least m y e.read o accepts

  pub checked : Checked c.clock y
  checked = passed.0

  abbrev Took : Key → Op → Type 0
  Took j z = Taken (node_of u) (node_of v) c.clock c.least j y.epoch z o

  at_own : Took y.key (stored_op y.op)
  at_own =
      let n = node_of u in
      let is = with-lent (lent u c m v _ x) n c.clock c.least m y e.read checked passed.1 in
      let a =
      subst (λ (p : held.Node). Appended n p c.clock c.least y.key y.epoch (stored_op y.op) o)
      (sym (left u c m v _ x ∙ ap (λ (z : Result client.WriteAnswer held.Node). z.after) is))
      (on-accepted n c.clock c.least y.key y.epoch (stored_op y.op) o
      (sym (ap (λ (z : Result client.WriteAnswer held.Node). z.answer) is) ∙ accepts)) in
      record { appended = a; step = in_step u c m v _ x y e.read passed.1 a.shard a.held }

  pub taken : Took k op
  taken = subst (λ (j : Key). Took j op) e.key (subst (Took y.key) e.stored at_own)
