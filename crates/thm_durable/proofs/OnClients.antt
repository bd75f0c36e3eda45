-- A client's Write and Search, which are lent a store too, are runs of `spec_run`. Assumes nothing.
use Prim.Native.Nat.{ℕ}
use mathlib.Core.Path.{◌≡◌, refl, sym, ap, ◌∙◌}
use mathlib.Core.Bool.{true}
use mathlib.Core.List.{List}
use mathlib.Core.Option.{Option, none, some}
use Rattle.spec.specs.Refusals.{Refusal, unknown_shard, not_primary, no_lease, too_few_in_sync, undecodable, outside_domain, no_room, malformed, last_epoch, no_worker}
use Rattle.spec.specs.Layout.Message as message
use Rattle.spec.specs.Node.Client as client
use Rattle.spec.specs.Node.Calls.{write_with, call_write}
use Rattle.spec_run.specs.State.{State, at, set_node, set_writes}
use Rattle.spec_run.specs.Event.{client_writes, client_searches}
use Rattle.spec_run.specs.Rules.{allowed}
use Rattle.spec_run.specs.Step.{record_write, on_write, step}
use Rattle.node_header.specs.View.{view_node}
use Rattle.node_header.specs.Answers.{Answered}
use Rattle.node_lent.specs.Lend.{lent_for}
use Rattle.node_write.specs.declared.WriteReply.{WriteReply}
use Rattle.node_write.specs.declared.WriteReply.TheVariants as C
use Rattle.node_write.specs.ClientWrites.{write_word}
use Rattle.thm_durable.specs.Engine.{Engine, stores_of, seen}
use Rattle.thm_durable.specs.Calls.{write_said, Called}
use Rattle.thm_durable.proofs.Simulated.{Simulated, nothing}
use Rattle.thm_durable.proofs.Seen.{stores_lend, stores-change, Beside, given-store}
use Rattle.thm_durable.proofs.Ways.{called}
use Rattle.thm_durable.proofs.Lent.{lent-well}
use Rattle.thm_durable.proofs.Tested.{write_as_lem}

-- ---- Write

write-beside : (s : State) (n : ℕ) (m : Option message.Write) (a : WriteReply) → Beside s (write_said s n m a)
unfolding record_write set_writes
write-beside s n none (C.Accepted o) = record { map = refl; nodes = refl; clients = refl }
write-beside s n (some m) (C.Accepted o) = record { map = refl; nodes = refl; clients = refl }
write-beside s n m (C.NotPrimary e) = record { map = refl; nodes = refl; clients = refl }
write-beside s n none (C.Refused r) = record { map = refl; nodes = refl; clients = refl }
write-beside s n (some m) (C.Refused r) = record { map = refl; nodes = refl; clients = refl }

write-refused : (s : State) (n : ℕ) (m : Option message.Write) (r : Refusal) → write_said s n m (write_word (client.write_refused r)) ≡ s
write-refused s n m unknown_shard = refl
write-refused s n m (not_primary e) = refl
write-refused s n m no_lease = refl
write-refused s n m too_few_in_sync = refl
write-refused s n m undecodable = refl
write-refused s n m outside_domain = refl
write-refused s n m no_room = refl
write-refused s n m malformed = refl
write-refused s n m last_epoch = refl
write-refused s n m no_worker = refl

refused-keeps : (s : State) (n : ℕ) (m : Option message.Write) (r : Refusal) → record_write s n m (client.write_refused r) ≡ s
unfolding record_write
refused-keeps s n none r = refl
refused-keeps s n (some m) r = refl

write-said : (s : State) (n : ℕ) (m : Option message.Write) (a : client.WriteAnswer) → write_said s n m (write_word a) ≡ record_write s n m a
write-said s n m (client.accepted o) = refl
write-said s n m (client.write_refused r) = write-refused s n m r ∙ sym (refused-keeps s n m r)

module _ (e f : Engine) where
  pub on-write : (n now least : ℕ) (m : List ℕ) → allowed (seen e) (client_writes n now least m) ≡ true → Called e (client_writes n now least m) f
      → Simulated (seen e) (seen f)
  unfolding Called step on_write seen
  on-write n now least m may c =
      let slot = c.0 in
      let b = c.1 in
      let r = c.3 in
      let l = e.lent_stores n in
      let t = stores_of l in
      let x = e.nodes n in
      let v = view_node t x in
      let d = message.decode_write m in
      let z = write_with (lent_for t x (l slot)) v now least m in
      called client.write_refused e f n z (call_write v now least m) (λ a s. record_write s n d a)
      (given-store e f n r.node slot b (λ s. write_said s n d r.answer) (λ s. write-beside s n d r.answer) c.6
      ∙ ap (λ (u : Answered WriteReply). write_said (set_node (seen e) n u.node) n d u.answer) (c.5.same t (stores_of (at l slot b)) slot c.4 (stores-change l slot b))
      ∙ write-said (set_node (seen e) n z.after) n d z.answer)
      (write_as_lem v (lent_for t x (l slot)) m now least (λ w g. lent-well t slot (l slot) x w.key (stores_lend l slot) (c.4 w g)))
      (client_writes n now least m) may refl
      (λ q. nothing (seen e) (record_write (seen e) n d (client.write_refused q)) (sym (refused-keeps (seen e) n d q)))

  -- ---- Search: it changes nothing

  pub on_search_lem : (n now space : ℕ) (m : List ℕ) → Called e (client_searches n now space m) f → Simulated (seen e) (seen f)
  unfolding Called
  on_search_lem n now space m c = nothing (seen e) (seen f) (sym (ap seen c.8))
