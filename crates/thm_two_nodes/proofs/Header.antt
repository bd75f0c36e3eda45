-- The calls on node 1's header alone: the lease grant, the replies to the alignment and to the entry, and the wait, which says done. Each
-- satisfies the contract of its entry point. Assumes nothing.
use native.Mathlib.Omega.{arith}
use mathlib.Core.Path.{◌≡◌, refl}
use mathlib.Core.Bool.{true, false}
use mathlib.Core.List.{List, [], ◌∷◌}
use lib.ListN.{replicate}
use Prim.Native.Nat.{ℕ}
use Rattle.spec.specs.Layout.Message as message
use Rattle.spec.specs.declared.DataNodeId.{DataNodeId}
use Rattle.spec_run.proofs.Cases.Opened.{opened}
use Rattle.node_shard.specs.declared.AckAnswer.TheVariants as A
use Rattle.node_shard.specs.declared.Sent.TheVariants as sent
use Rattle.node_shard.specs.declared.WaitAnswer.TheVariants as W
use Rattle.std.specs.Prelude.{None, Some}
use Rattle.node_header.specs.declared.NodeGranted.{NodeGranted}
use Rattle.node_header.specs.declared.NodeAcked.{NodeAcked}
use Rattle.node_header.specs.declared.NodeWaited.{NodeWaited}
use Rattle.node_header.specs.declared.GrantAnswer.TheVariants as G
use Rattle.node_header.specs.Answers.{GrantsNode, WaitsNode}
use Rattle.node_header.specs.Arrays.{arrays_fit}
use Rattle.node_header.specs.Formed.{lent_node, slots_fit, counts_fit}
use Rattle.node_header.specs.Slots.{Keeps}
use Rattle.node_hear.specs.Hears.{HearsReply}
use Rattle.image_header.specs.Image.{lent_header}
use Rattle.wire_write.specs.Written.{text_fits}
use Rattle.calls_parts.specs.Answer.{number_put}
use Rattle.calls_header.specs.Grants.{Grants}
use Rattle.calls_header.specs.Acks.{Acks}
use Rattle.calls_header.specs.Waits.{id_bytes, RowsPut, WaitPut, Waits}
use Rattle.calls_header.proofs.Asked.{asked-called}
use Rattle.calls_header.proofs.Calls.{grants_image, acks_image, waits_image}
use Rattle.calls_header.proofs.Waits.{all-put, waited_as}
use Rattle.thm_one_node.specs.Images.{room}
use Rattle.thm_one_node.proofs.Map.{key}
use Rattle.thm_one_node.proofs.Headers.{node}
use Rattle.thm_two_nodes.specs.Images.{shown, leased, written, aligned, acked}
use Rattle.thm_two_nodes.proofs.Headers.{leads, read-shown, read-written, read-aligned, read-acked}
use Rattle.thm_two_nodes.proofs.Put.{header-leased, header-aligned, header-acked, header-waited, lent-shown, lent_written, lent-aligned, lent-acked}

-- ---- the lease grant

abbrev granted : NodeGranted
granted = record { answer = G.Granted; node = leads (Some 100) 0 0 0 false }

grants_node : GrantsNode (leads None 0 0 0 false) 4 0 100 granted
unfolding opened lent_node slots_fit counts_fit
grants_node = λ s. rw (s.long 0 0) refl

grant-keeps : Keeps (leads None 0 0 0 false) (leads (Some 100) 0 0 0 false)
unfolding opened arrays_fit slots_fit counts_fit
grant-keeps = record { fits = λ e. refl; slots_are = refl }

is-shown : record { found = true; node = leads None 0 0 0 false } ≡ lent_header shown
is-shown = rw (lent-shown, read-shown)

pub grants : Grants shown leased 4 0 100 0
unfolding opened
grants =
    asked-called refl lent-shown
    (grants_image shown (record { found = true; node = leads None 0 0 0 false }) is-shown refl leased 4 0 100 0 granted grants_node grant-keeps G.Granted refl refl
    header-leased.image (λ e. header-leased.becomes))

-- ---- the replies

abbrev pub adopted_reply : List ℕ
adopted_reply = message.encode_reply (message.reply_adopted 0)

abbrev pub stored_reply : List ℕ
stored_reply = message.encode_reply (message.reply_stored 1)

abbrev aligning : NodeAcked
aligning = record { answer = A.Noted; node = leads (Some 100) 1 1 0 true }

aligns-node : HearsReply (leads (Some 100) 1 1 0 false) key 1 2 sent.Align adopted_reply aligning
unfolding opened lent_node slots_fit counts_fit
aligns-node = λ s. rw (s.long 0 1) refl

align_keeps : Keeps (leads (Some 100) 1 1 0 false) (leads (Some 100) 1 1 0 true)
unfolding opened arrays_fit slots_fit counts_fit
align_keeps = record { fits = λ e. refl; slots_are = refl }

is-written : record { found = true; node = leads (Some 100) 1 1 0 false } ≡ lent_header written
is-written = rw (lent_written, read-written)

-- node 2 has adopted the epoch
pub aligns : Acks written aligned (0x73 ∷ []) adopted_reply 0 1 2 2 0
unfolding opened text_fits
aligns =
    asked-called refl lent_written
    (acks_image written (record { found = true; node = leads (Some 100) 1 1 0 false }) is-written refl (0x73 ∷ []) 0 key refl aligned adopted_reply 1 2 2 0
    sent.Align refl aligning aligns-node align_keeps A.Noted refl refl header-aligned.image (λ e. header-aligned.becomes))

abbrev acking : NodeAcked
acking = record { answer = A.Noted; node = leads (Some 100) 1 1 1 true }

acks-node : HearsReply (leads (Some 100) 1 1 0 true) key 1 2 sent.Replicate stored_reply acking
unfolding opened lent_node slots_fit counts_fit
acks-node = λ s. rw (s.long 0 1) refl

ack_keeps : Keeps (leads (Some 100) 1 1 0 true) (leads (Some 100) 1 1 1 true)
unfolding opened arrays_fit slots_fit counts_fit
ack_keeps = record { fits = λ e. refl; slots_are = refl }

is-aligned : record { found = true; node = leads (Some 100) 1 1 0 true } ≡ lent_header aligned
is-aligned = rw (lent-aligned, read-aligned)

-- node 2 has stored the entry
pub acks : Acks aligned acked (0x73 ∷ []) stored_reply 0 1 2 3 0
unfolding opened text_fits
acks =
    asked-called refl lent-aligned
    (acks_image aligned (record { found = true; node = leads (Some 100) 1 1 0 true }) is-aligned refl (0x73 ∷ []) 0 key refl acked stored_reply 1 2 3 0
    sent.Replicate refl acking acks-node ack_keeps A.Noted refl refl header-acked.image (λ e. header-acked.becomes))

-- ---- the wait

abbrev waited : NodeWaited
waited = record { answer = W.Done; shrink = record { items = replicate 32 (node 0); count = 0 }; node = leads (Some 100) 1 1 1 true }

done : WaitsNode (leads (Some 100) 1 1 1 true) key 1 1 6 10 waited
unfolding opened lent_node slots_fit counts_fit
done = λ s. rw (s.long 0 1) refl

wait_keeps : Keeps (leads (Some 100) 1 1 1 true) (leads (Some 100) 1 1 1 true)
wait_keeps = record { fits = λ e. e; slots_are = refl }

none-put : room ≡ number_put room 0
unfolding number_put
none-put = refl

rows-put : RowsPut id_bytes 8 0 acked acked [] [] room room [] (leads (Some 100) 1 1 1 true) 0
rows-put =
    all-put {A = DataNodeId} id_bytes 8 0 acked [] room [] (leads (Some 100) 1 1 1 true) (omega arith) room 0 none-put refl
    header-waited.image header-waited.becomes refl refl

put : WaitPut acked acked [] [] room room waited 0
put = waited_as acked [] room waited W.Done refl rows-put.buffers (λ e r. header-waited.becomes)

is-acked : record { found = true; node = leads (Some 100) 1 1 1 true } ≡ lent_header acked
is-acked = rw (lent-acked, read-acked)

pub waits : Waits acked acked [] [] room room (0x73 ∷ []) 0 1 1 6 10 0
unfolding opened text_fits
waits =
    asked-called refl lent-acked
    (waits_image acked (record { found = true; node = leads (Some 100) 1 1 1 true }) is-acked refl (0x73 ∷ []) 0 key refl acked [] [] room room 1 1 6 10 0 waited done wait_keeps put)
