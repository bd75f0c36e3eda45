-- The laws of `Serves` for each message that was read: whether it is in the domain, and the shard that it names, are told of its parts in
-- the bytes. Assumes nothing.
use Prim.Native.Nat.{ℕ}
use mathlib.Core.Path.{◌≡◌, refl, ap, ◌∙◌}
use mathlib.Core.Bool.{Bool, true, false}
use mathlib.Core.List.{List}
use mathlib.Core.Option.{some}
use Rattle.spec.specs.Lists.{every}
use Rattle.spec.specs.Keys.{Key}
use Rattle.spec.specs.Layout.Message as message
use Rattle.spec.specs.Node.Wire.{op_in_domain, entry_in_domain}
use Rattle.wire_read.specs.Shown.{message_of}
use Rattle.wire_read.specs.declared.ReplicatePart.{ReplicatePart}
use Rattle.wire_read.specs.declared.NewEpochPart.{NewEpochPart}
use Rattle.wire_read.specs.declared.CopyPart.{CopyPart}
use Rattle.wire_read.specs.declared.Message.TheVariants.{Replicate, NewEpoch, CopyShard}
use Rattle.wire_read.proofs.Decoded.{replicate_decoded, new_epoch_decoded, copy_decoded}
use Rattle.log_arrive.specs.Parts.{op_in, entries_in}
use Rattle.log_arrive.proofs.Messages.{replicate_op, copy_entries}
use Rattle.map_names.specs.Texts.{key_in}
use Rattle.node_replicate.specs.Peers.{ReplicatesAt, CopiesAt}
use Rattle.node_replicate.proofs.Named.{replicate_key, copy_key}
use Rattle.node_epoch.specs.NewEpochs.{NewEpochsAt}
use Rattle.node_epoch.proofs.Named.{new_epoch_key}
use Rattle.calls_peer_out.specs.Ends.{Buffers}
use Rattle.calls_peer.specs.PeerCalls.{AtShard, replicates, announces, copies, ReplicatesImage, NewEpochsImage, CopiesImage}
use Rattle.calls_peer.proofs.Serves.{outside, inside}

-- ---- Replicate

module _ (m : List ℕ) (p : ReplicatePart) (i : message_of m ≡ Replicate p) (b : Buffers) (f : Bool) (told : f ≡ op_in_domain (op_in m p.op)) where
  abbrev replicated : message.Replicated
  replicated = (replicate_decoded m p i).read

  replicated-is : message.decode_replicate m ≡ some replicated
  replicated-is = (replicate_decoded m p i).decoded

  replicated-fine : f ≡ op_in_domain replicated.op
  replicated-fine = told ∙ ap op_in_domain (replicate_op m p i replicated replicated-is)

  pub replicate_outside : f ≡ false → ReplicatesImage m b b 22
  replicate_outside e = outside _ _ _ _ _ m b replicated replicated-is f replicated-fine e

  pub replicate_inside : f ≡ true → (k : Key) → k ≡ key_in m p.key → (c : Buffers) (r : ℕ) → AtShard ReplicatesAt replicates k m b c r
      → ReplicatesImage m b c r
  replicate_inside e k named c r d =
      inside _ _ _ _ _ m b replicated replicated-is f replicated-fine e k (named ∙ replicate_key m p i replicated replicated-is) c r d

-- ---- NewEpoch, which has no domain

module _ (m : List ℕ) (p : NewEpochPart) (i : message_of m ≡ NewEpoch p) (b : Buffers) where
  abbrev announced : message.NewEpoch
  announced = (new_epoch_decoded m p i).read

  announced-is : message.decode_new_epoch m ≡ some announced
  announced-is = (new_epoch_decoded m p i).decoded

  pub new_epoch_inside : (k : Key) → k ≡ key_in m p.key → (c : Buffers) (r : ℕ) → AtShard NewEpochsAt announces k m b c r → NewEpochsImage m b c r
  new_epoch_inside k named c r d =
      inside _ _ _ _ _ m b announced announced-is true refl refl k (named ∙ new_epoch_key m p i announced announced-is) c r d

-- ---- CopyShard

module _ (m : List ℕ) (p : CopyPart) (i : message_of m ≡ CopyShard p) (b : Buffers) (f : Bool) (told : f ≡ every entry_in_domain (entries_in m p.entries))
  where
    abbrev copied : message.Copied
    copied = (copy_decoded m p i).read

    copied_is : message.decode_copy_shard m ≡ some copied
    copied_is = (copy_decoded m p i).decoded

    copied-fine : f ≡ every entry_in_domain copied.entries
    copied-fine = told ∙ ap (every entry_in_domain) (copy_entries m p i copied copied_is)

    pub copy_outside : f ≡ false → CopiesImage m b b 22
    copy_outside e = outside _ _ _ _ _ m b copied copied_is f copied-fine e

    pub copy_inside : f ≡ true → (k : Key) → k ≡ key_in m p.key → (c : Buffers) (r : ℕ) → AtShard CopiesAt copies k m b c r → CopiesImage m b c r
    copy_inside e k named c r d = inside _ _ _ _ _ m b copied copied_is f copied-fine e k (named ∙ copy_key m p i copied copied_is) c r d
