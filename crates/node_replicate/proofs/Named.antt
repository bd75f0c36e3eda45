-- The key that a decoded message names stands in the bytes, and is the key that `spec`'s decoder reads. Assumes nothing.
use Prim.Native.Nat.{ℕ}
use mathlib.Core.Path.{◌≡◌, refl, sym, ap, subst, ◌∙◌}
use mathlib.Core.List.{List}
use mathlib.Core.Option.{Option, none, some}
use Rattle.spec.specs.Layout.Format.{value, whole}
use Rattle.spec.specs.Layout.Message as message
use Rattle.spec_laws.proofs.Wire.Tests.{and_left, and_right}
use Rattle.spec_laws.proofs.Wire.Data.{whenever_some}
use Rattle.wire_read.specs.Shown.{message_of, replicate_part, copy_part}
use Rattle.wire_read.specs.declared.ReplicatePart.{ReplicatePart}
use Rattle.wire_read.specs.declared.CopyPart.{CopyPart}
use Rattle.wire_read.specs.declared.Message.TheVariants.{Replicate, CopyShard}
use Rattle.wire_read.proofs.Decoded.{replicate_decoded, replicate_answered, copy_decoded, copy_answered}
use Rattle.log_arrive.proofs.Messages.{replicate_part_lem, copy_part_lem}
use Rattle.map_names.specs.Texts.{KeyThere, key_in}
use Rattle.map_names.proofs.Keys.{KeyRead, key-read}

module _ (s : List ℕ) where
  replicate_read : (m : message.Replicated) → message.decode_replicate s ≡ some m → KeyRead s m.key
  unfolding message.decode_replicate whole
  replicate_read m d =
      let w = whenever_some (whole message.replicate_f s) (message.replicate_of (value message.replicate_f s 0)) m d in
      subst (λ (z : message.Replicated). KeyRead s z.key) w.1 (key-read s (and_left _ _ (and_right _ _ (and_left _ _ w.0))))

  pub replicate_key : (p : ReplicatePart) → message_of s ≡ Replicate p → (m : message.Replicated) → message.decode_replicate s ≡ some m
      → key_in s p.key ≡ m.key
  replicate_key p e m d =
      ap (λ (z : ReplicatePart). key_in s z.key) (replicate_part_lem s p e m d) ∙ (replicate_read m d).1

  pub replicate_key_there : (p : ReplicatePart) → message_of s ≡ Replicate p → KeyThere s p.key
  replicate_key_there p e =
      let d = replicate_decoded s p e in
      subst (λ (z : ReplicatePart). KeyThere s z.key) (sym (replicate_part_lem s p e d.read d.decoded)) (replicate_read d.read d.decoded).0

  -- where `wire_read` answered another kind, `spec`'s decoder reads none
  pub replicate_missed : ((p : ReplicatePart) → message_of s ≡ Replicate p → ⊥) → message.decode_replicate s ≡ none
  replicate_missed f = go (message.decode_replicate s) refl
    where
      go : (o : Option message.Replicated) → message.decode_replicate s ≡ o → o ≡ none
      go none e = refl
      go (some m) e = absurd (f (replicate_part m) (replicate_answered s m e))

module _ (s : List ℕ) where
  copy_read : (m : message.Copied) → message.decode_copy_shard s ≡ some m → KeyRead s m.key
  unfolding message.decode_copy_shard whole
  copy_read m d =
      let w = whenever_some (whole message.copy_shard_f s) (message.copy_shard_of (value message.copy_shard_f s 0)) m d in
      subst (λ (z : message.Copied). KeyRead s z.key) w.1 (key-read s (and_left _ _ (and_right _ _ (and_left _ _ w.0))))

  pub copy_key : (p : CopyPart) → message_of s ≡ CopyShard p → (m : message.Copied) → message.decode_copy_shard s ≡ some m → key_in s p.key ≡ m.key
  copy_key p e m d = ap (λ (z : CopyPart). key_in s z.key) (copy_part_lem s p e m d) ∙ (copy_read m d).1

  pub copy_key_there : (p : CopyPart) → message_of s ≡ CopyShard p → KeyThere s p.key
  copy_key_there p e =
      let d = copy_decoded s p e in
      subst (λ (z : CopyPart). KeyThere s z.key) (sym (copy_part_lem s p e d.read d.decoded)) (copy_read d.read d.decoded).0

  pub copy_missed : ((p : CopyPart) → message_of s ≡ CopyShard p → ⊥) → message.decode_copy_shard s ≡ none
  copy_missed f = go (message.decode_copy_shard s) refl
    where
      go : (o : Option message.Copied) → message.decode_copy_shard s ≡ o → o ≡ none
      go none e = refl
      go (some m) e = absurd (f (copy_part m) (copy_answered s m e))
