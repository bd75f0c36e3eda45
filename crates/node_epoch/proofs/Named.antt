-- The key that NewEpoch names stands in the bytes, and is the key that `spec`'s decoder reads. Assumes nothing.
use Prim.Native.Nat.{ℕ}
use mathlib.Core.Path.{◌≡◌, refl, sym, ap, subst, ◌∙◌}
use mathlib.Core.List.{List}
use mathlib.Core.Option.{Option, none, some}
use Rattle.spec.specs.Layout.Format.{value, whole}
use Rattle.spec.specs.Layout.Message as message
use Rattle.spec_laws.proofs.Wire.Tests.{and_left, and_right}
use Rattle.spec_laws.proofs.Wire.Data.{whenever_some}
use Rattle.wire_read.specs.Shown.{message_of, new_epoch_part}
use Rattle.wire_read.specs.declared.NewEpochPart.{NewEpochPart}
use Rattle.wire_read.specs.declared.Message.TheVariants.{NewEpoch}
use Rattle.wire_read.proofs.Decoded.{new_epoch_decoded, new_epoch_answered}
use Rattle.log_arrive.proofs.Messages.{new_epoch_part_lem}
use Rattle.map_names.specs.Texts.{KeyThere, key_in}
use Rattle.map_names.proofs.Keys.{KeyRead, key-read}

module _ (s : List ℕ) where
  new_epoch_read : (m : message.NewEpoch) → message.decode_new_epoch s ≡ some m → KeyRead s m.key
  unfolding message.decode_new_epoch whole
  new_epoch_read m d =
      let w = whenever_some (whole message.new_epoch_f s) (message.new_epoch_of (value message.new_epoch_f s 0)) m d in
      subst (λ (z : message.NewEpoch). KeyRead s z.key) w.1 (key-read s (and_left _ _ (and_right _ _ (and_left _ _ w.0))))

  pub new_epoch_key : (p : NewEpochPart) → message_of s ≡ NewEpoch p → (m : message.NewEpoch) → message.decode_new_epoch s ≡ some m
      → key_in s p.key ≡ m.key
  new_epoch_key p e m d = ap (λ (z : NewEpochPart). key_in s z.key) (new_epoch_part_lem s p e m d) ∙ (new_epoch_read m d).1

  pub new_epoch_key_there : (p : NewEpochPart) → message_of s ≡ NewEpoch p → KeyThere s p.key
  new_epoch_key_there p e =
      let d = new_epoch_decoded s p e in
      subst (λ (z : NewEpochPart). KeyThere s z.key) (sym (new_epoch_part_lem s p e d.read d.decoded)) (new_epoch_read d.read d.decoded).0

  -- where `wire_read` answered another kind, `spec`'s decoder reads none
  pub new_epoch_missed : ((p : NewEpochPart) → message_of s ≡ NewEpoch p → ⊥) → message.decode_new_epoch s ≡ none
  new_epoch_missed f = go (message.decode_new_epoch s) refl
    where
      go : (o : Option message.NewEpoch) → message.decode_new_epoch s ≡ o → o ≡ none
      go none e = refl
      go (some m) e = absurd (f (new_epoch_part m) (new_epoch_answered s m e))
