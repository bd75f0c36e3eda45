-- The key that a decoded Write names stands in the bytes, and is the key that `spec`'s decoder reads. Assumes nothing.
use Prim.Native.Nat.{ℕ}
use mathlib.Core.Path.{◌≡◌, refl, sym, ap, subst, ◌∙◌}
use mathlib.Core.List.{List}
use mathlib.Core.Option.{Option, none, some}
use Rattle.spec.specs.Layout.Format.{value, whole}
use Rattle.spec.specs.Layout.Message as message
use Rattle.spec_laws.proofs.Wire.Tests.{and_left, and_right}
use Rattle.spec_laws.proofs.Wire.Data.{whenever_some}
use Rattle.wire_read.specs.Shown.{message_of, write_part}
use Rattle.wire_read.specs.declared.WritePart.{WritePart}
use Rattle.wire_read.specs.declared.Message.TheVariants.{Write}
use Rattle.wire_read.proofs.Decoded.{write_decoded, write-answered}
use Rattle.log_arrive.proofs.Messages.{write-part}
use Rattle.map_names.specs.Texts.{KeyThere, key_in}
use Rattle.map_names.proofs.Keys.{KeyRead, key-read}

module _ (s : List ℕ) where
  write_read : (m : message.Write) → message.decode_write s ≡ some m → KeyRead s m.key
  unfolding message.decode_write whole
  write_read m d =
      let w = whenever_some (whole message.write_f s) (message.write_of (value message.write_f s 0)) m d in
      subst (λ (z : message.Write). KeyRead s z.key) w.1 (key-read s (and_left _ _ (and_right _ _ (and_left _ _ w.0))))

  pub write-key : (p : WritePart) → message_of s ≡ Write p → (m : message.Write) → message.decode_write s ≡ some m → key_in s p.key ≡ m.key
  write-key p e m d = ap (λ (z : WritePart). key_in s z.key) (write-part s p e m d) ∙ (write_read m d).1

  pub write_key_there : (p : WritePart) → message_of s ≡ Write p → KeyThere s p.key
  write_key_there p e =
      let d = write_decoded s p e in
      subst (λ (z : WritePart). KeyThere s z.key) (sym (write-part s p e d.read d.decoded)) (write_read d.read d.decoded).0

  -- where `wire_read` answered another kind, `spec`'s decoder reads none
  pub write_missed : ((p : WritePart) → message_of s ≡ Write p → ⊥) → message.decode_write s ≡ none
  write_missed f = go (message.decode_write s) refl
    where
      go : (o : Option message.Write) → message.decode_write s ≡ o → o ≡ none
      go none e = refl
      go (some m) e = absurd (f (write_part m) (write-answered s m e))
