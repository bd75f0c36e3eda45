-- The key that a decoded Search names stands in the bytes, and is the key that `spec`'s decoder reads. Assumes nothing.
use Prim.Native.Nat.{ℕ}
use mathlib.Core.Path.{◌≡◌, refl, sym, ap, subst, ◌∙◌}
use mathlib.Core.List.{List}
use mathlib.Core.Option.{Option, none, some}
use Rattle.spec.specs.Layout.Format.{value, whole}
use Rattle.spec.specs.Layout.Message as message
use Rattle.spec_laws.proofs.Wire.Tests.{and_left, and_right}
use Rattle.spec_laws.proofs.Wire.Data.{whenever_some}
use Rattle.wire_read.specs.Shown.{message_of, search_part}
use Rattle.wire_read.specs.declared.SearchPart.{SearchPart}
use Rattle.wire_read.specs.declared.Message.TheVariants.{Search}
use Rattle.wire_read.proofs.Decoded.{search_decoded, search_answered_lem}
use Rattle.log_arrive.proofs.Messages.{search_part_lem}
use Rattle.map_names.specs.Texts.{KeyThere, key_in}
use Rattle.map_names.proofs.Keys.{KeyRead, key-read}
use Rattle.node_search.specs.Searches.{IsSearch}

module _ (s : List ℕ) where
  search_read : (m : message.Query) → message.decode_search s ≡ some m → KeyRead s m.key
  unfolding message.decode_search whole
  search_read m d =
      let w = whenever_some (whole message.search_f s) (message.search_of (value message.search_f s 0)) m d in
      subst (λ (z : message.Query). KeyRead s z.key) w.1 (key-read s (and_left _ _ (and_right _ _ (and_left _ _ w.0))))

  pub search_key : (p : SearchPart) → IsSearch s p → (m : message.Query) → message.decode_search s ≡ some m → key_in s p.key ≡ m.key
  search_key p e m d = ap (λ (z : SearchPart). key_in s z.key) (search_part_lem s p e m d) ∙ (search_read m d).1

  pub search_key_there : (p : SearchPart) → IsSearch s p → KeyThere s p.key
  search_key_there p e =
      let d = search_decoded s p e in
      subst (λ (z : SearchPart). KeyThere s z.key) (sym (search_part_lem s p e d.read d.decoded)) (search_read d.read d.decoded).0

  -- where `wire_read` answered another kind, `spec`'s decoder reads none
  pub search_missed : ((p : SearchPart) → message_of s ≡ Search p → ⊥) → message.decode_search s ≡ none
  search_missed f = go (message.decode_search s) refl
    where
      go : (o : Option message.Query) → message.decode_search s ≡ o → o ≡ none
      go none e = refl
      go (some m) e = absurd (f (search_part m) (search_answered_lem s m e))
