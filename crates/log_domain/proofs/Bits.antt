-- Components read one after the other and tested. Assumes nothing.
use Prim.Native.Nat.{ℕ, ◌+◌, ◌*◌, ◌≤◌, ◌<◌}
use mathlib.Core.Path.{◌≡◌, sym, ap, ◌∙◌}
use mathlib.Core.Bool.{Bool, true, false}
use mathlib.Core.List.{List}
use lib.ListN.{length, get_or, drop}
use Rattle.spec.specs.Lists.{◌and◌, every}
use Rattle.spec.specs.Nearest.Order.{bits_in_domain}
use Rattle.spec.specs.Layout.Format.{number_at}
use Rattle.log_store.proofs.Checking.{every-on, every_stop, every-end}
use Rattle.wire_read.specs.declared.Part.{Part}
use Rattle.log_domain.specs.Parts.{bits_in}
use Rattle.log_domain.proofs.InMessage.{bits_item}

-- ---- the test without an early exit: what is left, and whether all passed so far

module _ (l : List ℕ) (i : ℕ) where
  pub tested-on : (ok : Bool) → i < length l → bits_in_domain (get_or l i 0) ≡ true
      → ok and every bits_in_domain (drop i l) ≡ every bits_in_domain l → ok and every bits_in_domain (drop (i + 1) l) ≡ every bits_in_domain l
  tested-on ok h p e = ap (λ (z : Bool). ok and z) (sym (every-on bits_in_domain l i 0 p h)) ∙ e

  pub tested-out : (ok : Bool) → i < length l → bits_in_domain (get_or l i 0) ≡ false
      → ok and every bits_in_domain (drop i l) ≡ every bits_in_domain l → false and every bits_in_domain (drop (i + 1) l) ≡ every bits_in_domain l
  unfolding ◌and◌
  tested-out true h p e = sym (every_stop bits_in_domain l i 0 p h) ∙ e
  tested-out false h p e = e

  pub tested-end : (ok : Bool) → length l ≤ i → ok and every bits_in_domain (drop i l) ≡ every bits_in_domain l → ok ≡ every bits_in_domain l
  unfolding ◌and◌
  tested-end true h e = sym (every-end bits_in_domain l i h) ∙ e
  tested-end false h e = e

-- the component that was read at an index, and its test
pub bit_in : (s : List ℕ) (v : Part) (i : ℕ) → i < v.len → (x : ℕ) (b : Bool) → x ≡ number_at 4 s (v.at + i * 4) → b ≡ bits_in_domain x
    → bits_in_domain (get_or (bits_in s v) i 0) ≡ b
bit_in s v i h x b q e = ap bits_in_domain (bits_item s v i h ∙ sym q) ∙ sym e
