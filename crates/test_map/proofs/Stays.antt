-- A map that passed the 24 test passes it again after a request applied with its text. Assumes nothing.
use Prim.Native.Nat.{ℕ}
use mathlib.Core.Path.{◌≡◌, refl, sym, subst}
use mathlib.Core.Bool.{Bool, true, false}
use mathlib.Core.List.{List}
use Rattle.thm_map_never_malformed.specs.Calls.{Intact}
use Rattle.calls_apply_words.specs.Calls.{tells, AppliesInWordsTo}

pub stays : (s t bytes x y a b : List ℕ) (r : ℕ) → Intact s → AppliesInWordsTo s t bytes x y a b r → Intact t
stays s t bytes x y a b r i w = go (tells r) refl
  where
    go : (told : Bool) → tells r ≡ told → Intact t
    go true e = let z = (w.lent i.lent).applies e in record { lent = z.lent; formed = z.formed i.formed }
    go false e = subst Intact (sym ((w.lent i.lent).kept e)) i
