-- The pairs of an epoch table, stored one after another. Assumes nothing.
use Prim.Native.Nat.{ℕ, suc, ◌+◌, ◌*◌, ◌<◌}
use mathlib.Core.Path.{◌≡◌, refl, sym, ap, ◌∙◌}
use mathlib.Core.List.{List, [], ◌∷◌, ◌++◌, map, append_assoc}
use lib.ListN.{length, get_or, drop, set, length-append}
use lib.Seq.{sets, drop-cons}
use native.Mathlib.Omega.{arith}
use native.Mathlib.Numerals.{add-one}
use Rattle.spec.specs.Layout.Format.{◌▸◌, bytes_of, encode}
use Rattle.spec.specs.Layout.Parts.{u64, table_f, metric_f, end_value}
use Rattle.wire_put.specs.Tables.{ends_given, table_bytes}
use Rattle.wire_put.proofs.Writes.{sets_then}

pub ends-length : (es os : List ℕ) → length es ≡ length os → length (map end_value (ends_given es os)) ≡ length es
ends-length [] os h = refl
ends-length (e ∷ es) [] h = absurd (omega arith)
ends-length (e ∷ es) (o ∷ os) h = ap suc (ends-length es os (omega arith))

pub table-length : (es os : List ℕ) → length es ≡ length os → length (table_bytes es os) ≡ 16 * length es
table-length [] os h = refl
table-length (e ∷ es) [] h = absurd (omega arith)
table-length (e ∷ es) (o ∷ os) h = let r = table-length es os (omega arith) in omega arith

pub table_step : (l es os : List ℕ) (p i : ℕ) → i < length es → length es ≡ length os
    → sets (sets (sets l p (bytes_of 8 (get_or es i 0))) (p + 8) (bytes_of 8 (get_or os i 0))) (p + 16) (table_bytes (drop (i + 1) es) (drop (i + 1) os))
    ≡ sets l p (table_bytes (drop i es) (drop i os))
table_step l es os p i h e =
    let a = bytes_of 8 (get_or es i 0) in
    let b = bytes_of 8 (get_or os i 0) in
    let t = table_bytes (drop (i + 1) es) (drop (i + 1) os) in
    let d : drop i es ≡ get_or es i 0 ∷ drop (i + 1) es = rw add-one (drop-cons es i 0 h) in
    let d' : drop i os ≡ get_or os i 0 ∷ drop (i + 1) os = rw add-one (drop-cons os i 0 (omega arith)) in
    let q : p + 16 ≡ p + 8 + 8 = omega arith in
    sets_then (sets l p a) (p + 8) (p + 16) b t q
    ∙ sets_then l p (p + 8) a (b ++ t) refl
    ∙ (rw (d, d'))

-- the fields of a NewEpoch after its epoch
pub new_epoch_put : (l : List ℕ) (end : ℕ) (es os : List ℕ) (m : ℕ) → length es ≡ length os
    → set (sets (sets (sets l 46 (bytes_of 8 end)) 54 (bytes_of 2 (length es))) 56 (table_bytes es os)) (56 + 16 * length es) m
    ≡ sets l 46 (encode (u64 ▸ (table_f ▸ metric_f)) (end, (map end_value (ends_given es os), m)))
new_epoch_put l end es os m h =
    let n = bytes_of 2 (length es) in
    let t = table_bytes es os in
    let l₁ = sets l 46 (bytes_of 8 end) in
    let c : bytes_of 2 (length es) ≡ bytes_of 2 (length (map end_value (ends_given es os))) = ap (bytes_of 2) (sym (ends-length es os h)) in
    sets_then (sets l₁ 54 n) 56 (56 + 16 * length es) t (m ∷ []) (omega (arith, table-length es os h))
    ∙ sets_then l₁ 54 56 n (t ++ (m ∷ [])) refl
    ∙ sets_then l 46 54 (bytes_of 8 end) (n ++ (t ++ (m ∷ []))) refl
    ∙ ap (λ (x : List ℕ). sets l 46 (bytes_of 8 end ++ x))
    (sym (append_assoc n t (m ∷ [])) ∙ ap (λ (x : List ℕ). (x ++ t) ++ (m ∷ [])) c)

pub new_epoch_length : (end : ℕ) (es os : List ℕ) (m : ℕ) → length es ≡ length os
    → length (encode (u64 ▸ (table_f ▸ metric_f)) (end, (map end_value (ends_given es os), m))) ≡ 11 + 16 * length es
new_epoch_length end es os m h =
    omega (arith, length-append (table_bytes es os) (m ∷ []), table-length es os h)
