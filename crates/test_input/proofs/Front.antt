-- A turn of the loop that moves bytes to the front: those still to be moved stand further on, as they were. Assumes nothing.
use Prim.Native.Nat.{ℕ, ◌+◌, ◌<◌}
use mathlib.Core.Path.{◌≡◌, sym, ap, ◌∙◌}
use mathlib.Core.List.{List}
use native.Mathlib.Omega.{arith}
use lib.ListN.{length, get_or, take, drop, set}
use lib.Seq.{get_or-drop, drop-drop, drop-set-lt}
use Rattle.map_names.proofs.Bytes.{byte_more}

module _ (old buf : List ℕ) (at i : ℕ) (front : take i buf ≡ take i (drop at old)) (back : drop (at + i) buf ≡ drop (at + i) old) (same : length buf ≡ length old)
    (h : at + i < length old) where
  byte_same : get_or buf (at + i) 0 ≡ get_or old (at + i) 0
  byte_same =
      let e : at + i + 0 ≡ at + i = omega arith in
      sym (get_or-drop (at + i) buf 0 0 ∙ ap (λ (n : ℕ). get_or buf n 0) e)
      ∙ ap (λ (l : List ℕ). get_or l 0 0) back
      ∙ get_or-drop (at + i) old 0 0
      ∙ ap (λ (n : ℕ). get_or old n 0) e

  pub front-more : take (i + 1) (set buf i (get_or buf (at + i) 0)) ≡ take (i + 1) (drop at old)
  front-more =
      let l : i < length buf = omega arith in
      ap (λ (x : ℕ). take (i + 1) (set buf i x)) byte_same ∙ byte_more old at i buf front l h

  pub back_less : drop (at + (i + 1)) (set buf i (get_or buf (at + i) 0)) ≡ drop (at + (i + 1)) old
  back_less =
      let e : at + i + 1 ≡ at + (i + 1) = omega arith in
      drop-set-lt (at + (i + 1)) buf i (get_or buf (at + i) 0) (omega arith)
      ∙ ap (λ (n : ℕ). drop n buf) (sym e)
      ∙ sym (drop-drop 1 (at + i) buf)
      ∙ ap (drop 1) back
      ∙ drop-drop 1 (at + i) old
      ∙ ap (λ (n : ℕ). drop n old) e
