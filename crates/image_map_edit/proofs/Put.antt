-- A row put where it belongs, of any table: over the one that is level with it, or before the first that stands above it. Assumes nothing.
use Prim.Native.Nat.{ℕ, suc, ◌+◌, ◌-◌, ◌*◌, ◌^◌, ◌≤◌, ◌<◌}
use mathlib.Core.Path.{◌≡◌, refl, sym, ap, subst, ◌∙◌}
use mathlib.Core.Bool.{Bool, true, false}
use mathlib.Core.List.{List, map}
use lib.ListN.{length, get_or, set, length-map, length-set, get_or-map}
use lib.Seq.{sets}
use native.Mathlib.Omega.{arith}
use Rattle.spec.specs.Lists.{put}
use Rattle.spec.specs.Layout.Format.{number_at, bytes_of}
use Rattle.map_tables.specs.Find.{place_at}
use Rattle.map_tables.proofs.Tables as tables
use Rattle.map_tables.proofs.Tables.{map-insert, map-set}
use Rattle.image_parts.specs.Shape.{Stored, items}
use Rattle.image_parts.proofs.Images.{length-items}
use Rattle.image_map_check.proofs.RowLaws.{item_at}
use Rattle.image_move.proofs.Bytes.{Same}
use Rattle.image_move.specs.Moved.{Moved}
use Rattle.image_map_edit.specs.Becomes.{Apart}
use Rattle.image_map_edit.proofs.Table.{Rows, insert_at, insert_long, put_over, put_in}

module _ {A B : Type 0} (get : List ℕ → ℕ → A) (w base x : ℕ) (free : A) (apart : x + 8 ≤ base)
    (same : (s t : List ℕ) (p q : ℕ) → Same s p t q w → get s p ≡ get t q)
    (v : A → B) (lt : B → B → Bool) (s : List ℕ) (row : A) (strict : (y : B) → lt y (v row) ≡ true → lt (v row) y ≡ false)
    (at : ℕ) (here : at ≡ place_at lt (v row) (map v (items (number_at 8 s x) (get s) w base))) where
  abbrev n : ℕ
  n = number_at 8 s x

  abbrev rows : List A
  rows = items n (get s) w base

  rows_long : length (map v rows) ≡ n
  rows_long = length-map rows v ∙ length-items n (get s) w base

  row_at : at < n → get_or (map v rows) (place_at lt (v row) (map v rows)) (v free) ≡ v (get s (base + w * at))
  row_at h = ap (λ (i : ℕ). get_or (map v rows) i (v free)) (sym here) ∙ get_or-map v rows at free ∙ ap v (item_at n (get s) w base at free h)

  module _ (t : List ℕ) (b : List ℕ) (h : at < n) (level : lt (v row) (v (get s (base + w * at))) ≡ false) (stored : Stored s t (base + w * at) b w)
      (there : get t (base + w * at) ≡ row) where
    pub over : (Apart s t x base (base + w * length (put lt (v row) (map v rows)))) × (map v (items (number_at 8 t x) (get t) w base) ≡ put lt (v row) (map v rows))
    over =
        let done = put_over get w base x free apart same s t n at b row h stored there refl in
        let k = rows_long in
        let is : put lt (v row) (map v rows) ≡ set (map v rows) at (v row) =
        tables.put_over lt (v row) (v free) strict (map v rows) (omega (arith, here)) (ap (lt (v row)) (row_at h) ∙ level)
        ∙ ap (λ (i : ℕ). set (map v rows) i (v row)) (sym here) in
        let l : length (put lt (v row) (map v rows)) ≡ n = ap length is ∙ length-set (map v rows) at (v row) ∙ rows_long in
        (subst (λ (i : ℕ). Apart s t x base (base + w * i)) (sym l) done.0, ap (map v) done.1 ∙ map-set v rows at row ∙ sym is)

  module _ (h : at ≤ n) (above : at < n → lt (v row) (v (get s (base + w * at))) ≡ true) where
    put_is : put lt (v row) (map v rows) ≡ insert_at (map v rows) at (v row)
    put_is =
        let k = rows_long in
        tables.put-new lt (v row) (v free) strict (map v rows) (λ q. let j : at < n = omega (arith, here) in ap (lt (v row)) (row_at j) ∙ above j)
        ∙ ap (λ (i : ℕ). insert_at (map v rows) i (v row)) (sym here)

    pub in_long : length (put lt (v row) (map v rows)) ≡ n + 1
    in_long = let k = rows_long in ap length put_is ∙ insert_long (map v rows) at (v row) (v free) (omega arith) ∙ ap (λ (i : ℕ). i + 1) rows_long

    module _ (m r t : List ℕ) (b : List ℕ) (move : Moved s m (base + w * at) (base + w * (at + 1)) (w * (n - at))) (stored : Stored m r (base + w * at) b w)
        (there : get r (base + w * at) ≡ row) (count : t ≡ sets r x (bytes_of 8 (n + 1))) (room : base + w * (n + 1) ≤ length s) (small : n + 1 < 256 ^ 8) where
      pub in_place : (Apart s t x base (base + w * length (put lt (v row) (map v rows)))) × (map v (items (number_at 8 t x) (get t) w base) ≡ put lt (v row) (map v rows))
      in_place =
          let done = put_in get w base x free apart same s m r t n at b row h move stored there count room small in
          (subst (λ (i : ℕ). Apart s t x base (base + w * i)) (sym in_long) done.0, ap (map v) done.1 ∙ map-insert v rows at row ∙ sym put_is)
