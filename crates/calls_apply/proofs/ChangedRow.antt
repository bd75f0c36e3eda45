-- One row of a table, changed where it was found. Assumes nothing.
use Prim.Native.Nat.{ℕ, ◌+◌, ◌*◌, ◌≤◌, ◌<◌}
use mathlib.Core.Path.{◌≡◌, sym, ap, ◌∙◌}
use mathlib.Core.Bool.{Bool}
use mathlib.Core.List.{List, map}
use lib.ListN.{length, get_or, take, set, length-map, get_or-map}
use native.Mathlib.Omega.{arith}
use Rattle.spec.specs.Map.Apply.{update}
use Rattle.map_tables.specs.Find.{first_at}
use Rattle.map_tables.proofs.Tables.{update-at}
use Rattle.image_parts.specs.Shape.{items, rows_at, in_use}
use Rattle.image_parts.proofs.Images.{length-items}
use Rattle.image_map_check.proofs.RowLaws.{item_at}
use Rattle.image_map_put.proofs.Tidy.{rows-used}

module _ {A B : Type 0} (n : ℕ) (get : ℕ → A) (w base : ℕ) (no : A) (limit : ℕ) (few : n ≤ limit) (view : A → B) (p : B → Bool) (hit : ℕ)
    (is : hit ≡ first_at p (map view (take n (rows_at limit (in_use limit n) get no w base)))) (inside : hit < n) where
  abbrev used : List B
  used = map view (items n get w base)

  found_at : hit ≡ first_at p used
  found_at = is ∙ ap (λ (l : List A). first_at p (map view l)) (rows-used n get w base no limit few)

  old-at : get_or used (first_at p used) (view no) ≡ view (get (base + w * hit))
  old-at =
      ap (λ (j : ℕ). get_or used j (view no)) (sym found_at) ∙ get_or-map view (items n get w base) hit no
      ∙ ap view (item_at n get w base hit no inside)

  pub set_is : (f : B → B) (new : B) → new ≡ f (view (get (base + w * hit))) → set used hit new ≡ update p f used
  set_is f new e =
      let l : length used ≡ n = length-map (items n get w base) view ∙ length-items n get w base in
      let q = found_at in
      ap (set used hit) (e ∙ ap f (sym old-at)) ∙ ap (λ (j : ℕ). set used j (f (get_or used (first_at p used) (view no)))) found_at
      ∙ sym (update-at p (view no) f used (omega arith))
