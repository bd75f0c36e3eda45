-- The bytes of a row, and the walk over the live nodes that makes the rows. Assumes nothing.
use Prim.Native.Nat.{ℕ, ◌+◌, ◌≤◌}
use native.Mathlib.Omega.{arith}
use native.Mathlib.Nat.{zero-add}
use mathlib.Core.Path.{◌≡◌, refl, sym, ap, ◌∙◌}
use mathlib.Core.Bool.{Bool, true, false, cond, not}
use mathlib.Core.List.{List, [], ◌∷◌, ◌++◌, append-nil}
use lib.ListN.{length, drop, length-append, drop_of_length-le}
use lib.Seq.{sets}
use lib.Dec.{leb}
use Rattle.spec.specs.Lists.{collect}
use Rattle.spec.specs.Layout.Format.{bytes_of}
use Rattle.spec.specs.Map.Tables.{Spec}
use Rattle.spec.specs.Map.Place.{Load, is_load, Placed, place_on}
use Rattle.spec_laws.proofs.Map.Rows.{every-filter}
use Rattle.std.specs.Prelude.{Some, Ok}
use Rattle.map_tables.specs.View.{view_placement}
use Rattle.map_tables.specs.declared.Placement.{Placement}
use Rattle.map_place.specs.Answers.{PlaceAnswer, placed_of}
use Rattle.map_place.specs.Read.{Light}
use Rattle.image_parts.specs.Shape.{Stored}
use Rattle.image_parts.proofs.Images.{sets-append}
use Rattle.spec_losses.specs.Losses.{Loss, same_placed}
use Rattle.spec_losses.specs.Loads.{without_load}
use Rattle.image_map_losses.specs.Codes.{code_of}
use Rattle.image_map_losses.specs.Left.{loss_on, matters_on, losses_on}
use Rattle.calls_map.specs.Places.{lists_bytes}
use Rattle.calls_losses.specs.Rows.{lists_after, loss_bytes, losses_bytes, loss_as, PutsRow}

-- ---- one row

module _ (n : ℕ) (a : PlaceAnswer) where
  -- node and code
  abbrev head_bytes : ℕ → List ℕ
  head_bytes code = bytes_of 8 n ++ bytes_of 8 code

  short_as : lists_after (placed_of a) ≡ [] → loss_bytes (loss_as n a) ≡ head_bytes (code_of (placed_of a))
  unfolding loss_bytes
  short_as e = let h = head_bytes (code_of (placed_of a)) in ap (λ (b : List ℕ). h ++ b) e ∙ append-nil h

  long_as : (p : Placement) → a ≡ Ok (Some p) → loss_bytes (loss_as n a) ≡ head_bytes (code_of (placed_of a)) ++ lists_bytes (view_placement p)
  unfolding loss_bytes
  long_as p e = ap (λ (x : PlaceAnswer). head_bytes (code_of (placed_of a)) ++ lists_after (placed_of x)) e

  module _ (s t : List ℕ) (at code : ℕ) (is : code ≡ code_of (placed_of a)) where
    pub short_row : lists_after (placed_of a) ≡ [] → Stored s t at (head_bytes code) 16 → PutsRow n a s t at 16
    short_row z e =
        let q : head_bytes code ≡ loss_bytes (loss_as n a) = ap head_bytes is ∙ sym (short_as z) in
        record {
          bytes = e.image ∙ ap (λ (b : List ℕ). sets s at b) q;
          size = sym (ap length (sym q) ∙ e.long);
          most = omega arith;
        }

    pub long_row : (p : Placement) (k : ℕ) → a ≡ Ok (Some p) → k ≤ 1024 → Stored s t at (head_bytes code ++ lists_bytes (view_placement p)) (16 + k) → PutsRow n a s t at (16 + k)
    long_row p k z h e =
        let q : head_bytes code ++ lists_bytes (view_placement p) ≡ loss_bytes (loss_as n a) =
        ap (λ (c : ℕ). head_bytes c ++ lists_bytes (view_placement p)) is ∙ sym (long_as p z) in
        record {
          bytes = e.image ∙ ap (λ (b : List ℕ). sets s at b) q;
          size = sym (ap length (sym q) ∙ e.long);
          most = omega arith;
        }

-- what is left of light loads is light
pub light_left : (k n : ℕ) (l r : List Load) → r ≡ without_load n l → Light k l → Light k r
light_left k n l r e h = rw e (every-filter (λ (x : Load). leb x.count k) (λ (x : Load). not (is_load n x)) l h)

-- ---- the walk

module _ (spec : Spec) (l : List Load) where
  -- the rows of the nodes from a place on
  abbrev pub rest : ℕ → List Loss
  rest i = collect (matters_on spec l) (loss_on spec l) (drop i l)

  -- the rows before it stand there, and those from it on are still to come
  pub record Walked (s t : List ℕ) (at rows i : ℕ) : Type 0 where
    pub bytes : sets t at (losses_bytes (rest i)) ≡ sets s 0 (losses_bytes (losses_on spec l))
    pub size : at + length (losses_bytes (rest i)) ≡ length (losses_bytes (losses_on spec l))
    pub count : rows + length (rest i) ≡ length (losses_on spec l)

  pub walked_start : (s : List ℕ) → Walked s s 0 0 0
  unfolding losses_on
  walked_start s = record { bytes = refl; size = zero-add _; count = zero-add _ }

  module _ (s t : List ℕ) (at rows i : ℕ) (w : Walked s t at rows i) where
    pub walked_end : length l ≤ i
        → (t ≡ sets s 0 (losses_bytes (losses_on spec l))) × (at ≡ length (losses_bytes (losses_on spec l))) × (rows ≡ length (losses_on spec l))
    unfolding collect
    walked_end h =
        let z : rest i ≡ [] = rw (drop_of_length-le l {i = i} h) in (
          ap (λ (r : List Loss). sets t at (losses_bytes r)) (sym z) ∙ w.bytes,
          omega (arith, ap (λ (r : List Loss). length (losses_bytes r)) z, w.size),
          omega (arith, ap (λ (r : List Loss). length r) z, w.count),
        )

    module _ (x : Load) (here : drop i l ≡ x ∷ drop (i + 1) l) where
      opened : (b : Bool) → matters_on spec l x ≡ b → rest i ≡ cond b (loss_on spec l x ∷ rest (i + 1)) (rest (i + 1))
      unfolding collect
      opened b e = rw (here, e)

      pub walked_skip : matters_on spec l x ≡ false → Walked s t at rows (i + 1)
      walked_skip e =
          let z = opened false e in
          record {
            bytes = ap (λ (r : List Loss). sets t at (losses_bytes r)) (sym z) ∙ w.bytes;
            size = ap (λ (r : List Loss). at + length (losses_bytes r)) (sym z) ∙ w.size;
            count = ap (λ (r : List Loss). rows + length r) (sym z) ∙ w.count;
          }

      pub walked_row : (y : Loss) (u : List ℕ) (k : ℕ) → matters_on spec l x ≡ true → y ≡ loss_on spec l x → u ≡ sets t at (loss_bytes y)
          → k ≡ length (loss_bytes y) → Walked s u (at + k) (rows + 1) (i + 1)
      walked_row y u k e q p j =
          let z : rest i ≡ y ∷ rest (i + 1) = opened true e ∙ ap (λ (v : Loss). v ∷ rest (i + 1)) (sym q) in
          let n = length-append (loss_bytes y) (losses_bytes (rest (i + 1))) in
          record {
            bytes = ap (λ (v : List ℕ). sets v (at + k) (losses_bytes (rest (i + 1)))) p
                ∙ ap (λ (m : ℕ). sets (sets t at (loss_bytes y)) (at + m) (losses_bytes (rest (i + 1)))) j
                ∙ sym (sets-append t at (loss_bytes y) (losses_bytes (rest (i + 1))))
                ∙ ap (λ (r : List Loss). sets t at (losses_bytes r)) (sym z) ∙ w.bytes;
            size = omega (arith, n, j, ap (λ (r : List Loss). length (losses_bytes r)) z, w.size);
            count = omega (arith, ap (λ (r : List Loss). length r) z, w.count);
          }

  -- what the code found of a node
  module _ (x : Load) (then base : Placed) (found : then ≡ place_on spec (without_load x.node l)) (now : base ≡ place_on spec l) where
    pub found-loss : ◌≡◌ {A = Loss} (record { node = x.node; then = then }) (loss_on spec l x)
    unfolding loss_on
    found-loss = ap (λ (p : Placed). record { node = x.node; then = p }) found

    pub found-matters : (b same : Bool) → same ≡ same_placed then base → same ≡ b → matters_on spec l x ≡ not b
    unfolding matters_on loss_on
    found-matters b same e f =
        ap not (sym (e ∙ ap (λ (p : Placed). same_placed p base) found ∙ ap (λ (p : Placed). same_placed (place_on spec (without_load x.node l)) p) now) ∙ f)
