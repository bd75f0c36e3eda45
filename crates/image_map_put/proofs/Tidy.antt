-- Rows written back one after another, of any table. Assumes nothing.
use Prim.Native.Nat.{ℕ, ◌+◌, ◌-◌, ◌*◌, ◌≤◌, ◌<◌}
use mathlib.Core.Path.{◌≡◌, refl, sym, ap, subst, ◌∙◌}
use mathlib.Core.List.{List, [], ◌∷◌, ◌++◌, map}
use lib.ListN.{length, get_or, take, drop, replicate, length-map}
use lib.Seq.{sets, take_at}
use native.Mathlib.Omega.{arith}
use Rattle.spec.specs.Layout.Format.{concat_map}
use Rattle.image_parts.specs.Shape.{items, Stored, in_use, rows_at}
use Rattle.image_parts.proofs.Images.{put_step, put-end, length-items, map-items}
use Rattle.image_map_check.proofs.RowLaws.{item_at, used_all}
use Rattle.image_move.proofs.Bytes.{drop-on, drop-after}

module _ {A : Type 0} (put : A → List ℕ) (w base : ℕ) (no : A) (s : List ℕ) (l : List A) where
  -- the first i are there, and behind them all is as it was
  abbrev pub Done : List ℕ → ℕ → Type 0
  Done out i =
      (length out ≡ length s)
      × (sets out (base + w * i) (concat_map put (drop i l)) ≡ sets s base (concat_map put l))
      × (drop (base + w * i) out ≡ drop (base + w * i) s)

  pub done-start : Done s 0
  done-start = let q : base + w * 0 ≡ base = omega arith in (refl, rw q, refl)

  pub done-step : (out m : List ℕ) (i : ℕ) → base + w * (i + 1) ≡ base + w * i + w → base + w * i + w ≤ length s → i < length l → Done out i
      → length m ≡ length out → (x : A) → x ≡ get_or l i no → Stored out m (base + w * i) (put x) w → Done m (i + 1)
  done-step out m i q room lt d len x e k =
      let n = d.0 in
      let g : base + w * i + w ≤ length out = omega arith in
      let stored = subst (λ (y : A). Stored out m (base + w * i) (put y) w) e k in (
        len ∙ d.0,
        put_step put w l no out m i (base + w * i) (base + w * (i + 1)) lt q stored ∙ d.1,
        rw q (drop-after k g ∙ drop-on out s (base + w * i) w d.2),
      )

  pub done_end : (out : List ℕ) (i : ℕ) → i ≡ length l → Done out i → out ≡ sets s base (concat_map put l)
  done_end out i n d = put-end put l s out (base + w * i) i base n d.1

-- ---- the rows of a table

map-two : {A B C : Type 0} (f : B → C) (g : A → B) (l : List A) → map f (map g l) ≡ map (λ x. f (g x)) l
map-two f g [] = refl
map-two f g (x ∷ l) = ap (λ r. f (g x) ∷ r) (map-two f g l)

module _ {A B : Type 0} (image : B → A) (view : A → B) (count : ℕ) (get : ℕ → A) (w base : ℕ) (no : A) where
  abbrev pub Tidy : List A
  Tidy = map (λ x. image (view x)) (items count get w base)

  pub tidy_long : length Tidy ≡ count
  tidy_long = length-map (items count get w base) (λ x. image (view x)) ∙ length-items count get w base

  pub tidy_row : (i : ℕ) → i < count → image (view (get (base + w * i))) ≡ get_or Tidy i no
  tidy_row i h =
      sym (ap (λ (l : List A). get_or l i no) (map-items (λ x. image (view x)) count get w base) ∙ item_at count (λ p. image (view (get p))) w base i no h)

  pub tidy_all : Tidy ≡ map image (map view (items count get w base))
  tidy_all = sym (map-two image view (items count get w base))

-- the rows in use of the table that the bytes are read as
pub rows-used : {A : Type 0} (count : ℕ) (get : ℕ → A) (w base : ℕ) (free : A) (limit : ℕ) → count ≤ limit
    → take count (rows_at limit (in_use limit count) get free w base) ≡ items count get w base
unfolding rows_at
rows-used count get w base free limit h =
    ap (λ (k : ℕ). take count (items k get w base ++ replicate (limit - k) free)) (used_all limit count h)
    ∙ take_at (items count get w base) (replicate (limit - count) free) count (length-items count get w base)

-- a row that was stored, by another name
pub stored_row : {A : Type 0} (put : A → List ℕ) (w : ℕ) {s t : List ℕ} {at : ℕ} {x y : A} → x ≡ y → Stored s t at (put x) w → Stored s t at (put y) w
stored_row put w {s} {t} {at} e k = subst (λ z. Stored s t at (put z) w) e k
