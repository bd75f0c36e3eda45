-- The step between a format's values and plain data loses nothing, either way; and plain ranges are the formats'
-- own. What Messages.antt needs of each part. Assumes nothing.
use Prim.Native.Nat.{ℕ, zero, suc, ◌+◌, ◌≤◌, ◌<◌}
use mathlib.Core.Path.{◌≡◌, refl, sym, ap, ◌∙◌}
use mathlib.Core.Bool.{Bool, true, false}
use mathlib.Core.Logic.{inl, inr}
use mathlib.Core.List.{List, [], ◌∷◌, ◌++◌, map}
use mathlib.Core.Option.{Option, some}
use lib.ListN.{length, drop, length-append}
use lib.Seq.{drop-append_seam}
use native.Mathlib.Omega.{arith}
use Rattle.spec.specs.Layout.Format.{All, Format, Value, Good, Bytes, encode, value, whole, sound, fits, next}
use Rattle.spec.specs.Layout.Parts.{op_f, entry_f, metric_of, metric_code, op_of, op_value, entry_of, entry_value, WireOp, wire_upsert, wire_delete, WireEntry, whenever}
use Rattle.spec.specs.Layout.Writable.{GoodOp}
use Rattle.spec.specs.declared.Metric.{Metric}
use Rattle.spec.specs.declared.Metric.TheVariants.{Euclidean, Angular}
use Rattle.spec_laws.proofs.Wire.Formats.{reads, wrote, read-written, written_read}

-- ---- lists

module _ {A B : Type 0} where
  pub length_mapped : (f : A → B) (l : List A) → length (map f l) ≡ length l
  length_mapped f [] = refl
  length_mapped f (x ∷ xs) = ap suc (length_mapped f xs)

  -- a map that is undone element by element
  pub map_undone : (f : A → B) (g : B → A) (P : A → Type 0) → ((x : A) → P x → g (f x) ≡ x) → (l : List A) → All P l → map g (map f l) ≡ l
  map_undone f g P law [] h = refl
  map_undone f g P law (x ∷ xs) h = rw (law x h.0, map_undone f g P law xs h.1)

  pub all_mapped : (f : A → B) (P : A → Type 0) (Q : B → Type 0) → ((x : A) → P x → Q (f x)) → (l : List A) → All P l → All Q (map f l)
  all_mapped f P Q law [] h = tt
  all_mapped f P Q law (x ∷ xs) h = (law x h.0, all_mapped f P Q law xs h.1)

module _ {A : Type 0} where
  pub all_weaker : (P Q : A → Type 0) → ((x : A) → P x → Q x) → (l : List A) → All P l → All Q l
  all_weaker P Q law [] h = tt
  all_weaker P Q law (x ∷ xs) h = (law x h.0, all_weaker P Q law xs h.1)

  pub all_any : (l : List A) → All (λ (x : A). Unit {0}) l
  all_any [] = tt
  all_any (x ∷ xs) = (tt, all_any xs)

  -- an answer comes only where the test holds
  pub whenever_some : (b : Bool) (x y : A) → whenever b x ≡ some y → (b ≡ true) × (x ≡ y)
  whenever_some true x y e = (refl, cc)
  whenever_some false x y e = let z : ◌≡◌ {A = ℕ} 0 1 = cc in absurd (omega arith)

-- ---- parts

pub metric_code_lem : (n : ℕ) → n < 2 → metric_code (metric_of n) ≡ n
metric_code_lem zero h = refl
metric_code_lem (suc n) h = omega arith

pub metric_below : (m : Metric) → metric_code m < 2
metric_below Euclidean = omega arith
metric_below Angular = omega arith

pub metric_of_lem : (m : Metric) → metric_of (metric_code m) ≡ m
metric_of_lem Euclidean = refl
metric_of_lem Angular = refl

pub op_of_lem : (o : WireOp) → op_of (op_value o) ≡ o
op_of_lem (wire_upsert id bits) = refl
op_of_lem (wire_delete id) = refl

pub op-value : (v : Value op_f) → op_value (op_of v) ≡ v
op-value (inl v) = refl
op-value (inr v) = refl

pub op_good : (o : WireOp) → GoodOp o → Good op_f (op_value o)
op_good (wire_upsert id bits) g = g
op_good (wire_delete id) g = (tt, g)

pub good_op : (o : WireOp) → Good op_f (op_value o) → GoodOp o
good_op (wire_upsert id bits) g = g
good_op (wire_delete id) g = g.1

pub entry_of_lem : (e : WireEntry) → entry_of (entry_value e) ≡ e
entry_of_lem e = rw (op_of_lem e.op)

pub entry_value_lem : (v : Value entry_f) → entry_value (entry_of v) ≡ v
entry_value_lem v = rw (op-value v.1.1)

-- ---- whole messages, of any format that carries any data

module _ {A : Type 0} (f : Format) (of : Value f → A) (val : A → Value f) where
  -- what is written is read
  pub back : sound f ≡ true → (a : A) → Good f (val a) → of (val a) ≡ a
      → whenever (whole f (encode f (val a))) (of (value f (encode f (val a)) 0)) ≡ some a
  back w a g e = let h = written_read f w (val a) g in rw (h.0, h.1, e)

  -- what is read is what is written
  pub forth : ((v : Value f) → Good f v → val (of v) ≡ v) → (s : List ℕ) → Bytes s → (a : A)
      → whenever (whole f s) (of (value f s 0)) ≡ some a → Good f (val a) × (encode f (val a) ≡ s)
  forth law s b a e =
      let p = whenever_some (whole f s) (of (value f s 0)) a e in
      let h = read-written f s b p.0 in
      let q : val a ≡ value f s 0 = ap val (sym p.1) ∙ law (value f s 0) h.0 in
      rw q (h.0, sym h.1)

  abbrev read_at : List ℕ → ℕ → Option (A × ℕ)
  read_at s at = whenever (fits f s at) (of (value f s at), next f s at)

  -- what is written is read at its place, whatever stands before and after it
  pub back_at : sound f ≡ true → (before after : List ℕ) (a : A) → Good f (val a) → of (val a) ≡ a
      → read_at (before ++ (encode f (val a) ++ after)) (length before) ≡ some (a, length before + length (encode f (val a)))
  back_at w before after a g e =
      let t : List ℕ = encode f (val a) ++ after in
      let l : length before ≤ length (before ++ t) = omega (arith, length-append before t) in
      let h = wrote (before ++ t) f w (val a) (length before) after g l (drop-append_seam before t) in
      rw (h.ok, h.same, h.after, e)

  -- what is read at a place is what is written there, up to the place after it
  pub forth_at : ((v : Value f) → Good f v → val (of v) ≡ v) → (s : List ℕ) → Bytes s → (at : ℕ) (a : A) (end : ℕ)
      → read_at s at ≡ some (a, end) → Good f (val a) × (drop at s ≡ encode f (val a) ++ drop end s)
  forth_at law s b at a end e =
      let p = whenever_some (fits f s at) (of (value f s at), next f s at) (a, end) e in
      let h = reads s b f at p.0 in
      let n : next f s at ≡ end = ap (λ (r : A × ℕ). r.1) p.1 in
      let q : val a ≡ value f s at = ap (λ (r : A × ℕ). val r.0) (sym p.1) ∙ law (value f s at) h.good in
      rw (q, sym n) (h.good, h.bytes)
