-- What a store and a move leave of the bytes apart from a count and a table. Assumes nothing.
use Prim.Native.Nat.{ℕ, ◌+◌, ◌≤◌, ◌<◌}
use mathlib.Core.Path.{◌≡◌, refl, ap, ◌∙◌}
use mathlib.Core.List.{List}
use lib.ListN.{length, get_or}
use lib.Seq.{sets, length-sets}
use native.Mathlib.Omega.{arith}
use Rattle.spec.specs.Layout.Format.{bytes_of}
use Rattle.spec_laws.proofs.Wire.Bytes.{length-bytes}
use Rattle.image_parts.specs.Shape.{Stored}
use Rattle.image_move.specs.Moved.{Moved}
use Rattle.image_move.proofs.Moves.{sets_below, sets_behind}
use Rattle.image_map_edit.specs.Becomes.{Apart}

pub apart_self : (s : List ℕ) (x lo hi : ℕ) → Apart s s x lo hi
apart_self s x lo hi = record { long = refl; below = λ i h. refl; between = λ i a b. refl; behind = λ i h. refl }

pub apart-then : {s t u : List ℕ} {x lo hi : ℕ} → Apart s t x lo hi → Apart t u x lo hi → Apart s u x lo hi
apart-then a b = record {
  long = b.long ∙ a.long;
  below = λ i h. b.below i h ∙ a.below i h;
  between = λ i p q. b.between i p q ∙ a.between i p q;
  behind = λ i h. b.behind i h ∙ a.behind i h;
}

pub apart_more : {s t : List ℕ} {x lo hi : ℕ} (more : ℕ) → hi ≤ more → Apart s t x lo hi → Apart s t x lo more
apart_more more h a = record { long = a.long; below = a.below; between = a.between; behind = λ i k. a.behind i (omega arith) }

pub apart-stored : {s t : List ℕ} {at : ℕ} {b : List ℕ} {w : ℕ} (x lo hi : ℕ) → Stored s t at b w → x ≤ lo → lo ≤ at → at + w ≤ hi → Apart s t x lo hi
apart-stored {s} {t} {at} {b} {w} x lo hi p o h k =
    let l = p.long in
    let below : (i : ℕ) → i < at → get_or t i 0 ≡ get_or s i 0 = λ i lt. ap (λ (u : List ℕ). get_or u i 0) p.image ∙ sets_below s at b i lt in
    record {
      long = ap length p.image ∙ length-sets s at b;
      below = λ i lt. below i (omega arith);
      between = λ i ge lt. below i (omega arith);
      behind = λ i ge. ap (λ (u : List ℕ). get_or u i 0) p.image ∙ sets_behind s at b i (omega arith);
    }

pub apart_moved : {s t : List ℕ} {from to n : ℕ} (x lo hi : ℕ) → Moved s t from to n → x ≤ lo → lo ≤ to → to + n ≤ hi → Apart s t x lo hi
apart_moved x lo hi m o h k = record {
  long = m.long;
  below = λ i lt. m.below i (omega arith);
  between = λ i ge lt. m.below i (omega arith);
  behind = λ i ge. m.behind i (omega arith);
}

pub apart-count : {s t : List ℕ} (v x lo hi : ℕ) → t ≡ sets s x (bytes_of 8 v) → x + 8 ≤ hi → Apart s t x lo hi
apart-count {s} {t} v x lo hi e h =
    let l = length-bytes 8 v in
    record {
      long = ap length e ∙ length-sets s x (bytes_of 8 v);
      below = λ i lt. ap (λ (u : List ℕ). get_or u i 0) e ∙ sets_below s x (bytes_of 8 v) i lt;
      between = λ i ge lt. ap (λ (u : List ℕ). get_or u i 0) e ∙ sets_behind s x (bytes_of 8 v) i (omega arith);
      behind = λ i ge. ap (λ (u : List ℕ). get_or u i 0) e ∙ sets_behind s x (bytes_of 8 v) i (omega arith);
    }
