-- What a store and a move leave of each byte. Assumes nothing.
use Prim.Native.Nat.{ℕ, zero, suc, ◌+◌, ◌-◌, ◌*◌, ◌≤◌, ◌<◌, min}
use mathlib.Core.Path.{◌≡◌, refl, sym, ap, ◌∙◌}
use mathlib.Core.Bool.{Bool, true, false}
use mathlib.Core.List.{List, [], ◌∷◌}
use lib.Dec.{ltb}
use borrow.Author.Tests.{ltb-true, ltb-false}
use lib.ListN.{length, get_or, take, drop, set, length-set, length-take, length-drop, get_or-append}
use lib.Seq.{sets, length-sets, get_or-take, get_or-drop, get_or-set_same, get_or-set_other, ext_get_or}
use native.Mathlib.Omega.{arith}
use Rattle.spec.specs.Layout.Format.{Bytes, number_at, bytes_of}
use Rattle.spec_laws.proofs.Wire.Bytes.{bytes-number, length-bytes}
use Rattle.image_move.specs.Moved.{Moved}
use Rattle.image_move.proofs.Bytes.{Same}

pub sets_below : (s : List ℕ) (at : ℕ) (b : List ℕ) (i : ℕ) → i < at → get_or (sets s at b) i 0 ≡ get_or s i 0
sets_below s at [] i h = refl
sets_below s at (x ∷ b) i h = sets_below (set s at x) (suc at) b i (omega arith) ∙ get_or-set_other s at i x 0 (λ e. omega arith)

pub sets_behind : (s : List ℕ) (at : ℕ) (b : List ℕ) (i : ℕ) → at + length b ≤ i → get_or (sets s at b) i 0 ≡ get_or s i 0
sets_behind s at [] i h = refl
sets_behind s at (x ∷ b) i h = sets_behind (set s at x) (suc at) b i (omega arith) ∙ get_or-set_other s at i x 0 (λ e. omega arith)

pub sets_in : (s : List ℕ) (at : ℕ) (b : List ℕ) (i : ℕ) → i < length b → at + length b ≤ length s → get_or (sets s at b) (at + i) 0 ≡ get_or b i 0
sets_in s at [] i h room = absurd (omega arith)
sets_in s at (x ∷ b) zero h room =
    let q : at + 0 ≡ at = omega arith in
    rw q (sets_below (set s at x) (suc at) b at (omega arith) ∙ get_or-set_same s at x 0 (omega arith))
sets_in s at (x ∷ b) (suc i) h room =
    let q : at + suc i ≡ suc at + i = omega arith in
    let l = length-set s at x in
    rw q (sets_in (set s at x) (suc at) b i (omega arith) (omega arith))

-- a number's bytes
pub number_byte : (s : List ℕ) (at i : ℕ) → Bytes s → at + 8 ≤ length s → i < 8 → get_or (bytes_of 8 (number_at 8 s at)) i 0 ≡ get_or s (at + i) 0
number_byte s at i bytes room h =
    let l = length-bytes 8 (number_at 8 s at) in
    sym (get_or-append (bytes_of 8 (number_at 8 s at)) (drop (at + 8) s) 0 i (omega arith))
    ∙ ap (λ (u : List ℕ). get_or u i 0) (bytes-number 8 s at bytes room) ∙ get_or-drop at s i 0

-- ---- words moved one after another

module _ (s : List ℕ) (from to n : ℕ) where
  -- from the front: the first i words are there, and behind them all is as it was
  pub record Down (out : List ℕ) (i : ℕ) : Type 0 where
    pub long : length out ≡ length s
    pub below : (k : ℕ) → k < to → get_or out k 0 ≡ get_or s k 0
    pub moved : (k : ℕ) → k < 8 * i → get_or out (to + k) 0 ≡ get_or s (from + k) 0
    pub behind : (k : ℕ) → to + 8 * i ≤ k → get_or out k 0 ≡ get_or s k 0

  pub down_start : Down s 0
  down_start = record { long = refl; below = λ k h. refl; moved = λ k h. absurd (omega arith); behind = λ k h. refl }

  -- from the back: the words from i on are there, and before them all is as it was
  pub record Up (out : List ℕ) (i : ℕ) : Type 0 where
    pub long : length out ≡ length s
    pub below : (k : ℕ) → k < to + 8 * i → get_or out k 0 ≡ get_or s k 0
    pub moved : (k : ℕ) → 8 * i ≤ k → k < 8 * n → get_or out (to + k) 0 ≡ get_or s (from + k) 0
    pub behind : (k : ℕ) → to + 8 * n ≤ k → get_or out k 0 ≡ get_or s k 0

  pub up_start : Up s n
  up_start = record { long = refl; below = λ k h. refl; moved = λ k a b. absurd (omega arith); behind = λ k h. refl }

  pub up_end : (out : List ℕ) → Up out 0 → Moved s out from to (8 * n)
  up_end out u = record { long = u.long; below = λ k h. u.below k (omega arith); moved = λ k h. u.moved k (omega arith) h; behind = u.behind }

  pub down_end : (out : List ℕ) (i : ℕ) → i ≡ n → Down out i → Moved s out from to (8 * n)
  down_end out i e d =
      let q : 8 * i ≡ 8 * n = omega arith in
      record { long = d.long; below = d.below; moved = λ k h. d.moved k (omega arith); behind = λ k h. d.behind k (omega arith) }

  module _ (out m : List ℕ) (i v : ℕ) (bytes : Bytes out) (word : v ≡ number_at 8 out (from + 8 * i)) (put : m ≡ sets out (to + 8 * i) (bytes_of 8 v)) where
    length-word : length (bytes_of 8 v) ≡ 8
    length-word = length-bytes 8 v

    same_length : length m ≡ length out
    same_length = ap length put ∙ length-sets out (to + 8 * i) (bytes_of 8 v)

    before : (k : ℕ) → k < to + 8 * i → get_or m k 0 ≡ get_or out k 0
    before k h = ap (λ (u : List ℕ). get_or u k 0) put ∙ sets_below out (to + 8 * i) (bytes_of 8 v) k h

    after : (k : ℕ) → to + 8 * i + 8 ≤ k → get_or m k 0 ≡ get_or out k 0
    after k h = let l = length-word in ap (λ (u : List ℕ). get_or u k 0) put ∙ sets_behind out (to + 8 * i) (bytes_of 8 v) k (omega arith)

    here : (j : ℕ) → j < 8 → from + 8 * i + 8 ≤ length out → to + 8 * i + 8 ≤ length out → get_or m (to + 8 * i + j) 0 ≡ get_or out (from + 8 * i + j) 0
    here j h a b =
        let l = length-word in
        ap (λ (u : List ℕ). get_or u (to + 8 * i + j) 0) put ∙ sets_in out (to + 8 * i) (bytes_of 8 v) j (omega arith) (omega arith)
        ∙ ap (λ (w : ℕ). get_or (bytes_of 8 w) j 0) word ∙ number_byte out (from + 8 * i) j bytes a h

    pub down_step : to ≤ from → from + 8 * i + 8 ≤ length s → Down out i → Down m (i + 1)
    down_step le room d =
        let long = d.long in
        record {
          long = same_length ∙ long;
          below = λ k h. before k (omega arith) ∙ d.below k h;
          moved = λ k h. go k h (ltb k (8 * i)) refl;
          behind = λ k h. after k (omega arith) ∙ d.behind k (omega arith);
        }
      where
        go : (k : ℕ) → k < 8 * (i + 1) → (b : Bool) → ltb k (8 * i) ≡ b → get_or m (to + k) 0 ≡ get_or s (from + k) 0
        go k h true e = let lt = ltb-true k (8 * i) e in before (to + k) (omega arith) ∙ d.moved k lt
        go k h false e =
            let ge = ltb-false k (8 * i) e in
            let long = d.long in
            let q : to + 8 * i + (k - 8 * i) ≡ to + k = omega arith in
            let r : from + 8 * i + (k - 8 * i) ≡ from + k = omega arith in
            let x : get_or m (to + k) 0 ≡ get_or out (from + k) 0 = rw (q, r) at (here (k - 8 * i) (omega arith) (omega arith) (omega arith)) in
            x ∙ d.behind (from + k) (omega arith)

    pub up_step : from ≤ to → to + 8 * i + 8 ≤ length s → i < n → Up out (i + 1) → Up m i
    up_step le room lt u =
        let long = u.long in
        record {
          long = same_length ∙ long;
          below = λ k h. before k h ∙ u.below k (omega arith);
          moved = λ k a b. go k a b (ltb k (8 * i + 8)) refl;
          behind = λ k h. after k (omega arith) ∙ u.behind k h;
        }
      where
        go : (k : ℕ) → 8 * i ≤ k → k < 8 * n → (b : Bool) → ltb k (8 * i + 8) ≡ b → get_or m (to + k) 0 ≡ get_or s (from + k) 0
        go k a h true e =
            let less = ltb-true k (8 * i + 8) e in
            let long = u.long in
            let q : to + 8 * i + (k - 8 * i) ≡ to + k = omega arith in
            let r : from + 8 * i + (k - 8 * i) ≡ from + k = omega arith in
            let x : get_or m (to + k) 0 ≡ get_or out (from + k) 0 = rw (q, r) at (here (k - 8 * i) (omega arith) (omega arith) (omega arith)) in
            x ∙ u.below (from + k) (omega arith)
        go k a h false e = let more = ltb-false k (8 * i + 8) e in after (to + k) (omega arith) ∙ u.moved k (omega arith) h

-- ---- what a move leaves: all before it, all behind it, and what it moved

pub moved_front : {s t : List ℕ} {from to n : ℕ} → Moved s t from to n → take to t ≡ take to s
moved_front {s} {t} {from} {to} m =
    let l = length-take to t in
    ext_get_or 0 (take to t) (take to s) (length-take to t ∙ ap (λ (k : ℕ). min to k) m.long ∙ sym (length-take to s))
    (λ i h. let lt : i < to = omega arith in get_or-take to t i 0 lt ∙ m.below i lt ∙ sym (get_or-take to s i 0 lt))

pub moved_past : {s t : List ℕ} {from to n : ℕ} → Moved s t from to n → (p : ℕ) → to + n ≤ p → drop p t ≡ drop p s
moved_past {s} {t} m p ge =
    ext_get_or 0 (drop p t) (drop p s) (length-drop p t ∙ ap (λ (k : ℕ). k - p) m.long ∙ sym (length-drop p s))
    (λ i h. get_or-drop p t i 0 ∙ m.behind (p + i) (omega arith) ∙ sym (get_or-drop p s i 0))

pub moved_same : {s t : List ℕ} {from to n : ℕ} → Moved s t from to n → (k w : ℕ) → k + w ≤ n → Same t (to + k) s (from + k) w
moved_same {s} {t} {from} {to} m k w h i lt =
    let l : to + k + i ≡ to + (k + i) = omega arith in
    let r : from + k + i ≡ from + (k + i) = omega arith in
    rw (l, r) (m.moved (k + i) (omega arith))
