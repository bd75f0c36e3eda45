-- Paper 01, 'Bytes on the wire': what is read is what was written (`reads`, `read-written`) and what is written is
-- read (`wrote`, `written_read`), proved once, for every format. Assumes nothing.
use Prim.Native.Nat.{ℕ, zero, suc, ◌+◌, ◌-◌, ◌^◌, ◌≤◌, ◌<◌}
use mathlib.Core.Path.{◌≡◌, refl, sym, ap, ◌∙◌, subst}
use mathlib.Core.Bool.{Bool, true, false, cond}
use mathlib.Core.Logic.{inl, inr}
use mathlib.Core.List.{List, [], ◌∷◌, ◌++◌, append_assoc, append-nil}
use lib.ListN.{length, get_or, take, drop, replicate, length-append, length-drop, length-replicate, take-append-drop}
use lib.Seq.{drop-cons, length-take-le, take_at, drop-drop, take-append_seam, drop-length}
use lib.Dec.{eqb}
use borrow.Author.Tests.{lt-ltb, le-leb, eq-eqb, leb-true, ltb-true, eqb-true, not-true}
use native.Mathlib.Omega.{arith}
use native.Mathlib.Numerals.{add-one}
use native.Mathlib.Nat.{add-zero, zero-add, add_assoc}
use Rattle.spec.specs.Lists.{◌and◌}
use Rattle.spec.specs.Layout.Format.{Bytes, Format, code, word, below, text, ◌▸◌, many, either, other, Value, bytes_of, number_at, concat_map, next_n, fits_n, value_n, encode, next, fits, value, all_within, in_range, All, Good, sound, whole}
use Rattle.spec_laws.proofs.Wire.Tests.{and_intro, and_left, and_right, false_not_true}
use Rattle.spec_laws.proofs.Wire.Bytes.{cut, cut-append, bytes-number, number-below, number-bytes, length-bytes, room, all-within, range_zeros, zeros_range}

-- ---- what is read is what is written

pub record Reads (f : Format) (s : List ℕ) (at : ℕ) : Type 0 where
  pub good : Good f (value f s at)
  pub within : next f s at ≤ length s
  pub bytes : drop at s ≡ encode f (value f s at) ++ drop (next f s at) s

pub record ReadsN (f : Format) (s : List ℕ) (n at : ℕ) : Type 0 where
  pub good : All (Good f) (value_n (value f s) (next f s) n at)
  pub within : next_n (next f s) n at ≤ length s
  pub bytes : drop at s ≡ concat_map (encode f) (value_n (value f s) (next f s) n at) ++ drop (next_n (next f s) n at) s
  pub count : length (value_n (value f s) (next f s) n at) ≡ n

-- a text of n bytes in a field of c, behind its length
laid : (d : List ℕ) (n c : ℕ) → n ≤ c → c ≤ length d → take (c - n) (drop n d) ≡ replicate (c - n) 0 → (t : List ℕ) → drop c d ≡ t
    → n ∷ d ≡ (length (take n d) ∷ (take n d ++ replicate (c - length (take n d)) 0)) ++ t
laid d n c k l z t e =
    let lv : length (take n d) ≡ n = length-take-le n d (omega arith) in
    let g : n + (c - n) ≡ c = omega arith in
    let tail : drop n d ≡ replicate (c - n) 0 ++ t =
    sym (take-append-drop (c - n) (drop n d)) ∙ ap (λ (x : List ℕ). x ++ drop (c - n) (drop n d)) z
    ∙ ap (λ (x : List ℕ). replicate (c - n) 0 ++ x) (drop-drop (c - n) n d ∙ ap (λ (m : ℕ). drop m d) g ∙ e) in
    rw lv (ap (λ (x : List ℕ). n ∷ x) (sym (take-append-drop n d) ∙ ap (λ (x : List ℕ). take n d ++ x) tail ∙ sym (append_assoc (take n d) (replicate (c - n) 0) t)))

module _ (s : List ℕ) (b : Bytes s) where
  reads_many : (f : Format) → ((at : ℕ) → fits f s at ≡ true → Reads f s at)
      → (n at : ℕ) → at ≤ length s → fits_n (fits f s) (next f s) n at ≡ true → ReadsN f s n at
  reads_many f law zero at h e = record { good = tt; within = h; bytes = refl; count = refl }
  reads_many f law (suc n) at h e =
      let r = law at (and_left (fits f s at) (fits_n (fits f s) (next f s) n (next f s at)) e) in
      let q = reads_many f law n (next f s at) r.within (and_right (fits f s at) (fits_n (fits f s) (next f s) n (next f s at)) e) in
      record {
        good = (r.good, q.good);
        within = q.within;
        bytes = rw append_assoc (r.bytes ∙ ap (λ (l : List ℕ). encode f (value f s at) ++ l) q.bytes);
        count = ap suc q.count;
      }

  one_byte : (at : ℕ) → at + 1 ≤ length s → drop at s ≡ get_or s at 0 ∷ drop (at + 1) s
  one_byte at h = rw add-one (drop-cons s at 0 (omega arith))

  zeros-after : (c at n : ℕ) → n ≤ c → at + 1 + c ≤ length s → all_within 0 0 (c - n) s (at + 1 + n) ≡ true
      → take (c - n) (drop n (drop (at + 1) s)) ≡ replicate (c - n) 0
  zeros-after c at n k l e =
      let lz : length (take (c - n) (drop (at + 1 + n) s)) ≡ c - n = length-take-le (c - n) (drop (at + 1 + n) s) (rw length-drop (omega arith)) in
      ap (take (c - n)) (drop-drop n (at + 1) s)
      ∙ zeros_range (take (c - n) (drop (at + 1 + n) s)) (sym (all-within 0 0 (c - n) s (at + 1 + n) (omega arith)) ∙ e)
      ∙ ap (λ (m : ℕ). replicate m 0) lz

  reads_text : (c at : ℕ) → fits (text c) s at ≡ true → Reads (text c) s at
  reads_text c at e =
      let n = get_or s at 0 in
      let e₁ = and_right _ _ e in
      let e₂ = and_right _ _ e₁ in
      let l : at + 1 + c ≤ length s = leb-true _ _ (and_left _ _ e) in
      let k : n ≤ c = leb-true _ _ (and_left _ _ e₁) in
      let m : c ≤ length (drop (at + 1) s) = rw length-drop (omega arith) in
      let z : take (c - n) (drop n (drop (at + 1) s)) ≡ replicate (c - n) 0 = zeros-after c at n k l (and_right _ _ e₂) in
      record {
        good = (rw (length-take-le n (drop (at + 1) s) (omega arith)) k, sym (all-within 0x20 0x7E n s (at + 1) (omega arith)) ∙ and_left _ _ e₂);
        within = l;
        bytes = one_byte at (omega arith) ∙ laid (drop (at + 1) s) n c k m z (drop (at + 1 + c) s) (drop-drop c (at + 1) s);
      }

  module _ (t : ℕ) (f g : Format) (at : ℕ) (l : at + 1 ≤ length s)
      (reads-f : fits f s (at + 1) ≡ true → Reads f s (at + 1)) (reads-g : fits g s at ≡ true → Reads g s at) where
    reads_either : (x : Bool) → eqb (get_or s at 0) t ≡ x → cond x (fits f s (at + 1)) (fits g s at) ≡ true → Reads (either t f g) s at
    reads_either true y e =
        let r = reads-f e in
        let x : get_or s at 0 ≡ t = eqb-true _ _ y in
        record {
          good = rw y r.good;
          within = rw y r.within;
          bytes = rw y (one_byte at l ∙ ap (λ (z : ℕ). z ∷ drop (at + 1) s) x ∙ ap (λ (l : List ℕ). t ∷ l) r.bytes);
        }
    reads_either false y e =
        let r = reads-g e in
        record { good = rw y r.good; within = rw y r.within; bytes = rw y r.bytes }

  pub reads : (f : Format) (at : ℕ) → fits f s at ≡ true → Reads f s at
  reads (code c) at e =
      let l : at + 1 ≤ length s = leb-true _ _ (and_left _ _ e) in
      let x : get_or s at 0 ≡ c = eqb-true _ _ (and_right _ _ e) in
      record { good = tt; within = l; bytes = one_byte at l ∙ ap (λ (y : ℕ). y ∷ drop (at + 1) s) x }
  reads (word k) at e =
      let l : at + k ≤ length s = leb-true _ _ e in
      record { good = number-below k s at b; within = l; bytes = sym (bytes-number k s at b l) }
  reads (below m) at e =
      let l : at + 1 ≤ length s = leb-true _ _ (and_left _ _ e) in
      record { good = ltb-true _ _ (and_right _ _ e); within = l; bytes = one_byte at l }
  reads (text c) at e = reads_text c at e
  reads (f ▸ g) at e =
      let r = reads f at (and_left _ _ e) in
      let q = reads g (next f s at) (and_right _ _ e) in
      record {
        good = (r.good, q.good);
        within = q.within;
        bytes = rw append_assoc (r.bytes ∙ ap (λ (l : List ℕ). encode f (value f s at) ++ l) q.bytes);
      }
  reads (many k lo hi f) at e =
      let l : at + k ≤ length s = leb-true _ _ (and_left _ _ e) in
      let e₁ = and_right _ _ e in
      let e₂ = and_right _ _ e₁ in
      let n = number_at k s at in
      let q = reads_many f (reads f) n (at + k) l (and_right _ _ e₂) in
      let h₁ : lo ≤ n = leb-true _ _ (and_left _ _ e₁) in
      let h₂ : n ≤ hi = leb-true _ _ (and_left _ _ e₂) in
      let m = q.count in
      record {
        good = (omega arith, omega arith, q.good);
        within = q.within;
        bytes = rw (q.count, append_assoc) (sym (bytes-number k s at b l) ∙ ap (λ (l : List ℕ). bytes_of k n ++ l) q.bytes);
      }
  reads (either t f g) at e =
      let l : at + 1 ≤ length s = leb-true _ _ (and_left _ _ e) in
      reads_either t f g at l (reads f (at + 1)) (reads g at) (eqb (get_or s at 0) t) refl (and_right _ _ e)

-- ---- what is written is read

pub record Wrote (f : Format) (v : Value f) (s : List ℕ) (at : ℕ) : Type 0 where
  pub ok : fits f s at ≡ true
  pub same : value f s at ≡ v
  pub after : next f s at ≡ at + length (encode f v)

pub record WroteN (f : Format) (vs : List (Value f)) (s : List ℕ) (at : ℕ) : Type 0 where
  pub ok : fits_n (fits f s) (next f s) (length vs) at ≡ true
  pub same : value_n (value f s) (next f s) (length vs) at ≡ vs
  pub after : next_n (next f s) (length vs) at ≡ at + length (concat_map (encode f) vs)

module _ (s : List ℕ) where
  wrote-many : (f : Format)
      → ((v : Value f) (at : ℕ) (t : List ℕ) → Good f v → at ≤ length s → drop at s ≡ encode f v ++ t → Wrote f v s at)
      → (vs : List (Value f)) (at : ℕ) (t : List ℕ) → All (Good f) vs → at ≤ length s → drop at s ≡ concat_map (encode f) vs ++ t → WroteN f vs s at
  wrote-many f law [] at t g h e = record { ok = refl; same = refl; after = sym (add-zero at) }
  wrote-many f law (v ∷ vs) at t g h e =
      let e' = e ∙ append_assoc (encode f v) (concat_map (encode f) vs) t in
      let r = law v at (concat_map (encode f) vs ++ t) g.0 h e' in
      let l = room s at (encode f v) (concat_map (encode f) vs ++ t) h e' in
      let q = wrote-many f law vs (at + length (encode f v)) t g.1 l (cut-append s at (encode f v) (concat_map (encode f) vs ++ t) e') in
      record {
        ok = and_intro r.ok (rw r.after q.ok);
        same = rw (r.after, r.same, q.same);
        after = ap (next_n (next f s) (length vs)) r.after ∙ q.after ∙ (rw (length-append, add_assoc));
      }

  wrote-text : (c : ℕ) (v : List ℕ) (at : ℕ) (t : List ℕ) → Good (text c) v → at ≤ length s → drop at s ≡ encode (text c) v ++ t → Wrote (text c) v s at
  wrote-text c v at t g h e =
      let z : List ℕ = replicate (c - length v) 0 in
      let p = cut s at (length v) ((v ++ z) ++ t) e in
      let n : get_or s at 0 ≡ length v = p.0 in
      let d : drop (at + 1) s ≡ v ++ (z ++ t) = rw add-one (p.2 ∙ append_assoc v z t) in
      let lz : length z ≡ c - length v = length-replicate (c - length v) 0 in
      let l : at + 1 + c ≤ length s = let i = p.1 in let g₀ = g.0 in omega (arith, simp (length-append, length-drop) at (ap length d)) in
      let dz : drop (at + 1 + length v) s ≡ z ++ t = cut-append s (at + 1) v (z ++ t) d in
      let tv : take (length v) (drop (at + 1) s) ≡ v = ap (take (length v)) d ∙ take-append_seam v (z ++ t) in
      let tz : take (c - length v) (drop (at + 1 + length v) s) ≡ z = ap (take (c - length v)) dz ∙ take_at z t (c - length v) lz in
      let g₀ : length v ≤ c = g.0 in
      record {
        ok = rw n (and_intro (le-leb _ _ l) (and_intro (le-leb _ _ g₀)
            (and_intro (all-within 0x20 0x7E (length v) s (at + 1) (omega arith) ∙ ap (in_range 0x20 0x7E) tv ∙ g.1)
            (all-within 0 0 (c - length v) s (at + 1 + length v) (omega arith) ∙ ap (in_range 0 0) tz ∙ range_zeros (c - length v)))));
        same = rw n tv;
        after = rw (length-append, lz) (omega arith);
      }

  -- what begins with another byte than x
  begins : (x : ℕ) (f : Format) → other x f ≡ true → (v : Value f) (at : ℕ) (t : List ℕ) → drop at s ≡ encode f v ++ t
      → (eqb (get_or s at 0) x ≡ false) × (at < length s)
  begins x (code c) w v at t e = let p = cut s at c t e in (rw p.0 (not-true _ w), p.1)
  begins x (word k) w v at t e = absurd (false_not_true w)
  begins x (below m) w v at t e = absurd (false_not_true w)
  begins x (text c) w v at t e = absurd (false_not_true w)
  begins x (f ▸ g) w v at t e = begins x f w v.0 at (encode g v.1 ++ t) (e ∙ append_assoc (encode f v.0) (encode g v.1) t)
  begins x (many k lo hi f) w v at t e = absurd (false_not_true w)
  begins x (either u f g) w (inl v) at t e =
      let p = cut s at u (encode f v ++ t) e in (rw p.0 (not-true _ (and_left _ _ w)), p.1)
  begins x (either u f g) w (inr v) at t e = begins x g (and_right _ _ w) v at t e

  pub wrote : (f : Format) → sound f ≡ true → (v : Value f) (at : ℕ) (t : List ℕ) → Good f v → at ≤ length s → drop at s ≡ encode f v ++ t → Wrote f v s at
  wrote (code c) w v at t g h e =
      let p = cut s at c t e in
      let l : at + 1 ≤ length s = let i = p.1 in omega arith in
      record { ok = and_intro (le-leb _ _ l) (eq-eqb _ _ p.0); same = refl; after = refl }
  wrote (word k) w v at t g h e =
      let l = room s at (bytes_of k v) t h e in
      let lb = length-bytes k v in
      record { ok = le-leb (at + k) (length s) (omega arith); same = number-bytes k v s at t g e; after = ap (λ (n : ℕ). at + n) (sym lb) }
  wrote (below m) w v at t g h e =
      let p = cut s at v t e in
      let l : at + 1 ≤ length s = let i = p.1 in omega arith in
      record { ok = and_intro (le-leb _ _ l) (rw p.0 (lt-ltb _ _ g)); same = p.0; after = refl }
  wrote (text c) w v at t g h e = wrote-text c v at t g h e
  wrote (f ▸ f') w v at t g h e =
      let e' = e ∙ append_assoc (encode f v.0) (encode f' v.1) t in
      let r = wrote f (and_left _ _ w) v.0 at (encode f' v.1 ++ t) g.0 h e' in
      let l = room s at (encode f v.0) (encode f' v.1 ++ t) h e' in
      let q = wrote f' (and_right _ _ w) v.1 (at + length (encode f v.0)) t g.1 l (cut-append s at (encode f v.0) (encode f' v.1 ++ t) e') in
      record {
        ok = and_intro r.ok (rw r.after q.ok);
        same = rw (r.after, r.same, q.same);
        after = ap (next f' s) r.after ∙ q.after ∙ (rw (length-append, add_assoc));
      }
  wrote (many k lo hi f) w v at t g h e =
      let e' = e ∙ append_assoc (bytes_of k (length v)) (concat_map (encode f) v) t in
      let hi< : hi < 256 ^ k = ltb-true _ _ (and_left _ _ w) in
      let g₀ : lo ≤ length v = g.0 in
      let g₁ : length v ≤ hi = g.1 in
      let n : number_at k s at ≡ length v = number-bytes k (length v) s at (concat_map (encode f) v ++ t) (omega arith) e' in
      let lb = length-bytes k (length v) in
      let l₀ = room s at (bytes_of k (length v)) (concat_map (encode f) v ++ t) h e' in
      let l : at + k ≤ length s = omega arith in
      let d : drop (at + k) s ≡ concat_map (encode f) v ++ t = subst (λ (m : ℕ). drop (at + m) s ≡ concat_map (encode f) v ++ t) lb (cut-append s at (bytes_of k (length v)) (concat_map (encode f) v ++ t) e') in
      let q = wrote-many f (wrote f (and_right _ _ w)) v (at + k) t g.2 l d in
      record {
        ok = rw n (and_intro (le-leb _ _ l) (and_intro (le-leb _ _ g₀) (and_intro (le-leb _ _ g₁) q.ok)));
        same = rw n q.same;
        after = rw n (q.after ∙ (rw (length-append, lb) (add_assoc at k (length (concat_map (encode f) v)))));
      }
  wrote (either x f f') w (inl v) at t g h e =
      let p = cut s at x (encode f v ++ t) e in
      let l : at + 1 ≤ length s = let i = p.1 in omega arith in
      let b : eqb (get_or s at 0) x ≡ true = eq-eqb _ _ p.0 in
      let r = wrote f (and_left _ _ (and_right _ _ w)) v (at + 1) t g (omega arith) (rw add-one p.2) in
      record {
        ok = rw b (and_intro (le-leb _ _ l) r.ok);
        same = rw (b, r.same);
        after = rw b (r.after ∙ omega arith);
      }
  wrote (either x f f') w (inr v) at t g h e =
      let p = begins x f' (and_left _ _ w) v at t e in
      let l : at + 1 ≤ length s = let i = p.1 in omega arith in
      let r = wrote f' (and_right _ _ (and_right _ _ w)) v at t g h e in
      record {
        ok = rw p.0 (and_intro (le-leb _ _ l) r.ok);
        same = rw (p.0, r.same);
        after = rw p.0 r.after;
      }

-- ---- whole messages: all of the bytes, and nothing left over

-- what is read was written: the bytes are those of the value
pub read-written : (f : Format) (s : List ℕ) → Bytes s → whole f s ≡ true → Good f (value f s 0) × (s ≡ encode f (value f s 0))
unfolding whole
read-written f s b e =
    let r = reads s b f 0 (and_left _ _ e) in
    let n : next f s 0 ≡ length s = eqb-true _ _ (and_right _ _ e) in
    (r.good, r.bytes ∙ (rw (n, drop-length) (append-nil (encode f (value f s 0)))))

-- what is written is read, and is the value
pub written_read : (f : Format) → sound f ≡ true → (v : Value f) → Good f v → (whole f (encode f v) ≡ true) × (value f (encode f v) 0 ≡ v)
unfolding whole
written_read f w v g =
    let r = wrote (encode f v) f w v 0 [] g (omega arith) (sym (append-nil (encode f v))) in
    (and_intro r.ok (eq-eqb _ _ (r.after ∙ zero-add (length (encode f v)))), r.same)
