-- Which places a change of the log leaves as they were, and that one change after another leaves what both do. Assumes nothing.
use Prim.Native.Nat.{ℕ, suc, ◌+◌, ◌-◌, ◌≤◌, ◌<◌}
use mathlib.Core.Path.{◌≡◌, refl, sym, ap, ◌∙◌}
use mathlib.Core.List.{List, [], ◌∷◌, ◌++◌}
use native.Mathlib.Numerals.{add-one}
use native.Mathlib.Omega.{arith}
use lib.ListN.{length, take, drop, length-append, length-drop}
use lib.Seq.{length-take-le, drop_at, drop-drop}
use Rattle.log_store.specs.View.{Columns, Inscribed, written, written_all}
use Rattle.log_store.specs.Table.{inserted, removed}
use Rattle.log_store.specs.Store.{Store, Spares}

-- two lists that agree from a place on do from any later one on
pub past_later {ℓ} : {A : Type ℓ} (a b : ℕ) (x y : List A) → a ≤ b → drop a x ≡ drop a y → drop b x ≡ drop b y
past_later {A = A} a b x y h e =
    let q : a + (b - a) ≡ b = omega arith in
    ap (λ (n : ℕ). drop n x) (sym q) ∙ sym (drop-drop (b - a) a x) ∙ ap (λ (l : List A). drop (b - a) l) e ∙ drop-drop (b - a) a y
    ∙ ap (λ (n : ℕ). drop n y) q

-- ---- the table's columns

pub inserted_past : (at n x : ℕ) (l : List ℕ) → at ≤ n → n < length l → drop (n + 1) (inserted at n x l) ≡ drop (n + 1) l
unfolding inserted
inserted_past at n x l h k =
    let base = take at l ++ x ∷ drop at l in
    let lb : length base ≡ suc (length l) =
    length-append (take at l) (x ∷ drop at l) ∙ omega (arith, length-take-le at l (omega arith), length-drop at l) in
    ap (λ (j : ℕ). drop j (take (suc n) base ++ drop (suc n) l)) (add-one n)
    ∙ drop_at (take (suc n) base) (drop (suc n) l) (suc n) (length-take-le (suc n) base (omega arith))
    ∙ ap (λ (j : ℕ). drop j l) (sym (add-one n))

pub removed_past : (at n : ℕ) (l : List ℕ) → at < n → n ≤ length l → drop (n + 1) (removed at n l) ≡ drop (n + 1) l
unfolding removed
removed_past at n l h k =
    let base = take at l ++ drop (at + 1) l in
    let lb : length base ≡ length l - 1 =
    length-append (take at l) (drop (at + 1) l) ∙ omega (arith, length-take-le at l (omega arith), length-drop (at + 1) l) in
    past_later (n - 1) (n + 1) (take (n - 1) base ++ drop (n - 1) l) l (omega arith)
    (drop_at (take (n - 1) base) (drop (n - 1) l) (n - 1) (length-take-le (n - 1) base (omega arith)))

-- ---- a store

pub spares_none : (s : Store) → Spares s s
unfolding written_all
spares_none s = record { entries = []; grown = omega arith; columns = refl; keys = refl; places = refl; same = λ _. refl }

written_on : (c : Columns) (n : ℕ) (xs ys : List Inscribed) → written_all c n (xs ++ ys) ≡ written_all (written_all c n xs) (n + length xs) ys
unfolding written_all
written_on c n [] ys = ap (λ (k : ℕ). written_all c k ys) (let q : n ≡ n + 0 = omega arith in q)
written_on c n (x ∷ xs) ys =
    let d = written c n x.epoch x.code x.id x.bits in
    written_on d (n + 1) xs ys
    ∙ ap (λ (k : ℕ). written_all (written_all d (n + 1) xs) k ys) (let q : n + 1 + length xs ≡ n + suc (length xs) = omega arith in q)

pub spares_on : (s t u : Store) → s.count ≤ t.count → t.count ≤ u.count → Spares s t → Spares t u → Spares s u
spares_on s t u h k a b = record {
  entries = a.entries ++ b.entries;
  grown =
      let l = length-append a.entries b.entries in
      let x = a.grown in
      let y = b.grown in
      omega arith;
  columns =
      let at : t.count ≡ s.count + length a.entries = (let x = a.grown in omega arith) in
      b.columns ∙ ap (λ (c : Columns). written_all c t.count b.entries) a.columns
      ∙ ap (λ (n : ℕ). written_all (written_all s.columns s.count a.entries) n b.entries) at
      ∙ sym (written_on s.columns s.count a.entries b.entries);
  keys = b.keys ∙ past_later t.count u.count t.keys s.keys k a.keys;
  places = b.places ∙ past_later t.count u.count t.places s.places k a.places;
  same = λ e. b.same (omega arith) ∙ a.same (omega arith);
}
