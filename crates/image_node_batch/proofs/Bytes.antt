-- Bytes outside a store's table, by their places: an entry more is the same bytes more, whatever the table holds. Assumes nothing.
use Prim.Native.Nat.{ℕ, zero, suc, ◌+◌, ◌*◌, ◌≤◌, ◌<◌}
use mathlib.Core.Path.{◌≡◌, refl, sym, ap, ◌∙◌}
use mathlib.Core.Logic.{◌⊎◌}
use mathlib.Core.List.{List, [], ◌∷◌, ◌++◌, map}
use native.Mathlib.Omega.{arith}
use native.Mathlib.Nat.{add-zero}
use lib.ListN.{length, get_or, drop, set, length-set, length-drop, drop_of_length-le}
use lib.Seq.{sets, drop-append-le}
use Rattle.spec.specs.Log.{Entry, Log, components}
use Rattle.spec.specs.Layout.Format.{bytes_of, concat_map}
use Rattle.spec.specs.Node.Wire.{bits_of}
use Rattle.log_store.specs.Table.{Row}
use Rattle.image_store.specs.Write.{code_of, id_of, numbers_put, entry_put, entries_put, log_put, rows_put}
use Rattle.image_store.proofs.Image.{rows_other}
use Rattle.image_node.proofs.Back.{entries_length}

-- ---- two lists of one length with the same number at a place

record Agree (a b : List ℕ) (j : ℕ) : Type 0 where
  long : length a ≡ length b
  here : get_or a j 0 ≡ get_or b j 0

set_agrees : (a b : List ℕ) (i j v : ℕ) → length a ≡ length b → get_or a j 0 ≡ get_or b j 0 → get_or (set a i v) j 0 ≡ get_or (set b i v) j 0
set_agrees [] [] i j v l h = refl
set_agrees [] (y ∷ ys) i j v l h = absurd (omega arith)
set_agrees (x ∷ xs) [] i j v l h = absurd (omega arith)
set_agrees (x ∷ xs) (y ∷ ys) zero zero v l h = refl
set_agrees (x ∷ xs) (y ∷ ys) zero (suc j) v l h = h
set_agrees (x ∷ xs) (y ∷ ys) (suc i) zero v l h = h
set_agrees (x ∷ xs) (y ∷ ys) (suc i) (suc j) v l h = set_agrees xs ys i j v (omega arith) h

set_agree : (a b : List ℕ) (i j v : ℕ) → Agree a b j → Agree (set a i v) (set b i v) j
set_agree a b i j v g = record { long = length-set a i v ∙ g.long ∙ sym (length-set b i v); here = set_agrees a b i j v g.long g.here }

sets_agree : (vs a b : List ℕ) (at j : ℕ) → Agree a b j → Agree (sets a at vs) (sets b at vs) j
sets_agree [] a b at j g = g
sets_agree (v ∷ vs) a b at j g = sets_agree vs (set a at v) (set b at v) (suc at) j (set_agree a b at j v g)

entry_agree : (a b : List ℕ) (base i : ℕ) (e : Entry) (j : ℕ) → Agree a b j → Agree (entry_put a base i e) (entry_put b base i e) j
unfolding entry_put numbers_put
entry_agree a b base i e j g =
    set_agree _ _ (base + 25600 + i) j (length (components e.op))
    (set_agree _ _ (base + 24576 + i) j (code_of e.op)
    (sets_agree (bytes_of 8 (id_of e.op)) _ _ (base + 16384 + i * 8) j
    (sets_agree (bytes_of 8 e.offset) _ _ (base + 8192 + i * 8) j
    (sets_agree (bytes_of 8 e.epoch) _ _ (base + i * 8) j
    (sets_agree (concat_map (bytes_of 4) (map bits_of (components e.op))) a b (base + 26624 + i * 128) j g)))))

-- ---- one entry more

entries_snoc : (es : Log) (s : List ℕ) (base i : ℕ) (e : Entry) → entries_put s base i (es ++ (e ∷ [])) ≡ entry_put (entries_put s base i es) base (i + length es) e
unfolding entries_put
entries_snoc [] s base i e = ap (λ (k : ℕ). entry_put s base k e) (sym (add-zero i))
entries_snoc (x ∷ es) s base i e =
    let q : i + 1 + length es ≡ i + suc (length es) = omega arith in
    entries_snoc es (entry_put s base i x) base (i + 1) e ∙ ap (λ (k : ℕ). entry_put (entries_put (entry_put s base i x) base (i + 1) es) base k e) q

log_snoc : (s : List ℕ) (base from : ℕ) (l : Log) (e : Entry) → from ≤ length l → log_put s base from (l ++ (e ∷ [])) ≡ entry_put (log_put s base from l) base (length l) e
log_snoc s base from l e h =
    let d = length-drop from l in
    let q : from + length (drop from l) ≡ length l = omega arith in
    ap (entries_put s base from) (drop-append-le from l (e ∷ []) h) ∙ entries_snoc (drop from l) s base from e
    ∙ ap (λ (k : ℕ). entry_put (log_put s base from l) base k e) q

pub log-none : (s : List ℕ) (base : ℕ) (l : Log) (n : ℕ) → length l ≡ n → log_put s base n l ≡ s
unfolding entries_put
log-none s base l n e = ap (entries_put s base n) (drop_of_length-le l {i = n} (omega arith))

-- t is `out` one entry longer, and `out` was s with the log l outside the table
pub outside_step : (s out t : List ℕ) (base from c : ℕ) (l : Log) (e : Entry) (rs : List Row) → length out ≡ length s → length l ≡ c → from ≤ c → length rs ≤ 1024
    → t ≡ rows_put (log_put out base c (l ++ (e ∷ []))) base rs → (j : ℕ) → (j < base + 157696) ⊎ (base + 174080 ≤ j)
    → get_or out j 0 ≡ get_or (log_put s base from l) j 0 → get_or t j 0 ≡ get_or (log_put s base from (l ++ (e ∷ []))) j 0
outside_step s out t base from c l e rs long is h few image j away before =
    let into : log_put out base c (l ++ (e ∷ [])) ≡ entry_put out base c e =
    log_snoc out base c l e (omega arith) ∙ ap (λ (o : List ℕ). entry_put o base (length l) e) (log-none out base l c is) ∙ ap (λ (k : ℕ). entry_put out base k e) is in
    ap (λ (z : List ℕ). get_or z j 0) image
    ∙ rows_other (log_put out base c (l ++ (e ∷ []))) base rs few j away
    ∙ ap (λ (z : List ℕ). get_or z j 0) into
    ∙ (entry_agree out (log_put s base from l) base c e j (record { long = long ∙ sym (entries_length (drop from l) s base from); here = before })).here
    ∙ ap (λ (z : List ℕ). get_or z j 0) (sym (log_snoc s base from l e (omega arith) ∙ ap (λ (k : ℕ). entry_put (log_put s base from l) base k e) is))
