-- The free places of a table put back: every byte is then as the new entries and the rows make it. Assumes nothing.
use Prim.Native.Nat.{ℕ, ◌+◌, ◌-◌, ◌*◌, ◌≤◌, ◌<◌}
use mathlib.Core.Path.{◌≡◌, sym, ap, ◌∙◌, subst}
use mathlib.Core.Logic.{◌⊎◌, inl, inr, ⊎_elim}
use mathlib.Core.List.{List, map}
use native.Mathlib.Omega.{arith}
use lib.ListN.{length, get_or, take, drop, length-map, length-take, length-drop, get_or-append}
use lib.Seq.{sets, length-sets, ext_get_or, get_or-take, get_or-drop}
use Rattle.spec.specs.Log.{Entry}
use Rattle.spec.specs.Layout.Format.{Bytes, All}
use Rattle.log_store.specs.Table.{Row}
use Rattle.log_store.proofs.Rows.{rows-length}
use Rattle.image_store.specs.Image.{keys_in, places_in, log_at, rows_at}
use Rattle.image_store.specs.Write.{Fits, log_put, rows_put}
use Rattle.image_store.proofs.Words.{words-length}
use Rattle.image_store.proofs.Stored.{apart, lt_or_ge, drop-sets}
use Rattle.image_store.proofs.Image.{entries_other}
use Rattle.image_node.specs.Lent.{lent_store_at}
use Rattle.image_node.proofs.Back.{entries_length, fits-drop}
use Rattle.image_store_append.proofs.WordLaws.{bytes8, bytes8-length}
use Rattle.image_node_grow.proofs.Kept.{rows_back, kept-fits}
use Rattle.image_node_batch.specs.declared.Stock.{Stock}
use Rattle.image_node_batch.specs.Batch.{Appends, BatchStored}
use Rattle.image_node_batch.proofs.Grown.{row_of, log_long, at-log, at-most}

-- a place that lies in a store
stored_in : (vs l : List ℕ) (at j : ℕ) → at ≤ j → j < at + length vs → at + length vs ≤ length l → get_or (sets l at vs) j 0 ≡ get_or vs (j - at) 0
stored_in vs l at j low high room =
    let i = j - at in
    let q : j ≡ at + i = omega arith in
    ap (λ (n : ℕ). get_or (sets l at vs) n 0) q
    ∙ sym (get_or-drop at (sets l at vs) i 0)
    ∙ ap (λ (r : List ℕ). get_or r i 0) (drop-sets l at vs room)
    ∙ get_or-append vs (drop (at + length vs) l) 0 i (omega arith)

-- a part copied over a list of its length
pub copied : (z s : List ℕ) (at to n : ℕ) → length z ≡ n → to ≡ at + n → to ≤ length s → sets z 0 (take (to - at) (drop at s)) ≡ take n (drop at s)
copied z s at to n e q room =
    let i : to - at ≡ n = omega arith in
    let d = length-drop at s in
    let k : length (take n (drop at s)) ≡ n = length-take n (drop at s) ∙ omega arith in
    ap (λ (m : ℕ). sets z 0 (take m (drop at s))) i
    ∙ ext_get_or 0 (sets z 0 (take n (drop at s))) (take n (drop at s)) (length-sets z 0 (take n (drop at s)) ∙ e ∙ sym k)
    (λ j h.
    let l = length-sets z 0 (take n (drop at s)) in
    let o : j - 0 ≡ j = omega arith in
    stored_in (take n (drop at s)) z 0 j (omega arith) (omega arith) (omega arith) ∙ ap (λ (m : ℕ). get_or (take n (drop at s)) m 0) o)

-- ---- a part of a part

part_length : (s : List ℕ) (at n from to : ℕ) → at + n ≤ length s → from ≤ to → to ≤ n → length (take (to - from) (drop from (take n (drop at s)))) ≡ to - from
part_length s at n from to room low high =
    let a = length-drop at s in
    let b = length-take n (drop at s) in
    let c = length-drop from (take n (drop at s)) in
    length-take (to - from) (drop from (take n (drop at s))) ∙ omega arith

part_at : (s : List ℕ) (at n from to i : ℕ) → i < to - from → to ≤ n → get_or (take (to - from) (drop from (take n (drop at s)))) i 0 ≡ get_or s (at + (from + i)) 0
part_at s at n from to i h high =
    get_or-take (to - from) (drop from (take n (drop at s))) i 0 h
    ∙ get_or-drop from (take n (drop at s)) i 0
    ∙ get_or-take n (drop at s) (from + i) 0 (omega arith)
    ∙ get_or-drop at s (from + i) 0

-- ---- w is s with the new entries, t has the rows, and elsewhere is w

module _ (s t w : List ℕ) (base k : ℕ) (few : k ≤ 1024) (room : base + 174080 ≤ length s) (long-t : length t ≡ length s) (long-w : length w ≡ length s)
    (back : rows_put t base (rows_at t base k) ≡ t)
    (outside : (j : ℕ) → (j < base + 157696) ⊎ (base + 174080 ≤ j) → get_or t j 0 ≡ get_or w j 0)
    (table : (j : ℕ) → base + 157696 ≤ j → get_or w j 0 ≡ get_or s j 0) where
  abbrev rs : List Row
  rs = rows_at t base k

  abbrev ids : List ℕ
  ids = bytes8 (map (λ (r : Row). r.id) rs)

  abbrev offs : List ℕ
  offs = bytes8 (map (λ (r : Row). r.offset) rs)

  rows_long : length rs ≡ k
  rows_long =
      rows-length (keys_in t base) (places_in t base) k
      (omega (arith, words-length 8 1024 t (base + 157696))) (omega (arith, words-length 8 1024 t (base + 165888)))

  ids_long : length ids ≡ 8 * k
  ids_long = omega (arith, bytes8-length (map (λ (r : Row). r.id) rs), length-map rs (λ (r : Row). r.id), rows_long)

  offs_long : length offs ≡ 8 * k
  offs_long = omega (arith, bytes8-length (map (λ (r : Row). r.offset) rs), length-map rs (λ (r : Row). r.offset), rows_long)

  -- the bytes of the rows, whatever they are put over
  in_keys : (l : List ℕ) → length l ≡ length s → (j : ℕ) → base + 157696 ≤ j → j < base + 157696 + 8 * k
      → get_or (rows_put l base rs) j 0 ≡ get_or ids (j - (base + 157696)) 0
  unfolding rows_put
  in_keys l e j low high =
      let a = ids_long in
      apart offs (sets l (base + 157696) ids) (base + 165888) j (λ x. omega arith)
      ∙ stored_in ids l (base + 157696) j low (omega arith) (omega arith)

  in_places : (l : List ℕ) → length l ≡ length s → (j : ℕ) → base + 165888 ≤ j → j < base + 165888 + 8 * k
      → get_or (rows_put l base rs) j 0 ≡ get_or offs (j - (base + 165888)) 0
  unfolding rows_put
  in_places l e j low high =
      let b = offs_long in
      let m = length-sets l (base + 157696) ids in
      stored_in offs (sets l (base + 157696) ids) (base + 165888) j low (omega arith) (omega arith)

  -- .. and behind them
  behind : (l : List ℕ) (j : ℕ) → (base + 157696 ≤ j → base + 157696 + 8 * k ≤ j) → (base + 165888 ≤ j → base + 165888 + 8 * k ≤ j)
      → get_or (rows_put l base rs) j 0 ≡ get_or l j 0
  unfolding rows_put
  behind l j a b =
      let x = ids_long in
      let y = offs_long in
      apart offs (sets l (base + 157696) ids) (base + 165888) j (λ h. let q = b h in omega arith)
      ∙ apart ids l (base + 157696) j (λ h. let q = a h in omega arith)

  abbrev kept : List ℕ
  kept = take 16384 (drop (base + 157696) s)

  abbrev used : ℕ
  used = 8 * k

  abbrev v₁ : List ℕ
  v₁ = take (8192 - used) (drop used kept)

  abbrev v₂ : List ℕ
  v₂ = take (16384 - (8192 + used)) (drop (8192 + used) kept)

  long₁ : length v₁ ≡ 8192 - used
  long₁ = part_length s (base + 157696) 16384 used 8192 (omega arith) (omega arith) (omega arith)

  long₂ : length v₂ ≡ 16384 - (8192 + used)
  long₂ = part_length s (base + 157696) 16384 (8192 + used) 16384 (omega arith) (omega arith) (omega arith)

  abbrev t₁ : List ℕ
  t₁ = sets t (base + 157696 + used) v₁

  abbrev u : List ℕ
  u = sets t₁ (base + 157696 + (8192 + used)) v₂

  Here : ℕ → Type 0
  Here j = get_or u j 0 ≡ get_or (rows_put w base rs) j 0

  unput : (j : ℕ) → (base + 157696 + used ≤ j → base + 165888 ≤ j) → (base + 165888 + used ≤ j → base + 174080 ≤ j) → get_or u j 0 ≡ get_or t j 0
  unput j a b =
      let x = long₁ in
      let y = long₂ in
      apart v₂ t₁ (base + 157696 + (8192 + used)) j (λ h. let q = b (omega arith) in omega arith)
      ∙ apart v₁ t (base + 157696 + used) j (λ h. let q = a h in omega arith)

  away : (j : ℕ) → (j < base + 157696) ⊎ (base + 174080 ≤ j) → Here j
  unfolding Here
  away j (inl h) = unput j (λ x. omega arith) (λ x. omega arith) ∙ outside j (inl h) ∙ sym (behind w j (λ x. omega arith) (λ x. omega arith))
  away j (inr h) = unput j (λ x. omega arith) (λ x. omega arith) ∙ outside j (inr h) ∙ sym (behind w j (λ x. omega arith) (λ x. omega arith))

  as_back : (j : ℕ) → get_or t j 0 ≡ get_or (rows_put t base rs) j 0
  as_back j = ap (λ (l : List ℕ). get_or l j 0) (sym back)

  keys-used : (j : ℕ) → base + 157696 ≤ j → j < base + 157696 + used → Here j
  unfolding Here
  keys-used j low high =
      unput j (λ x. omega arith) (λ x. omega arith) ∙ as_back j ∙ in_keys t long-t j low high ∙ sym (in_keys w long-w j low high)

  keys-free : (j : ℕ) → base + 157696 + used ≤ j → j < base + 165888 → Here j
  unfolding Here
  keys-free j low high =
      let x = long₁ in
      let i = j - (base + 157696 + used) in
      let q : base + 157696 + (used + i) ≡ j = omega arith in
      apart v₂ t₁ (base + 157696 + (8192 + used)) j (λ h. omega arith)
      ∙ stored_in v₁ t (base + 157696 + used) j low (omega arith) (omega arith)
      ∙ part_at s (base + 157696) 16384 used 8192 i (omega arith) (omega arith)
      ∙ ap (λ (n : ℕ). get_or s n 0) q
      ∙ sym (behind w j (λ h. omega arith) (λ h. omega arith) ∙ table j (omega arith))

  places-used : (j : ℕ) → base + 165888 ≤ j → j < base + 165888 + used → Here j
  unfolding Here
  places-used j low high =
      unput j (λ x. omega arith) (λ x. omega arith) ∙ as_back j ∙ in_places t long-t j low high ∙ sym (in_places w long-w j low high)

  places-free : (j : ℕ) → base + 165888 + used ≤ j → j < base + 174080 → Here j
  unfolding Here
  places-free j low high =
      let x = long₂ in
      let y = length-sets t (base + 157696 + used) v₁ in
      let i = j - (base + 157696 + (8192 + used)) in
      let q : base + 157696 + (8192 + used + i) ≡ j = omega arith in
      stored_in v₂ t₁ (base + 157696 + (8192 + used)) j (omega arith) (omega arith) (omega arith)
      ∙ part_at s (base + 157696) 16384 (8192 + used) 16384 i (omega arith) (omega arith)
      ∙ ap (λ (n : ℕ). get_or s n 0) q
      ∙ sym (behind w j (λ h. omega arith) (λ h. omega arith) ∙ table j (omega arith))

  here : (j : ℕ) → Here j
  here j =
      ⊎_elim (λ h. away j (inl h))
      (λ (a : base + 157696 ≤ j).
      ⊎_elim (λ h. keys-used j a h)
      (λ (b : base + 157696 + used ≤ j).
      ⊎_elim (λ h. keys-free j b h)
      (λ (d : base + 165888 ≤ j).
      ⊎_elim (λ h. places-used j d h)
      (λ (f : base + 165888 + used ≤ j).
      ⊎_elim (λ h. places-free j f h) (λ h. away j (inr h)) (lt_or_ge j (base + 174080)))
      (lt_or_ge j (base + 165888 + used)))
      (lt_or_ge j (base + 165888)))
      (lt_or_ge j (base + 157696 + used)))
      (lt_or_ge j (base + 157696))

  pub put_back : u ≡ rows_put w base rs
  unfolding Here rows_put
  put_back =
      ext_get_or 0 u (rows_put w base rs)
      (length-sets t₁ (base + 157696 + (8192 + used)) v₂ ∙ length-sets t (base + 157696 + used) v₁ ∙ long-t ∙ sym long-w
      ∙ sym (length-sets (sets w (base + 157696) ids) (base + 165888) offs ∙ length-sets w (base + 157696) ids))
      (λ j h. here j)

-- ---- the batch

pub batch-stored : (s t u : List ℕ) (slot count stored : ℕ) (es : List Entry) (r : Stock) → slot < 8 → 1392640 ≤ length s → Bytes t
    → Appends s t slot count stored es r → (k : List ℕ) → k ≡ take 16384 (drop (slot * 174080 + 157696) s)
    → (t₁ : List ℕ) → t₁ ≡ sets t (slot * 174080 + 157696 + 8 * r.stored) (take (8192 - 8 * r.stored) (drop (8 * r.stored) k))
    → u ≡ sets t₁ (slot * 174080 + 157696 + (8192 + 8 * r.stored)) (take (16384 - (8192 + 8 * r.stored)) (drop (8192 + 8 * r.stored) k))
    → BatchStored s u slot count stored es r
unfolding lent_store_at
batch-stored s t u slot count stored es r small there bytes a k is t₁ d₁ e =
    let base = slot * 174080 in
    let c = r.count in
    let l = log_at t base c in
    let x = row_of slot c r.stored in
    let m = at-most t slot c r.stored a.well in
    let fits = subst (All Fits) (at-log t slot c r.stored a.well) (kept-fits t x bytes a.well).log in
    let room : base + 174080 ≤ length s = omega arith in
    let n = a.longer in
    let d = length-drop count l in
    let g = log_long t base c in
    record {
      on = t;
      bytes = bytes;
      there = (let q = a.long in omega arith);
      appends = a;
      image =
          e
          ∙ ap (λ (z : List ℕ). sets z (base + 157696 + (8192 + 8 * r.stored)) (take (16384 - (8192 + 8 * r.stored)) (drop (8192 + 8 * r.stored) k))) d₁
          ∙ ap (λ (z : List ℕ).
          sets (sets t (base + 157696 + 8 * r.stored) (take (8192 - 8 * r.stored) (drop (8 * r.stored) z)))
          (base + 157696 + (8192 + 8 * r.stored)) (take (16384 - (8192 + 8 * r.stored)) (drop (8192 + 8 * r.stored) z))) is
          ∙ put_back s t (log_put s base count l) base r.stored m.1 room a.long (entries_length (drop count l) s base count)
          (rows_back t x bytes a.well) a.apart
          (λ j h. entries_other (drop count l) s base count (omega arith) (fits-drop count l fits) j (inr h));
    }

pub stored-few : (s t : List ℕ) (slot count stored : ℕ) (es : List Entry) (r : Stock) → Appends s t slot count stored es r → r.stored ≤ 1024
stored-few s t slot count stored es r a = (at-most t slot r.count r.stored a.well).1
