-- Two numbers put over a row that was tidied, and the rows one after another. Assumes nothing.
use Prim.Native.Nat.{ℕ, zero, suc, ◌+◌, ◌-◌, ◌*◌, ◌^◌, ◌≤◌, ◌<◌}
use mathlib.Core.Path.{◌≡◌, refl, sym, ap, subst, ◌∙◌}
use mathlib.Core.List.{List, [], ◌∷◌, ◌++◌, map, append_assoc}
use native.Mathlib.Omega.{arith}
use mathlib.Core.Bool.{Bool, true, false, cond}
use lib.Dec.{eqb}
use lib.ListN.{length, get_or, take, drop, set, length-append, length-set}
use lib.Seq.{sets, set_comm, set-set, get_or-set_same, get_or-set_other, take-set-lt, get_or-take}
use Rattle.spec.specs.Layout.Format.{Bytes, bytes_of, number_at, concat_map, All}
use Rattle.spec.specs.Layout.Parts.{metric_code}
use Rattle.spec_laws.proofs.Wire.Bytes.{length-bytes}
use Rattle.std.specs.Prelude.{Option}
use Rattle.std.specs.Prelude.{None, Some}
use Rattle.node_header.specs.declared.HeldRow.{HeldRow}
use Rattle.node_header.specs.declared.Node.{Node}
use Rattle.node_header.specs.View.{no_held_row, used}
use Rattle.image_parts.specs.Shape.{value, Stored, items, in_use}
use Rattle.image_parts.specs.Codes.{flag_code}
use Rattle.image_parts.specs.Parts.{key_bytes, replicas_bytes, key_f, key_value}
use Rattle.image_parts.proofs.Images.{sets-append}
use Rattle.image_parts.proofs.Back.{length-encode}
use Rattle.image_header_row.specs.Rows.{expiry_of, expiry_code, expiry_time, held_row_f, held_row_at, held_row_bytes, numbers_bytes, role_bytes, peers_bytes}
use Rattle.image_header_row.specs.Tidy.{tidy_held_row, tidy_held}
use Rattle.image_header.proofs.Tidy.{HeldRowFits, all_fit}
use Rattle.image_header.specs.Image.{node_at, head_of, head_bytes}
use Rattle.image_header.specs.Becomes.{HeaderWrites}
use Rattle.image_header.proofs.Back.{Fits}
use Rattle.spec_laws.proofs.Wire.Bytes.{number-below}
use Rattle.image_header_check.specs.Rows.{Counts}
use Rattle.image_header_check.proofs.Rows.{held_long}
use Rattle.image_header_form.proofs.Bytes.{drop-after}
use Rattle.image_header_form.proofs.FrontLaws.{stored_same}
use Rattle.image_header_put.proofs.Back.{kept-parts, kept_good, good, rows_long, row_of, kept_past, items_past, items-all, in_use_lem, used-rows, whole}
use Rattle.image_header_counts.specs.Counts.{counted, rows_in, counted_rows, with_counts}

-- ---- a part of what is stored, put over

set-sets : (b s : List ℕ) (at to : ℕ) (v : ℕ) → at < to → set (sets s to b) at v ≡ sets (set s at v) to b
set-sets [] s at to v h = refl
set-sets (x ∷ b) s at to v h =
    set-sets b (set s to x) at (suc to) v (omega arith)
    ∙ ap (λ (l : List ℕ). sets l (suc to) b) (set_comm s to at x v (λ e. omega arith))

over_here : (b b' c u : List ℕ) (q : ℕ) → length b ≡ length b' → sets (sets u q (b ++ c)) q b' ≡ sets u q (b' ++ c)
over_here [] [] c u q e = refl
over_here [] (y ∷ b') c u q e = absurd (omega arith)
over_here (x ∷ b) [] c u q e = absurd (omega arith)
over_here (x ∷ b) (y ∷ b') c u q e =
    ap (λ (l : List ℕ). sets l (suc q) b')
    (set-sets (b ++ c) (set u q x) q (suc q) y (omega arith) ∙ ap (λ (l : List ℕ). sets l (suc q) (b ++ c)) (set-set u q x y))
    ∙ over_here b b' c (set u q y) (suc q) (omega arith)

over : (s : List ℕ) (p k : ℕ) (a b b' c : List ℕ) → length b ≡ length b' → k ≡ p + length a → sets (sets s p (a ++ (b ++ c))) k b' ≡ sets s p (a ++ (b' ++ c))
over s p k a b b' c e q =
    ap (λ (m : ℕ). sets (sets s p (a ++ (b ++ c))) m b') q
    ∙ ap (λ (l : List ℕ). sets l (p + length a) b') (sets-append s p a (b ++ c))
    ∙ over_here b b' c (sets s p a) (p + length a) e
    ∙ sym (sets-append s p a (b' ++ c))

-- ---- a row by its numbers

regroup : (f s e l h c m o y r p q : List ℕ)
    → (f ++ s) ++ (((((((((e ++ l) ++ h) ++ c) ++ m) ++ o) ++ y) ++ r) ++ p) ++ q)
    ≡ f ++ (s ++ (e ++ (l ++ (h ++ (c ++ (m ++ (o ++ (y ++ (r ++ (p ++ q))))))))))
regroup f s e l h c m o y r p q = simp append_assoc

module _ (x : HeldRow) where
  abbrev front : List ℕ
  front = (key_bytes x.key ++ bytes_of 4 0) ++ bytes_of 8 x.slot

  abbrev rest : List ℕ
  rest =
      bytes_of 8 x.held.holders
      ++ (bytes_of 8 x.held.count
      ++ (bytes_of 4 (metric_code x.held.metric)
      ++ (bytes_of 4 (flag_code x.held.own)
      ++ (bytes_of 4 0 ++ (role_bytes x.held.role ++ (replicas_bytes x.held.replicas ++ peers_bytes x.held.peers))))))

  parts : held_row_bytes x ≡ front ++ (bytes_of 8 x.stored ++ (bytes_of 8 x.held.epoch.0 ++ (bytes_of 8 x.held.last ++ rest)))
  unfolding numbers_bytes
  parts =
      sym (kept-parts x)
      ∙ regroup front (bytes_of 8 x.stored) (bytes_of 8 x.held.epoch.0) (bytes_of 8 x.held.last) (bytes_of 8 x.held.holders) (bytes_of 8 x.held.count)
      (bytes_of 4 (metric_code x.held.metric)) (bytes_of 4 (flag_code x.held.own)) (bytes_of 4 0) (role_bytes x.held.role) (replicas_bytes x.held.replicas) (peers_bytes x.held.peers)

  front_long : HeldRowFits x → length front ≡ 56
  unfolding key_bytes
  front_long ((((key, unused), slot), stored), held) =
      length-append (key_bytes x.key ++ bytes_of 4 0) (bytes_of 8 x.slot)
      ∙ omega (arith, length-append (key_bytes x.key) (bytes_of 4 0), length-encode key_f (key_value x.key) key, length-bytes 4 0, length-bytes 8 x.slot)

pub row_over : (s t u v : List ℕ) (p : ℕ) (x : HeldRow) (last stored : ℕ) → HeldRowFits x → Stored s t p (held_row_bytes x) 1280
    → u ≡ sets t (p + 56) (bytes_of 8 stored) → v ≡ sets u (p + 72) (bytes_of 8 last) → Stored s v p (held_row_bytes (counted x last stored)) 1280
row_over s t u v p x last stored fit k us vs =
    let F = front x in
    let S = bytes_of 8 x.stored in
    let S' = bytes_of 8 stored in
    let E = bytes_of 8 x.held.epoch.0 in
    let L = bytes_of 8 x.held.last in
    let L' = bytes_of 8 last in
    let R = rest x in
    let f = front_long x fit in
    let y = counted x last stored in
    let a : u ≡ sets s p (F ++ (S' ++ (E ++ (L ++ R)))) =
    us ∙ ap (λ (l : List ℕ). sets l (p + 56) S') (k.image ∙ ap (sets s p) (parts x))
    ∙ over s p (p + 56) F S S' (E ++ (L ++ R)) (length-bytes 8 x.stored ∙ sym (length-bytes 8 stored)) (omega arith) in
    let G = F ++ (S' ++ E) in
    let g : length G ≡ 72 = length-append F (S' ++ E) ∙ omega (arith, length-append S' E, length-bytes 8 stored, length-bytes 8 x.held.epoch.0) in
    let c₁ : F ++ (S' ++ (E ++ (L ++ R))) ≡ G ++ (L ++ R) = simp append_assoc in
    let c₂ : G ++ (L' ++ R) ≡ F ++ (S' ++ (E ++ (L' ++ R))) = simp append_assoc in
    let b : v ≡ sets s p (held_row_bytes y) =
    vs ∙ ap (λ (l : List ℕ). sets l (p + 72) L') (a ∙ ap (sets s p) c₁)
    ∙ over s p (p + 72) G L L' R (length-bytes 8 x.held.last ∙ sym (length-bytes 8 last)) (omega arith)
    ∙ ap (sets s p) (c₂ ∙ sym (parts y)) in
    let n : (m : List ℕ) (o : List ℕ) → length m ≡ 8 → length o ≡ 8 → length (F ++ (m ++ (E ++ (o ++ R)))) ≡ 56 + (8 + (8 + (8 + length R))) =
    λ m o hm ho.
    length-append F (m ++ (E ++ (o ++ R)))
    ∙ omega (arith, length-append m (E ++ (o ++ R)), length-append E (o ++ R), length-append o R, length-bytes 8 x.held.epoch.0) in
    record {
      image = b;
      long =
          ap length (parts y) ∙ n S' L' (length-bytes 8 stored) (length-bytes 8 last)
          ∙ sym (n S L (length-bytes 8 x.stored) (length-bytes 8 x.held.last)) ∙ sym (ap length (parts x)) ∙ k.long;
    }

tidy_counted : (x : HeldRow) (last stored : ℕ) → tidy_held_row (counted x last stored) ≡ counted (tidy_held_row x) last stored
unfolding tidy_held_row tidy_held
tidy_counted x last stored = refl

tidied-fits : (s : List ℕ) (p : ℕ) → Bytes s → HeldRowFits (tidy_held_row (held_row_at s p))
unfolding held_row_at
tidied-fits s p b = (all_fit (held_row_at s p ∷ []) (kept_good (value held_row_f s p) (good s b held_row_f p), tt)).0

pub row-counted : (s t u v : List ℕ) (p last stored : ℕ) → Bytes s → Stored s t p (held_row_bytes (tidy_held_row (held_row_at s p))) 1280
    → u ≡ sets t (p + 56) (bytes_of 8 stored) → v ≡ sets u (p + 72) (bytes_of 8 last)
    → Stored s v p (held_row_bytes (tidy_held_row (counted (held_row_at s p) last stored))) 1280
row-counted s t u v p last stored b k us vs =
    subst (λ (x : HeldRow). Stored s v p (held_row_bytes x) 1280) (sym (tidy_counted (held_row_at s p) last stored))
    (row_over s t u v p (tidy_held_row (held_row_at s p)) last stored (tidied-fits s p b) k us vs)

-- ---- the rows of a header, one of them changed

module _ (s : List ℕ) (count row last stored : ℕ) (h : row < count) where
  abbrev l : List HeldRow
  l = counted_rows s count row last stored

  pub counted_long : length l ≡ count
  counted_long = length-set (rows_in s count) row (counted (get_or (rows_in s count) row no_held_row) last stored) ∙ rows_long s count

  pub counted-own : (i : ℕ) → i ≡ row → counted (held_row_at s (48 + 1280 * i)) last stored ≡ get_or l i no_held_row
  counted-own i e =
      ap (λ (y : HeldRow). counted y last stored) (row_of s count i (omega arith) ∙ ap (λ (j : ℕ). get_or (rows_in s count) j no_held_row) e)
      ∙ sym (ap (λ (j : ℕ). get_or l j no_held_row) e
      ∙ get_or-set_same (rows_in s count) row (counted (get_or (rows_in s count) row no_held_row) last stored) no_held_row (omega (arith, rows_long s count)))

  pub counted-other : (i : ℕ) → i < count → (i ≡ row → ⊥) → held_row_at s (48 + 1280 * i) ≡ get_or l i no_held_row
  counted-other i lt n =
      row_of s count i lt
      ∙ sym (get_or-set_other (rows_in s count) row i (counted (get_or (rows_in s count) row no_held_row) last stored) no_held_row n)

-- ---- the whole header

time_below : (code time : ℕ) → time < 256 ^ 8 → expiry_time (expiry_of code time) < 256 ^ 8
time_below code time h = go (eqb code 0)
  where
    go : (b : Bool) → expiry_time (cond b None (Some time)) < 256 ^ 8
    go true = omega arith
    go false = h

counted-fits : (x : HeldRow) (last stored : ℕ) → last < 256 ^ 8 → stored < 256 ^ 8 → HeldRowFits x → HeldRowFits (counted x last stored)
counted-fits x last stored hl hs ((((key, unused), slot), old), (((((((((epoch, before), holders), count), metric), own), zeros), role), replicas), peers)) =
    ((((key, unused), slot), hs), (((((((((epoch, hl), holders), count), metric), own), zeros), role), replicas), peers))

all_set : {A : Type 0} (P : A → Type 0) (l : List A) (i : ℕ) (y : A) → All P l → P y → All P (set l i y)
all_set P [] i y f p = tt
all_set P (x ∷ l) zero y f p = (p, f.1)
all_set P (x ∷ l) (suc i) y f p = (f.0, all_set P l i y f.1 p)

all-at : {A : Type 0} (P : A → Type 0) (l : List A) (i : ℕ) (d : A) → i < length l → All P l → P (get_or l i d)
all-at P [] i d h f = absurd (omega arith)
all-at P (x ∷ l) zero d h f = f.0
all-at P (x ∷ l) (suc i) d h f = all-at P l i d (omega arith) f.1

module _ (s : List ℕ) (count row last stored : ℕ) (counts : Counts s count) (under : row < count) (bytes : Bytes s) (hl : last < 256 ^ 8)
    (hs : stored < 256 ^ 8) where
  -- the lease as it is written
  abbrev own : Option ℕ
  own = expiry_of (number_at 4 s 36) (number_at 8 s 40)

  abbrev after : Node
  after = with_counts (node_at s) row last stored

  used-before : used (node_at s) ≡ rows_in s count
  used-before = used-rows s count counts 0 0

  counted-count : (node_at s).count ≡ count
  unfolding node_at
  counted-count = counts.2

  used-after : used after ≡ counted_rows s count row last stored
  used-after =
      let c = counted-count in
      let y = counted (get_or (node_at s).held row no_held_row) last stored in
      take-set-lt (node_at s).count (node_at s).held row y (omega arith)
      ∙ ap (λ (l : List HeldRow). set l row y) used-before
      ∙ ap (λ (x : HeldRow). set (rows_in s count) row (counted x last stored))
      (sym (get_or-take (node_at s).count (node_at s).held row no_held_row (omega arith)) ∙ ap (λ (l : List HeldRow). get_or l row no_held_row) used-before)

  rows_fit_lem : All HeldRowFits (rows_in s count)
  unfolding held_row_at
  rows_fit_lem = items-all HeldRowFits count (held_row_at s) 1280 48 (λ p. kept_good (value held_row_f s p) (good s bytes held_row_f p))

  fits : Fits after
  unfolding node_at
  fits = record {
    id = number-below 8 s 0 bytes;
    incarnation = number-below 8 s 8 bytes;
    version = number-below 8 s 16 bytes;
    expiry = time_below (number_at 4 s 36) (number_at 8 s 40) (number-below 8 s 40 bytes);
    long = length-set (node_at s).held row (counted (get_or (node_at s).held row no_held_row) last stored) ∙ held_long s;
    rows = subst (λ (l : List HeldRow). All HeldRowFits l) (sym used-after)
        (all_set HeldRowFits (rows_in s count) row (counted (get_or (rows_in s count) row no_held_row) last stored) rows_fit_lem
        (counted-fits (get_or (rows_in s count) row no_held_row) last stored hl hs
        (all-at HeldRowFits (rows_in s count) row no_held_row (omega (arith, rows_long s count)) rows_fit_lem)));
  }

  head-is : head_of (number_at 8 s 0) (number_at 8 s 8) (number_at 8 s 16) count (expiry_code own) (expiry_time own) ≡ head_bytes after
  unfolding node_at
  head-is =
      ap (λ (x : ℕ). head_of (number_at 8 s 0) (number_at 8 s 8) (number_at 8 s 16) x (expiry_code own) (expiry_time own)) (sym (in_use_lem s count counts))

  pub counts_whole : (m t : List ℕ) → Stored s m 0 (head_of (number_at 8 s 0) (number_at 8 s 8) (number_at 8 s 16) count (expiry_code own) (expiry_time own)) 48
      → t ≡ sets m 48 (concat_map held_row_bytes (map tidy_held_row (counted_rows m count row last stored))) → HeaderWrites s t after
  counts_whole m t head e =
      let room = counts.0 in
      let past : drop 48 m ≡ drop 48 s = drop-after head (omega arith) in
      let r : rows_in m count ≡ rows_in s count = items_past count (held_row_at m) (held_row_at s) 1280 48 m s (λ p q. kept_past m s p q) past in
      whole s m t after (counted_rows m count row last stored) room fits (stored_same head-is head)
      (ap (λ (l : List HeldRow). set l row (counted (get_or l row no_held_row) last stored)) r ∙ sym used-after) e
