-- Chains of hits with one bucket: what a walk along one tells, and what holds of them as hits are added. Assumes nothing.
use Prim.Native.Nat.{ℕ, zero, suc, ◌+◌, ◌-◌, ◌*◌, ◌%◌, ◌≤◌, ◌<◌}
use mathlib.Core.Path.{◌≡◌, refl, sym, ap, ◌∙◌, subst}
use mathlib.Core.Bool.{Bool, true, false}
use mathlib.Core.List.{List}
use mathlib.Core.Option.{some}
use native.Mathlib.Omega.{arith}
use lib.Dec.{eqb}
use lib.ListN.{length, get_or, set, replicate}
use lib.Seq.{get_or-set_same, get_or-set_other}
use borrow.Author.Tests.{eqb-true, eqb-false}
use Rattle.spec.specs.Lists.{nth}
use Rattle.spec_laws.proofs.Lists.{some_same, nth_lt}
use Rattle.spec_join.specs.Join.{Hit, apart}
use Rattle.spec_join.proofs.Decided.{apart_says, apart-holds}
use Rattle.calls_join.specs.View.{hit_at, hits_at}
use Rattle.calls_join.specs.Buckets.{id_at, Falls, Reaches, here, there}
use Rattle.calls_join.proofs.Bytes.{hits-length, hit-there}

-- ---- along a chain
pub reaches_none : (next : List ℕ) (c i : ℕ) → c ≤ 0 → Reaches next c i → ⊥
reaches_none next c i h (here j) = omega arith
reaches_none next c i h (there j k r) = omega arith

module _ (s : List ℕ) (p id : ℕ) (next : List ℕ) where
  -- past a hit of another id
  pub reaches_on : (c i : ℕ) → 0 < c → (id_at s p (c - 1) ≡ id → ⊥) → id_at s p i ≡ id → Reaches next c i → Reaches next (get_or next (c - 1) 0) i
  reaches_on c i h n e (here j) = absurd (n (let q : suc j - 1 ≡ j = omega arith in ap (id_at s p) q ∙ e))
  reaches_on c i h n e (there j k r) = let q : suc j - 1 ≡ j = omega arith in subst (λ (m : ℕ). Reaches next (get_or next m 0) i) (sym q) r

-- what stands behind the first n places is nothing to them
pub reaches_set : (next : List ℕ) (n v : ℕ) → Falls next n → (c i : ℕ) → c ≤ n → Reaches next c i → Reaches (set next n v) c i
reaches_set next n v f c i h (here j) = here j
reaches_set next n v f c i h (there j k r) =
    let e = get_or-set_other next n j v 0 (λ q. omega arith) in
    there j k (subst (λ (m : ℕ). Reaches (set next n v) m i) (sym e) (reaches_set next n v f (get_or next j 0) i (let g = f j (omega arith) in omega arith) r))

-- zeros, however many
pub zeros : (n b : ℕ) → ◌≡◌ {A = ℕ} (get_or (replicate n 0) b 0) 0
zeros zero b = refl
zeros (suc n) zero = refl
zeros (suc n) (suc b) = zeros n b

-- ---- all chains, with the first i hits in them: `last` is the last hit of each bucket
pub record Kept (s : List ℕ) (p : ℕ) (last next : List ℕ) (i : ℕ) : Type 0 where
  pub differ : (a b : ℕ) → a < b → b < i → id_at s p b ≡ id_at s p a → ⊥
  pub falls : Falls next i
  pub below : (b : ℕ) → get_or last b 0 ≤ i
  pub kept : (a : ℕ) → a < i → Reaches next (get_or last (id_at s p a % 2048) 0) a

pub kept-none : (s : List ℕ) (p : ℕ) (last next : List ℕ) → ((b : ℕ) → get_or last b 0 ≡ 0) → Kept s p last next 0
kept-none s p last next z = record {
  differ = λ a b h g. absurd (omega arith);
  falls = λ i h. absurd (omega arith);
  below = λ b. (let e = z b in omega arith);
  kept = λ a h. absurd (omega arith);
}

module _ (s : List ℕ) (p : ℕ) (last next : List ℕ) (i : ℕ) (k : Kept s p last next i)
    (inLast : id_at s p i % 2048 < length last) (inNext : i < length next)
    (other : (j : ℕ) → Reaches next (get_or last (id_at s p i % 2048) 0) j → id_at s p j ≡ id_at s p i → ⊥) where
  abbrev bucket : ℕ
  bucket = id_at s p i % 2048

  abbrev last' : List ℕ
  last' = set last bucket (i + 1)

  abbrev next' : List ℕ
  next' = set next i (get_or last bucket 0)

  new_differ : (a b : ℕ) → a < b → b < i + 1 → id_at s p b ≡ id_at s p a → ⊥
  new_differ a b h g e = go (eqb b i) refl
    where
      go : (t : Bool) → eqb b i ≡ t → ⊥
      go true q =
          let r = eqb-true b i q in
          let same : id_at s p a ≡ id_at s p i = sym e ∙ ap (id_at s p) r in
          other a (subst (λ (m : ℕ). Reaches next (get_or last (m % 2048) 0) a) same (k.kept a (omega arith))) same
      go false q = let n = eqb-false b i q in k.differ a b h (omega arith) e

  new_falls : Falls next' (i + 1)
  new_falls j h = go (eqb j i) refl
    where
      go : (t : Bool) → eqb j i ≡ t → get_or next' j 0 ≤ j
      go true q =
          let r = eqb-true j i q in
          let e = get_or-set_same next i (get_or last bucket 0) 0 inNext in
          let b = k.below bucket in
          subst (λ (m : ℕ). get_or next' m 0 ≤ m) (sym r) (omega arith)
      go false q =
          let e = get_or-set_other next i j (get_or last bucket 0) 0 (eqb-false j i q) in
          let n = eqb-false j i q in
          let f = k.falls j (omega arith) in
          omega arith

  new-below : (b : ℕ) → get_or last' b 0 ≤ i + 1
  new-below b = go (eqb b bucket) refl
    where
      go : (t : Bool) → eqb b bucket ≡ t → get_or last' b 0 ≤ i + 1
      go true q =
          let e = get_or-set_same last bucket (i + 1) 0 inLast in
          subst (λ (m : ℕ). get_or last' m 0 ≤ i + 1) (sym (eqb-true b bucket q)) (omega arith)
      go false q =
          let e = get_or-set_other last bucket b (i + 1) 0 (eqb-false b bucket q) in
          let f = k.below b in
          omega arith

  old_reaches : (a : ℕ) → a < i → Reaches next' (get_or last (id_at s p a % 2048) 0) a
  old_reaches a h = reaches_set next i (get_or last bucket 0) k.falls (get_or last (id_at s p a % 2048) 0) a (k.below (id_at s p a % 2048)) (k.kept a h)

  new-kept : (a : ℕ) → a < i + 1 → Reaches next' (get_or last' (id_at s p a % 2048) 0) a
  new-kept a h = go (eqb (id_at s p a % 2048) bucket) (eqb a i) refl refl
    where
      first : get_or last' bucket 0 ≡ suc i
      first = get_or-set_same last bucket (i + 1) 0 inLast ∙ omega arith

      leads : get_or next' i 0 ≡ get_or last bucket 0
      leads = get_or-set_same next i (get_or last bucket 0) 0 inNext

      go : (t u : Bool) → eqb (id_at s p a % 2048) bucket ≡ t → eqb a i ≡ u → Reaches next' (get_or last' (id_at s p a % 2048) 0) a
      go true true q r =
          let e = eqb-true a i r in
          subst (λ (m : ℕ). Reaches next' (get_or last' (id_at s p m % 2048) 0) m) (sym e) (subst (λ (m : ℕ). Reaches next' m i) (sym first) (here i))
      go true false q r =
          let e = eqb-true (id_at s p a % 2048) bucket q in
          let n = eqb-false a i r in
          let old = subst (λ (m : ℕ). Reaches next' (get_or last m 0) a) e (old_reaches a (omega arith)) in
          subst (λ (m : ℕ). Reaches next' (get_or last' m 0) a) (sym e)
          (subst (λ (m : ℕ). Reaches next' m a) (sym first) (there i a (subst (λ (m : ℕ). Reaches next' m a) (sym leads) old)))
      go false true q r = absurd (eqb-false (id_at s p a % 2048) bucket q (ap (λ (m : ℕ). id_at s p m % 2048) (eqb-true a i r)))
      go false false q r =
          let n = eqb-false a i r in
          subst (λ (m : ℕ). Reaches next' m a) (sym (get_or-set_other last bucket (id_at s p a % 2048) (i + 1) 0 (eqb-false (id_at s p a % 2048) bucket q))) (old_reaches a (omega arith))

  pub kept_next : Kept s p last' next' (i + 1)
  kept_next = record { differ = new_differ; falls = new_falls; below = new-below; kept = new-kept }

-- ---- so ids are apart, or not
id-there : (s : List ℕ) (n p i : ℕ) (x : Hit) → nth (hits_at s n p) i ≡ some x → (i < n) × (x.id ≡ id_at s p i)
id-there s n p i x e =
    let h = nth_lt (hits_at s n p) i x e in
    let l = hits-length s n p in
    let g : i < n = omega arith in
    (g, ap (λ (y : Hit). y.id) (some_same (sym e ∙ hit-there s n p i g)))

pub apart-all : (s : List ℕ) (p n : ℕ) (last next : List ℕ) (i : ℕ) → n ≤ i → Kept s p last next i → apart (hits_at s n p) ≡ true
apart-all s p n last next i h k =
    apart-holds (hits_at s n p)
    (λ a b x y l e f q.
    (let u = id-there s n p a x e in
    let v = id-there s n p b y f in
    let w = v.0 in
    k.differ a b l (omega arith) (sym v.1 ∙ q ∙ u.1)))

pub apart_not : (s : List ℕ) (p n i j : ℕ) → i < n → j < i → id_at s p j ≡ id_at s p i → apart (hits_at s n p) ≡ false
apart_not s p n i j h g e = go (apart (hits_at s n p)) refl
  where
    go : (t : Bool) → apart (hits_at s n p) ≡ t → t ≡ false
    go true q =
        absurd (apart_says (hits_at s n p) q j i (hit_at s (p + 12 * j)) (hit_at s (p + 12 * i)) g (hit-there s n p j (omega arith)) (hit-there s n p i h) (sym e))
    go false q = refl
