-- Decimal numbers: what they are digit by digit, that they are read back, that they have no byte but digits and no leading zero, and how long
-- they are. Assumes nothing.
use Prim.Native.Nat.{ℕ, zero, suc, ◌+◌, ◌*◌, ◌-◌, ◌/◌, ◌%◌, ◌^◌, ◌≤◌, ◌<◌}
use mathlib.Core.Path.{◌≡◌, refl, sym, ap, ◌∙◌}
use mathlib.Core.Bool.{Bool, true, false, cond}
use mathlib.Core.List.{List, [], ◌∷◌, ◌++◌}
use native.Mathlib.Omega.{arith}
use native.Mathlib.Nat.{pow-suc}
use lib.ListN.{length, get_or, length-append}
use lib.Dec.{ltb, leb}
use borrow.Author.Tests.{ltb-true, ltb-false, lt-ltb, le-ltb, le-leb}
use Rattle.spec.specs.Lists.{◌and◌, every}
use Rattle.spec_laws.proofs.Lists.{and_true}
use Rattle.spec_laws.proofs.Map.Rows.{every_tail, every_cons}
use Rattle.spec_words.specs.Decimal.{digit, spelled, decimal, is_digit, value_from, value}

-- ---- digit by digit

-- digits to spare change nothing
spare : (j k n : ℕ) → n < j → n < k → spelled j n ≡ spelled k n
unfolding spelled
spare zero k n h g = absurd (omega arith)
spare (suc j) zero n h g = absurd (omega arith)
spare (suc j) (suc k) n h g = go (ltb n 10) refl (spare j k (n / 10))
  where
    go : (b : Bool) → ltb n 10 ≡ b → (n / 10 < j → n / 10 < k → spelled j (n / 10) ≡ spelled k (n / 10))
        → cond b (digit n ∷ []) (spelled j (n / 10) ++ (digit (n % 10) ∷ [])) ≡ cond b (digit n ∷ []) (spelled k (n / 10) ++ (digit (n % 10) ∷ []))
    go true e more = refl
    go false e more =
        let l = ltb-false n 10 e in
        ap (λ (x : List ℕ). x ++ (digit (n % 10) ∷ [])) (more (omega arith) (omega arith))

pub decimal-one : (n : ℕ) → n < 10 → decimal n ≡ digit n ∷ []
unfolding decimal spelled
decimal-one n h = rw (lt-ltb n 10 h)

pub decimal-more : (n : ℕ) → 10 ≤ n → decimal n ≡ decimal (n / 10) ++ (digit (n % 10) ∷ [])
unfolding decimal spelled
decimal-more n h = rw (le-ltb n 10 h) (ap (λ (x : List ℕ). x ++ (digit (n % 10) ∷ [])) (spare n (suc (n / 10)) (n / 10) (omega arith) (omega arith)))

-- a fact of every decimal number: of one digit, and of one digit more
module _ {ℓ} (P : ℕ → List ℕ → Type ℓ) (one : (n : ℕ) → n < 10 → P n (digit n ∷ []))
    (more : (n : ℕ) → 10 ≤ n → P (n / 10) (decimal (n / 10)) → P n (decimal (n / 10) ++ (digit (n % 10) ∷ []))) where
  below : (k n : ℕ) → n < k → P n (decimal n)
  below zero n h = absurd (omega arith)
  below (suc k) n h = go (ltb n 10) refl (below k (n / 10))
    where
      go : (b : Bool) → ltb n 10 ≡ b → (n / 10 < k → P (n / 10) (decimal (n / 10))) → P n (decimal n)
      go true e f = rw (decimal-one n (ltb-true n 10 e)) (one n (ltb-true n 10 e))
      go false e f =
          let l = ltb-false n 10 e in
          rw (decimal-more n (omega arith)) (more n (omega arith) (f (omega arith)))

  pub by_digits : (n : ℕ) → P n (decimal n)
  by_digits n = below (suc n) n (omega arith)

-- ---- read back

value-append : (a b : List ℕ) (k : ℕ) → value_from k (a ++ b) ≡ value_from (value_from k a) b
unfolding value_from
value-append [] b k = refl
value-append (x ∷ a) b k = value-append a b (k * 10 + (x - 48))

value-one : (n : ℕ) → value (digit n ∷ []) ≡ n
unfolding value value_from
value-one n = omega arith

value-more : (l : List ℕ) (d : ℕ) → value (l ++ (digit d ∷ [])) ≡ value l * 10 + d
unfolding value value_from
value-more l d = value-append l (digit d ∷ []) 0 ∙ omega arith

pub decimal-back : (n : ℕ) → value (decimal n) ≡ n
decimal-back =
    by_digits (λ n l. value l ≡ n) (λ n h. value-one n)
    (λ n h e. value-more (decimal (n / 10)) (n % 10) ∙ ap (λ (x : ℕ). x * 10 + n % 10) e ∙ omega arith)

-- so no two numbers are spelled alike
pub decimal_fixes : (m n : ℕ) → decimal m ≡ decimal n → m ≡ n
decimal_fixes m n e = sym (decimal-back m) ∙ ap value e ∙ decimal-back n

-- ---- digits alone

pub digit-is : (d : ℕ) → d < 10 → is_digit (digit d) ≡ true
digit-is d h = and_true (leb 48 (digit d)) (leb (digit d) 57) (le-leb 48 (digit d) (omega arith)) (le-leb (digit d) 57 (omega arith))

pub every_append : (p : ℕ → Bool) (a b : List ℕ) → every p a ≡ true → every p b ≡ true → every p (a ++ b) ≡ true
unfolding every
every_append p [] b f g = g
every_append p (x ∷ a) b f g =
    let t = every_tail p x a f in
    every_cons p x (a ++ b) t.0 (every_append p a b t.1 g)

nothing : every is_digit [] ≡ true
unfolding every
nothing = refl

pub decimal_digits : (n : ℕ) → every is_digit (decimal n) ≡ true
decimal_digits =
    by_digits (λ n l. every is_digit l ≡ true) (λ n h. every_cons is_digit (digit n) [] (digit-is n h) nothing)
    (λ n h e. every_append is_digit (decimal (n / 10)) (digit (n % 10) ∷ []) e (every_cons is_digit (digit (n % 10)) [] (digit-is (n % 10) (omega arith)) nothing))

-- ---- no leading zero, but for 0 itself

pub decimal_zero : decimal 0 ≡ 48 ∷ []
unfolding decimal spelled
decimal_zero = refl

first-append : (a b : List ℕ) → 0 < length a → get_or (a ++ b) 0 0 ≡ get_or a 0 0
first-append [] b h = absurd (omega arith)
first-append (x ∷ a) b h = refl

-- a first digit, and not 0
pub decimal-leads : (n : ℕ) → 0 < n → (0 < length (decimal n)) × (48 < get_or (decimal n) 0 0)
decimal-leads =
    by_digits (λ n l. 0 < n → (0 < length l) × (48 < get_or l 0 0)) (λ n h p. (omega arith, omega arith))
    (λ n h e p.
    let f = e (omega arith) in
    let d = digit (n % 10) ∷ [] in
    (omega (arith, length-append (decimal (n / 10)) d), rw (first-append (decimal (n / 10)) d f.0) f.1))

-- ---- their length

pub decimal-length : (k n : ℕ) → n < 10 ^ suc k → length (decimal n) ≤ suc k
decimal-length k n = by_digits (λ n l. (k : ℕ) → n < 10 ^ suc k → length l ≤ suc k) (λ n h k g. omega arith) more n k
  where
    more : (n : ℕ) → 10 ≤ n → ((k : ℕ) → n / 10 < 10 ^ suc k → length (decimal (n / 10)) ≤ suc k) → (k : ℕ) → n < 10 ^ suc k
        → length (decimal (n / 10) ++ (digit (n % 10) ∷ [])) ≤ suc k
    more n h e zero g = absurd (omega arith)
    more n h e (suc k) g = let f = e k (omega (arith, pow-suc 10 (suc k))) in omega (arith, length-append (decimal (n / 10)) (digit (n % 10) ∷ []))

pub decimal_64 : (n : ℕ) → n < 2 ^ 64 → length (decimal n) ≤ 20
decimal_64 n h = decimal-length 19 n (omega arith)

pub decimal_32 : (n : ℕ) → n < 2 ^ 32 → length (decimal n) ≤ 10
decimal_32 n h = decimal-length 9 n (omega arith)
