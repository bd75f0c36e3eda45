-- The words of a rejection are read back: a number ends at the first byte that is no digit, and a name is cut out between what is known at
-- either end, never searched for, so that blanks, slashes, digits and the very words inside a name do no harm. Assumes nothing.
use Prim.Native.Nat.{ℕ, zero, suc}
use mathlib.Core.Path.{◌≡◌, refl, sym, ap, ◌∙◌}
use mathlib.Core.Bool.{Bool, true, false, cond}
use mathlib.Core.List.{List, [], ◌∷◌, ◌++◌, reverse, reverse-cons, reverse-append, reverse-reverse, append_assoc}
use lib.ListN.{drop}
use lib.Dec.{eqb}
use Rattle.spec.specs.Keys.{Name, Key}
use Rattle.spec.specs.Lists.{◌and◌, every}
use Rattle.spec.specs.Refusals.{
  Rejection,
  older,
  exists,
  zero_spec,
  placement_mismatch,
  not_alive,
  no_collection,
  known_incarnation,
  not_at_incarnation,
  no_shard,
  other_epoch,
  already_held,
  removes_primary,
  not_held,
  not_in_sync,
  shrinks_primary,
  already_in_sync,
}
use Rattle.spec_laws.proofs.Map.Rows.{every_tail, every_cons}
use Rattle.spec_words.specs.Decimal.{is_digit, decimal, value}
use Rattle.spec_words.specs.Texts.{
  says_older,
  says_collection,
  says_exists,
  says_zero,
  says_mismatch,
  says_node,
  says_not_alive,
  says_known,
  says_not_at,
  says_holds,
  says_not_held,
  says_not_in_sync,
  says_in_sync,
  says_no_collection,
  says_no_shard,
  says_shard,
  says_epoch,
  says_not,
  says_slash,
  says_removes,
  says_shrinks,
}
use Rattle.spec_words.specs.Words.{key_words, words}
use Rattle.spec_words.proofs.Decimal.{decimal-back, decimal_digits, every_append}

-- ---- leading digits, and what follows them

unfoldable pub digits_of : List ℕ → List ℕ
digits_of [] = []
digits_of (b ∷ bs) = let more = b ∷ digits_of bs in cond (is_digit b) more []

unfoldable pub past_digits : List ℕ → List ℕ
past_digits [] = []
past_digits (b ∷ bs) = let more = past_digits bs in cond (is_digit b) more (b ∷ bs)

module _ (b : ℕ) (other : is_digit b ≡ false) (after : List ℕ) where
  digits_then : (d : List ℕ) → every is_digit d ≡ true → digits_of (d ++ (b ∷ after)) ≡ d
  unfolding digits_of
  digits_then [] h = rw other
  digits_then (x ∷ d) h = let t = every_tail is_digit x d h in rw t.0 (ap (λ (l : List ℕ). x ∷ l) (digits_then d t.1))

  past_then : (d : List ℕ) → every is_digit d ≡ true → past_digits (d ++ (b ∷ after)) ≡ b ∷ after
  unfolding past_digits
  past_then [] h = rw other
  past_then (x ∷ d) h = let t = every_tail is_digit x d h in rw t.0 (past_then d t.1)

-- digits from the end of a text on
every-reverse : (d : List ℕ) → every is_digit d ≡ true → every is_digit (reverse d) ≡ true
unfolding every
every-reverse [] h = refl
every-reverse (x ∷ d) h =
    let t = every_tail is_digit x d h in
    rw (reverse-cons x d) (every_append is_digit (reverse d) (x ∷ []) (every-reverse d t.1) (every_cons is_digit x [] t.0 refl))

-- ---- the reader

unfoldable pub starts : List ℕ → List ℕ → Bool
starts [] t = true
starts (x ∷ xs) [] = false
starts (x ∷ xs) (y ∷ ys) = cond (eqb x y) (starts xs ys) false

-- without the last n bytes
unfoldable pub drop_last : ℕ → List ℕ → List ℕ
drop_last n t = reverse (drop n (reverse t))

-- the number at the end of a text, and what stands before it
unfoldable pub last_number : List ℕ → ℕ
last_number t = value (reverse (digits_of (reverse t)))

unfoldable pub before_last : List ℕ → List ℕ
before_last t = reverse (past_digits (reverse t))

unfoldable pub read_key : List ℕ → Key
read_key t = record { collection = drop_last 1 (before_last t); shard = last_number t }

-- behind 'shard '
unfoldable pub read_epochs : List ℕ → Rejection
read_epochs t =
    let upToOwn = drop_last 6 (before_last t) in
    other_epoch (read_key (drop_last 13 (before_last upToOwn))) (last_number upToOwn) (last_number t)

-- behind the number of a node
unfoldable pub read_node : ℕ → List ℕ → Rejection
read_node n t =
    cond (starts says_not_alive t) (not_alive n)
    (cond (starts says_known t) (known_incarnation n (value (drop 27 t)))
    (cond (starts says_not_at t) (not_at_incarnation n (value (drop 23 t)))
    (cond (starts says_holds t) (already_held n)
    (cond (starts says_not_held t) (not_held n)
    (cond (starts says_not_in_sync t) (not_in_sync n)
    (already_in_sync n))))))

unfoldable pub read : List ℕ → Rejection
read t =
    cond (starts says_older t) older
    (cond (starts says_collection t) (exists (drop_last 7 (drop 11 t)))
    (cond (starts says_zero t) zero_spec
    (cond (starts says_mismatch t) placement_mismatch
    (cond (starts says_node t) (read_node (value (digits_of (drop 5 t))) (past_digits (drop 5 t)))
    (cond (starts says_no_collection t) (no_collection (drop 14 t))
    (cond (starts says_no_shard t) (no_shard (read_key (drop 9 t)))
    (cond (starts says_shard t) (read_epochs (drop 6 t))
    (cond (starts says_removes t) removes_primary
    shrinks_primary))))))))

-- ---- from the end of a text

drop-last : (n : ℕ) (a b : List ℕ) → drop n (reverse b ++ reverse a) ≡ reverse a → drop_last n (a ++ b) ≡ a
unfolding drop_last
drop-last n a b e = ap (λ (l : List ℕ). reverse (drop n l)) (reverse-append a b) ∙ ap reverse e ∙ reverse-reverse a

-- a number behind a fixed part that ends in no digit, behind anything
module _ (a part rest : List ℕ) (b n : ℕ) (ends : reverse part ≡ b ∷ rest) (other : is_digit b ≡ false) where
  turned : reverse (a ++ (part ++ decimal n)) ≡ reverse (decimal n) ++ (b ∷ (rest ++ reverse a))
  turned =
      reverse-append a (part ++ decimal n) ∙ ap (λ (l : List ℕ). l ++ reverse a) (reverse-append part (decimal n))
      ∙ append_assoc (reverse (decimal n)) (reverse part) (reverse a)
      ∙ ap (λ (l : List ℕ). reverse (decimal n) ++ (l ++ reverse a)) ends

  last-number : last_number (a ++ (part ++ decimal n)) ≡ n
  unfolding last_number
  last-number =
      ap (λ (l : List ℕ). value (reverse (digits_of l))) turned
      ∙ ap (λ (l : List ℕ). value (reverse l)) (digits_then b other (rest ++ reverse a) (reverse (decimal n)) (every-reverse (decimal n) (decimal_digits n)))
      ∙ ap value (reverse-reverse (decimal n)) ∙ decimal-back n

  before_last_lem : before_last (a ++ (part ++ decimal n)) ≡ a ++ part
  unfolding before_last
  before_last_lem =
      ap (λ (l : List ℕ). reverse (past_digits l)) turned
      ∙ ap reverse (past_then b other (rest ++ reverse a) (reverse (decimal n)) (every-reverse (decimal n) (decimal_digits n)))
      ∙ ap (λ (l : List ℕ). reverse (l ++ reverse a)) (sym ends) ∙ ap reverse (sym (reverse-append a part)) ∙ reverse-reverse (a ++ part)

  cut : (k : ℕ) → drop k (reverse part ++ reverse a) ≡ reverse a → drop_last k (before_last (a ++ (part ++ decimal n))) ≡ a
  cut k e = ap (drop_last k) before_last_lem ∙ drop-last k a part e

-- ---- read back

key_back : (k : Key) → read_key (key_words k) ≡ k
unfolding read_key key_words ◌and◌
key_back k =
    let name = cut k.collection says_slash [] 47 k.shard refl refl 1 refl in
    let shard = last-number k.collection says_slash [] 47 k.shard refl refl in
    rw (name, shard)

epochs-back : (k : Key) (own given : ℕ) → read_epochs (key_words k ++ (says_epoch ++ (decimal own ++ (says_not ++ decimal given)))) ≡ other_epoch k own given
unfolding read_epochs ◌and◌
epochs-back k own given =
    let upToOwn : List ℕ = key_words k ++ (says_epoch ++ decimal own) in
    let e : upToOwn ++ (says_not ++ decimal given) ≡ key_words k ++ (says_epoch ++ (decimal own ++ (says_not ++ decimal given))) =
    append_assoc (key_words k) (says_epoch ++ decimal own) (says_not ++ decimal given)
    in
    let front = cut upToOwn says_not (116 ∷ 111 ∷ 110 ∷ 32 ∷ 44 ∷ []) 32 given refl refl 6 refl in
    let last = last-number upToOwn says_not (116 ∷ 111 ∷ 110 ∷ 32 ∷ 44 ∷ []) 32 given refl refl in
    let rest : List ℕ = 104 ∷ 99 ∷ 111 ∷ 112 ∷ 101 ∷ 32 ∷ 116 ∷ 97 ∷ 32 ∷ 115 ∷ 105 ∷ 32 ∷ [] in
    let key = cut (key_words k) says_epoch rest 32 own refl refl 13 refl in
    let first = last-number (key_words k) says_epoch rest 32 own refl refl in
    ap read_epochs (sym e) ∙ rw (front, last) (rw (key, first) (ap (λ (x : Key). other_epoch x own given) (key_back k)))

of_node_lem : (n : ℕ) (tail : List ℕ) → read (says_node ++ (decimal n ++ (32 ∷ tail))) ≡ read_node n (32 ∷ tail)
unfolding read starts ◌and◌
of_node_lem n tail =
    rw (digits_then 32 refl tail (decimal n) (decimal_digits n), past_then 32 refl tail (decimal n) (decimal_digits n))
    (ap (λ (k : ℕ). read_node k (32 ∷ tail)) (decimal-back n))

pub read_back : (r : Rejection) → read (words r) ≡ r
unfolding words read starts read_node
read_back older = refl
read_back (exists n) = ap exists (drop-last 7 n says_exists refl)
read_back zero_spec = refl
read_back placement_mismatch = refl
read_back (not_alive n) = of_node_lem n _
read_back (no_collection n) = refl
read_back (known_incarnation n known) = of_node_lem n _ ∙ ap (known_incarnation n) (decimal-back known)
read_back (not_at_incarnation n given) = of_node_lem n _ ∙ ap (not_at_incarnation n) (decimal-back given)
read_back (no_shard k) = ap no_shard (key_back k)
read_back (other_epoch k own given) = epochs-back k own given
read_back (already_held n) = of_node_lem n _
read_back removes_primary = refl
read_back (not_held n) = of_node_lem n _
read_back (not_in_sync n) = of_node_lem n _
read_back shrinks_primary = refl
read_back (already_in_sync n) = of_node_lem n _
