-- Paper 02, 2.8, of the counts: a refused call by one caller moves that caller's count only; a place once taken is kept; there are at most 32; which calls
-- take one; and calls of the first edition alone are counted as before. Assumes nothing.
use Prim.Native.Nat.{ℕ, zero, suc, ◌+◌, ◌≤◌, ◌<◌}
use mathlib.Core.Path.{◌≡◌, refl, sym, ap, subst, ◌∙◌}
use mathlib.Core.Bool.{Bool, true, false, cond, not}
use mathlib.Core.List.{List, [], ◌∷◌}
use mathlib.Core.Option.{Option, none, some}
use native.Mathlib.Omega.{arith}
use lib.Dec.{eqb, leb, ltb}
use lib.ListN.{length}
use borrow.Author.Tests.{ltb-true, ltb-false, lt-ltb, le-ltb, eqb-true, eqb-false, eq-eqb, ne_eqb, leb-true, le-leb}
use Rattle.spec.specs.Lists.{◌and◌, ◌or◌, every, find, rising, put, is_some}
use Rattle.spec.specs.Node.Refused.{counted}
use Rattle.spec_laws.proofs.Lists.{by-test, not_both, and_true, and_left, and_right, none_some, some_same}
use Rattle.spec_laws.proofs.Rising.{ByKey, rising_tail, rising-head, put-rising}
use Rattle.spec_laws.proofs.Map.Rows.{every-put, find-put, find_put_other, put-most}
use Rattle.spec_laws.proofs.Map.Orders.{by_key_lem, numbers}
use Rattle.spec_callers.specs.Counts.{Row, Counts, row, row_below, is_caller, is_other, max_others, well_formed_counts, refused_in, count_of, has_place, room_for, set_count, placed_at, placed, moved_at, moved_for, Effect, for_zero, if_placed, nothing, places, counts, after}

pub rows_by_caller : ByKey row_below
rows_by_caller = by_key_lem ltb numbers (λ (r : Row). r.caller)

-- ---- one count set

pub count_set_lem : (c : Counts) (who n : ℕ) → count_of (set_count c who n) who ≡ some n
unfolding count_of set_count
count_set_lem c zero n = refl
count_set_lem c (suc w) n =
    ap refused_in
    (find-put (is_caller (suc w)) row_below (row (suc w) n) (eq-eqb (suc w) (suc w) refl)
    (λ y q. ne_eqb y.caller (suc w) (λ e. omega (arith, ltb-true y.caller (suc w) q, e))) c.rows)

pub count-other : (c : Counts) (who n other : ℕ) → (other ≡ who → ⊥) → count_of (set_count c who n) other ≡ count_of c other
unfolding count_of set_count
count-other c zero n zero d = absurd (d refl)
count-other c zero n (suc o) d = refl
count-other c (suc w) n zero d = refl
count-other c (suc w) n (suc o) d =
    ap refused_in
    (find_put_other (is_caller (suc o)) row_below (row (suc w) n) (ne_eqb (suc w) (suc o) (λ e. d (sym e)))
    (λ y p q. ne_eqb y.caller (suc o)
    (λ e. d (sym (omega (arith, ltb-false (suc w) y.caller p, ltb-false y.caller (suc w) q, e))))) c.rows)

-- ---- what a call moves

-- whose count a call can move: a 21 is counted for 0
abbrev pub whose : (who : ℕ) → Effect → ℕ
whose who for_zero = 0
whose who if_placed = who
whose who nothing = who
whose who places = who
whose who counts = who

module _ (c : Counts) where
  moved_other : (who other : ℕ) → (other ≡ who → ⊥) → count_of (moved_for c who) other ≡ count_of c other
  unfolding moved_for
  moved_other who other d = go (count_of c who)
    where
      go : (o : Option ℕ) → count_of (moved_at c who o) other ≡ count_of c other
      go none = refl
      go (some n) = count-other c who (counted n true) other d

  placed-other : (who other : ℕ) → (other ≡ who → ⊥) → count_of (placed c who) other ≡ count_of c other
  unfolding placed
  placed-other who other d = go (count_of c who)
    where
      go : (o : Option ℕ) → count_of (placed_at c who o) other ≡ count_of c other
      go none = count-other c who 0 other d
      go (some n) = refl

-- 'a refused call by one caller moves that caller's count only': count and place of every other stay
pub others_stay : (c : Counts) (who other : ℕ) (e : Effect) → (other ≡ whose who e → ⊥) → count_of (after c who e) other ≡ count_of c other
unfolding after
others_stay c who other for_zero d = moved_other c 0 other d
others_stay c who other if_placed d = moved_other c who other d
others_stay c who other nothing d = refl
others_stay c who other places d = placed-other c who other d
others_stay c who other counts d = moved_other (placed c who) who other d ∙ placed-other c who other d

-- ---- places

-- a caller's own count after it moved
pub moved_own : (c : Counts) (who n : ℕ) → count_of c who ≡ some n → count_of (moved_for c who) who ≡ some (counted n true)
unfolding moved_for
moved_own c who n e = rw e (count_set_lem c who (counted n true))

-- without a place nothing moves
pub moved_none : (c : Counts) (who : ℕ) → count_of c who ≡ none → moved_for c who ≡ c
unfolding moved_for
moved_none c who e = rw e

pub placed-new : (c : Counts) (who : ℕ) → count_of c who ≡ none → count_of (placed c who) who ≡ some 0
unfolding placed
placed-new c who e = rw e (count_set_lem c who 0)

pub placed-old : (c : Counts) (who n : ℕ) → count_of c who ≡ some n → placed c who ≡ c
unfolding placed
placed-old c who n e = rw e

-- a first call that is refused past 24 begins at 1; a later one adds 1
pub first-counts : (c : Counts) (who : ℕ) → count_of c who ≡ none → count_of (after c who counts) who ≡ some (counted 0 true)
unfolding after
first-counts c who e = moved_own (placed c who) who 0 (placed-new c who e)

pub later_counts : (c : Counts) (who n : ℕ) → count_of c who ≡ some n → count_of (after c who counts) who ≡ some (counted n true)
unfolding after
later_counts c who n e = rw (placed-old c who n e) (moved_own c who n e)

-- 'take a place at their first call past 21, 22 and 24, also one then refused with 17 to 20 or 23'
abbrev pub takes : Effect → Bool
takes for_zero = false
takes if_placed = false
takes nothing = false
takes places = true
takes counts = true

moved_place : (c : Counts) (who x : ℕ) → has_place (moved_for c who) x ≡ has_place c x
unfolding moved_for
moved_place c who x = go (count_of c who) refl
  where
    same : (n : ℕ) → count_of c who ≡ some n → (b : Bool) → eqb x who ≡ b → has_place (set_count c who (counted n true)) x ≡ has_place c x
    same n e true q =
        let k : x ≡ who = eqb-true x who q in
        subst (λ (y : ℕ). has_place (set_count c who (counted n true)) y ≡ has_place c y) (sym k)
        (ap is_some (count_set_lem c who (counted n true)) ∙ ap is_some (sym e))
    same n e false q = ap is_some (count-other c who (counted n true) x (eqb-false x who q))

    go : (o : Option ℕ) → count_of c who ≡ o → has_place (moved_at c who o) x ≡ has_place c x
    go none e = refl
    go (some n) e = same n e (eqb x who) refl

placed-place : (c : Counts) (who x : ℕ) → has_place (placed c who) x ≡ (eqb x who or has_place c x)
unfolding placed ◌or◌
placed-place c who x = go (count_of c who) refl (eqb x who) refl
  where
    go : (o : Option ℕ) → count_of c who ≡ o → (b : Bool) → eqb x who ≡ b → has_place (placed_at c who o) x ≡ (b or has_place c x)
    go none e true q =
        subst (λ (y : ℕ). has_place (set_count c who 0) y ≡ true) (sym (eqb-true x who q)) (ap is_some (count_set_lem c who 0))
    go none e false q = ap is_some (count-other c who 0 x (eqb-false x who q))
    go (some n) e true q = subst (λ (y : ℕ). has_place c y ≡ true) (sym (eqb-true x who q)) (ap is_some e)
    go (some n) e false q = refl

-- who has a place after a call: who had one, and the caller of one past 21, 22, 24 and 32
pub places-after : (c : Counts) (who x : ℕ) (e : Effect) → has_place (after c who e) x ≡ ((takes e and eqb x who) or has_place c x)
unfolding after ◌and◌ ◌or◌
places-after c who x for_zero = moved_place c 0 x
places-after c who x if_placed = moved_place c who x
places-after c who x nothing = refl
places-after c who x places = placed-place c who x
places-after c who x counts = moved_place (placed c who) who x ∙ placed-place c who x

or_right : (a b : Bool) → b ≡ true → (a or b) ≡ true
unfolding ◌or◌
or_right true b e = refl
or_right false b e = e

-- 'and keep it'
pub place_kept : (c : Counts) (who x : ℕ) (e : Effect) → has_place c x ≡ true → has_place (after c who e) x ≡ true
place_kept c who x e h = places-after c who x e ∙ or_right (takes e and eqb x who) (has_place c x) h

-- ---- at most 32

-- in a rising list nothing stands above its first
above : (w : ℕ) (x : Row) (xs : List Row) → w < x.caller → rising row_below (x ∷ xs) ≡ true → find (is_caller w) (x ∷ xs) ≡ none
unfolding find
above w x [] l r = rw (ne_eqb x.caller w (λ e. omega (arith, l, e)))
above w x (y ∷ ys) l r =
    let h = ltb-true x.caller y.caller (rising-head row_below rows_by_caller x (y ∷ ys) r) in
    rw (ne_eqb x.caller w (λ e. omega (arith, l, e))) (above w y ys (omega (arith, l, h)) (rising_tail row_below rows_by_caller x (y ∷ ys) r))

-- a row that is there is written over
in_place : (w n : ℕ) (l : List Row) (r : Row) → rising row_below l ≡ true → find (is_caller w) l ≡ some r → length (put row_below (row w n) l) ≡ length l
unfolding find put
in_place w n [] r rise e = none_some e
in_place w n (y ∷ ys) r rise e =
    by-test (λ (v : List Row). length v ≡ suc (length ys)) (ltb w y.caller) {x = row w n ∷ y ∷ ys}
    (λ q. none_some (sym (above w y ys (ltb-true w y.caller q) rise) ∙ e))
    (λ q. by-test (λ (v : List Row). length v ≡ suc (length ys)) (ltb y.caller w) {x = y ∷ put row_below (row w n) ys} {y = row w n ∷ ys}
    (λ s. ap suc (in_place w n ys r (rising_tail row_below rows_by_caller y ys rise) (rest s)))
    (λ s. refl))
  where
    rest : ltb y.caller w ≡ true → find (is_caller w) ys ≡ some r
    rest s = sym (ap (λ (b : Bool). cond b (some y) (find (is_caller w) ys)) (ne_eqb y.caller w (λ k. omega (arith, ltb-true y.caller w s, k)))) ∙ e

-- well-formed counts, part by part
module _ (c : Counts) (h : well_formed_counts c ≡ true) where
  few : length c.rows ≤ max_others
  unfolding well_formed_counts
  few = leb-true (length c.rows) max_others (and_left (leb (length c.rows) max_others) _ h)

  others : every is_other c.rows ≡ true
  unfolding well_formed_counts
  others = and_left (every is_other c.rows) _ (and_right (leb (length c.rows) max_others) _ h)

  rise : rising row_below c.rows ≡ true
  unfolding well_formed_counts
  rise = and_right (every is_other c.rows) _ (and_right (leb (length c.rows) max_others) _ h)

  -- a count set in its place, or in one of the 31 that is free
  set-formed : (who n : ℕ) → room_for c who ≡ true → well_formed_counts (set_count c who n) ≡ true
  unfolding well_formed_counts set_count room_for count_of ◌or◌
  set-formed zero n p = h
  set-formed (suc w) n p =
      let rs = put row_below (row (suc w) n) c.rows in
      and_true (leb (length rs) max_others) _ (le-leb (length rs) max_others (length-after p))
      (and_true (every is_other rs) _
      (every-put is_other row_below (row (suc w) n) c.rows (lt-ltb 0 (suc w) (omega arith)) others)
      (put-rising row_below rows_by_caller (row (suc w) n) c.rows rise))
    where
      after_test : (o : Option Row) → find (is_caller (suc w)) c.rows ≡ o → (is_some (refused_in o) or ltb (length c.rows) max_others) ≡ true
          → length (put row_below (row (suc w) n) c.rows) ≤ max_others
      after_test (some r) e q = omega (arith, few, in_place (suc w) n c.rows r rise e)
      after_test none e q =
          omega (arith, put-most row_below (row (suc w) n) c.rows, ltb-true (length c.rows) max_others (none_left q))
        where
          none_left : (false or ltb (length c.rows) max_others) ≡ true → ltb (length c.rows) max_others ≡ true
          none_left r = r

      length-after : room_for c (suc w) ≡ true → length (put row_below (row (suc w) n) c.rows) ≤ max_others
      length-after q = after_test (find (is_caller (suc w)) c.rows) refl q

-- ---- what stays well formed

moved_formed : (c : Counts) (who : ℕ) → well_formed_counts c ≡ true → well_formed_counts (moved_for c who) ≡ true
unfolding moved_for room_for ◌or◌
moved_formed c who h = go (count_of c who) refl
  where
    go : (o : Option ℕ) → count_of c who ≡ o → well_formed_counts (moved_at c who o) ≡ true
    go none e = h
    go (some n) e = set-formed c h who (counted n true) (rw e)

placed-formed : (c : Counts) (who : ℕ) → well_formed_counts c ≡ true → room_for c who ≡ true → well_formed_counts (placed c who) ≡ true
unfolding placed
placed-formed c who h p = go (count_of c who)
  where
    go : (o : Option ℕ) → well_formed_counts (placed_at c who o) ≡ true
    go none = set-formed c h who 0 p
    go (some n) = h

-- 'at most 32 callers': a call that takes a place has room for it (32 otherwise), and leaves counts that are not malformed
pub stays_well_formed : (c : Counts) (who : ℕ) (e : Effect) → well_formed_counts c ≡ true → (takes e ≡ true → room_for c who ≡ true)
    → well_formed_counts (after c who e) ≡ true
unfolding after
stays_well_formed c who for_zero h p = moved_formed c 0 h
stays_well_formed c who if_placed h p = moved_formed c who h
stays_well_formed c who nothing h p = h
stays_well_formed c who places h p = placed-formed c who h (p refl)
stays_well_formed c who counts h p = moved_formed (placed c who) who (placed-formed c who h (p refl))

-- and so with caller 0 they are 32 at most
pub at_most_32 : (c : Counts) → well_formed_counts c ≡ true → suc (length c.rows) ≤ 32
at_most_32 c h = omega (arith, few c h)

-- 'Caller 0 always has its count'
pub zero_placed : (c : Counts) → has_place c 0 ≡ true
unfolding count_of
zero_placed c = refl

-- and room: it is never answered 32
pub zero_room : (c : Counts) → room_for c 0 ≡ true
unfolding room_for count_of ◌or◌
zero_room c = refl

-- ---- the first edition alone

-- of a call of caller 0: no row appears, and its count is the one count of paper 01
abbrev pub refuses : Effect → Bool
refuses for_zero = true
refuses if_placed = true
refuses nothing = false
refuses places = false
refuses counts = true

pub one_edition : (c : Counts) (e : Effect) → after c 0 e ≡ record { zeros = counted c.zeros (refuses e); rows = c.rows }
unfolding after moved_for placed count_of set_count counted
one_edition c for_zero = refl
one_edition c if_placed = refl
one_edition c nothing = refl
one_edition c places = refl
one_edition c counts = refl

-- a list of calls of the first edition: no row appears, and caller 0's count is paper 01's one count of the refused ones
abbrev pub after_all : Counts → List Effect → Counts
after_all c [] = c
after_all c (e ∷ es) = after_all (after c 0 e) es

abbrev pub one_count : ℕ → List Effect → ℕ
one_count n [] = n
one_count n (e ∷ es) = one_count (counted n (refuses e)) es

pub one_edition_one_count : (c : Counts) (es : List Effect) → after_all c es ≡ record { zeros = one_count c.zeros es; rows = c.rows }
one_edition_one_count c [] = refl
one_edition_one_count c (e ∷ es) = ap (λ (x : Counts). after_all x es) (one_edition c e) ∙ one_edition_one_count (record { zeros = counted c.zeros (refuses e); rows = c.rows }) es

-- counts that only calls have written, from none on, are never malformed: each call that takes a place had room for it
pub record Called : Type 0 where
  pub caller : ℕ
  pub effect : Effect

abbrev pub Roomy : Counts → List Called → Type 0
Roomy c [] = Unit {0}
Roomy c (x ∷ xs) = (takes x.effect ≡ true → room_for c x.caller ≡ true) × Roomy (after c x.caller x.effect) xs

abbrev pub called : Counts → List Called → Counts
called c [] = c
called c (x ∷ xs) = called (after c x.caller x.effect) xs

pub never_malformed : (c : Counts) → well_formed_counts c ≡ true → (xs : List Called) → Roomy c xs → well_formed_counts (called c xs) ≡ true
never_malformed c h [] r = h
never_malformed c h (x ∷ xs) r = never_malformed (after c x.caller x.effect) (stays_well_formed c x.caller x.effect h r.0) xs r.1
