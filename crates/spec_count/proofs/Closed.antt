-- Paper 02, 2.14: the six counts in closed form. Only placements with as many lists as shards can fit, so one power counts them. Assumes nothing.
use Prim.Native.Nat.{ℕ, min, ◌+◌, ◌-◌, ◌^◌}
use mathlib.Core.Path.{◌≡◌, refl, sym, ap, ◌∙◌}
use mathlib.Core.Bool.{Bool, true, false, cond, not}
use mathlib.Core.List.{List, flatten}
use native.Mathlib.Omega.{arith}
use lib.ListN.{length}
use lib.Dec.{eqb, leb, ltb}
use Rattle.spec.specs.Lists.{◌and◌, every}
use Rattle.spec.specs.Keys.{Name}
use Rattle.spec.specs.Map.Tables.{NodeInfo, Spec, Map}
use Rattle.spec.specs.Map.Create.{Placement, has_collection, zero_in, list_matches, matches, create_answer}
use Rattle.spec.specs.Map.Calls.{reason_number}
use Rattle.spec_count.specs.Tuples.{sequences, how_many}
use Rattle.spec_count.specs.Counts.{Six, placements_of, ends_in, counted, six_of}
use Rattle.spec_count.specs.Closed.{geometric, total_of, fitting_of, alive_among, room_for, closed_by, closed_six}
use Rattle.spec_count.proofs.HowMany.{many-same, many-all, many-none, many_split, every_true}
use Rattle.spec_count.proofs.Powers.{powers, many-sequences, powers-at, powers_to, length-sequences}
use Rattle.spec_count.proofs.Endings.{alive, all_alive, every_both, every_flatten, ending, number_of}

-- ---- lists of 1 to r nodes that all pass, and as many of them as shards

module _ (r : ℕ) (p : ℕ → Bool) (n : ℕ) (ids : List ℕ) where
  listed : how_many (λ (l : List ℕ). list_matches r l and every p l) (sequences n ids) ≡ geometric (how_many p ids) (min n r) - 1
  listed =
      let e = many-sequences (λ k. ltb 0 k and leb k r) p n ids in
      let f = powers_to r (how_many p ids) n in
      omega arith

  pub placed : (s k : ℕ) → how_many (λ (q : Placement). eqb (length q) s and every (λ (l : List ℕ). list_matches r l and every p l) q) (placements_of k n ids)
      ≡ fitting_of s r (how_many p ids) k n
  unfolding fitting_of
  placed s k =
      many-sequences (λ j. eqb j s) (λ (l : List ℕ). list_matches r l and every p l) k (sequences n ids)
      ∙ powers-at s (how_many (λ (l : List ℕ). list_matches r l and every p l) (sequences n ids)) k
      ∙ ap (λ (b : ℕ). cond (leb s k) (b ^ s) 0) listed

-- ---- the placements of a request

and_assoc : (a b c : Bool) → (a and b) and c ≡ a and (b and c)
unfolding ◌and◌
and_assoc true b c = refl
and_assoc false b c = refl

and_yes : (b : Bool) → b and true ≡ b
unfolding ◌and◌
and_yes true = refl
and_yes false = refl

and_no : (b : Bool) → b and false ≡ false
unfolding ◌and◌
and_no true = refl
and_no false = refl

-- a test that every node passes changes nothing
any-nodes : (f : List ℕ → Bool) (q : Placement) → every f q ≡ every (λ (l : List ℕ). f l and every (λ (n : ℕ). true) l) q
any-nodes f q =
    sym (and_yes (every f q))
    ∙ ap (λ (t : Bool). every f q and t) (sym (every_true (flatten q)) ∙ every_flatten (λ (n : ℕ). true) q)
    ∙ sym (every_both f (every (λ (n : ℕ). true)) q)

module _ (ids : List ℕ) (lists nodes : ℕ) where
  pub all_of : length (placements_of lists nodes ids) ≡ total_of (length ids) lists nodes
  unfolding total_of
  all_of = length-sequences lists (sequences nodes ids) ∙ ap (λ (b : ℕ). geometric b lists) (length-sequences nodes ids)

  module _ (spec : Spec) where
    -- 4 or not
    fit_of : how_many (matches spec) (placements_of lists nodes ids) ≡ fitting_of spec.shards spec.replication (length ids) lists nodes
    unfolding matches
    fit_of =
        many-same (matches spec) (λ (q : Placement). eqb (length q) spec.shards and every (λ (l : List ℕ). list_matches spec.replication l and every (λ (n : ℕ). true) l) q)
        (λ q. ap (λ (t : Bool). eqb (length q) spec.shards and t) (any-nodes (list_matches spec.replication) q))
        (placements_of lists nodes ids)
        ∙ placed spec.replication (λ (n : ℕ). true) nodes ids spec.shards lists
        ∙ ap (λ (b : ℕ). fitting_of spec.shards spec.replication b lists nodes) (many-all ids)

    -- .. and on live nodes
    live_of : (ns : List NodeInfo) → how_many (λ (q : Placement). matches spec q and all_alive ns q) (placements_of lists nodes ids)
        ≡ fitting_of spec.shards spec.replication (alive_among ns ids) lists nodes
    unfolding matches alive_among
    live_of ns =
        many-same (λ (q : Placement). matches spec q and all_alive ns q)
        (λ (q : Placement). eqb (length q) spec.shards and every (λ (l : List ℕ). list_matches spec.replication l and every (alive ns) l) q)
        (λ q. joined (eqb (length q) spec.shards) q) (placements_of lists nodes ids)
        ∙ placed spec.replication (alive ns) nodes ids spec.shards lists
      where
        joined : (t : Bool) (q : Placement) → (t and every (list_matches spec.replication) q) and all_alive ns q
            ≡ t and every (λ (l : List ℕ). list_matches spec.replication l and every (alive ns) l) q
        joined t q =
            and_assoc t (every (list_matches spec.replication) q) (all_alive ns q)
            ∙ ap (λ (u : Bool). t and u) (sym (every_both (list_matches spec.replication) (every (alive ns)) q))

-- ---- the six

same_six : {a b c d e f a' b' c' d' e' f' : ℕ} → a ≡ a' → b ≡ b' → c ≡ c' → d ≡ d' → e ≡ e' → f ≡ f'
    → ◌≡◌ {A = Six} (record { accepted = a; two = b; three = c; four = d; five = e; full = f })
    (record { accepted = a'; two = b'; three = c'; four = d'; five = e'; full = f' })
same_six p q r s t u = λ i. record { accepted = p i; two = q i; three = r i; four = s i; five = t i; full = u i }

ends_0 : (r t a : Bool) → eqb (ending r t a) 0 ≡ (t and a) and r
unfolding ◌and◌
ends_0 r false a = refl
ends_0 r true false = refl
ends_0 true true true = refl
ends_0 false true true = refl

ends_2 : (r t a : Bool) → eqb (ending r t a) 2 ≡ false
unfolding ◌and◌
ends_2 r false a = refl
ends_2 r true false = refl
ends_2 true true true = refl
ends_2 false true true = refl

ends_3 : (r t a : Bool) → eqb (ending r t a) 3 ≡ false
unfolding ◌and◌
ends_3 r false a = refl
ends_3 r true false = refl
ends_3 true true true = refl
ends_3 false true true = refl

ends_4 : (r t a : Bool) → eqb (ending r t a) 4 ≡ not t
unfolding ◌and◌
ends_4 r false a = refl
ends_4 r true false = refl
ends_4 true true true = refl
ends_4 false true true = refl

ends_5 : (r t a : Bool) → eqb (ending r t a) 5 ≡ t and not a
unfolding ◌and◌
ends_5 r false a = refl
ends_5 r true false = refl
ends_5 true true true = refl
ends_5 false true true = refl

ends_23 : (r t a : Bool) → eqb (ending r t a) 23 ≡ (t and a) and not r
unfolding ◌and◌
ends_23 r false a = refl
ends_23 r true false = refl
ends_23 true true true = refl
ends_23 false true true = refl

-- a test beside one that hangs on no member
many_fixed : {A : Type 0} (p : A → Bool) (xs : List A) (r : Bool) → how_many (λ (x : A). p x and r) xs ≡ cond r (how_many p xs) 0
many_fixed {A} p xs true = many-same (λ (x : A). p x and true) p (λ x. and_yes (p x)) xs
many_fixed {A} p xs false = many-same (λ (x : A). p x and false) (λ (x : A). false) (λ x. and_no (p x)) xs ∙ many-none xs

-- of any placements, by how many there are, how many fit, and how many of these are on live nodes
module _ (m : Map) (name : Name) (spec : Spec) (ps : List Placement) where
  abbrev numbered : (exists zeros room : Bool) → Placement → ℕ
  numbered exists zeros room p =
      cond exists 2 (cond zeros 3 (ending room (matches spec p) (all_alive m.nodes p)))

  module _ (exists zeros room : Bool) (e : (p : Placement) → reason_number (create_answer m name spec p) ≡ numbered exists zeros room p) (n : ℕ) where
    counted_as_lem : (f : Placement → Bool) → ((p : Placement) → eqb (numbered exists zeros room p) n ≡ f p) → counted m name spec ps n ≡ how_many f ps
    unfolding counted ends_in
    counted_as_lem f h = many-same (ends_in m name spec n) f (λ p. ap (λ (k : ℕ). eqb k n) (e p) ∙ h p) ps

    all_end : ((p : Placement) → eqb (numbered exists zeros room p) n ≡ true) → counted m name spec ps n ≡ length ps
    all_end h = counted_as_lem (λ (p : Placement). true) h ∙ many-all ps

    none-ends : ((p : Placement) → eqb (numbered exists zeros room p) n ≡ false) → counted m name spec ps n ≡ 0
    none-ends h = counted_as_lem (λ (p : Placement). false) h ∙ many-none ps

  abbrev fits : ℕ
  fits = how_many (matches spec) ps

  abbrev lives : ℕ
  lives = how_many (λ (p : Placement). matches spec p and all_alive m.nodes p) ps

  -- where Create gets to the placement itself
  module _ (room : Bool) (e : (p : Placement) → reason_number (create_answer m name spec p) ≡ numbered false false room p) where
    by : (n : ℕ) (f : Bool → Bool → Bool) → ((t a : Bool) → eqb (ending room t a) n ≡ f t a)
        → counted m name spec ps n ≡ how_many (λ (p : Placement). f (matches spec p) (all_alive m.nodes p)) ps
    by n f h = counted_as_lem false false room e n (λ (p : Placement). f (matches spec p) (all_alive m.nodes p)) (λ p. h (matches spec p) (all_alive m.nodes p))

    fours : counted m name spec ps 4 ≡ length ps - fits
    unfolding ◌and◌
    fours =
        let q = by 4 (λ t a. not t) (ends_4 room) in
        let s = many_split (λ (p : Placement). true) (matches spec) ps in
        let t = many-all ps in
        omega arith

    fives : counted m name spec ps 5 ≡ fits - lives
    fives =
        let q = by 5 (λ t a. t and not a) (ends_5 room) in
        let s = many_split (matches spec) (all_alive m.nodes) ps in
        omega arith

    passes : counted m name spec ps 0 ≡ cond room lives 0
    passes =
        by 0 (λ t a. (t and a) and room) (ends_0 room) ∙ many_fixed (λ (p : Placement). matches spec p and all_alive m.nodes p) ps room

    fulls : counted m name spec ps 23 ≡ cond room 0 lives
    fulls =
        by 23 (λ t a. (t and a) and not room) (ends_23 room)
        ∙ many_fixed (λ (p : Placement). matches spec p and all_alive m.nodes p) ps (not room) ∙ go room
      where
        go : (r : Bool) → cond (not r) lives 0 ≡ cond r 0 lives
        go true = refl
        go false = refl

  by_number : (exists zeros room : Bool) → ((p : Placement) → reason_number (create_answer m name spec p) ≡ numbered exists zeros room p)
      → six_of m name spec ps ≡ closed_by exists zeros room (length ps) fits lives
  unfolding six_of closed_by
  by_number true zeros room e =
      same_six (none-ends true zeros room e 0 (λ p. refl)) (all_end true zeros room e 2 (λ p. refl)) (none-ends true zeros room e 3 (λ p. refl))
      (none-ends true zeros room e 4 (λ p. refl)) (none-ends true zeros room e 5 (λ p. refl)) (none-ends true zeros room e 23 (λ p. refl))
  by_number false true room e =
      same_six (none-ends false true room e 0 (λ p. refl)) (none-ends false true room e 2 (λ p. refl)) (all_end false true room e 3 (λ p. refl))
      (none-ends false true room e 4 (λ p. refl)) (none-ends false true room e 5 (λ p. refl)) (none-ends false true room e 23 (λ p. refl))
  by_number false false room e = same_six (passes room e) (none-ends false false room e 2 (λ p. ends_2 room (matches spec p) (all_alive m.nodes p)))
      (none-ends false false room e 3 (λ p. ends_3 room (matches spec p) (all_alive m.nodes p))) (fours room e) (fives room e) (fulls room e)

pub closed : (m : Map) (name : Name) (spec : Spec) (ids : List ℕ) (lists nodes : ℕ)
    → six_of m name spec (placements_of lists nodes ids) ≡ closed_six m name spec ids lists nodes
unfolding closed_six
closed m name spec ids lists nodes =
    by_number m name spec (placements_of lists nodes ids) (has_collection name m.collections) (zero_in spec) (room_for m name spec.shards) (number_of m name spec)
    ∙ rw (all_of ids lists nodes, fit_of ids lists nodes spec, live_of ids lists nodes spec m.nodes)
