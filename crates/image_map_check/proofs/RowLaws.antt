-- The rows of a map that the bytes are read as, each at its place in the bytes, and what its tests come to. Assumes nothing.
use Prim.Native.Nat.{ℕ, zero, suc, ◌+◌, ◌-◌, ◌*◌, ◌≤◌, ◌<◌}
use mathlib.Core.Path.{◌≡◌, refl, sym, ap, ◌∙◌}
use mathlib.Core.Bool.{Bool, true, false}
use mathlib.Core.List.{List, [], ◌∷◌, ◌++◌, map}
use lib.Dec.{leb, ltb}
use lib.ListN.{length, get_or, take, drop, length-append, length-replicate, length-map}
use borrow.Author.Tests.{le-leb, ne_eqb}
use native.Mathlib.Omega.{arith}
use Rattle.std.proofs.Common.{inl, inr}
use Rattle.std.proofs.lemmas.Bool.{cases_lt}
use native.Mathlib.Nat.{mul-suc}
use Rattle.spec.specs.Lists.{◌and◌, lead}
use Rattle.spec.specs.Keys.{name_below, key_below, same_name, same_key}
use Rattle.spec.specs.Layout.Format.{number_at}
use Rattle.spec.specs.Map.Apply.{is_shard}
use Rattle.spec.specs.Map.Create.{is_named}
use Rattle.spec.specs.Map.WellFormed.{table_fits}
use Rattle.spec.specs.declared.DataNodeId.{DataNodeId}
use Rattle.spec.specs.declared.Replica.{Replica}
use Rattle.map_tables.specs.declared.Name.{Name}
use Rattle.map_tables.specs.declared.ShardKey.{ShardKey}
use Rattle.map_tables.specs.Names.{view_name, view_key}
use Rattle.map_tables.specs.View.{view_node, view_collection, view_shard}
use Rattle.map_tables.proofs.Tables.{scan_on, scan_stop, scan_end}
use Rattle.image_parts.specs.Shape.{value, rep, items, in_use, rows_at, u64}
use Rattle.image_parts.specs.Codes.{id_of, coded, rejection_of, outcome_of}
use Rattle.image_parts.specs.Parts.{name_at, key_at, replica_f, replica_read, replicas_at, ids_at}
use Rattle.image_parts.proofs.Images.{length-items, map-items}
use Rattle.image_map_row.specs.Rows.{node_at, collection_at, shard_at, session_at}
use Rattle.map_check.specs.Rows.{follows, node_under, node_ok, collection_under, collection_ok, shard_under, shard_ok, session_under, session_ok}
use Rattle.map_check.specs.Lent.{table_counted}
use Rattle.map_check.proofs.Scan.{Rest, rest-on, rest_stop, rest_end, table-start, table_over}
use Rattle.map_check.proofs.Rows.{wrong_row, first-row, right-row, size_over, size-within, size_both}
use Rattle.image_map.specs.Image.{map_lent, codes_listed}

module _ {A : Type 0} where
  pub item_at : (n : ℕ) (get : ℕ → A) (w at i : ℕ) (d : A) → i < n → get_or (items n get w at) i d ≡ get (at + w * i)
  item_at zero get w at i d h = absurd (omega arith)
  item_at (suc n) get w at zero d h = let q : at + w * 0 ≡ at = omega arith in rw q
  item_at (suc n) get w at (suc i) d h =
      let q : at + w + w * i ≡ at + w * suc i = omega (arith, mul-suc w i) in
      item_at n get w (at + w) i d (omega arith) ∙ ap get q

  item_then : (n : ℕ) (get : ℕ → A) (w at i : ℕ) (d : A) (ys : List A) → i < n → get_or (items n get w at ++ ys) i d ≡ get (at + w * i)
  item_then zero get w at i d ys h = absurd (omega arith)
  item_then (suc n) get w at zero d ys h = let q : at + w * 0 ≡ at = omega arith in rw q
  item_then (suc n) get w at (suc i) d ys h =
      let q : at + w + w * i ≡ at + w * suc i = omega (arith, mul-suc w i) in
      item_then n get w (at + w) i d ys (omega arith) ∙ ap get q

-- ---- a table: how many rows it has places for, and which row stands at each place in use

pub used_all : (limit n : ℕ) → n ≤ limit → in_use limit n ≡ n
used_all limit n h = rw (le-leb n limit h)

module _ {A : Type 0} (limit w at : ℕ) (get : ℕ → A) (no : A) (n : ℕ) where
  abbrev pub Rows : List A
  Rows = rows_at limit (in_use limit n) get no w at

  pub rows_long : n ≤ limit → length Rows ≡ limit
  unfolding rows_at
  rows_long h = rw (used_all limit n h) (rw (length-append, length-items, length-replicate) (omega arith))

  pub rows_row : n ≤ limit → (i : ℕ) (d : A) → i < n → get_or Rows i d ≡ get (at + w * i)
  unfolding rows_at
  rows_row h i d lt = rw (used_all limit n h) (item_then n get w at i d _ lt)

  -- one pass over the table, row after row in the bytes
  module _ {B : Type 0} (v : A → B) (lt : B → B → Bool) (c : A → Bool) (f : B → Bool) where
    abbrev under : A → A → Bool
    under a b = lt (v a) (v b)

    abbrev ok : A → Bool
    ok a = c a and f (v a)

    abbrev pub Whole : Bool
    Whole = table_counted limit c n Rows and table_fits limit lt f (map v (take n Rows))

    abbrev pub Left : ℕ → ℕ → Type 0
    Left i last = Whole ≡ Rest under ok (take n Rows) i last

    abbrev At : ℕ → ℕ → Bool
    At i last = follows under ok i (get (at + w * last)) (get (at + w * i))

    pub pass_over : limit < n → false ≡ Whole
    pass_over h = sym (table_over v limit lt c f Rows n h)

    module _ (h : n ≤ limit) where
      long : n ≤ length Rows
      long = let q = rows_long h in omega arith

      pub pass_start : Left 0 0
      pass_start = table-start v limit lt c f Rows n h long

      module _ (i last : ℕ) (q : last ≡ i - 1) (inv : Left i last) where
        at_rows : i < n → follows under ok i (get_or Rows last no) (get_or Rows i no) ≡ At i last
        at_rows k = rw (rows_row h last no (omega arith), rows_row h i no k)

        pub pass_on : i < n → At i last ≡ true → Left (i + 1) i
        pass_on k e = rest-on under ok Rows n long i last q inv no k (at_rows k ∙ e)

        pub pass_stop : i < n → At i last ≡ false → false ≡ Whole
        pass_stop k e = sym (rest_stop under ok Rows n long i last q inv no k (at_rows k ∙ e))

        pub pass_end : n ≤ i → true ≡ Whole
        pass_end k = sym (rest_end under ok Rows n long i last q inv k)

      left_to : (i : ℕ) → i ≤ n → ((k : ℕ) → k < i → At k (k - 1) ≡ true) → Left i (i - 1)
      left_to zero le f = pass_start
      left_to (suc i) le f =
          let q : suc i ≡ i + 1 = omega arith in let z : i + 1 - 1 ≡ i = omega arith in
          rw (q, z) (pass_on i (i - 1) refl (left_to i (omega arith) (λ k lt. f k (omega arith))) (omega arith) (f i (omega arith)))

      -- each row follows the one before it, or the first that does not
      pub pass_all : ((i : ℕ) → i < n → At i (i - 1) ≡ true) → true ≡ Whole
      pass_all f = pass_end n (n - 1) refl (left_to n (omega arith) f) (omega arith)

      pub pass_some : (i : ℕ) → i < n → ((k : ℕ) → k < i → At k (k - 1) ≡ true) → At i (i - 1) ≡ false → false ≡ Whole
      pass_some i lt f e = pass_stop i (i - 1) refl (left_to i (omega arith) f) lt e

  -- where a row stands
  module _ {B : Type 0} (v : A → B) (p : B → Bool) where
    abbrev pub Scan : ℕ → Type 0
    Scan i = lead p (map v (take n Rows)) ≡ i + lead p (drop i (map v (take n Rows)))

    module _ (h : n ≤ limit) (i : ℕ) (inv : Scan i) where
      room : n ≤ length Rows
      room = let q = rows_long h in omega arith

      pub led_stop : i < n → p (v (get (at + w * i))) ≡ false → i ≡ lead p (map v (take n Rows))
      led_stop k e = scan_stop v Rows n room p i inv no k (ap (λ (x : A). p (v x)) (rows_row h i no k) ∙ e)

      pub led_on : i < n → p (v (get (at + w * i))) ≡ true → Scan (i + 1)
      led_on k e = scan_on v Rows n room p i inv no k (ap (λ (x : A). p (v x)) (rows_row h i no k) ∙ e)

      pub led_end : n ≤ i → i ≡ lead p (map v (take n Rows))
      led_end k = scan_end v Rows n room p i inv k

    -- the first row of which p is false, or the end
    module _ (h : n ≤ limit) where
      led_to : (i : ℕ) → i ≤ n → ((k : ℕ) → k < i → p (v (get (at + w * k))) ≡ true) → Scan i
      led_to zero le f = omega arith
      led_to (suc i) le f =
          let q : suc i ≡ i + 1 = omega arith in
          rw q (led_on h i (led_to i (omega arith) (λ k lt. f k (omega arith))) (omega arith) (f i (omega arith)))

      pub led_first : (r : ℕ) → r ≤ n → ((k : ℕ) → k < r → p (v (get (at + w * k))) ≡ true) → (r < n → p (v (get (at + w * r))) ≡ false)
          → r ≡ lead p (map v (take n Rows))
      led_first r le f g =
          elim (cases_lt r n) [ inl lt ↦ led_stop h r (led_to r le f) lt (g lt) | inr ge ↦ led_end h r (led_to r le f) ge ]

-- ---- a buffer that is long enough

pub listed_lent : (s : List ℕ) → 26536 ≤ length s → codes_listed s ≡ map_lent s
unfolding map_lent ◌and◌
listed_lent s h = rw (le-leb 26536 (length s) h)

-- ---- a row after another, by its numbers

both_below : (a b x y : ℕ) → a ≡ x → b ≡ y → ltb a b ≡ ltb x y
both_below a b x y e f = rw (e, f)

client_under : (s : List ℕ) (p q : ℕ) → session_under (session_at s p) (session_at s q) ≡ ltb (number_at 8 s p) (number_at 8 s q)
unfolding session_at
client_under s p q = refl

module _ (s : List ℕ) (i before at : ℕ) where
  pub node_over : 64 < number_at 8 s (at + 24) → false ≡ follows node_under node_ok i (node_at s before) (node_at s at)
  unfolding node_at
  node_over h = sym (wrong_row node_under node_ok i (node_at s before) (node_at s at) (size_over _ 64 _ h))

  pub node-first : number_at 8 s (at + 24) ≤ 64 → i ≡ 0 → true ≡ follows node_under node_ok i (node_at s before) (node_at s at)
  unfolding node_at
  node-first h e = sym (first-row node_under node_ok i (node_at s before) (node_at s at) e ∙ size-within _ 64 _ h)

  pub node-after : number_at 8 s (at + 24) ≤ 64 → (i ≡ 0 → ⊥) → (a b : ℕ) → a ≡ number_at 8 s before → b ≡ number_at 8 s at
      → ltb a b ≡ follows node_under node_ok i (node_at s before) (node_at s at)
  unfolding node_at
  node-after h ne a b e f = both_below a b _ _ e f ∙ sym (right-row node_under node_ok i (node_at s before) (node_at s at) ne (size-within _ 64 _ h))

  pub collection_over : 32 < number_at 8 s at → false ≡ follows collection_under collection_ok i (collection_at s before) (collection_at s at)
  unfolding collection_at
  collection_over h = sym (wrong_row collection_under collection_ok i (collection_at s before) (collection_at s at) (size_over _ 32 _ h))

  pub collection-first : number_at 8 s at ≤ 32 → i ≡ 0 → true ≡ follows collection_under collection_ok i (collection_at s before) (collection_at s at)
  unfolding collection_at
  collection-first h e = sym (first-row collection_under collection_ok i (collection_at s before) (collection_at s at) e ∙ size-within _ 32 _ h)

  pub collection-after : number_at 8 s at ≤ 32 → (i ≡ 0 → ⊥) → (r : Bool) → r ≡ collection_under (collection_at s before) (collection_at s at)
      → r ≡ follows collection_under collection_ok i (collection_at s before) (collection_at s at)
  unfolding collection_at
  collection-after h ne r e = e ∙ sym (right-row collection_under collection_ok i (collection_at s before) (collection_at s at) ne (size-within _ 32 _ h))

  pub shard_wrong : shard_ok (shard_at s at) ≡ false → false ≡ follows shard_under shard_ok i (shard_at s before) (shard_at s at)
  shard_wrong e = sym (wrong_row shard_under shard_ok i (shard_at s before) (shard_at s at) e)

  pub shard-first : shard_ok (shard_at s at) ≡ true → i ≡ 0 → true ≡ follows shard_under shard_ok i (shard_at s before) (shard_at s at)
  shard-first h e = sym (first-row shard_under shard_ok i (shard_at s before) (shard_at s at) e ∙ h)

  pub shard-after : shard_ok (shard_at s at) ≡ true → (i ≡ 0 → ⊥) → (r : Bool) → r ≡ shard_under (shard_at s before) (shard_at s at)
      → r ≡ follows shard_under shard_ok i (shard_at s before) (shard_at s at)
  shard-after h ne r e = e ∙ sym (right-row shard_under shard_ok i (shard_at s before) (shard_at s at) ne h)

  pub session_wrong : session_ok (session_at s at) ≡ false → false ≡ follows session_under session_ok i (session_at s before) (session_at s at)
  session_wrong e = sym (wrong_row session_under session_ok i (session_at s before) (session_at s at) e)

  pub session-first : session_ok (session_at s at) ≡ true → i ≡ 0 → true ≡ follows session_under session_ok i (session_at s before) (session_at s at)
  session-first h e = sym (first-row session_under session_ok i (session_at s before) (session_at s at) e ∙ h)

  pub session-after : session_ok (session_at s at) ≡ true → (i ≡ 0 → ⊥) → (a b : ℕ) → a ≡ number_at 8 s before → b ≡ number_at 8 s at
      → ltb a b ≡ follows session_under session_ok i (session_at s before) (session_at s at)
  session-after h ne a b e f =
      both_below a b _ _ e f ∙ sym (client_under s before at) ∙ sym (right-row session_under session_ok i (session_at s before) (session_at s at) ne h)

module _ (s : List ℕ) (at : ℕ) where
  pub name-under : (q : ℕ) → collection_under (collection_at s at) (collection_at s q) ≡ name_below (view_name (name_at s at)) (view_name (name_at s q))
  unfolding collection_at name_at
  name-under q = refl

  pub key-under : (q : ℕ) → shard_under (shard_at s at) (shard_at s q) ≡ key_below (view_key (key_at s at)) (view_key (key_at s q))
  unfolding shard_at key_at
  key-under q = refl

  pub shard-key : (shard_at s at).key ≡ key_at s at
  unfolding shard_at key_at
  shard-key = refl

  -- a key that was compared with that of a row
  pub key-hit : (key k : ShardKey) → k ≡ key_at s at → (r : Bool) → r ≡ same_key (view_key k) (view_key key) → is_shard (view_key key) (view_shard (shard_at s at)) ≡ r
  key-hit key k e r f = sym (f ∙ ap (λ (x : ShardKey). same_key (view_key x) (view_key key)) (e ∙ sym shard-key))

  pub name-is : (shard_at s at).key.collection.len ≡ number_at 8 s at
  unfolding shard_at
  name-is = refl

  pub held-is : (shard_at s at).replicas.count ≡ number_at 8 s (at + 64)
  unfolding shard_at
  held-is = refl

  pub synced_is : (shard_at s at).insync.count ≡ number_at 8 s (at + 72)
  unfolding shard_at
  synced_is = refl

  pub replicas-is : (shard_at s at).replicas.items ≡ replicas_at s (at + 80)
  unfolding shard_at replicas_at
  replicas-is = refl

  pub ids-is : (shard_at s at).insync.items ≡ ids_at s (at + 208)
  unfolding shard_at ids_at
  ids-is = refl

  pub client_is : (session_at s at).client ≡ number_at 8 s at
  unfolding session_at
  client_is = refl

  pub replicas_long : length (replicas_at s at) ≡ 8
  unfolding replicas_at
  replicas_long = length-map (value (rep 8 replica_f) s at) replica_read ∙ length-items 8 (value replica_f s) 16 at

  pub replica-row : (i : ℕ) (d : Replica) → i < 8 → (get_or (replicas_at s at) i d).node.0 ≡ number_at 8 s (at + 16 * i)
  unfolding replicas_at
  replica-row i d h = ap (λ (l : List Replica). (get_or l i d).node.0) (map-items replica_read 8 (value replica_f s) 16 at) ∙ ap (λ (r : Replica). r.node.0) (item_at 8 (λ p. replica_read (value replica_f s p)) 16 at i d h)

  pub ids_long : length (ids_at s at) ≡ 8
  unfolding ids_at
  ids_long = length-map (value (rep 8 u64) s at) id_of ∙ length-items 8 (value u64 s) 8 at

  pub id-row : (i : ℕ) (d : DataNodeId) → i < 8 → get_or (ids_at s at) i d ≡ id_of (number_at 8 s (at + 8 * i))
  unfolding ids_at
  id-row i d h = ap (λ (l : List DataNodeId). get_or l i d) (map-items id_of 8 (value u64 s) 8 at) ∙ item_at 8 (λ p. id_of (value u64 s p)) 8 at i d h

-- ---- what is remembered, by its code

abbrev pub code_ok : ℕ → Bool → Bool
code_ok c fits = get_or (true ∷ false ∷ fits ∷ true ∷ true ∷ true ∷ fits ∷ true ∷ true ∷ fits ∷ fits ∷ true ∷ true ∷ true ∷ true ∷ true ∷ true ∷ []) c false

module _ (s : List ℕ) (at a b : ℕ) (k : ShardKey) where
  abbrev remembered : ℕ → Bool
  remembered c = session_ok (record { client = a; seq = b; outcome = outcome_of (coded c (number_at 8 s (at + 64)) (number_at 8 s (at + 72))); key = k })

  code_ok_lem : (c : ℕ) → code_ok c (leb k.collection.len 32) ≡ remembered c
  unfolding ◌and◌ outcome_of rejection_of
  code_ok_lem zero = refl
  code_ok_lem (suc zero) = refl
  code_ok_lem (suc (suc zero)) = sym (size_both k.collection.len 32 k.collection.bytes)
  code_ok_lem (suc (suc (suc zero))) = refl
  code_ok_lem (suc (suc (suc (suc zero)))) = refl
  code_ok_lem (suc (suc (suc (suc (suc zero))))) = refl
  code_ok_lem (suc (suc (suc (suc (suc (suc zero)))))) = sym (size_both k.collection.len 32 k.collection.bytes)
  code_ok_lem (suc (suc (suc (suc (suc (suc (suc zero))))))) = refl
  code_ok_lem (suc (suc (suc (suc (suc (suc (suc (suc zero)))))))) = refl
  code_ok_lem (suc (suc (suc (suc (suc (suc (suc (suc (suc zero))))))))) = sym (size_both k.collection.len 32 k.collection.bytes)
  code_ok_lem (suc (suc (suc (suc (suc (suc (suc (suc (suc (suc zero)))))))))) = sym (size_both k.collection.len 32 k.collection.bytes)
  code_ok_lem (suc (suc (suc (suc (suc (suc (suc (suc (suc (suc (suc zero))))))))))) = refl
  code_ok_lem (suc (suc (suc (suc (suc (suc (suc (suc (suc (suc (suc (suc zero)))))))))))) = refl
  code_ok_lem (suc (suc (suc (suc (suc (suc (suc (suc (suc (suc (suc (suc (suc zero))))))))))))) = refl
  code_ok_lem (suc (suc (suc (suc (suc (suc (suc (suc (suc (suc (suc (suc (suc (suc zero)))))))))))))) = refl
  code_ok_lem (suc (suc (suc (suc (suc (suc (suc (suc (suc (suc (suc (suc (suc (suc (suc zero))))))))))))))) = refl
  code_ok_lem (suc (suc (suc (suc (suc (suc (suc (suc (suc (suc (suc (suc (suc (suc (suc (suc zero)))))))))))))))) = refl
  code_ok_lem (suc (suc (suc (suc (suc (suc (suc (suc (suc (suc (suc (suc (suc (suc (suc (suc (suc c))))))))))))))))) = rw (ne_eqb (suc (suc (suc (suc (suc (suc (suc (suc (suc (suc (suc (suc (suc (suc (suc (suc (suc c))))))))))))))))) 0 (λ e. omega arith))

pub session-code : (s : List ℕ) (at : ℕ) → code_ok (number_at 4 s (at + 60)) (leb (number_at 8 s (at + 16)) 32) ≡ session_ok (session_at s at)
unfolding session_at
session-code s at = code_ok_lem s at (session_at s at).client (session_at s at).seq (session_at s at).key (number_at 4 s (at + 60))

module _ (s : List ℕ) (at k : ℕ) (e : number_at 4 s (at + 60) ≡ k) where
  pub code_is : (b : Bool) → b ≡ code_ok k (leb (number_at 8 s (at + 16)) 32) → b ≡ session_ok (session_at s at)
  code_is b f = f ∙ ap (λ (c : ℕ). code_ok c (leb (number_at 8 s (at + 16)) 32)) (sym e) ∙ session-code s at

  pub code-sized : (n : ℕ) → n ≡ number_at 8 s (at + 16) → leb n 32 ≡ code_ok k (leb n 32) → leb n 32 ≡ session_ok (session_at s at)
  code-sized n h f = code_is (leb n 32) (f ∙ ap (λ (x : ℕ). code_ok k (leb x 32)) h)

-- a code that is none of the listed
pub code-none : (c : ℕ) (fits : Bool) → (c ≡ 0 → ⊥) → (c ≡ 1 → ⊥) → (c ≡ 2 → ⊥) → (c ≡ 3 → ⊥) → (c ≡ 4 → ⊥) → (c ≡ 5 → ⊥) → (c ≡ 6 → ⊥) → (c ≡ 7 → ⊥) → (c ≡ 8 → ⊥) → (c ≡ 9 → ⊥) → (c ≡ 10 → ⊥) → (c ≡ 11 → ⊥) → (c ≡ 12 → ⊥) → (c ≡ 13 → ⊥) → (c ≡ 14 → ⊥) → (c ≡ 15 → ⊥) → (c ≡ 16 → ⊥) → false ≡ code_ok c fits
code-none zero fits n0 n1 n2 n3 n4 n5 n6 n7 n8 n9 n10 n11 n12 n13 n14 n15 n16 = absurd (n0 refl)
code-none (suc zero) fits n0 n1 n2 n3 n4 n5 n6 n7 n8 n9 n10 n11 n12 n13 n14 n15 n16 = absurd (n1 refl)
code-none (suc (suc zero)) fits n0 n1 n2 n3 n4 n5 n6 n7 n8 n9 n10 n11 n12 n13 n14 n15 n16 = absurd (n2 refl)
code-none (suc (suc (suc zero))) fits n0 n1 n2 n3 n4 n5 n6 n7 n8 n9 n10 n11 n12 n13 n14 n15 n16 = absurd (n3 refl)
code-none (suc (suc (suc (suc zero)))) fits n0 n1 n2 n3 n4 n5 n6 n7 n8 n9 n10 n11 n12 n13 n14 n15 n16 = absurd (n4 refl)
code-none (suc (suc (suc (suc (suc zero))))) fits n0 n1 n2 n3 n4 n5 n6 n7 n8 n9 n10 n11 n12 n13 n14 n15 n16 = absurd (n5 refl)
code-none (suc (suc (suc (suc (suc (suc zero)))))) fits n0 n1 n2 n3 n4 n5 n6 n7 n8 n9 n10 n11 n12 n13 n14 n15 n16 = absurd (n6 refl)
code-none (suc (suc (suc (suc (suc (suc (suc zero))))))) fits n0 n1 n2 n3 n4 n5 n6 n7 n8 n9 n10 n11 n12 n13 n14 n15 n16 = absurd (n7 refl)
code-none (suc (suc (suc (suc (suc (suc (suc (suc zero)))))))) fits n0 n1 n2 n3 n4 n5 n6 n7 n8 n9 n10 n11 n12 n13 n14 n15 n16 = absurd (n8 refl)
code-none (suc (suc (suc (suc (suc (suc (suc (suc (suc zero))))))))) fits n0 n1 n2 n3 n4 n5 n6 n7 n8 n9 n10 n11 n12 n13 n14 n15 n16 = absurd (n9 refl)
code-none (suc (suc (suc (suc (suc (suc (suc (suc (suc (suc zero)))))))))) fits n0 n1 n2 n3 n4 n5 n6 n7 n8 n9 n10 n11 n12 n13 n14 n15 n16 = absurd (n10 refl)
code-none (suc (suc (suc (suc (suc (suc (suc (suc (suc (suc (suc zero))))))))))) fits n0 n1 n2 n3 n4 n5 n6 n7 n8 n9 n10 n11 n12 n13 n14 n15 n16 = absurd (n11 refl)
code-none (suc (suc (suc (suc (suc (suc (suc (suc (suc (suc (suc (suc zero)))))))))))) fits n0 n1 n2 n3 n4 n5 n6 n7 n8 n9 n10 n11 n12 n13 n14 n15 n16 = absurd (n12 refl)
code-none (suc (suc (suc (suc (suc (suc (suc (suc (suc (suc (suc (suc (suc zero))))))))))))) fits n0 n1 n2 n3 n4 n5 n6 n7 n8 n9 n10 n11 n12 n13 n14 n15 n16 = absurd (n13 refl)
code-none (suc (suc (suc (suc (suc (suc (suc (suc (suc (suc (suc (suc (suc (suc zero)))))))))))))) fits n0 n1 n2 n3 n4 n5 n6 n7 n8 n9 n10 n11 n12 n13 n14 n15 n16 = absurd (n14 refl)
code-none (suc (suc (suc (suc (suc (suc (suc (suc (suc (suc (suc (suc (suc (suc (suc zero))))))))))))))) fits n0 n1 n2 n3 n4 n5 n6 n7 n8 n9 n10 n11 n12 n13 n14 n15 n16 = absurd (n15 refl)
code-none (suc (suc (suc (suc (suc (suc (suc (suc (suc (suc (suc (suc (suc (suc (suc (suc zero)))))))))))))))) fits n0 n1 n2 n3 n4 n5 n6 n7 n8 n9 n10 n11 n12 n13 n14 n15 n16 = absurd (n16 refl)
code-none (suc (suc (suc (suc (suc (suc (suc (suc (suc (suc (suc (suc (suc (suc (suc (suc (suc c))))))))))))))))) fits n0 n1 n2 n3 n4 n5 n6 n7 n8 n9 n10 n11 n12 n13 n14 n15 n16 = refl

-- ---- where a row stands, and where it belongs

pub node-is : (s : List ℕ) (at : ℕ) → (view_node (node_at s at)).node ≡ number_at 8 s at
unfolding node_at
node-is s at = refl

pub name-hit : (s : List ℕ) (at : ℕ) (name k : Name) → k ≡ name_at s at → (b : Bool) → b ≡ same_name (view_name k) (view_name name)
    → is_named (view_name name) (view_collection (collection_at s at)) ≡ b
unfolding collection_at name_at
name-hit s at name k e b f = sym (f ∙ ap (λ (x : Name). same_name (view_name x) (view_name name)) e)

pub name-low : (s : List ℕ) (at : ℕ) (name k : Name) → k ≡ name_at s at → (b : Bool) → b ≡ name_below (view_name k) (view_name name)
    → name_below (view_collection (collection_at s at)).name (view_name name) ≡ b
unfolding collection_at name_at
name-low s at name k e b f = sym (f ∙ ap (λ (x : Name). name_below (view_name x) (view_name name)) e)

pub key-low : (s : List ℕ) (at : ℕ) (key k : ShardKey) → k ≡ key_at s at → (b : Bool) → b ≡ key_below (view_key k) (view_key key)
    → key_below (view_shard (shard_at s at)).key (view_key key) ≡ b
unfolding shard_at key_at
key-low s at key k e b f = sym (f ∙ ap (λ (x : ShardKey). key_below (view_key x) (view_key key)) e)
