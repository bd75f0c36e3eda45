-- Laws of picking: one store read into fresh columns, and the ways out of the whole. Assumes nothing.
use Prim.Native.Nat.{ℕ, ◌+◌, ◌≤◌, ◌<◌}
use mathlib.Core.Path.{◌≡◌, refl, sym, ap, subst, ◌∙◌}
use mathlib.Core.Bool.{Bool, true, false, cond}
use mathlib.Core.List.{List}
use native.Mathlib.Omega.{arith}
use lib.Dec.{leb, ltb}
use lib.Ieee.{Float}
use lib.ListN.{length, length-replicate}
use borrow.Author.Tests.{lt-ltb, le-ltb, le-leb, lt-leb, eq-eqb}
use Rattle.spec.specs.Lists.{◌and◌}
use Rattle.spec.specs.Keys.{Key}
use Rattle.spec.specs.Layout.Format.{Bytes}
use Rattle.spec.specs.Node.Wire.{float_of}
use Rattle.spec_laws.proofs.Lists.{and_true, and_left, not_both}
use Rattle.log_check.proofs.Answers.{true_if}
use Rattle.image_parts.proofs.Tests.{none_of_third, all_of}
use Rattle.node_header.specs.declared.HeldRow.{HeldRow}
use Rattle.node_header.specs.declared.Node.{Node}
use Rattle.node_lent.specs.Lend.{LentStore, place_of}
use Rattle.image_header.specs.declared.Lent.{Lent}
use Rattle.image_header.specs.Image.{header_lent, node_at, no_node, lent_header}
use Rattle.image_store.specs.Read.{sizes_fit, room_for, all_readable, Reads}
use Rattle.image_store.proofs.Sizes.{on, off, known}
use Rattle.image_node.specs.Lent.{no_lent_store, begin_of, held_row_readable, lent_store_at, holds_key, readable, lent_store_in, lends_state, Picks, HeldRowRead}

-- ---- one store

-- fresh columns have the sizes that a read asks for
fresh-fits : (image base count a b c d e f g floats : ℕ) → base + 174080 ≤ image → a ≡ 1024 → b ≡ 1024 → c ≡ 1024 → d ≡ 1024 → e ≡ 1024 → f ≡ 1024
    → g ≡ 1024 → floats ≡ 32768 → sizes_fit image base count a b c d e f g floats ≡ leb count 1024
unfolding sizes_fit
fresh-fits image base count a b c d e f g floats there ea eb ec ed ee ef eg em =
    true_if (sizes_fit image base count a b c d e f g floats) (leb count 1024)
    (λ h. le-leb count 1024 (known image base count a b c d e f g floats h).count)
    (λ h.
    and_true _ _ (le-leb (base + 174080) image there)
    (and_true _ _ h
    (and_true _ _ (eq-eqb a 1024 ea)
    (and_true _ _ (eq-eqb b 1024 eb)
    (and_true _ _ (eq-eqb c 1024 ec)
    (and_true _ _ (eq-eqb d 1024 ed)
    (and_true _ _ (eq-eqb e 1024 ee)
    (and_true _ _ (eq-eqb f 1024 ef)
    (and_true _ _ (eq-eqb g 1024 eg) (eq-eqb floats 32768 em))))))))))

pub floats-whole : length no_lent_store.columns.floats ≡ 32768
unfolding no_lent_store
floats-whole = length-replicate {A = Float} 32768 (float_of 0)

module _ (s : List ℕ) (x : HeldRow) (there : 1392640 ≤ length s) (slot : x.slot < 8) where
  fresh-room : room_for s (begin_of x) x.held.last no_lent_store.columns no_lent_store.keys no_lent_store.places ≡ leb x.held.last 1024
  unfolding no_lent_store
  fresh-room =
      let z = length-replicate {A = ℕ} 1024 0 in
      fresh-fits (length s) (begin_of x) x.held.last _ _ _ _ _ _ _ _ (omega arith) z z z z z z z floats-whole

  read-fresh : (b : LentStore) (r : Bool)
      → Reads s (begin_of x) x.held.last no_lent_store.columns b.columns no_lent_store.keys no_lent_store.places b.keys b.places r
      → Bytes s → HeldRowRead s x b r
  unfolding held_row_readable lent_store_at
  read-fresh b r q bytes =
      let room = room_for s (begin_of x) x.held.last no_lent_store.columns no_lent_store.keys no_lent_store.places in
      let all = all_readable s (begin_of x) x.held.last in
      record {
        answer = q.answer ∙ ap (λ (t : Bool). t and all) fresh-room ∙ on (ltb x.slot 8) _ _ (lt-ltb x.slot 8 slot) refl;
        lent_store = λ e.
            let t : room ≡ true = and_left room all (sym q.answer ∙ e) in
            rw (q.columns, q.keys, q.places, t);
        bytes = λ e. bytes;
      }

  -- the store of a slot, read into fresh columns
  pub kept_read : (a b : LentStore) (r : Bool) (base : ℕ) → a ≡ no_lent_store
      → Reads s base x.held.last a.columns b.columns a.keys a.places b.keys b.places r → base ≡ begin_of x → Bytes s
      → HeldRowRead s x b r
  kept_read a b r base fresh q e bytes =
      let p = subst (λ (i : ℕ). Reads s i x.held.last a.columns b.columns a.keys a.places b.keys b.places r) e q in
      read-fresh b r
      (subst (λ (z : LentStore). Reads s (begin_of x) x.held.last z.columns b.columns z.keys z.places b.keys b.places r) fresh p)
      bytes

-- a slot that none of the eight is
pub kept-none : (s : List ℕ) (x : HeldRow) (b : LentStore) → 8 ≤ x.slot → HeldRowRead s x b false
unfolding held_row_readable
kept-none s x b h = record { answer = off (ltb x.slot 8) _ (le-ltb x.slot 8 h); lent_store = λ e. not_both false e refl; bytes = λ e. not_both false e refl }

-- ---- the whole

-- the header that was read
pub read-node : (h : List ℕ) (l : Lent) → l ≡ lent_header h → l.found ≡ true → (header_lent h ≡ true) × (l.node ≡ node_at h)
read-node h l e t =
    let q : header_lent h ≡ true = sym (ap (λ (x : Lent). x.found) e) ∙ t in
    (q, ap (λ (x : Lent). x.node) e ∙ ap (λ (b : Bool). cond b (node_at h) no_node) q)

module _ (h s : List ℕ) (k : Key) where
  module _ (lent : header_lent h ≡ true) (n : Node) (is : n ≡ node_at h) where
    same_count : n.count ≡ (node_at h).count
    same_count = ap (λ (x : Node). x.count) is

    few_too : n.count ≤ 8 → leb (node_at h).count 8 ≡ true
    few_too few = let m = same_count in le-leb (node_at h).count 8 (omega arith)

    pub lends_short : n.count ≤ 8 → length s < 1392640 → lends_state h s k ≡ false
    unfolding lends_state
    lends_short few e =
        sym (none_of_third (header_lent h) (leb (node_at h).count 8) (leb 1392640 (length s)) _ lent (few_too few) (lt-leb 1392640 (length s) e))

    module _ (few : n.count ≤ 8) (there : 1392640 ≤ length s) where
      lends_is : readable s n k ≡ lends_state h s k
      unfolding lends_state
      lends_is =
          ap (λ (m : Node). readable s m k) is
          ∙ all_of (header_lent h) (leb (node_at h).count 8) (leb 1392640 (length s)) (readable s (node_at h) k)
          lent (few_too few) (le-leb 1392640 (length s) there)

      picks_held : (b : LentStore) (at : ℕ) (r : Bool) → r ≡ readable s n k → at ≡ place_of n k → (r ≡ true → b ≡ lent_store_in s n k)
          → (r ≡ true → holds_key n k ≡ true → Bytes s) → Picks h s k b (record { found = r; at = at; node = n })
      picks_held b at r found e read bytes =
          let f = found ∙ lends_is in
          record {
            found = f;
            read = λ t. is;
            at = λ t. e ∙ ap (λ (m : Node). place_of m k) is;
            lent_store = λ t. read (f ∙ t) ∙ ap (λ (m : Node). lent_store_in s m k) is;
            bytes = λ t q. bytes (f ∙ t) (ap (λ (m : Node). holds_key m k) is ∙ q);
          }
