-- A Write at node 1, which leads its one shard alone: its contract is met where what it is lent and leaves is computed. Assumes nothing.
use Prim.Native.Nat.{ℕ}
use mathlib.Core.Path.{◌≡◌, refl, sym, subst, ◌∙◌}
use mathlib.Core.Bool.{Bool, true, false}
use mathlib.Core.List.{List}
use mathlib.Core.Option.{some}
use Rattle.spec.specs.Keys.{Key}
use Rattle.spec.specs.Log.{Log, Vectors}
use Rattle.spec.specs.Layout.Message as message
use Rattle.spec.specs.Layout.Parts.{WireOp}
use Rattle.spec.specs.Node.Calls.{write_with}
use Rattle.spec.specs.Node.Refused as refused
use Rattle.spec_laws.proofs.Lists.{not_both, and_true}
use Rattle.spec_run.proofs.Cases.Opened.{opened}
use Rattle.log_store.specs.View.{log_of}
use Rattle.log_store.specs.Table.{rows_of, vectors_of}
use Rattle.log_calls.specs.Fits.{lent_fits}
use Rattle.log_calls.proofs.FitLaws.{fits-sized, fits-well}
use Rattle.std.specs.Prelude.{Some}
use Rattle.node_header.specs.declared.Node.{Node}
use Rattle.node_header.specs.View.{Stores, view_node, used}
use Rattle.node_header.specs.Formed.{lent_node, slots_fit}
use Rattle.node_header.specs.Answers.{answered_as}
use Rattle.node_lent.specs.Lend.{LentStore, store_of, held_row_store, place_of, lent_at, lent_for, slot_of, Lends, Whole}
use Rattle.node_write.specs.declared.WriteReply.TheVariants as C
use Rattle.node_write.specs.ClientWrites.{write_word, WriteNames, WriteSlot, SameWrite, WritesAt}
use Rattle.thm_one_node.proofs.Map.{key}
use Rattle.thm_one_node.proofs.Headers.{kept, leads}
use Rattle.thm_one_node.proofs.Write.{read}

abbrev pub asks : WireOp → message.Write
asks op = record { key = key; epoch = 1; op = op }

-- the header with a lease until 100, so many rows in its table of vectors and so many entries in its log
abbrev pub header : (stored last : ℕ) → Node
header stored last = leads (Some 100) stored last

-- what columns are read as
pub record Reads (a : LentStore) (stored last : ℕ) (l : Log) (v : Vectors) : Type 0 where
  pub log : log_of a.columns last ≡ l
  pub vectors : vectors_of (log_of a.columns last) (rows_of a.keys a.places stored) ≡ v
  pub fits : lent_fits (store_of a (kept stored last)) ≡ true

-- a header over stores with the columns in slot 0
pub view_of : (s : Stores) (a : LentStore) (stored last : ℕ) (l : Log) (v : Vectors) → Reads a stored last l v → Lends s 0 a → view_node s (header stored last) ≡ read l v
view_of s a stored last l v r d = rw (d.log last ∙ r.log, d.vectors last stored ∙ r.vectors) refl

-- it passes the test of a lent state (24)
module _ (stored last : ℕ) (a : LentStore) (well : lent_fits (store_of a (kept stored last)) ≡ true) where
  store-lent : lent_at (header stored last) a (place_of (header stored last) key) ≡ true
  unfolding opened lent_at held_row_store
  store-lent = well

  pub lent : (s : Stores) → lent_node s (header stored last) ≡ true → lent_for s (header stored last) a key ≡ true
  unfolding lent_for
  lent s formed =
      let n = header stored last in and_true (lent_node s n) (lent_at n a (place_of n key)) formed store-lent

module _ (m : List ℕ) (op : WireOp) (decoded : message.decode_write m ≡ some (asks op)) (s₁ n₁ s₂ n₂ : ℕ) (a b : LentStore) (l₁ l₂ : Log) (v₁ v₂ : Vectors)
    (before : Reads a s₁ n₁ l₁ v₁) (after : Reads b s₂ n₂ l₂ v₂) (formed : (s : Stores) → lent_node s (header s₁ n₁) ≡ true)
    (taken : (t : Key → Bool) → t key ≡ true
    → record { answer = C.Accepted (record { 0 = n₂ }); node = read l₂ v₂ } ≡ answered_as write_word (write_with t (read l₁ v₁) 5 1 m)) where
  abbrev accepted : C.the_data
  accepted = C.Accepted (record { 0 = n₂ })

  slot_zero : (slot : ℕ) → WriteSlot (header s₁ n₁) m slot → slot ≡ 0
  unfolding opened slot_of
  slot_zero slot w = w (asks op) decoded

  same : SameWrite (header s₁ n₁) a b 5 1 m accepted (header s₂ n₂)
  same = λ s t slot w c.
      let z = slot_zero slot w in
      let at = lent_for s (header s₁ n₁) a in
      let from = view_of s a s₁ n₁ l₁ v₁ before (subst (λ (i : ℕ). Lends s i a) z c.before) in
      let to = view_of t b s₂ n₂ l₂ v₂ after (subst (λ (i : ℕ). Lends t i b) z c.after) in
      rw (from, to) (taken at (lent s₁ n₁ a before.fits s (formed s)))

  slots-after : slots_fit (used (header s₂ n₂)) ≡ true
  unfolding opened slots_fit
  slots-after = refl

  key-after : Whole (header s₁ n₁) (header s₂ n₂) b key
  unfolding opened
  key-after e = (fits-sized _ after.fits, fits-well _ after.fits)

  whole : (k : Key) → WriteNames m k → Whole (header s₁ n₁) (header s₂ n₂) b k
  whole k named = subst (Whole (header s₁ n₁) (header s₂ n₂) b) (sym (named (asks op) decoded)) key-after

  pub call : WritesAt (header s₁ n₁) a b 5 1 m 0 (record { answer = accepted; node = header s₂ n₂; refused = 0 })
  unfolding refused.counted
  call = record {
    same = same;
    kept = λ e. not_both false e refl;
    slots_are = refl;
    slots = λ e. slots-after;
    whole = λ e. whole;
    count = refl;
  }
