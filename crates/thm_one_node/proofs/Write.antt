-- The Write of one Upsert, on the columns that the bytes are read into: they satisfy the contract of `node_write::write`, which accepts it
-- at the offset 1. Assumes nothing.
use Prim.Native.Nat.{ℕ}
use mathlib.Core.Path.{◌≡◌, refl, sym, ap, subst, ◌∙◌}
use mathlib.Core.Bool.{true, false}
use mathlib.Core.List.{List, [], ◌∷◌}
use mathlib.Core.Option.{some}
use lib.Ieee.{fits}
use Rattle.spec.specs.Keys.{Key}
use Rattle.spec.specs.Log.{Log, Vectors}
use Rattle.spec.specs.Layout.Parts.{wire_upsert}
use Rattle.spec.specs.Layout.Message as message
use Rattle.spec.specs.Node.Held as held
use Rattle.spec.specs.Node.Calls as calls
use Rattle.spec.specs.Node.Refused as refused
use Rattle.spec.specs.declared.Metric.TheVariants.{Euclidean}
use Rattle.spec.specs.declared.Role.TheVariants.{Primary}
use Rattle.spec_laws.proofs.Lists.{some_same, not_both, and_true}
use Rattle.spec_run.proofs.Cases.Opened.{opened}
use Rattle.log_store.specs.View as view
use Rattle.log_store.specs.Table as table
use Rattle.log_store.specs.Store.{well_formed_store, every_below, same_rows}
use Rattle.log_calls.specs.Fits.{sized, lent_fits}
use Rattle.log_calls.proofs.FitLaws.{fits-sized, fits-well}
use Rattle.std.specs.Prelude.{Some}
use Rattle.node_header.specs.declared.Node.{Node}
use Rattle.node_header.specs.View.{Stores, view_node, used}
use Rattle.node_header.specs.Formed.{lent_node, slots_fit, counts_fit}
use Rattle.node_header.specs.Answers.{answered_as}
use Rattle.node_lent.specs.Lend.{store_of, held_row_store, place_of, lent_at, lent_for, slot_of, Whole}
use Rattle.node_write.specs.declared.WriteAnswer.{WriteAnswer}
use Rattle.node_write.specs.declared.WriteReply.TheVariants as C
use Rattle.node_write.specs.ClientWrites.{write_word, WriteNames, WriteSlot, SameWrite, WritesAt}
use Rattle.thm_one_node.proofs.Map.{key, copies}
use Rattle.thm_one_node.proofs.Headers.{kept, leads, nil}
use Rattle.thm_one_node.proofs.Columns.{before, after, entry, one, log-after, rows-after}

-- ---- the message

abbrev pub asked : message.Write
asked = record { key = key; epoch = 1; op = wire_upsert 41 (0x3f800000 ∷ []) }

unfoldable pub bytes : List ℕ
bytes = message.encode_write asked

pub decoded : message.decode_write bytes ≡ some asked
unfolding opened bytes
decoded = refl

pub names : WriteNames bytes key
names v e = ap (λ (m : message.Write). m.key) (some_same (sym decoded ∙ e))

-- ---- the call, on the columns that the bytes are read into

slot_zero : (slot : ℕ) → WriteSlot (leads (Some 100) 0 0) bytes slot → slot ≡ 0
unfolding opened slot_of
slot_zero slot w = w asked decoded

-- the node as it is read, with a log and its vectors
abbrev pub read : Log → Vectors → held.Node
read l v = record {
  id = 1;
  incarnation = 4;
  expiry = some 100;
  version = 1;
  held =
      record {
        key = key;
        replica = record { epoch = 1; metric = Euclidean; log = l; vectors = v };
        holders = copies;
        role = Primary (record { 0 = 1 }) (record { 0 = 0 });
        own = true;
        peers = [];
      } ∷ [];
}

read-before : (s : Stores) → view_node s (leads (Some 100) 0 0) ≡ read [] []
read-before s = rw (nil (s.log 0 0) (s.long 0 0), s.bare 0) refl

header-lent : (s : Stores) → lent_node s (leads (Some 100) 0 0) ≡ true
unfolding opened lent_node slots_fit counts_fit
header-lent s = rw (s.long 0 0) refl

store-lent : lent_at (leads (Some 100) 0 0) before (place_of (leads (Some 100) 0 0) key) ≡ true
unfolding opened lent_at held_row_store lent_fits sized well_formed_store every_below same_rows view.log_of view.firsts table.rows_of table.zipped table.play_rows table.play_rows_from
store-lent = refl

lent : (s : Stores) → lent_for s (leads (Some 100) 0 0) before key ≡ true
unfolding lent_for
lent s =
    let n = leads (Some 100) 0 0 in and_true (lent_node s n) (lent_at n before (place_of n key)) (header-lent s) store-lent

abbrev pub accepted : C.the_data
accepted = C.Accepted (record { 0 = 1 })

abbrev pub vectors : Vectors
vectors = record { id = 41; components = one ∷ [] } ∷ []

taken : (s : Stores)
    → record { answer = accepted; node = read (entry ∷ []) vectors } ≡ answered_as write_word (calls.write_with (lent_for s (leads (Some 100) 0 0) before) (read [] []) 5 1 bytes)
unfolding opened bytes fits
taken s = rw (lent s) refl

taken_of : (s : Stores)
    → record { answer = accepted; node = read (entry ∷ []) vectors }
    ≡ answered_as write_word (calls.write_with (lent_for s (leads (Some 100) 0 0) before) (view_node s (leads (Some 100) 0 0)) 5 1 bytes)
taken_of s = rw (read-before s) (taken s)

vectors-after : table.vectors_of (view.log_of after.columns 1) (table.rows_of after.keys after.places 1) ≡ vectors
unfolding opened table.vectors_of table.vector_of
vectors-after = rw (log-after, rows-after) refl

same : SameWrite (leads (Some 100) 0 0) before after 5 1 bytes accepted (leads (Some 100) 1 1)
same = λ s t slot w c.
    let z = slot_zero slot w in
    let l : t.log 0 1 ≡ entry ∷ [] = subst (λ (i : ℕ). t.log i 1 ≡ entry ∷ []) z (c.after.log 1 ∙ log-after) in
    let v : t.vectors 0 1 1 ≡ vectors = subst (λ (i : ℕ). t.vectors i 1 1 ≡ vectors) z (c.after.vectors 1 1 ∙ vectors-after) in
    let to : view_node t (leads (Some 100) 1 1) ≡ read (entry ∷ []) vectors = rw (l, v) refl in
    rw to (taken_of s)

abbrev pub wrote : WriteAnswer
wrote = record { answer = accepted; node = leads (Some 100) 1 1; refused = 0 }

slots-after : slots_fit (used (leads (Some 100) 1 1)) ≡ true
unfolding opened slots_fit
slots-after = refl

store-after : lent_fits (store_of after (kept 1 1)) ≡ true
unfolding opened fits lent_fits sized well_formed_store every_below same_rows view.log_of view.firsts view.entry_of view.op_of view.stretch table.rows_of table.zipped table.row_op table.play_rows table.play_rows_from
store-after = refl

key-after : Whole (leads (Some 100) 0 0) (leads (Some 100) 1 1) after key
unfolding opened
key-after e = (fits-sized _ store-after, fits-well _ store-after)

whole : (k : Key) → WriteNames bytes k → Whole (leads (Some 100) 0 0) (leads (Some 100) 1 1) after k
whole k named =
    subst (Whole (leads (Some 100) 0 0) (leads (Some 100) 1 1) after) (sym (named asked decoded)) key-after

pub writes : WritesAt (leads (Some 100) 0 0) before after 5 1 bytes 0 wrote
unfolding refused.counted
writes = record {
  same = same;
  kept = λ e. not_both false e refl;
  slots_are = refl;
  slots = λ e. slots-after;
  whole = λ e. whole;
  count = refl;
}
