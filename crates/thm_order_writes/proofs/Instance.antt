-- The premises of Order.antt met by a header and columns of the code's own sizes: node 1 leads a shard with an empty log; an Upsert of 41 and
-- one of 7 in the two orders, and the Upsert of 41 before a Delete of 41. Assumes nothing.
use Prim.Native.Nat.{ℕ}
use mathlib.Core.Path.{◌≡◌, refl, sym, ap, ◌∙◌}
use mathlib.Core.Bool.{Bool, true}
use mathlib.Core.Logic.{◌⊎◌}
use mathlib.Core.List.{List, [], ◌∷◌}
use mathlib.Core.Option.{some}
use native.Mathlib.Omega.{arith}
use lib.Ieee.{Float, fits}
use lib.ListN.{set, replicate}
use Rattle.spec.specs.Keys.{Key}
use Rattle.spec.specs.Log.{Entry, Log, Vectors, Op, upsert, delete}
use Rattle.spec.specs.Nearest.Search.{Vector}
use Rattle.spec.specs.Layout.Message as message
use Rattle.spec.specs.Layout.Parts.{WireOp, wire_upsert, wire_delete}
use Rattle.spec.specs.Node.Wire.{float_of}
use Rattle.spec.specs.Node.Calls.{write_with}
use Rattle.spec_laws.proofs.Lists.{some_same}
use Rattle.spec_laws.proofs.Log.Edits.{op_id}
use Rattle.spec_run.specs.State.{at}
use Rattle.spec_run.proofs.Cases.Opened.{opened}
use Rattle.log_store.specs.View as view
use Rattle.log_store.specs.Table as table
use Rattle.log_store.specs.Store.{well_formed_store, every_below, same_rows}
use Rattle.log_calls.specs.Fits.{sized, lent_fits}
use Rattle.node_header.specs.View.{Stores}
use Rattle.node_header.specs.Formed.{lent_node, slots_fit, counts_fit}
use Rattle.node_header.specs.Answers.{answered_as}
use Rattle.node_lent.specs.Lend.{LentStore, lent_store, slot_of}
use Rattle.node_write.specs.declared.WriteAnswer.{WriteAnswer}
use Rattle.node_write.specs.declared.WriteReply.{WriteReply}
use Rattle.node_write.specs.declared.WriteReply.TheVariants as C
use Rattle.node_write.specs.ClientWrites.{write_word, WriteSlot, WritesAt}
use Rattle.thm_one_node.proofs.Map.{key}
use Rattle.thm_one_node.proofs.Columns.{one, before}
use Rattle.thm_one_node.proofs.Write.{read}
use Rattle.thm_order_writes.specs.Editors.{Owned, vectors_at, log_at, Edit, Moment, Writes, InTurn, SearchedAlike}
use Rattle.thm_order_writes.proofs.Calls.{asks, header, Reads, call}
use Rattle.thm_order_writes.proofs.Order.{same-vectors, same-searches, other-logs, later_vectors, later_searches, second-accepted}

-- ---- the messages: Upsert 41 (1.0), Upsert 7 (1.0), Delete 41

abbrev pub ones : List ℕ
ones = 0x3f800000 ∷ []

unfoldable pub x : List ℕ
x = message.encode_write (asks (wire_upsert 41 ones))

unfoldable pub y : List ℕ
y = message.encode_write (asks (wire_upsert 7 ones))

unfoldable pub z : List ℕ
z = message.encode_write (asks (wire_delete 41))

pub read-x : message.decode_write x ≡ some (asks (wire_upsert 41 ones))
unfolding opened x
read-x = refl

pub read-y : message.decode_write y ≡ some (asks (wire_upsert 7 ones))
unfolding opened y
read-y = refl

pub read-z : message.decode_write z ≡ some (asks (wire_delete 41))
unfolding opened z
read-z = refl

abbrev pub sets : ℕ → Op
sets id = upsert id (one ∷ [])

pub edit-x : Edit x key (sets 41)
unfolding opened
edit-x = record { write = asks (wire_upsert 41 ones); read = read-x; key = refl; stored = refl }

pub edit-y : Edit y key (sets 7)
unfolding opened
edit-y = record { write = asks (wire_upsert 7 ones); read = read-y; key = refl; stored = refl }

pub edit-z : Edit z key (delete 41)
unfolding opened
edit-z = record { write = asks (wire_delete 41); read = read-z; key = refl; stored = refl }

-- ---- the columns: places past the used ones hold zeros

abbrev first : ℕ → List ℕ
first v = set (replicate 1024 0) 0 v

abbrev pair : ℕ → ℕ → List ℕ
pair v w = set (first v) 1 w

abbrev floats : List Float
floats = set (replicate 32768 (float_of 0)) 0 one

unfoldable pub after-x : LentStore
after-x = lent_store (first 1) (first 1) (first 41) (first 1) (first 1) floats (first 41) (first 1)

unfoldable pub after-y : LentStore
after-y = lent_store (first 1) (first 1) (first 7) (first 1) (first 1) floats (first 7) (first 1)

unfoldable pub after-z : LentStore
after-z = lent_store (first 1) (first 1) (first 41) (first 2) (first 0) (replicate 32768 (float_of 0)) (first 0) (first 0)

unfoldable pub after_x-y : LentStore
after_x-y = lent_store (pair 1 1) (pair 1 2) (pair 41 7) (pair 1 1) (pair 1 1) (set floats 32 one) (pair 7 41) (pair 2 1)

unfoldable pub after_y-x : LentStore
after_y-x = lent_store (pair 1 1) (pair 1 2) (pair 7 41) (pair 1 1) (pair 1 1) (set floats 32 one) (pair 7 41) (pair 1 2)

unfoldable pub after_x-z : LentStore
after_x-z = lent_store (pair 1 1) (pair 1 2) (pair 41 41) (pair 1 2) (pair 1 0) floats (first 41) (first 1)

-- ---- what they are read as

abbrev pub entry : ℕ → Op → Entry
entry o op = record { epoch = 1; offset = o; op = op }

abbrev pub row : ℕ → Vector
row id = record { id = id; components = one ∷ [] }

reads_before : Reads before 0 0 [] []
unfolding opened fits lent_fits sized well_formed_store every_below same_rows view.log_of view.firsts view.entry_of view.op_of view.stretch table.rows_of table.zipped table.vectors_of table.vector_of table.row_op table.play_rows table.play_rows_from
reads_before = record { log = refl; vectors = refl; fits = refl }

pub reads_after_x : Reads after-x 1 1 (entry 1 (sets 41) ∷ []) (row 41 ∷ [])
unfolding opened after-x fits lent_fits sized well_formed_store every_below same_rows view.log_of view.firsts view.entry_of view.op_of view.stretch table.rows_of table.zipped table.vectors_of table.vector_of table.row_op table.play_rows table.play_rows_from
reads_after_x = record { log = refl; vectors = refl; fits = refl }

pub reads_after_y : Reads after-y 1 1 (entry 1 (sets 7) ∷ []) (row 7 ∷ [])
unfolding opened after-y fits lent_fits sized well_formed_store every_below same_rows view.log_of view.firsts view.entry_of view.op_of view.stretch table.rows_of table.zipped table.vectors_of table.vector_of table.row_op table.play_rows table.play_rows_from
reads_after_y = record { log = refl; vectors = refl; fits = refl }

pub reads_after_z : Reads after-z 0 1 (entry 1 (delete 41) ∷ []) []
unfolding opened after-z fits lent_fits sized well_formed_store every_below same_rows view.log_of view.firsts view.entry_of view.op_of view.stretch table.rows_of table.zipped table.vectors_of table.vector_of table.row_op table.play_rows table.play_rows_from
reads_after_z = record { log = refl; vectors = refl; fits = refl }

pub reads_after_x_y : Reads after_x-y 2 2 (entry 1 (sets 41) ∷ entry 2 (sets 7) ∷ []) (row 7 ∷ row 41 ∷ [])
unfolding opened after_x-y fits lent_fits sized well_formed_store every_below same_rows view.log_of view.firsts view.entry_of view.op_of view.stretch table.rows_of table.zipped table.vectors_of table.vector_of table.row_op table.play_rows table.play_rows_from
reads_after_x_y = record { log = refl; vectors = refl; fits = refl }

pub reads_after_y_x : Reads after_y-x 2 2 (entry 1 (sets 7) ∷ entry 2 (sets 41) ∷ []) (row 7 ∷ row 41 ∷ [])
unfolding opened after_y-x fits lent_fits sized well_formed_store every_below same_rows view.log_of view.firsts view.entry_of view.op_of view.stretch table.rows_of table.zipped table.vectors_of table.vector_of table.row_op table.play_rows table.play_rows_from
reads_after_y_x = record { log = refl; vectors = refl; fits = refl }

pub reads_after_x_z : Reads after_x-z 0 2 (entry 1 (sets 41) ∷ entry 2 (delete 41) ∷ []) []
unfolding opened after_x-z fits lent_fits sized well_formed_store every_below same_rows view.log_of view.firsts view.entry_of view.op_of view.stretch table.rows_of table.zipped table.vectors_of table.vector_of table.row_op table.play_rows table.play_rows_from
reads_after_x_z = record { log = refl; vectors = refl; fits = refl }

-- ---- the headers pass their test

pub formed-empty : (s : Stores) → lent_node s (header 0 0) ≡ true
unfolding opened lent_node slots_fit counts_fit
formed-empty s = rw (s.long 0 0) refl

pub formed-one : (s : Stores) → lent_node s (header 1 1) ≡ true
unfolding opened lent_node slots_fit counts_fit
formed-one s = rw (s.long 0 1) refl

-- ---- each call keeps its contract

abbrev pub accepted : ℕ → WriteReply
accepted o = C.Accepted (record { 0 = o })

abbrev answers : (stored last : ℕ) → WriteAnswer
answers stored last = record { answer = accepted last; node = header stored last; refused = 0 }

-- what the definition does of the message m
abbrev pub Does : (m : List ℕ) (l₁ l₂ : Log) (v₁ v₂ : Vectors) (last : ℕ) → Type 0
Does m l₁ l₂ v₁ v₂ last =
    (t : Key → Bool) → t key ≡ true → record { answer = accepted last; node = read l₂ v₂ } ≡ answered_as write_word (write_with t (read l₁ v₁) 5 1 m)

pub does-x : Does x [] (entry 1 (sets 41) ∷ []) [] (row 41 ∷ []) 1
unfolding opened x fits
does-x t e = rw e refl

call-x : WritesAt (header 0 0) before after-x 5 1 x 0 (answers 1 1)
call-x =
    call x (wire_upsert 41 ones) read-x 0 0 1 1 before after-x [] (entry 1 (sets 41) ∷ []) [] (row 41 ∷ []) reads_before reads_after_x formed-empty does-x

pub does-y : Does y [] (entry 1 (sets 7) ∷ []) [] (row 7 ∷ []) 1
unfolding opened y fits
does-y t e = rw e refl

call-y : WritesAt (header 0 0) before after-y 5 1 y 0 (answers 1 1)
call-y =
    call y (wire_upsert 7 ones) read-y 0 0 1 1 before after-y [] (entry 1 (sets 7) ∷ []) [] (row 7 ∷ []) reads_before reads_after_y formed-empty does-y

pub does-z : Does z [] (entry 1 (delete 41) ∷ []) [] [] 1
unfolding opened z fits
does-z t e = rw e refl

call-z : WritesAt (header 0 0) before after-z 5 1 z 0 (answers 0 1)
call-z =
    call z (wire_delete 41) read-z 0 0 0 1 before after-z [] (entry 1 (delete 41) ∷ []) [] [] reads_before reads_after_z formed-empty does-z

pub does_x_y : Does y (entry 1 (sets 41) ∷ []) (entry 1 (sets 41) ∷ entry 2 (sets 7) ∷ []) (row 41 ∷ []) (row 7 ∷ row 41 ∷ []) 2
unfolding opened y fits
does_x_y t e = rw e refl

call_x_y : WritesAt (header 1 1) after-x after_x-y 5 1 y 0 (answers 2 2)
call_x_y =
    call y (wire_upsert 7 ones) read-y 1 1 2 2 after-x after_x-y (entry 1 (sets 41) ∷ []) (entry 1 (sets 41) ∷ entry 2 (sets 7) ∷ []) (row 41 ∷ []) (row 7 ∷ row 41 ∷ []) reads_after_x reads_after_x_y formed-one does_x_y

pub does_y_x : Does x (entry 1 (sets 7) ∷ []) (entry 1 (sets 7) ∷ entry 2 (sets 41) ∷ []) (row 7 ∷ []) (row 7 ∷ row 41 ∷ []) 2
unfolding opened x fits
does_y_x t e = rw e refl

call_y_x : WritesAt (header 1 1) after-y after_y-x 5 1 x 0 (answers 2 2)
call_y_x =
    call x (wire_upsert 41 ones) read-x 1 1 2 2 after-y after_y-x (entry 1 (sets 7) ∷ []) (entry 1 (sets 7) ∷ entry 2 (sets 41) ∷ []) (row 7 ∷ []) (row 7 ∷ row 41 ∷ []) reads_after_y reads_after_y_x formed-one does_y_x

pub does_x_z : Does z (entry 1 (sets 41) ∷ []) (entry 1 (sets 41) ∷ entry 2 (delete 41) ∷ []) (row 41 ∷ []) [] 2
unfolding opened z fits
does_x_z t e = rw e refl

call_x_z : WritesAt (header 1 1) after-x after_x-z 5 1 z 0 (answers 0 2)
call_x_z =
    call z (wire_delete 41) read-z 1 1 0 2 after-x after_x-z (entry 1 (sets 41) ∷ []) (entry 1 (sets 41) ∷ entry 2 (delete 41) ∷ []) (row 41 ∷ []) [] reads_after_x reads_after_x_z formed-one does_x_z

-- ---- what the host owns: the columns of slot 0 are the shard's

abbrev node : (stored last : ℕ) → (ℕ → LentStore) → Owned
node stored last lent_stores = record { header = header stored last; lent_stores = lent_stores }

abbrev empty : ℕ → LentStore
empty slot = before

unfoldable pub now : Moment
now = record { clock = 5; least = 1 }

pub slot_zero : (stored last : ℕ) → 0 ≡ slot_of (header stored last) key
unfolding opened slot_of
slot_zero stored last = refl

named : (stored last : ℕ) (m : List ℕ) (op : WireOp) → message.decode_write m ≡ some (asks op) → WriteSlot (header stored last) m 0
named stored last m op decoded v d =
    slot_zero stored last ∙ ap (λ (w : message.Write). slot_of (header stored last) w.key) (some_same (sym decoded ∙ d))

abbrev start : Owned
start = node 0 0 empty

abbrev then : Owned → (stored last : ℕ) → LentStore → Owned
then u stored last left = node stored last (at u.lent_stores 0 left)

abbrev pub node-x : Owned
node-x = then start 1 1 after-x

write-x : Writes start now x node-x (accepted 1)
unfolding now
write-x = record {
  slot = 0;
  left = after-x;
  count = 0;
  told = answers 1 1;
  named = named 0 0 x (wire_upsert 41 ones) read-x;
  call = call-x;
  reply = refl;
  leaves = refl;
}

abbrev pub node-y : Owned
node-y = then start 1 1 after-y

write-y : Writes start now y node-y (accepted 1)
unfolding now
write-y = record {
  slot = 0;
  left = after-y;
  count = 0;
  told = answers 1 1;
  named = named 0 0 y (wire_upsert 7 ones) read-y;
  call = call-y;
  reply = refl;
  leaves = refl;
}

abbrev pub node-z : Owned
node-z = then start 0 1 after-z

write-z : Writes start now z node-z (accepted 1)
unfolding now
write-z = record {
  slot = 0;
  left = after-z;
  count = 0;
  told = answers 0 1;
  named = named 0 0 z (wire_delete 41) read-z;
  call = call-z;
  reply = refl;
  leaves = refl;
}

abbrev pub node_x-y : Owned
node_x-y = then node-x 2 2 after_x-y

write_x_y : Writes node-x now y node_x-y (accepted 2)
unfolding now at
write_x_y = record {
  slot = 0;
  left = after_x-y;
  count = 0;
  told = answers 2 2;
  named = named 1 1 y (wire_upsert 7 ones) read-y;
  call = call_x_y;
  reply = refl;
  leaves = refl;
}

turn_x_y : InTurn start now now x y node_x-y (accepted 1) (accepted 2)
turn_x_y = record { between = node-x; called = write-x; followed = write_x_y }

abbrev pub node_y-x : Owned
node_y-x = then node-y 2 2 after_y-x

write_y_x : Writes node-y now x node_y-x (accepted 2)
unfolding now at
write_y_x = record {
  slot = 0;
  left = after_y-x;
  count = 0;
  told = answers 2 2;
  named = named 1 1 x (wire_upsert 41 ones) read-x;
  call = call_y_x;
  reply = refl;
  leaves = refl;
}

turn_y_x : InTurn start now now y x node_y-x (accepted 1) (accepted 2)
turn_y_x = record { between = node-y; called = write-y; followed = write_y_x }

abbrev pub node_x-z : Owned
node_x-z = then node-x 0 2 after_x-z

write_x_z : Writes node-x now z node_x-z (accepted 2)
unfolding now at
write_x_z = record {
  slot = 0;
  left = after_x-z;
  count = 0;
  told = answers 0 2;
  named = named 1 1 z (wire_delete 41) read-z;
  call = call_x_z;
  reply = refl;
  leaves = refl;
}

turn_x_z : InTurn start now now x z node_x-z (accepted 1) (accepted 2)
turn_x_z = record { between = node-x; called = write-x; followed = write_x_z }

-- ---- the laws, met

pub vectors_met : (j : Key) → vectors_at node_x-y j ≡ vectors_at node_y-x j
vectors_met =
    same-vectors start key x y (sets 41) (sets 7) edit-x edit-y now now node_x-y 1 2 turn_x_y now now node_y-x 1 2 turn_y_x (λ q. omega arith)

pub searches_met : SearchedAlike node_x-y node_y-x
searches_met =
    same-searches start key x y (sets 41) (sets 7) edit-x edit-y now now node_x-y 1 2 turn_x_y now now node_y-x 1 2 turn_y_x (λ q. omega arith)

pub logs_met : log_at node_x-y key ≡ log_at node_y-x key → ⊥
logs_met =
    other-logs start key x y (sets 41) (sets 7) edit-x edit-y now now node_x-y 1 2 turn_x_y now now node_y-x 1 2 turn_y_x
    (λ q. let n : 41 ≡ 7 = ap op_id q in omega arith)

pub later_met : (j : Key) → vectors_at node_x-z j ≡ vectors_at node-z j
later_met = later_vectors start key x z (sets 41) (delete 41) edit-x edit-z now now node_x-z 1 2 turn_x_z now node-z 1 write-z refl

pub later_searches_met : SearchedAlike node_x-z node-z
later_searches_met = later_searches start key x z (sets 41) (delete 41) edit-x edit-z now now node_x-z 1 2 turn_x_z now node-z 1 write-z refl

-- whatever the Write of y after that of x leaves and replies
pub second_met : (v : Owned) (w : WriteReply) → Writes node-x now y v w → (w ≡ accepted 2) ⊎ (w ≡ C.Refused 24)
second_met = second-accepted start key x y (sets 41) (sets 7) edit-x edit-y now now node-x node-y 1 1 write-x write-y (omega arith)
