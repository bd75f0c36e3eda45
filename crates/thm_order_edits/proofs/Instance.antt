-- The premises of Order.antt met by columns of 1,024 places: a store that has set object 5; an Upsert of 3 and a Delete of 5 appended
-- in the two orders, and an Upsert of 5 before its Delete. Assumes nothing.
use Prim.Native.Nat.{ℕ, ◌+◌, ◌≤◌, ◌<◌}
use mathlib.Core.Path.{◌≡◌, refl, sym, ap, ◌∙◌}
use mathlib.Core.Bool.{true, false}
use mathlib.Core.List.{List, [], ◌∷◌, ◌++◌}
use mathlib.Core.Option.{some}
use native.Mathlib.Omega.{arith}
use lib.Ieee.{Float}
use lib.ListN.{replicate, drop}
use Rattle.spec.specs.Log.{Op, upsert, delete, ShardReplica, append}
use Rattle.spec.specs.Layout.Message as message
use Rattle.spec.specs.Layout.Parts.{WireOp, wire_upsert, wire_delete}
use Rattle.spec.specs.Node.Shards.{gives}
use Rattle.spec.specs.Node.Wire.{float_of}
use Rattle.spec.specs.declared.Metric.{Metric}
use Rattle.spec_laws.proofs.Lists.{not_both}
use Rattle.spec.proofs.Opened.{opened}
use Rattle.log_store.specs.View as view
use Rattle.log_store.specs.Table as table
use Rattle.log_store.specs.Store as store
use Rattle.log_store.specs.View.{columns, Inscribed, written_all}
use Rattle.log_store.specs.Store.{Store, Spares, lent, replica_in}
use Rattle.log_calls.specs.Fits as test
use Rattle.log_calls.specs.Fits.{lent_fits}
use Rattle.log_calls.specs.Calls.{Calls, append_lent}
use Rattle.log_calls.specs.declared.Answer.TheVariants as A
use Rattle.log_calls.specs.declared.Done.{Done}
use Rattle.thm_order_edits.specs.Edits.{Edit, Appends, InTurn, read_vectors, SearchedAlike}
use Rattle.thm_order_edits.proofs.Appends.{there}
use Rattle.thm_order_edits.proofs.Order.{same-vectors, later_vectors, later_searches}
use Rattle.thm_order_edits.proofs.OrderSearched.{same-searches}

-- ---- The messages: Upsert 3 (2.0), Delete 5, Upsert 5 (2.0)

abbrev writes : WireOp → message.Write
writes op = record { key = record { collection = []; shard = 0 }; epoch = 1; op = op }

abbrev x : List ℕ
x = message.encode_write (writes (wire_upsert 3 (1073741824 ∷ [])))

abbrev y : List ℕ
y = message.encode_write (writes (wire_delete 5))

abbrev z : List ℕ
z = message.encode_write (writes (wire_upsert 5 (1073741824 ∷ [])))

abbrev sets : ℕ → Op
sets id = upsert id (float_of 1073741824 ∷ [])

edit-x : Edit x (sets 3)
unfolding opened
edit-x = record { write = writes (wire_upsert 3 (1073741824 ∷ [])); read = refl; domain = refl; stored = refl }

edit-y : Edit y (delete 5)
unfolding opened
edit-y = record { write = writes (wire_delete 5); read = refl; domain = refl; stored = refl }

edit-z : Edit z (sets 5)
unfolding opened
edit-z = record { write = writes (wire_upsert 5 (1073741824 ∷ [])); read = refl; domain = refl; stored = refl }

-- ---- The stores: places past the used ones hold zeros

abbrev zeros : ℕ → List ℕ
zeros n = replicate n 0

-- 1.0 in the first stretch, and a float behind so many places
abbrev floats : ℕ → Float → ℕ → List Float
floats gap v rest = float_of 1065353216 ∷ (replicate gap (float_of 0) ++ (v ∷ replicate rest (float_of 0)))

pub before : Store
before =
    lent (columns (1 ∷ zeros 1023) (1 ∷ zeros 1023) (5 ∷ zeros 1023) (1 ∷ zeros 1023) (1 ∷ zeros 1023) (floats 31 (float_of 0) 32735))
    (5 ∷ zeros 1023) (1 ∷ zeros 1023) 1 1

pub after-x : Store
after-x =
    lent (columns (1 ∷ 1 ∷ zeros 1022) (1 ∷ 2 ∷ zeros 1022) (5 ∷ 3 ∷ zeros 1022) (1 ∷ 1 ∷ zeros 1022) (1 ∷ 1 ∷ zeros 1022) (floats 31 (float_of 1073741824) 32735))
    (3 ∷ 5 ∷ zeros 1022) (2 ∷ 1 ∷ zeros 1022) 2 2

pub after_x-y : Store
after_x-y =
    lent (columns (1 ∷ 1 ∷ 1 ∷ zeros 1021) (1 ∷ 2 ∷ 3 ∷ zeros 1021) (5 ∷ 3 ∷ 5 ∷ zeros 1021) (1 ∷ 1 ∷ 2 ∷ zeros 1021) (1 ∷ 1 ∷ 0 ∷ zeros 1021) (floats 31 (float_of 1073741824) 32735))
    (3 ∷ 5 ∷ zeros 1022) (2 ∷ 1 ∷ zeros 1022) 3 1

pub after-y : Store
after-y =
    lent (columns (1 ∷ 1 ∷ zeros 1022) (1 ∷ 2 ∷ zeros 1022) (5 ∷ 5 ∷ zeros 1022) (1 ∷ 2 ∷ zeros 1022) (1 ∷ 0 ∷ zeros 1022) (floats 31 (float_of 0) 32735))
    (5 ∷ zeros 1023) (1 ∷ zeros 1023) 2 0

pub after_y-x : Store
after_y-x =
    lent (columns (1 ∷ 1 ∷ 1 ∷ zeros 1021) (1 ∷ 2 ∷ 3 ∷ zeros 1021) (5 ∷ 5 ∷ 3 ∷ zeros 1021) (1 ∷ 2 ∷ 1 ∷ zeros 1021) (1 ∷ 0 ∷ 1 ∷ zeros 1021) (floats 63 (float_of 1073741824) 32703))
    (3 ∷ zeros 1023) (3 ∷ zeros 1023) 3 1

pub after-z : Store
after-z =
    lent (columns (1 ∷ 1 ∷ zeros 1022) (1 ∷ 2 ∷ zeros 1022) (5 ∷ 5 ∷ zeros 1022) (1 ∷ 1 ∷ zeros 1022) (1 ∷ 1 ∷ zeros 1022) (floats 31 (float_of 1073741824) 32735))
    (5 ∷ zeros 1023) (2 ∷ zeros 1023) 2 1

pub after_z-y : Store
after_z-y =
    lent (columns (1 ∷ 1 ∷ 1 ∷ zeros 1021) (1 ∷ 2 ∷ 3 ∷ zeros 1021) (5 ∷ 5 ∷ 5 ∷ zeros 1021) (1 ∷ 1 ∷ 2 ∷ zeros 1021) (1 ∷ 1 ∷ 0 ∷ zeros 1021) (floats 31 (float_of 1073741824) 32735))
    (5 ∷ zeros 1023) (2 ∷ zeros 1023) 3 0

-- ---- Each is a store

before-fits : lent_fits before ≡ true
unfolding opened before test.lent_fits test.sized store.well_formed_store store.every_below store.same_rows view.log_of view.firsts view.entry_of view.op_of view.stretch table.rows_of table.zipped table.play_rows table.play_rows_from table.row_op lib.Ieee.fits
before-fits = refl

after_x-fits : lent_fits after-x ≡ true
unfolding opened after-x test.lent_fits test.sized store.well_formed_store store.every_below store.same_rows view.log_of view.firsts view.entry_of view.op_of view.stretch table.rows_of table.zipped table.play_rows table.play_rows_from table.row_op lib.Ieee.fits
after_x-fits = refl

after_x_y-fits : lent_fits after_x-y ≡ true
unfolding opened after_x-y test.lent_fits test.sized store.well_formed_store store.every_below store.same_rows view.log_of view.firsts view.entry_of view.op_of view.stretch table.rows_of table.zipped table.play_rows table.play_rows_from table.row_op lib.Ieee.fits
after_x_y-fits = refl

after_y-fits : lent_fits after-y ≡ true
unfolding opened after-y test.lent_fits test.sized store.well_formed_store store.every_below store.same_rows view.log_of view.firsts view.entry_of view.op_of view.stretch table.rows_of table.zipped table.play_rows table.play_rows_from table.row_op lib.Ieee.fits
after_y-fits = refl

after_y_x-fits : lent_fits after_y-x ≡ true
unfolding opened after_y-x test.lent_fits test.sized store.well_formed_store store.every_below store.same_rows view.log_of view.firsts view.entry_of view.op_of view.stretch table.rows_of table.zipped table.play_rows table.play_rows_from table.row_op lib.Ieee.fits
after_y_x-fits = refl

after_z-fits : lent_fits after-z ≡ true
unfolding opened after-z test.lent_fits test.sized store.well_formed_store store.every_below store.same_rows view.log_of view.firsts view.entry_of view.op_of view.stretch table.rows_of table.zipped table.play_rows table.play_rows_from table.row_op lib.Ieee.fits
after_z-fits = refl

after_z_y_fits : lent_fits after_z-y ≡ true
unfolding opened after_z-y test.lent_fits test.sized store.well_formed_store store.every_below store.same_rows view.log_of view.firsts view.entry_of view.op_of view.stretch table.rows_of table.zipped table.play_rows table.play_rows_from table.row_op lib.Ieee.fits
after_z_y_fits = refl

-- ---- Each call keeps its contract

abbrev done : ℕ → ℕ → Done
done count stored = record { answer = A.Appended (record { 0 = count }); epoch = record { 0 = 1 }; count = count; stored = stored }

-- a call on s left t: the definition's replica, and of the places only one entry more
module _ (b : List ℕ) (op : Op) (e : Edit b op) (s t : Store) (f : lent_fits s ≡ true) (room : s.count < 1024) (one : Inscribed) where
  called : (stored : ℕ) → lent_fits t ≡ true → t.count ≡ s.count + 1 → ((m : Metric) → replica_in 1 m t ≡ append (replica_in 1 m s) op)
      → t.columns ≡ written_all s.columns s.count (one ∷ []) → drop t.count t.keys ≡ drop t.count s.keys
      → drop t.count t.places ≡ drop t.count s.places → Appends b 1 s t (done (s.count + 1) stored)
  called stored g n left written keys places = record {
    same =
        λ m. ap (λ (r : ShardReplica). gives {S = ShardReplica} (A.Appended (record { 0 = s.count + 1 })) r) (left m) ∙ sym (there b 1 s op e f room m);
    kept = λ k. not_both false k refl;
    fits = λ _. g;
    spares = record {
      entries = one ∷ [];
      grown = omega (arith, n);
      columns = written;
      keys = keys;
      places = places;
      same = λ q. absurd (omega (arith, n, q));
    };
  }

abbrev entry-x : Inscribed
entry-x = record { epoch = 1; code = 1; id = 3; bits = 1073741824 ∷ [] }

abbrev entry-y : Inscribed
entry-y = record { epoch = 1; code = 2; id = 5; bits = [] }

abbrev entry-z : Inscribed
entry-z = record { epoch = 1; code = 1; id = 5; bits = 1073741824 ∷ [] }

call-x : Appends x 1 before after-x (done 2 2)
unfolding opened before after-x store.replica_in view.log_of view.firsts view.entry_of view.op_of view.stretch view.written_all view.written table.rows_of table.zipped table.vectors_of table.vector_of
call-x = called x (sets 3) edit-x before after-x before-fits (omega arith) entry-x 2 after_x-fits refl (λ m. refl) refl refl refl

call_x_y : Appends y 1 after-x after_x-y (done 3 1)
unfolding opened after-x after_x-y store.replica_in view.log_of view.firsts view.entry_of view.op_of view.stretch view.written_all view.written table.rows_of table.zipped table.vectors_of table.vector_of
call_x_y = called y (delete 5) edit-y after-x after_x-y after_x-fits (omega arith) entry-y 1 after_x_y-fits refl (λ m. refl) refl refl refl

call-y : Appends y 1 before after-y (done 2 0)
unfolding opened before after-y store.replica_in view.log_of view.firsts view.entry_of view.op_of view.stretch view.written_all view.written table.rows_of table.zipped table.vectors_of table.vector_of
call-y = called y (delete 5) edit-y before after-y before-fits (omega arith) entry-y 0 after_y-fits refl (λ m. refl) refl refl refl

call_y_x : Appends x 1 after-y after_y-x (done 3 1)
unfolding opened after-y after_y-x store.replica_in view.log_of view.firsts view.entry_of view.op_of view.stretch view.written_all view.written table.rows_of table.zipped table.vectors_of table.vector_of
call_y_x = called x (sets 3) edit-x after-y after_y-x after_y-fits (omega arith) entry-x 1 after_y_x-fits refl (λ m. refl) refl refl refl

call-z : Appends z 1 before after-z (done 2 1)
unfolding opened before after-z store.replica_in view.log_of view.firsts view.entry_of view.op_of view.stretch view.written_all view.written table.rows_of table.zipped table.vectors_of table.vector_of
call-z = called z (sets 5) edit-z before after-z before-fits (omega arith) entry-z 1 after_z-fits refl (λ m. refl) refl refl refl

call_z_y : Appends y 1 after-z after_z-y (done 3 0)
unfolding opened after-z after_z-y store.replica_in view.log_of view.firsts view.entry_of view.op_of view.stretch view.written_all view.written table.rows_of table.zipped table.vectors_of table.vector_of
call_z_y = called y (delete 5) edit-y after-z after_z-y after_z-fits (omega arith) entry-y 0 after_z_y_fits refl (λ m. refl) refl refl refl

turn_x_y : InTurn x y 1 before after_x-y
turn_x_y = record { between = after-x; first = done 2 2; second = done 3 1; called = call-x; followed = call_x_y }

turn_y_x : InTurn y x 1 before after_y-x
turn_y_x = record { between = after-y; first = done 2 0; second = done 3 1; called = call-y; followed = call_y_x }

turn_z_y : InTurn z y 1 before after_z-y
turn_z_y = record { between = after-z; first = done 2 1; second = done 3 0; called = call-z; followed = call_z_y }

space : before.count ≤ 1022
unfolding before
space = omega arith

-- ---- The laws, met

pub vectors_met : read_vectors after_x-y ≡ read_vectors after_y-x
vectors_met =
    same-vectors 1 before before-fits space x y (sets 3) (delete 5) edit-x edit-y after_x-y after_y-x turn_x_y turn_y_x (λ q. omega arith)

pub searches_met : SearchedAlike after_x-y after_y-x
searches_met =
    same-searches 1 before before-fits space x y (sets 3) (delete 5) edit-x edit-y after_x-y after_y-x turn_x_y turn_y_x (λ q. omega arith)

pub later_met : read_vectors after_z-y ≡ read_vectors after-y
later_met = later_vectors 1 before before-fits space z y (sets 5) (delete 5) edit-z edit-y after_z-y after-y turn_z_y (done 2 0) call-y refl

pub later_searches_met : SearchedAlike after_z-y after-y
later_searches_met =
    later_searches 1 before before-fits space z y (sets 5) (delete 5) edit-z edit-y after_z-y after-y turn_z_y (done 2 0) call-y refl
