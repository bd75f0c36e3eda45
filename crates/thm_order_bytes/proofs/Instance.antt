-- The premises of Order.antt met by images of the code's own sizes: node 1, as the engine's own calls left it, with an empty log; an Upsert of 41
-- and one of 7 in the two orders, and the Upsert of 41 before a Delete of 41. Each call keeps the contract of `catalogue_write`. Assumes nothing.
use Prim.Native.Nat.{ℕ, ◌≤◌, ◌<◌}
use mathlib.Core.Path.{◌≡◌, refl, sym, ap, ◌∙◌, subst}
use mathlib.Core.Bool.{true}
use mathlib.Core.List.{List, [], ◌∷◌}
use mathlib.Core.Option.{Option, some}
use native.Mathlib.Omega.{arith}
use lib.Ieee.{fits}
use lib.ListN.{length, take, drop, replicate}
use Rattle.spec.specs.Keys.{Key}
use Rattle.spec.specs.Log.{Entry, Log, delete, components}
use Rattle.spec.specs.Layout.Format.{Bytes, All}
use Rattle.spec.specs.Layout.Parts.{wire_upsert, wire_delete}
use Rattle.spec.specs.Node.Held as held
use Rattle.spec.specs.Node.Wire.{op_in_domain}
use Rattle.spec.specs.Node.Shards.{held_shard}
use Rattle.spec_laws.proofs.Lists.{some_same}
use Rattle.spec_laws.proofs.Log.Edits.{op_id}
use Rattle.spec_run.proofs.Cases.Opened.{opened}
use Rattle.thm_run.proofs.Simulation.Client.{are_bytes}
use Rattle.log_store.specs.Table as table
use Rattle.std.specs.Prelude.{Some}
use Rattle.node_header.specs.declared.Node.{Node}
use Rattle.node_header.specs.View.{view_node}
use Rattle.image_parts.specs.Canon as canon
use Rattle.image_header_row.specs.Rows as rows
use Rattle.image_header_row.specs.Tidy as tidy
use Rattle.image_header.specs.Image.{header_put}
use Rattle.image_header.specs.Becomes.{HeaderWrites}
use Rattle.image_header.proofs.Becomes.{writes_long}
use Rattle.image_header.proofs.Image.{lent_long}
use Rattle.image_store.specs.Image as store
use Rattle.image_store.specs.Write.{Fits, RowFits}
use Rattle.image_node.specs.Lent.{store_put, StoreFits}
use Rattle.image_node.specs.State.{stores_in}
use Rattle.calls_parts.specs.Answer.{number_put}
use Rattle.calls_client.specs.Written.{buffers, WritesImages}
use Rattle.thm_never_malformed.specs.Intact.{Intact}
use Rattle.thm_never_malformed.specs.Calls.{show_map, grant, Called, Answered, Calls}
use Rattle.thm_never_malformed.proofs.Intact.{never_malformed}
use Rattle.thm_never_malformed.proofs.Stores.{begun-store}
use Rattle.thm_one_node.specs.Images.{map_bytes, unused, new, shown, header, stores, leased, written, room, offset, count}
use Rattle.thm_one_node.proofs.Map.{key}
use Rattle.thm_one_node.proofs.Headers.{kept, read-leased, read-written, lent-leased, lent_written}
use Rattle.thm_one_node.proofs.Fits.{node-fits}
use Rattle.thm_one_node.proofs.New.{is-new}
use Rattle.thm_one_node.proofs.Shown.{shows}
use Rattle.thm_one_node.proofs.Grant.{grants}
use Rattle.thm_one_node.proofs.Columns.{nothing, stores-bytes, stores_long, stores-room}
use Rattle.thm_one_node.proofs.Write.{read}
use Rattle.thm_one_node.proofs.WriteImages.{header-written}
use Rattle.thm_order_writes.specs.Editors.{log_in}
use Rattle.thm_order_writes.proofs.Instance.{
  ones,
  x,
  y,
  z,
  read-x,
  read-y,
  read-z,
  sets,
  edit-x,
  edit-y,
  edit-z,
  after-x,
  after-y,
  after-z,
  after_x-y,
  after_y-x,
  after_x-z,
  entry,
  row,
  reads_after_x,
  reads_after_y,
  reads_after_z,
  reads_after_x_y,
  reads_after_y_x,
  reads_after_x_z,
  formed-empty,
  formed-one,
  does-x,
  does-y,
  does-z,
  does_x_y,
  does_y_x,
  does_x_z,
  now,
}
use Rattle.thm_order_bytes.specs.Images.{Images, node_in, vectors_at, log_at, SpaceForTwo, Writes, InTurn, SearchedAlike}
use Rattle.thm_order_bytes.proofs.Calls.{node, Heads, Stored, writes, stores-after}
use Rattle.thm_order_bytes.proofs.Order.{both_accepted, same-vectors, same-searches, other-logs, later_vectors, later_searches}

-- ---- the headers: a lease until 100, so many rows and entries

heads_empty : Heads leased 0 0
heads_empty = record { read = read-leased; lent = lent-leased; formed = formed-empty }

heads_one : Heads written 1 1
heads_one = record { read = read-written; lent = lent_written; formed = formed-one }

abbrev pub head : (stored last : ℕ) → List ℕ
head stored last = header 1 100 stored last

put_two : head 2 2 ≡ header_put written (node 2 2)
unfolding header header_put rows.held_row_bytes tidy.tidy_held_row tidy.tidy_held canon.padded
put_two = refl

put_deleted : head 0 2 ≡ header_put written (node 0 2)
unfolding header header_put rows.held_row_bytes tidy.tidy_held_row tidy.tidy_held canon.padded
put_deleted = refl

put-none : head 0 1 ≡ header_put leased (node 0 1)
unfolding header header_put rows.held_row_bytes tidy.tidy_held_row tidy.tidy_held canon.padded
put-none = refl

writes-two : HeaderWrites written (head 2 2) (node 2 2)
writes-two =
    writes_long written (node 2 2) (head 2 2) (lent_long written lent_written) (node-fits (Some 100) 2 2 (omega arith) (omega arith) (omega arith)) put_two

writes_deleted : HeaderWrites written (head 0 2) (node 0 2)
writes_deleted =
    writes_long written (node 0 2) (head 0 2) (lent_long written lent_written) (node-fits (Some 100) 0 2 (omega arith) (omega arith) (omega arith)) put_deleted

writes-none : HeaderWrites leased (head 0 1) (node 0 1)
writes-none =
    writes_long leased (node 0 1) (head 0 1) (lent_long leased lent-leased) (node-fits (Some 100) 0 1 (omega arith) (omega arith) (omega arith)) put-none

-- ---- what the columns have fits the stores

abbrev one-row : (id place : ℕ) → table.Row
one-row id place = record { id = id; offset = place }

rows-x : table.rows_of after-x.keys after-x.places 1 ≡ one-row 41 1 ∷ []
unfolding after-x table.rows_of table.zipped
rows-x = refl

rows-y : table.rows_of after-y.keys after-y.places 1 ≡ one-row 7 1 ∷ []
unfolding after-y table.rows_of table.zipped
rows-y = refl

rows-z : table.rows_of after-z.keys after-z.places 0 ≡ []
unfolding after-z table.rows_of table.zipped
rows-z = refl

rows_x_y : table.rows_of after_x-y.keys after_x-y.places 2 ≡ one-row 7 2 ∷ one-row 41 1 ∷ []
unfolding after_x-y table.rows_of table.zipped
rows_x_y = refl

rows_y_x : table.rows_of after_y-x.keys after_y-x.places 2 ≡ one-row 7 1 ∷ one-row 41 2 ∷ []
unfolding after_y-x table.rows_of table.zipped
rows_y_x = refl

rows_x_z : table.rows_of after_x-z.keys after_x-z.places 0 ≡ []
unfolding after_x-z table.rows_of table.zipped
rows_x_z = refl

-- an entry of an Upsert or a Delete of a small id
fits-set : (id place : ℕ) → id < 256 → place < 256 → Fits (entry place (sets id))
unfolding opened fits
fits-set id place i p = record { epoch = omega arith; offset = omega arith; id = omega arith; formed = refl }

fits-gone : (place : ℕ) → place < 256 → Fits (entry place (delete 41))
unfolding opened
fits-gone place p = record { epoch = omega arith; offset = omega arith; id = omega arith; formed = refl }

fits-row : (id place : ℕ) → id < 256 → place < 256 → RowFits (one-row id place)
fits-row id place i p = record { id = omega arith; offset = omega arith }

fits-x : StoreFits (kept 1 1) after-x
fits-x = record {
  log = subst (All Fits) (sym reads_after_x.log) (fits-set 41 1 (omega arith) (omega arith), tt);
  rows = subst (All RowFits) (sym rows-x) (fits-row 41 1 (omega arith) (omega arith), tt);
}

fits-y : StoreFits (kept 1 1) after-y
fits-y = record {
  log = subst (All Fits) (sym reads_after_y.log) (fits-set 7 1 (omega arith) (omega arith), tt);
  rows = subst (All RowFits) (sym rows-y) (fits-row 7 1 (omega arith) (omega arith), tt);
}

fits-z : StoreFits (kept 0 1) after-z
fits-z = record {
  log = subst (All Fits) (sym reads_after_z.log) (fits-gone 1 (omega arith), tt);
  rows = subst (All RowFits) (sym rows-z) tt;
}

fits_x_y : StoreFits (kept 2 2) after_x-y
fits_x_y = record {
  log = subst (All Fits) (sym reads_after_x_y.log) (fits-set 41 1 (omega arith) (omega arith), (fits-set 7 2 (omega arith) (omega arith), tt));
  rows = subst (All RowFits) (sym rows_x_y) (fits-row 7 2 (omega arith) (omega arith), (fits-row 41 1 (omega arith) (omega arith), tt));
}

fits_y_x : StoreFits (kept 2 2) after_y-x
fits_y_x = record {
  log = subst (All Fits) (sym reads_after_y_x.log) (fits-set 7 1 (omega arith) (omega arith), (fits-set 41 2 (omega arith) (omega arith), tt));
  rows = subst (All RowFits) (sym rows_y_x) (fits-row 7 1 (omega arith) (omega arith), (fits-row 41 2 (omega arith) (omega arith), tt));
}

fits_x_z : StoreFits (kept 0 2) after_x-z
fits_x_z = record {
  log = subst (All Fits) (sym reads_after_x_z.log) (fits-set 41 1 (omega arith) (omega arith), (fits-gone 2 (omega arith), tt));
  rows = subst (All RowFits) (sym rows_x_z) tt;
}

-- ---- the calls

inside_set : (id : ℕ) → op_in_domain (wire_upsert id ones) ≡ true
unfolding opened
inside_set id = refl

inside_gone : op_in_domain (wire_delete 41) ≡ true
unfolding opened
inside_gone = refl

abbrev offset-two : List ℕ
offset-two = 2 ∷ replicate 7 0

told-one : offset ≡ number_put room 1
unfolding number_put
told-one = refl

told-two : offset-two ≡ number_put room 2
unfolding number_put
told-two = refl

stored-empty : Stored stores 0 0 [] []
unfolding opened store.log_at table.vectors_of table.rows_of table.zipped
stored-empty = record {
  long = stores_long;
  bytes = stores-bytes;
  image = begun-store stores 0;
  log = nothing;
  vectors = refl;
}

abbrev Short : Log → Type 0
Short l = All (λ (e : Entry). length (components e.op) < 256) l

-- the stores after: nothing is computed of them
abbrev pub stores-x : List ℕ
stores-x = store_put stores (kept 0 0) (kept 1 1) after-x

abbrev pub stores-y : List ℕ
stores-y = store_put stores (kept 0 0) (kept 1 1) after-y

abbrev pub stores-z : List ℕ
stores-z = store_put stores (kept 0 0) (kept 0 1) after-z

abbrev pub stores_x-y : List ℕ
stores_x-y = store_put stores-x (kept 1 1) (kept 2 2) after_x-y

abbrev pub stores_y-x : List ℕ
stores_y-x = store_put stores-y (kept 1 1) (kept 2 2) after_y-x

abbrev pub stores_x-z : List ℕ
stores_x-z = store_put stores-x (kept 1 1) (kept 0 2) after_x-z

call-x : WritesImages (buffers leased stores room) (buffers written stores-x offset) count count 5 1 x 0
call-x =
    writes leased stores 0 0 [] [] heads_empty stored-empty x (wire_upsert 41 ones) read-x (inside_set 41) written 1 1 after-x (entry 1 (sets 41) ∷ []) (row 41 ∷ []) reads_after_x fits-x
    header-written offset told-one does-x

pub stored-x : Stored stores-x 1 1 (entry 1 (sets 41) ∷ []) (row 41 ∷ [])
stored-x =
    stores-after leased stores 0 0 [] [] heads_empty stored-empty x (wire_upsert 41 ones) read-x (inside_set 41) written 1 1 after-x (entry 1 (sets 41) ∷ []) (row 41 ∷ []) reads_after_x fits-x
    header-written offset told-one does-x
    nothing (subst (λ (l : Log). Short (drop 0 l)) (sym reads_after_x.log) (omega arith, tt))

call-y : WritesImages (buffers leased stores room) (buffers written stores-y offset) count count 5 1 y 0
call-y =
    writes leased stores 0 0 [] [] heads_empty stored-empty y (wire_upsert 7 ones) read-y (inside_set 7) written 1 1 after-y (entry 1 (sets 7) ∷ []) (row 7 ∷ []) reads_after_y fits-y
    header-written offset told-one does-y

pub stored-y : Stored stores-y 1 1 (entry 1 (sets 7) ∷ []) (row 7 ∷ [])
stored-y =
    stores-after leased stores 0 0 [] [] heads_empty stored-empty y (wire_upsert 7 ones) read-y (inside_set 7) written 1 1 after-y (entry 1 (sets 7) ∷ []) (row 7 ∷ []) reads_after_y fits-y
    header-written offset told-one does-y
    nothing (subst (λ (l : Log). Short (drop 0 l)) (sym reads_after_y.log) (omega arith, tt))

call-z : WritesImages (buffers leased stores room) (buffers (head 0 1) stores-z offset) count count 5 1 z 0
call-z =
    writes leased stores 0 0 [] [] heads_empty stored-empty z (wire_delete 41) read-z inside_gone (head 0 1) 0 1 after-z (entry 1 (delete 41) ∷ []) [] reads_after_z fits-z
    writes-none offset told-one does-z

pub stored-z : Stored stores-z 0 1 (entry 1 (delete 41) ∷ []) []
stored-z =
    stores-after leased stores 0 0 [] [] heads_empty stored-empty z (wire_delete 41) read-z inside_gone (head 0 1) 0 1 after-z (entry 1 (delete 41) ∷ []) [] reads_after_z fits-z
    writes-none offset told-one does-z
    nothing (subst (λ (l : Log). Short (drop 0 l)) (sym reads_after_z.log) (omega arith, tt))

call_x_y : WritesImages (buffers written stores-x room) (buffers (head 2 2) stores_x-y offset-two) count count 5 1 y 0
call_x_y =
    writes written stores-x 1 1 (entry 1 (sets 41) ∷ []) (row 41 ∷ []) heads_one stored-x y (wire_upsert 7 ones) read-y (inside_set 7) (head 2 2) 2 2 after_x-y (entry 1 (sets 41) ∷ entry 2 (sets 7) ∷ []) (row 7 ∷ row 41 ∷ []) reads_after_x_y fits_x_y
    writes-two offset-two told-two does_x_y

pub stored_x_y : Stored stores_x-y 2 2 (entry 1 (sets 41) ∷ entry 2 (sets 7) ∷ []) (row 7 ∷ row 41 ∷ [])
stored_x_y =
    stores-after written stores-x 1 1 (entry 1 (sets 41) ∷ []) (row 41 ∷ []) heads_one stored-x y (wire_upsert 7 ones) read-y (inside_set 7) (head 2 2) 2 2 after_x-y (entry 1 (sets 41) ∷ entry 2 (sets 7) ∷ []) (row 7 ∷ row 41 ∷ []) reads_after_x_y fits_x_y
    writes-two offset-two told-two does_x_y
    (stored-x.log ∙ sym (ap (take 1) reads_after_x_y.log)) (subst (λ (l : Log). Short (drop 1 l)) (sym reads_after_x_y.log) (omega arith, tt))

call_y_x : WritesImages (buffers written stores-y room) (buffers (head 2 2) stores_y-x offset-two) count count 5 1 x 0
call_y_x =
    writes written stores-y 1 1 (entry 1 (sets 7) ∷ []) (row 7 ∷ []) heads_one stored-y x (wire_upsert 41 ones) read-x (inside_set 41) (head 2 2) 2 2 after_y-x (entry 1 (sets 7) ∷ entry 2 (sets 41) ∷ []) (row 7 ∷ row 41 ∷ []) reads_after_y_x fits_y_x
    writes-two offset-two told-two does_y_x

pub stored_y_x : Stored stores_y-x 2 2 (entry 1 (sets 7) ∷ entry 2 (sets 41) ∷ []) (row 7 ∷ row 41 ∷ [])
stored_y_x =
    stores-after written stores-y 1 1 (entry 1 (sets 7) ∷ []) (row 7 ∷ []) heads_one stored-y x (wire_upsert 41 ones) read-x (inside_set 41) (head 2 2) 2 2 after_y-x (entry 1 (sets 7) ∷ entry 2 (sets 41) ∷ []) (row 7 ∷ row 41 ∷ []) reads_after_y_x fits_y_x
    writes-two offset-two told-two does_y_x
    (stored-y.log ∙ sym (ap (take 1) reads_after_y_x.log)) (subst (λ (l : Log). Short (drop 1 l)) (sym reads_after_y_x.log) (omega arith, tt))

call_x_z : WritesImages (buffers written stores-x room) (buffers (head 0 2) stores_x-z offset-two) count count 5 1 z 0
call_x_z =
    writes written stores-x 1 1 (entry 1 (sets 41) ∷ []) (row 41 ∷ []) heads_one stored-x z (wire_delete 41) read-z inside_gone (head 0 2) 0 2 after_x-z (entry 1 (sets 41) ∷ entry 2 (delete 41) ∷ []) [] reads_after_x_z fits_x_z
    writes_deleted offset-two told-two does_x_z

pub stored_x_z : Stored stores_x-z 0 2 (entry 1 (sets 41) ∷ entry 2 (delete 41) ∷ []) []
stored_x_z =
    stores-after written stores-x 1 1 (entry 1 (sets 41) ∷ []) (row 41 ∷ []) heads_one stored-x z (wire_delete 41) read-z inside_gone (head 0 2) 0 2 after_x-z (entry 1 (sets 41) ∷ entry 2 (delete 41) ∷ []) [] reads_after_x_z fits_x_z
    writes_deleted offset-two told-two does_x_z
    (stored-x.log ∙ sym (ap (take 1) reads_after_x_z.log)) (subst (λ (l : Log). Short (drop 1 l)) (sym reads_after_x_z.log) (omega arith, tt))

-- ---- what the host owns

abbrev pub own : (h s : List ℕ) → Bytes s → Images
own h s b = record { header = h; stores = s; refused = count; memory = b }

abbrev pub start : Images
start = own leased stores stores-bytes

abbrev pub node-x : Images
node-x = own written stores-x stored-x.bytes

abbrev pub node-y : Images
node-y = own written stores-y stored-y.bytes

abbrev pub node-z : Images
node-z = own (head 0 1) stores-z stored-z.bytes

abbrev pub node_x-y : Images
node_x-y = own (head 2 2) stores_x-y stored_x_y.bytes

abbrev pub node_y-x : Images
node_y-x = own (head 2 2) stores_y-x stored_y_x.bytes

abbrev pub node_x-z : Images
node_x-z = own (head 0 2) stores_x-z stored_x_z.bytes

bytes-x : Bytes x
unfolding opened x
bytes-x = are_bytes x refl

bytes-y : Bytes y
unfolding opened y
bytes-y = are_bytes y refl

bytes-z : Bytes z
unfolding opened z
bytes-z = are_bytes z refl

write-x : Writes start now x node-x 0
unfolding now
write-x = record { answer = room; told = offset; room = omega arith; bytes = bytes-x; call = call-x }

write-y : Writes start now y node-y 0
unfolding now
write-y = record { answer = room; told = offset; room = omega arith; bytes = bytes-y; call = call-y }

write-z : Writes start now z node-z 0
unfolding now
write-z = record { answer = room; told = offset; room = omega arith; bytes = bytes-z; call = call-z }

write_x_y : Writes node-x now y node_x-y 0
unfolding now
write_x_y = record { answer = room; told = offset-two; room = omega arith; bytes = bytes-y; call = call_x_y }

write_y_x : Writes node-y now x node_y-x 0
unfolding now
write_y_x = record { answer = room; told = offset-two; room = omega arith; bytes = bytes-x; call = call_y_x }

write_x_z : Writes node-x now z node_x-z 0
unfolding now
write_x_z = record { answer = room; told = offset-two; room = omega arith; bytes = bytes-z; call = call_x_z }

turn_x_y : InTurn start now now x y node_x-y 0 0
turn_x_y = record { between = node-x; called = write-x; followed = write_x_y }

turn_y_x : InTurn start now now y x node_y-x 0 0
turn_y_x = record { between = node-y; called = write-y; followed = write_y_x }

turn_x_z : InTurn start now now x z node_x-z 0 0
turn_x_z = record { between = node-x; called = write-x; followed = write_x_z }

-- ---- they are intact: the engine's own calls left them

abbrev made : List Answered
made = record { call = show_map map_bytes [] room 0; number = 0 } ∷ record { call = grant 4 0 100; number = 0 } ∷ []

calls-made : Calls made new stores leased stores
unfolding Called Calls
calls-made = (shown, stores, ([], room, shows, refl), (leased, stores, (grants, refl), (refl, refl)))

pub whole : Intact leased stores
whole = (never_malformed unused new stores leased stores 1 4 made is-new stores-room calls-made).1

-- ---- the laws, met

state_empty : node_in start ≡ read [] []
unfolding stores_in
state_empty = ap (λ (n : Node). view_node (stores_in stores) n) read-leased ∙ stores-read
  where
    stores-read : view_node (stores_in stores) (node 0 0) ≡ read [] []
    stores-read = rw (stored-empty.vectors, stored-empty.log) refl

space : SpaceForTwo start key
unfolding opened
space l e =
    let q : ◌≡◌ {A = Option Log} (some []) (some l) = sym (ap (λ (n : held.Node). log_in (held_shard n key)) state_empty) ∙ e in
    subst (λ (i : Log). length i ≤ 1022) (some_same q) (omega arith)

-- whatever the two calls leave and answer, in the one order and in the other
pub accepted_met : (v : Images) (r₁ r₂ : ℕ) → InTurn start now now x y v r₁ r₂ → (r₁ ≡ 0) × (r₂ ≡ 0)
accepted_met =
    both_accepted start whole key x y (sets 41) (sets 7) edit-x edit-y space now now (record { left = node-x; writes = write-x })
    (record { left = node-y; writes = write-y })

pub accepted-turned : (v : Images) (r₁ r₂ : ℕ) → InTurn start now now y x v r₁ r₂ → (r₁ ≡ 0) × (r₂ ≡ 0)
accepted-turned =
    both_accepted start whole key y x (sets 7) (sets 41) edit-y edit-x space now now (record { left = node-y; writes = write-y })
    (record { left = node-x; writes = write-x })

pub vectors_met : (j : Key) → vectors_at node_x-y j ≡ vectors_at node_y-x j
vectors_met =
    same-vectors start whole key x y (sets 41) (sets 7) edit-x edit-y now now node_x-y turn_x_y now now node_y-x turn_y_x (λ q. omega arith)

pub searches_met : SearchedAlike node_x-y node_y-x
searches_met =
    same-searches start whole key x y (sets 41) (sets 7) edit-x edit-y now now node_x-y turn_x_y now now node_y-x turn_y_x (λ q. omega arith)

pub logs_met : log_at node_x-y key ≡ log_at node_y-x key → ⊥
logs_met =
    other-logs start whole key x y (sets 41) (sets 7) edit-x edit-y now now node_x-y turn_x_y now now node_y-x turn_y_x
    (λ q. let n : 41 ≡ 7 = ap op_id q in omega arith)

pub later_met : (j : Key) → vectors_at node_x-z j ≡ vectors_at node-z j
later_met = later_vectors start whole key x z (sets 41) (delete 41) edit-x edit-z now now node_x-z turn_x_z now node-z write-z refl

pub later_searches_met : SearchedAlike node_x-z node-z
later_searches_met = later_searches start whole key x z (sets 41) (delete 41) edit-x edit-z now now node_x-z turn_x_z now node-z write-z refl
