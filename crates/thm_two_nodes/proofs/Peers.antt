-- What node 2 hears: the alignment, which it adopts; the entry, which it stores; and the alignment once more, late, which cuts nothing. The
-- buffers satisfy the contracts of `catalogue_new_epoch` and `catalogue_replicate`, which answer 0. Assumes nothing.
use Prim.Native.Nat.{ℕ}
use native.Mathlib.Omega.{arith}
use mathlib.Core.Path.{◌≡◌, refl, sym, ap, subst, ◌∙◌}
use mathlib.Core.Bool.{Bool, true, false}
use mathlib.Core.List.{List, [], ◌∷◌}
use mathlib.Core.Option.{some}
use lib.Ieee.{fits}
use lib.ListN.{take}
use lib.Seq.{sets}
use Rattle.spec.specs.Keys.{Key}
use Rattle.spec.specs.Layout.Format.{Bytes, bytes_of}
use Rattle.spec.specs.Layout.Message as message
use Rattle.spec.specs.Node.Held as held
use Rattle.spec.specs.Node.Shards.{held_shard}
use Rattle.spec.specs.Node.Calls as calls
use Rattle.spec.specs.Node.Wire.{op_in_domain}
use Rattle.spec_laws.proofs.Lists.{none_some, some_same, not_both}
use Rattle.spec_retained.specs.Retained.{CarriesAll}
use Rattle.spec_retained.proofs.Calls.{replicate_retains, new_epoch_retains}
use Rattle.spec_run.proofs.Cases.Opened.{opened}
use Rattle.log_calls.proofs.FitLaws.{fits-sized, fits-well}
use Rattle.log_store.specs.View as view
use Rattle.log_store.specs.Table as table
use Rattle.node_header.specs.declared.Node.{Node}
use Rattle.node_header.specs.View.{Stores, view_node}
use Rattle.node_header.specs.Slots.{slots_of}
use Rattle.node_header.specs.Answers.{answered_as}
use Rattle.node_lent.specs.Lend.{LentStore, place_of, lent_for, slot_of, Whole}
use Rattle.image_node.specs.Lent.{store_put, Writable, Puts, StorePuts}
use Rattle.image_node.specs.State.{stores_in, state_at}
use Rattle.image_node.proofs.Put.{puts-kept}
use Rattle.image_node.proofs.Back.{put-log, put-rows}
use Rattle.image_store.specs.Image.{log_at, rows_at}
use Rattle.image_store.specs.Write as write
use Rattle.node_replicate.specs.declared.PeerAnswer.{PeerAnswer}
use Rattle.node_replicate.specs.declared.PeerReply.TheVariants as R
use Rattle.node_replicate.specs.Peers.{word, SlotsGiven, ReplicateSlot, ReplicateNames, ReplicatesAt}
use Rattle.node_epoch.specs.NewEpochs.{NewEpochSlot, NewEpochSlots, NewEpochNames, slots_then, NewEpochsAt}
use Rattle.calls_peer_out.specs.Ends.{Buffers, ended, ended_as}
use Rattle.calls_peer.specs.PeerCalls.{buffers, replicates, announces, AtShard, ReplicatesImage, NewEpochsImage}
use Rattle.thm_one_node.specs.Images.{stores}
use Rattle.thm_one_node.proofs.Map.{key}
use Rattle.thm_one_node.proofs.Columns.{before, after, entry, row, log-after, rows-after, stored, stores-bytes, stored_bytes, is-put, puts, small}
use Rattle.thm_one_node.proofs.Zeros.{sets-bytes}
use Rattle.thm_one_node.proofs.Write.{vectors}
use Rattle.thm_one_node.proofs.Stored.{columns, columns-log, columns-rows, log-lent, vectors-lent, log-stored, stored_long}
use Rattle.thm_two_nodes.specs.Images.{shown_second, adopted, holding, reply}
use Rattle.thm_two_nodes.proofs.Headers.{kept, following, follows, read-second, read-adopted, read-holding}
use Rattle.thm_two_nodes.proofs.Put.{header-adopted, header-holding, header-kept}
use Rattle.thm_two_nodes.proofs.Nodes.{second, second_empty, second-one, second_store, second-full, second-slot, second-slots, second-passes, holding-passes, lends_second, lends_adopted, lends_holding, empty-fits, one-fits}
use Rattle.thm_two_nodes.proofs.Messages.{alignment, align_bytes, align_decoded, align_names, lone, entry_bytes, entry_decoded, entry_names}
use Rattle.thm_two_nodes.proofs.Served.{Facts, at-shard}

-- ---- the slot of the shard, which stays

align_slot : (epoch stored last slot : ℕ) → NewEpochSlot (follows epoch stored last) align_bytes slot → slot ≡ 0
align_slot epoch stored last slot w = w alignment align_decoded ∙ second-slot epoch stored last

align_own : (epoch stored last : ℕ) → NewEpochSlot (follows epoch stored last) align_bytes (slot_of (follows epoch stored last) key)
align_own epoch stored last v e = ap (slot_of (follows epoch stored last)) (align_names v e)

align_slots : (epoch stored last offset : ℕ)
    → NewEpochSlots (follows epoch stored last) align_bytes (R.Adopted (record { 0 = offset })) (follows 1 stored last)
unfolding opened slots_then
align_slots epoch stored last offset k named =
    subst (λ (z : Key). slots_of (follows 1 stored last) ≡ slots_then (follows epoch stored last) z (R.Adopted (record { 0 = offset })))
    (sym (named alignment align_decoded)) refl

align_carries : (f : Key → Bool) (v : held.Node) (g : held.Held) → held_shard v key ≡ some g
    → CarriesAll v (announces align_bytes f v).after
align_carries f v g q =
    new_epoch_retains v f align_bytes (λ w i. (g, subst (λ (j : Key). held_shard v j ≡ some g) (align_names w i) q))

at_zero : (epoch stored last : ℕ) → place_of (follows epoch stored last) key ≡ 0
unfolding opened
at_zero epoch stored last = refl

-- ---- the alignment: node 2 is at epoch 0, and adopts

abbrev adopting : PeerAnswer
adopting = record { answer = R.Adopted (record { 0 = 0 }); node = follows 1 0 0 }

adopts : (s : Stores)
    → record { answer = R.Adopted (record { 0 = 0 }); node = second 1 [] [] } ≡ answered_as word (calls.new_epoch_with (lent_for s (follows 0 0 0) before) (second 0 [] []) align_bytes)
unfolding opened align_bytes
adopts s = rw (second-passes s 0) refl

empty-whole : Whole (follows 0 0 0) (follows 1 0 0) before key
unfolding opened
empty-whole e = (fits-sized _ empty-fits, fits-well _ empty-fits)

adopts_at : NewEpochsAt (follows 0 0 0) before before align_bytes adopting
adopts_at = record {
  same = λ s t slot w c.
      ap (λ (x : held.Node). record { answer = R.Adopted (record { 0 = 0 }); node = x }) (second_empty t 1)
      ∙ adopts s
      ∙ ap (λ (x : held.Node). answered_as word (calls.new_epoch_with (lent_for s (follows 0 0 0) before) x align_bytes)) (sym (second_empty s 0));
  kept = λ e. not_both false e refl;
  slots_are = align_slots 0 0 0 0;
  slots = λ e. second-slots 1 0 0;
  whole = λ e k named. subst (Whole (follows 0 0 0) (follows 1 0 0) before) (sym (named alignment align_decoded)) empty-whole;
}

empty-puts : StorePuts stores stores (kept 0 (following 0 0)) (kept 0 (following 1 0)) before
unfolding opened store_put write.entries_put write.rows_put view.log_of view.firsts table.rows_of table.zipped
empty-puts = record { image = refl; fits = record { log = tt; rows = tt } }

adopt_puts : Puts shown_second adopted stores stores (follows 0 0 0) (follows 1 0 0) before 0
adopt_puts = puts-kept shown_second adopted stores stores (follows 0 0 0) (follows 1 0 0) before 0 header-adopted (omega arith) empty-puts

adopt_facts : Facts announces NewEpochSlot NewEpochNames NewEpochSlots align_bytes shown_second stores adopted stores before adopting (follows 0 0 0)
adopt_facts = record {
  called = subst (λ (x : LentStore). NewEpochsAt (follows 0 0 0) x before align_bytes adopting) (sym (second_store 0)) adopts_at;
  slot = align_own 0 0 0;
  passes = λ z. subst (λ (x : LentStore). lent_for z (follows 0 0 0) x key ≡ true) (sym (second_store 0)) (second-passes z 0);
  slots_are = refl;
  puts = subst (λ (i : ℕ). Puts shown_second adopted stores stores (follows 0 0 0) (follows 1 0 0) before i) (sym (at_zero 0 0 0)) adopt_puts;
}

-- ---- a message that is read names the shard

aligned-by : (b c : Buffers) → AtShard NewEpochsAt announces key align_bytes b c 0 → NewEpochsImage align_bytes b c 0
aligned-by b c d = record {
  undecoded = λ e. none_some (sym e ∙ align_decoded);
  outside = λ v e z. not_both true refl z;
  inside = λ v e z. subst (λ (k : Key). AtShard NewEpochsAt announces k align_bytes b c 0) (align_names v e) d;
}

unfoldable pub adopt_reply : List ℕ
adopt_reply = sets reply 0 (message.encode_reply (message.reply_adopted 0))

adopt_ends : ended 0 (buffers adopted stores adopt_reply) ≡ ended_as (buffers shown_second stores reply) adopted stores adopting.answer
unfolding adopt_reply
adopt_ends = refl

pub announces-first : NewEpochsImage align_bytes (buffers shown_second stores reply) (buffers adopted stores adopt_reply) 0
announces-first =
    aligned-by _ _
    (at-shard announces NewEpochSlot NewEpochNames NewEpochSlots align_bytes shown_second stores reply adopted stores adopt_reply before adopting (follows 0 0 0)
    read-second lends_second stores-bytes align_names refl (second-slots 1 0 0) align_carries adopt_facts adopt_ends)

-- ---- the entry

abbrev storing : PeerAnswer
storing = record { answer = R.Stored (record { 0 = 1 }); node = follows 1 1 1 }

stores_one : (s : Stores)
    → record { answer = R.Stored (record { 0 = 1 }); node = second 1 (entry ∷ []) vectors }
    ≡ answered_as word (calls.replicate_with (lent_for s (follows 1 0 0) before) (second 1 [] []) entry_bytes)
unfolding opened entry_bytes fits
stores_one s = rw (second-passes s 1) refl

one-whole : Whole (follows 1 0 0) (follows 1 1 1) after key
unfolding opened
one-whole e = (fits-sized _ one-fits, fits-well _ one-fits)

stores_at : ReplicatesAt (follows 1 0 0) before after entry_bytes storing
stores_at = record {
  same = λ s t slot w c.
      let z = w lone entry_decoded ∙ second-slot 1 0 0 in
      ap (λ (x : held.Node). record { answer = R.Stored (record { 0 = 1 }); node = x })
      (second-one t (log-lent after log-after rows-after t slot z c.after) (vectors-lent after log-after rows-after t slot z c.after))
      ∙ stores_one s
      ∙ ap (λ (x : held.Node). answered_as word (calls.replicate_with (lent_for s (follows 1 0 0) before) x entry_bytes)) (sym (second_empty s 1));
  kept = λ e. not_both false e refl;
  slots_are = refl;
  slots = λ e. second-slots 1 1 1;
  whole = λ e k named. subst (Whole (follows 1 0 0) (follows 1 1 1) after) (sym (named lone entry_decoded)) one-whole;
}

one-puts : StorePuts stores stored (kept 0 (following 1 0)) (kept 1 (following 1 1)) after
unfolding store_put
one-puts = record { image = is-put; fits = record { log = puts.fits.log; rows = puts.fits.rows } }

store-puts : Puts adopted holding stores stored (follows 1 0 0) (follows 1 1 1) after 0
store-puts = puts-kept adopted holding stores stored (follows 1 0 0) (follows 1 1 1) after 0 header-holding (omega arith) one-puts

store_facts : Facts replicates ReplicateSlot ReplicateNames (λ n m. SlotsGiven n) entry_bytes adopted stores holding stored after storing (follows 1 0 0)
store_facts = record {
  called = subst (λ (x : LentStore). ReplicatesAt (follows 1 0 0) x after entry_bytes storing) (sym (second_store 1)) stores_at;
  slot = λ v e. ap (slot_of (follows 1 0 0)) (entry_names v e);
  passes = λ z. subst (λ (x : LentStore). lent_for z (follows 1 0 0) x key ≡ true) (sym (second_store 1)) (second-passes z 1);
  slots_are = refl;
  puts = subst (λ (i : ℕ). Puts adopted holding stores stored (follows 1 0 0) (follows 1 1 1) after i) (sym (at_zero 1 0 0)) store-puts;
}

unfoldable pub store_reply : List ℕ
store_reply = sets reply 0 (message.encode_reply (message.reply_stored 1))

store-ends : ended 0 (buffers holding stored store_reply) ≡ ended_as (buffers adopted stores reply) holding stored storing.answer
unfolding store_reply
store-ends = refl

entry_inside : op_in_domain lone.op ≡ true
unfolding opened
entry_inside = refl

pub replicates-entry : ReplicatesImage entry_bytes (buffers adopted stores reply) (buffers holding stored store_reply) 0
replicates-entry = record {
  undecoded = λ e. none_some (sym e ∙ entry_decoded);
  outside = λ v e z. not_both (op_in_domain v.op) (ap (λ (w : message.Replicated). op_in_domain w.op) (some_same (sym e ∙ entry_decoded)) ∙ entry_inside) z;
  inside = λ v e z.
      subst (λ (k : Key). AtShard ReplicatesAt replicates k entry_bytes (buffers adopted stores reply) (buffers holding stored store_reply) 0) (entry_names v e)
      (at-shard replicates ReplicateSlot ReplicateNames (λ n m. SlotsGiven n) entry_bytes adopted stores reply holding stored store_reply after storing (follows 1 0 0)
      read-adopted lends_adopted stores-bytes entry_names refl (second-slots 1 1 1) (λ f v g q. replicate_retains v f entry_bytes) store_facts store-ends);
}

-- ---- the alignment once more, late: node 2 is at its epoch, and keeps the entry

abbrev keeping : PeerAnswer
keeping = record { answer = R.Adopted (record { 0 = 1 }); node = follows 1 1 1 }

keeps : (s : Stores)
    → record { answer = R.Adopted (record { 0 = 1 }); node = second 1 (entry ∷ []) vectors }
    ≡ answered_as word (calls.new_epoch_with (lent_for s (follows 1 1 1) columns) (second 1 (entry ∷ []) vectors) align_bytes)
unfolding opened align_bytes
keeps s = rw (holding-passes s) refl

keep-whole : Whole (follows 1 1 1) (follows 1 1 1) after key
unfolding opened
keep-whole e = (fits-sized _ one-fits, fits-well _ one-fits)

keeps-at : NewEpochsAt (follows 1 1 1) columns after align_bytes keeping
keeps-at = record {
  same = λ s t slot w c.
      let z = align_slot 1 1 1 slot w in
      ap (λ (x : held.Node). record { answer = R.Adopted (record { 0 = 1 }); node = x })
      (second-one t (log-lent after log-after rows-after t slot z c.after) (vectors-lent after log-after rows-after t slot z c.after))
      ∙ keeps s
      ∙ ap (λ (x : held.Node). answered_as word (calls.new_epoch_with (lent_for s (follows 1 1 1) columns) x align_bytes))
      (sym (second-one s (log-lent columns columns-log columns-rows s slot z c.before) (vectors-lent columns columns-log columns-rows s slot z c.before)));
  kept = λ e. not_both false e refl;
  slots_are = align_slots 1 1 1 1;
  slots = λ e. second-slots 1 1 1;
  whole = λ e k named. subst (Whole (follows 1 1 1) (follows 1 1 1) after) (sym (named alignment align_decoded)) keep-whole;
}

-- the rows of the table are written over themselves
unfoldable pub again : List ℕ
again = write.rows_put stored 0 (row ∷ [])

again-puts : StorePuts stored again (kept 1 (following 1 1)) (kept 1 (following 1 1)) after
unfolding opened store_put write.entries_put again
again-puts = record { image = rw (log-after, rows-after) refl; fits = record { log = puts.fits.log; rows = puts.fits.rows } }

keep-puts : Puts holding holding stored again (follows 1 1 1) (follows 1 1 1) after 0
keep-puts = puts-kept holding holding stored again (follows 1 1 1) (follows 1 1 1) after 0 header-kept (omega arith) again-puts

keep_facts : Facts announces NewEpochSlot NewEpochNames NewEpochSlots align_bytes holding stored holding again after keeping (follows 1 1 1)
keep_facts = record {
  called = subst (λ (x : LentStore). NewEpochsAt (follows 1 1 1) x after align_bytes keeping) (sym second-full) keeps-at;
  slot = align_own 1 1 1;
  passes = λ z. subst (λ (x : LentStore). lent_for z (follows 1 1 1) x key ≡ true) (sym second-full) (holding-passes z);
  slots_are = refl;
  puts = subst (λ (i : ℕ). Puts holding holding stored again (follows 1 1 1) (follows 1 1 1) after i) (sym (at_zero 1 1 1)) keep-puts;
}

unfoldable pub keep_reply : List ℕ
keep_reply = sets reply 0 (message.encode_reply (message.reply_adopted 1))

keep-ends : ended 0 (buffers holding again keep_reply) ≡ ended_as (buffers holding stored reply) holding again keeping.answer
unfolding keep_reply
keep-ends = refl

pub announces-late : NewEpochsImage align_bytes (buffers holding stored reply) (buffers holding again keep_reply) 0
announces-late =
    aligned-by _ _
    (at-shard announces NewEpochSlot NewEpochNames NewEpochSlots align_bytes holding stored reply holding again keep_reply after keeping (follows 1 1 1)
    read-holding lends_holding stored_bytes align_names refl (second-slots 1 1 1) align_carries keep_facts keep-ends)

-- ---- what node 2's images are then read as

pub again-bytes : Bytes again
unfolding again write.rows_put
again-bytes = sets-bytes (bytes_of 8 1) (sets stored 157696 (bytes_of 8 41)) 165888 (sets-bytes (bytes_of 8 41) stored 157696 stored_bytes small.1) small.0

writable : Writable (kept 1 (following 1 1)) (kept 1 (following 1 1)) after
writable = record { slot = omega arith; sized = fits-sized _ one-fits; well = fits-well _ one-fits }

log-again : log_at again 0 1 ≡ entry ∷ []
log-again =
    ap (λ (s : List ℕ). log_at s 0 1) again-puts.image
    ∙ put-log stored (kept 1 (following 1 1)) (kept 1 (following 1 1)) after (omega (arith, stored_long)) writable again-puts.fits
    (log-stored ∙ ap (take 1) (sym log-after))
    ∙ log-after

rows-again : rows_at again 0 1 ≡ row ∷ []
rows-again =
    ap (λ (s : List ℕ). rows_at s 0 1) again-puts.image
    ∙ put-rows stored (kept 1 (following 1 1)) (kept 1 (following 1 1)) after (omega (arith, stored_long)) writable again-puts.fits
    ∙ rows-after

again-read : view_node (stores_in again) (follows 1 1 1) ≡ second 1 (entry ∷ []) vectors
unfolding opened stores_in table.vectors_of table.vector_of
again-read = rw (log-again, rows-again) refl

pub state_late : state_at holding again ≡ second 1 (entry ∷ []) vectors
state_late = ap (λ (n : Node). view_node (stores_in again) n) read-holding ∙ again-read
