-- Laws of a Search of bytes on a header, one for each way out. Assumes nothing.
use Prim.Native.Nat.{ℕ, ◌≤◌}
use mathlib.Core.Path.{◌≡◌, refl, sym, ap, subst, ◌∙◌}
use mathlib.Core.Bool.{Bool, true, false}
use mathlib.Core.List.{List}
use mathlib.Core.Option.{some}
use native.Mathlib.Omega.{arith}
use lib.Ieee.{Float}
use lib.ListN.{take}
use borrow.Author.Tests.{le-ltb}
use Rattle.spec.specs.Limits.{max_time}
use Rattle.spec.specs.Keys.{Key}
use Rattle.spec.specs.Refusals.{unknown_shard, not_primary, no_lease, too_few_in_sync, undecodable, outside_domain, no_room, malformed, last_epoch, no_worker}
use Rattle.spec.specs.Layout.Message as message
use Rattle.spec.specs.Node.Held as held
use Rattle.spec.specs.Node.Shards.{Result}
use Rattle.spec.specs.Node.Wire.{patterns_in_domain, floats_of}
use Rattle.spec.specs.Node.WellFormed.{well_formed_vector}
use Rattle.spec.specs.Node.Client as client
use Rattle.spec.specs.Node.Refused.{counted, count_search, search_turned_down}
use Rattle.spec.specs.Node.Calls as calls
use Rattle.spec_laws.proofs.Lists.{not_both}
use Rattle.spec_laws.proofs.Node.Refusals.{search_same}
use Rattle.wire_read.specs.declared.SearchPart.{SearchPart}
use Rattle.wire_read.proofs.Decoded.{search_decoded}
use Rattle.log_arrive.specs.Parts.{bits_in}
use Rattle.log_arrive.proofs.InMessage.{bits-length}
use Rattle.log_arrive.proofs.Messages.{search_part_lem, search_there, search_bits}
use Rattle.node_header.specs.declared.Node.{Node}
use Rattle.node_header.specs.View.{Stores, view_node}
use Rattle.node_header.proofs.Shards.{some_stores}
use Rattle.map_names.specs.Texts.{key_in}
use Rattle.node_lent.specs.Lend.{LentStore, lent_for, slot_of, Lends}
use Rattle.node_lent.proofs.Lend.{holding, holding_changes}
use Rattle.node_search.specs.declared.SearchAnswer.{SearchAnswer}
use Rattle.node_search.specs.Query.{ReadsQuery}
use Rattle.node_search.specs.Searches.{word, turned_down, Output, room, filled, search_answered, SearchSlot, Tells, tested_search, SearchesNamed, IsSearch, Searches, SearchesAt}
use Rattle.node_search.proofs.Named.{search_key}
use Rattle.node_search.proofs.QueryLaws.{query-formed}
use Rattle.node_search.proofs.Held.{tells_as}

-- ---- a message that was read

module _ (n : Node) (a : LentStore) (m : List ℕ) (clock : ℕ) (o : Output) where
  module _ (early : clock ≤ max_time) (p : SearchPart) (i : IsSearch m p) where
    -- the query as its parts stand in the message
    abbrev asked : message.Query
    asked = record { key = key_in m p.key; epoch = p.epoch.0; k = p.k; bits = bits_in m p.vector }

    decodes : message.decode_search m ≡ some asked
    decodes =
        let d = (search_decoded m p i).decoded in
        let q = (search_decoded m p i).read in
        d
        ∙ ap (λ (z : SearchPart). some (record { key = q.key; epoch = z.epoch.0; k = z.k; bits = q.bits })) (sym (search_part_lem m p i q d))
        ∙ ap (λ (z : List ℕ). some (record { key = q.key; epoch = p.epoch.0; k = p.k; bits = z })) (sym (search_bits m p i q d))
        ∙ ap (λ (z : Key). some (record { key = z; epoch = p.epoch.0; k = p.k; bits = bits_in m p.vector })) (sym (search_key m p i q d))

    with-is : (s : Stores)
        → calls.search_with (lent_for s n a) (view_node s n) clock (room o) m ≡ calls.search_of (lent_for s n a) (view_node s n) clock (room o) (some asked)
    unfolding calls.search_with
    with-is s = rw (le-ltb max_time clock early) (rw decodes refl)

    module _ (b : Bool) (column : List Float) (reads : ReadsQuery (bits_in m p.vector) b p.vector.len column) where
      module _ (e : b ≡ true) where
        inside : patterns_in_domain (bits_in m p.vector) ≡ true
        inside = sym reads.tested ∙ e

        pub message-query : well_formed_vector (take p.vector.len column) ≡ true
        message-query =
            let there = search_there m p i in
            let size = bits-length m p.vector in
            ap well_formed_vector (reads.floats e)
            ∙ query-formed (bits_in m p.vector) (omega (arith, there.0)) (omega (arith, there.1)) ∙ inside

        pub message-named : (key : Key) → key ≡ key_in m p.key → (o' : Output) (r : SearchAnswer)
            → SearchesNamed n a key clock p.epoch.0 p.k (take p.vector.len column) o o' r → Searches n a m clock o o' r
        message-named key k o' r t s slot j l =
            let own : slot ≡ slot_of n key = j asked decodes ∙ ap (slot_of n) (sym k) in
            tells_as o o' r _ _
            (ap (λ (z : Result client.SearchAnswer held.Node). z.answer) (with-is s) ∙ rw inside refl)
            (subst (λ (z : Key). Tells o o' r (tested_search (lent_for s n a z) (view_node s n) clock (room o) z p.epoch.0 p.k (floats_of (bits_in m p.vector))).answer) k
            (subst (λ (z : List Float). Tells o o' r (tested_search (lent_for s n a key) (view_node s n) clock (room o) key p.epoch.0 p.k z).answer) (reads.floats e)
            (t s (subst (λ (x : ℕ). Lends s x a) own l))))

-- ---- the count

-- a word is turned down where its answer is
turned_as : (x : client.SearchAnswer) → turned_down (word x) ≡ search_turned_down x
turned_as (client.found h) = refl
turned_as (client.search_refused unknown_shard) = refl
turned_as (client.search_refused (not_primary e)) = refl
turned_as (client.search_refused no_lease) = refl
turned_as (client.search_refused too_few_in_sync) = refl
turned_as (client.search_refused undecodable) = refl
turned_as (client.search_refused outside_domain) = refl
turned_as (client.search_refused no_room) = refl
turned_as (client.search_refused malformed) = refl
turned_as (client.search_refused last_epoch) = refl
turned_as (client.search_refused no_worker) = refl

refused-keeps : (o : Output) (x : client.SearchAnswer) → search_turned_down x ≡ true → filled o x ≡ o
refused-keeps o (client.found h) e = not_both false e refl
refused-keeps o (client.search_refused r) e = refl

-- refused, the output is as it was
tells-kept : (o p : Output) (r : SearchAnswer) (x : client.SearchAnswer) → Tells o p r x → turned_down r ≡ true → p ≡ o
tells-kept o p r x d e = d.output ∙ refused-keeps o x (sym (ap turned_down d.answer ∙ turned_as x) ∙ e)

module _ (n : Node) (a : LentStore) (m : List ℕ) (clock : ℕ) (o p : Output) (before : ℕ) (r : SearchAnswer) (c : ℕ) (count : c ≡ counted before (turned_down r)) where
  -- all that the caller gets, from the answer and the output
  told-by : Searches n a m clock o p r → (s : Stores) (slot : ℕ) → SearchSlot n m slot → Lends s slot a
      → record { answer = r; output = p; refused = c; node = view_node s n }
      ≡ search_answered o before (calls.search_with (lent_for s n a) (view_node s n) clock (room o) m)
  unfolding count_search
  told-by t s slot j l =
      let q = calls.search_with (lent_for s n a) (view_node s n) clock (room o) m in
      let d = t s slot j l in
      ap (λ (x : ℕ). record { answer = r; output = p; refused = x; node = view_node s n }) (count ∙ ap (counted before) (ap turned_down d.answer ∙ turned_as q.answer))
      ∙ ap (λ (x : SearchAnswer). record { answer = x; output = p; refused = count_search before q.answer; node = view_node s n }) d.answer
      ∙ ap (λ (x : Output). record { answer = word q.answer; output = x; refused = count_search before q.answer; node = view_node s n }) d.output
      ∙ ap (λ (x : held.Node). record { answer = word q.answer; output = filled o q.answer; refused = count_search before q.answer; node = x })
      (sym (search_same (lent_for s n a) (view_node s n) clock (room o) m))

  -- a message that was read
  pub search_done : (part : SearchPart) → IsSearch m part → Searches n a m clock o p r → SearchesAt n a m clock o p before (record { answer = r; refused = c })
  search_done part i t =
      let slot = slot_of n (key_in m part.key) in
      let s = holding some_stores slot a in
      let own : SearchSlot n m slot = λ v d. ap (slot_of n) (search_key m part i v d) in
      let d = t s slot own (holding_changes some_stores slot a a).before in
      record {
        same = told-by t;
        kept = tells-kept o p r (calls.search_with (lent_for s n a) (view_node s n) clock (room o) m).answer d;
        counts = count;
      }

-- ---- bytes that are no Search
