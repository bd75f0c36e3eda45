-- Laws of a Search on one held shard and at the shard of a key, one for each way out. Assumes nothing.
use Prim.Native.Nat.{ℕ}
use mathlib.Core.Path.{◌≡◌, refl, sym, ap, subst, ◌∙◌}
use mathlib.Core.Bool.{Bool, true, false, cond}
use mathlib.Core.List.{List}
use lib.Dec.{ltb}
use lib.Ieee.{Float}
use lib.ListN.{length, get_or}
use Rattle.spec.specs.Keys.{Key}
use Rattle.spec.specs.Refusals.{malformed, no_room, unknown_shard}
use Rattle.spec.specs.Nearest.Search.{hits}
use Rattle.spec.specs.Node.Held as held
use Rattle.spec.specs.Node.Shards.{Result, gives}
use Rattle.spec.specs.Node.Lease.{before, leased}
use Rattle.spec.specs.Node.Client as client
use Rattle.spec.specs.Node.WellFormed.{well_formed_vector}
use Rattle.spec.specs.declared.Neighbor.{Neighbor}
use Rattle.spec_laws.proofs.Node.Shards.{at_held}
use Rattle.node_shard.specs.declared.Held.{Held}
use Rattle.node_admit.specs.declared.Admit.{Admit}
use Rattle.node_admit.specs.declared.Admit.TheVariants as A
use Rattle.node_admit.specs.Admits.{search_as, AdmitsSearch}
use Rattle.node_admit.specs.View.{view_expiry}
use Rattle.log_store.specs.Table.{vectors_of}
use Rattle.log_store.specs.Store.{Store, store_log, store_rows, well_formed_store}
use Rattle.node_log_write.specs.Writes.{view_stored}
use Rattle.log_search.specs.declared.answer.Found as nearest
use Rattle.log_search.specs.Search.{search_store, Searched}
use Rattle.map_tables.specs.Names.{view_key}
use Rattle.node_header.specs.declared.HeldRow.{HeldRow}
use Rattle.node_header.specs.declared.Node.{Node}
use Rattle.node_header.specs.View.{Stores, view_held_row, view_node, no_held_row}
use Rattle.node_header.proofs.Shards.{shard_some, call-absent}
use Rattle.node_lent.specs.declared.Lent.TheVariants as L
use Rattle.node_lent.specs.declared.Lent as found
use Rattle.node_lent.specs.Lend.{LentStore, store_of, lent_for, slot_of, Lends, Finds, Found}
use Rattle.node_lent.proofs.Lend.{slot_held, lends_view}
use Rattle.node_search.specs.declared.SearchAnswer.{SearchAnswer}
use Rattle.node_search.specs.declared.SearchAnswer.TheVariants as S
use Rattle.node_search.specs.Searches.{Output, output, room, Tells, found_as, SearchesHeld, tested_search, SearchesNamed}

-- the definition's answer, in other words
pub tells_as : (o p : Output) (r : SearchAnswer) (a b : client.SearchAnswer) → a ≡ b → Tells o p r b → Tells o p r a
tells_as o p r a b e t = subst (Tells o p r) (sym e) t

-- ---- one held shard

module _ (h : Held) (s : Store) (epoch : ℕ) (lease : Bool) (k : ℕ) (q : List Float) (is : List ℕ) (ds : List Float) where
  abbrev o : Output
  o = output is ds

  -- the header's decision
  held_as_lem : (p : Output) (d : Admit) → AdmitsSearch h epoch lease d → (r : SearchAnswer)
      → ((key : Key) → Tells o p r (search_as d (room o) k q (view_stored key h s)).answer) → SearchesHeld h s epoch lease k q o p r
  held_as_lem p d a r t key =
      tells_as o p r _ _ (ap (λ (z : Result client.SearchAnswer held.Held). z.answer) (a key _ _ (room o) k q)) (t key)

  module _ (d : Admit) (a : AdmitsSearch h epoch lease d) where
    pub held_not : (e : ℕ) → d ≡ A.NotPrimary e → SearchesHeld h s epoch lease k q o o (S.NotPrimary (record { 0 = e }))
    held_not e z = held_as_lem o (A.NotPrimary e) (subst (AdmitsSearch h epoch lease) z a) _ (λ key. record { answer = refl; output = refl })

    pub held_unleased : d ≡ A.NoLease → SearchesHeld h s epoch lease k q o o (S.Refused 19)
    held_unleased z = held_as_lem o A.NoLease (subst (AdmitsSearch h epoch lease) z a) _ (λ key. record { answer = refl; output = refl })

    -- admitted: the nearest of the shard's vectors
    module _ (z : d ≡ A.Yes) (well : well_formed_store s ≡ true) (asked : well_formed_vector q ≡ true) (f : nearest.Found) (is' : List ℕ) (ds' : List Float) where
      abbrev neighbors : List Neighbor
      neighbors = hits h.metric q (vectors_of (store_log s) (store_rows s)) k

      tested-is : search_store s h.metric q k (room o)
          ≡ cond (ltb (room o) (length neighbors)) (client.search_refused no_room) (client.found neighbors)
      unfolding search_store
      tested-is = rw (asked, well) refl

      by-room : (b : Bool) (v : held.Held) → Searched (cond b (client.search_refused no_room) (client.found neighbors)) f is is' ds ds'
          → Tells o (output is' ds') (found_as f) (cond b (gives (client.search_refused no_room) v) (gives (client.found neighbors) v)).answer
      by-room true v t = record { answer = ap found_as t.0; output = ap (λ (x : List ℕ). output x ds') t.1 ∙ ap (output is) t.2 }
      by-room false v t = record { answer = ap found_as t.0; output = ap (λ (x : List ℕ). output x ds') t.1 ∙ ap (output _) t.2 }

      pub held_found : Searched (search_store s h.metric q k (room o)) f is is' ds ds' → (r : SearchAnswer) → r ≡ found_as f
          → SearchesHeld h s epoch lease k q o (output is' ds') r
      held_found t r e =
          held_as_lem (output is' ds') A.Yes (subst (AdmitsSearch h epoch lease) z a) r
          (λ key. subst (λ (w : SearchAnswer). Tells o (output is' ds') w (search_as A.Yes (room o) k q (view_stored key h s)).answer) (sym e)
          (by-room (ltb (room o) (length neighbors)) (view_stored key h s) (subst (λ (y : client.SearchAnswer). Searched y f is is' ds ds') tested-is t)))

-- ---- the shard of a key

module _ (n : Node) (a : LentStore) (key : Key) (clock epoch k : ℕ) (q : List Float) (o : Output) (f : found.Lent) (finds : Finds n key a f) where
  pub named_malformed : f ≡ L.Malformed → SearchesNamed n a key clock epoch k q o o (S.Refused 24)
  named_malformed e s l =
      let bad = subst (Finds n key a) e finds in
      tells_as o o (S.Refused 24) _ (client.search_refused malformed) (rw (bad s) refl) (record { answer = refl; output = refl })

  pub named-absent : f ≡ L.Absent → SearchesNamed n a key clock epoch k q o o (S.Refused 17)
  unfolding client.on_search
  named-absent e s l =
      let g = subst (Finds n key a) e finds in
      tells_as o o (S.Refused 17) _ (client.search_refused unknown_shard)
      (rw (g.lent s)
      (ap (λ (z : Result client.SearchAnswer held.Node). z.answer)
      (sym (call-absent s n key g.inside _ refl (client.search_refused unknown_shard) (client.search_held (leased (view_node s n) clock) (room o) epoch k q) g.gone))))
      (record { answer = refl; output = refl })

  module _ (at : ℕ) (e : f ≡ L.At at) where
    pub named-at : Found n key a at
    named-at = subst (Finds n key a) e finds

    abbrev kept : HeldRow
    kept = get_or n.held at no_held_row

    -- the definition's search at that shard, read with the lent store
    held-is : (s : Stores) → Lends s (slot_of n key) a
        → (tested_search (lent_for s n a key) (view_node s n) clock (room o) key epoch k q).answer
        ≡ (client.search_held (before (view_expiry n.expiry) clock) (room o) epoch k q (view_stored (view_key kept.key) kept.held (store_of a kept))).answer
    unfolding client.on_search leased
    held-is s l =
        let g = named-at in
        let does = client.search_held (before (view_expiry n.expiry) clock) (room o) epoch k q in
        rw (g.lent s)
        (ap (λ (z : Result client.SearchAnswer held.Node). z.answer)
        (at_held (view_node s n) key (client.search_refused unknown_shard) does (view_held_row s kept) (shard_some s n key g.inside at g.is g.under))
        ∙ ap (λ (v : held.Held). (does v).answer) (lends_view s (slot_of n key) a l kept (sym (slot_held n key at g.is g.under))))

    pub named-held : (lease : Bool) → lease ≡ before (view_expiry n.expiry) clock → (p : Output) (r : SearchAnswer)
        → SearchesHeld kept.held (store_of a kept) epoch lease k q o p r → SearchesNamed n a key clock epoch k q o p r
    named-held lease z p r t s l =
        tells_as o p r _ _ (held-is s l)
        (subst (λ (b : Bool). Tells o p r (client.search_held b (room o) epoch k q (view_stored (view_key kept.key) kept.held (store_of a kept))).answer) z (t (view_key kept.key)))
