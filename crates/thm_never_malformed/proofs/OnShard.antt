-- A call at the shard of a key leaves intact images intact: what `image_node` says of the images after it, and which shard its definition changes.
-- Assumes nothing.
use Prim.Native.Nat.{ℕ, suc, ◌*◌, ◌≤◌, ◌<◌, min}
use mathlib.Core.Path.{◌≡◌, refl, sym, ap, subst, ◌∙◌}
use mathlib.Core.Bool.{Bool, true, false}
use mathlib.Core.Logic.{⊎_elim}
use mathlib.Core.List.{List, ◌∷◌}
use mathlib.Core.Option.{none, some}
use native.Mathlib.Omega.{arith}
use lib.ListN.{length, get_or, take, drop, length-map, length-append, length-drop}
use lib.Seq.{length-sets, length-take-le, get_or-take}
use borrow.Author.Tests.{ltb-true, ltb-false}
use Rattle.spec.specs.Lists.{find, lead, put}
use Rattle.spec.specs.Keys.{Key, same_key}
use Rattle.spec.specs.Log.{Log, Vectors}
use Rattle.spec.specs.Node.Held as held
use Rattle.spec.specs.Node.Shards.{Result, of_key, held_shard, held_below}
use Rattle.spec.specs.Node.WellFormed.{well_formed_header}
use Rattle.spec_laws.proofs.Map.Rows.{find_true, find-update}
use Rattle.spec_laws.proofs.Node.Shards.{update-none}
use Rattle.spec_laws.proofs.Node.Formed.{FormedNode, formed-header}
use Rattle.spec_retained.proofs.Begin.{PutIn}
use Rattle.node_shard.specs.View.{insert_at}
use Rattle.node_shard.proofs.Loops.{lead-most}
use Rattle.node_header.specs.declared.HeldRow.{HeldRow}
use Rattle.node_header.specs.declared.Node.{Node}
use Rattle.node_header.specs.View.{view_held_row, used, no_held_row}
use Rattle.node_header.specs.Formed.{formed_node}
use Rattle.node_header.specs.Slots.{slots_of}
use Rattle.node_header.specs.Grow.{lowest_free, below_key}
use Rattle.node_header.proofs.Lists.{by_case}
use Rattle.node_header.proofs.Formed.{header-apart}
use Rattle.node_header.proofs.Shards.{shard-none, shard_some}
use Rattle.node_lent.specs.Lend.{place_of, lent_for}
use Rattle.image_header.specs.Image.{node_at}
use Rattle.image_store.specs.Image.{well_formed_image}
use Rattle.image_store.specs.Write.{rows_put}
use Rattle.image_node.specs.Lent.{stores_size, begin_of, holds_key, held_row_of, lent_store_in}
use Rattle.image_node.specs.State.{stores_in, state_at, store_with, StoreAfter, StateAfter}
use Rattle.image_node.proofs.Back.{entries_length}
use Rattle.thm_never_malformed.specs.Intact.{Intact}
use Rattle.thm_never_malformed.proofs.Stores.{begun-store, same_store}
use Rattle.thm_never_malformed.proofs.Pairs.{StoreFits, Pairs, pairs-at, pairs-put}
use Rattle.thm_never_malformed.proofs.Lent.{rows_inside, state_pairs, intact_of}
use Rattle.thm_never_malformed.proofs.Changes.{ChangesAt}

-- a store that is written has the size that it had
length-with : (s : List ℕ) (x : HeldRow) (l : Log) → length (store_with s x l) ≡ length s
unfolding store_with rows_put
length-with s x l =
    let from = min x.held.last (length l) in
    rw (length-sets, length-sets) (entries_length (drop from l) s (begin_of x) from)

module _ {A : Type 0} (does : (Key → Bool) → held.Node → Result A held.Node) (h s h' s' : List ℕ) (k : Key) (slots_are : List ℕ) (i : Intact h s)
    (a : StateAfter A does h s h' s' k slots_are) where
  abbrev n : Node
  n = node_at h

  abbrev before : held.Node
  before = state_at h s

  -- the node that the call's definition leaves
  abbrev pub after : held.Node
  after = (does (lent_for (stores_in s) n (lent_store_in s n k)) before).after

  module _ (formed : FormedNode after) where
    header-formed : formed_node (node_at h') ≡ true
    header-formed = a.formed (ap well_formed_header a.state ∙ formed-header after formed)

    pairs-after : stores_size ≤ length s' → Pairs (StoreFits s') slots_are after.held → Intact h' s'
    pairs-after size p =
        intact_of h' s' a.lent header-formed size
        (subst (λ (is : List ℕ). Pairs (StoreFits s') is (state_at h' s').held) (sym a.slots_are)
        (subst (λ (v : held.Node). Pairs (StoreFits s') slots_are v.held) (sym a.state) p))

    -- ---- the shard is held

    module _ (e : holds_key n k ≡ true) (c : ChangesAt before k after) where
      under : place_of n k < n.count
      under = ltb-true (place_of n k) n.count e

      abbrev x : HeldRow
      x = get_or (used n) (place_of n k) no_held_row

      row : x ≡ held_row_of n k
      row = get_or-take n.count n.held (place_of n k) no_held_row under

      found : held_shard (state_at h' s') k ≡ some (c.change (view_held_row (stores_in s) x))
      unfolding held_shard
      found =
          let g = view_held_row (stores_in s) x in
          let at : find (of_key k) before.held ≡ some g =
          shard_some (stores_in s) n k (rows_inside h s i) (place_of n k) refl under ∙ ap (λ (y : HeldRow). some (view_held_row (stores_in s) y)) (sym row) in
          ap (λ (v : held.Node). find (of_key k) v.held) a.state
          ∙ ap (find (of_key k)) c.held
          ∙ find-update (of_key k) c.change before.held g
          (ap (λ (j : Key). same_key j k) (c.key g) ∙ find_true (of_key k) before.held g at) at

      stored : StoreAfter s s' x (c.change (view_held_row (stores_in s) x))
      stored = subst (λ (y : HeldRow). StoreAfter s s' y (c.change (view_held_row (stores_in s) x))) (sym row) (a.store e (c.change (view_held_row (stores_in s) x)) found)

      held_after_lem : slots_are ≡ slots_of n → Intact h' s'
      held_after_lem same =
          pairs-after
          (let z = i.size in omega (arith, ap length stored.bytes ∙ length-with s x (c.change (view_held_row (stores_in s) x)).replica.log))
          (subst (λ (is : List ℕ). Pairs (StoreFits s') is after.held) (sym same)
          (subst (Pairs (StoreFits s') (slots_of n)) (sym c.held)
          (pairs-at (stores_in s) (StoreFits s) (StoreFits s') k c.change (used n) (header-apart n i.formed)
          (omega (arith, under, length-take-le n.count n.held (rows_inside h s i)))
          (λ j g d. same_store s' s (j * 174080) (length g.replica.log) (length g.replica.vectors) (λ p u v. stored.beside j p d u v))
          stored.well (state_pairs h s i))))

    -- ---- the shard is not held: no store is written

    module _ (e : holds_key n k ≡ false) where
      gone : n.count ≤ place_of n k
      gone = ltb-false (place_of n k) n.count e

      absent : held_shard before k ≡ none
      absent = shard-none (stores_in s) n k (rows_inside h s i) (place_of n k) refl gone

      unwritten_after : Pairs (StoreFits s) slots_are after.held → Intact h' s'
      unwritten_after p =
          pairs-after (subst (λ (t : List ℕ). stores_size ≤ length t) (sym (a.none e)) i.size)
          (subst (λ (t : List ℕ). Pairs (StoreFits t) slots_are after.held) (sym (a.none e)) p)

      absent-after : slots_are ≡ slots_of n → ChangesAt before k after → Intact h' s'
      unfolding held_shard
      absent-after same c =
          unwritten_after
          (subst (λ (is : List ℕ). Pairs (StoreFits s) is after.held) (sym same)
          (subst (Pairs (StoreFits s) (slots_of n)) (sym (c.held ∙ update-none (of_key k) c.change before.held absent)) (state_pairs h s i)))

    -- a call that begins no shard
    pub same_after : slots_are ≡ slots_of n → ChangesAt before k after → Intact h' s'
    same_after same c = by_case (holds_key n k) (λ e. held_after_lem e c same) (λ e. absent-after e same c)

    -- ---- a shard begins, in a slot of its own

    slots-more : length (insert_at (slots_of n) (lead (below_key k) (used n)) (lowest_free (used n))) ≡ suc (length (used n))
    slots-more =
        let j = lead (below_key k) (used n) in
        let m = length-map (used n) (λ (q : HeldRow). q.slot) in
        let low : j ≤ length (slots_of n) = omega (arith, lead-most (below_key k) (used n)) in
        omega (arith, length-append (take j (slots_of n)) (lowest_free (used n) ∷ drop j (slots_of n)), length-take-le j (slots_of n) low, length-drop j (slots_of n))

    -- as many shards as slots
    held_more : slots_are ≡ insert_at (slots_of n) (lead (below_key k) (used n)) (lowest_free (used n)) → length after.held ≡ suc (length (used n))
    held_more begins =
        ap (λ (v : held.Node). length v.held) (sym a.state)
        ∙ length-map (used (node_at h')) (view_held_row (stores_in s'))
        ∙ sym (length-map (used (node_at h')) (λ (q : HeldRow). q.slot))
        ∙ ap length (a.slots_are ∙ begins)
        ∙ slots-more

    pub begun-after : holds_key n k ≡ false → slots_are ≡ insert_at (slots_of n) (lead (below_key k) (used n)) (lowest_free (used n)) → PutIn before k after
        → Intact h' s'
    begun-after e begins c =
        let l = used n in
        let slot = lowest_free l in
        let more = held_more begins in
        ⊎_elim
        (λ q. absurd (omega (arith, more, ap (λ (v : held.Node). length v.held) q, length-map l (view_held_row (stores_in s)))))
        (λ q.
        let g = q.0 in
        let f = q.1 in
        let is : after.held ≡ put held_below g before.held = ap (λ (v : held.Node). v.held) q.2 in
        let own : StoreFits s slot g =
        ap (λ (d : Log). well_formed_image s (slot * 174080) (length d) (length g.replica.vectors)) f.log
        ∙ ap (λ (d : Vectors). well_formed_image s (slot * 174080) 0 (length d)) f.vectors
        ∙ begun-store s (slot * 174080) in
        unwritten_after e
        (subst (λ (is : List ℕ). Pairs (StoreFits s) is after.held) (sym begins)
        (subst (Pairs (StoreFits s) (insert_at (slots_of n) (lead (below_key k) l) slot)) (sym is)
        (subst (λ (j : Key). Pairs (StoreFits s) (insert_at (slots_of n) (lead (below_key j) l) slot) (put held_below g before.held)) f.key
        (pairs-put (stores_in s) (StoreFits s) slot g own l (sym (ap length is) ∙ more) (state_pairs h s i))))))
        c
