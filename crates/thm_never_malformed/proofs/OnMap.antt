-- A map shown leaves intact images intact, and does not answer 24 for a map that is well formed: a shard that stays keeps its slot and so its
-- store, and one that begins needs nothing of its store. Assumes nothing.
use Prim.Native.Nat.{ℕ, ◌*◌}
use mathlib.Core.Path.{◌≡◌, refl, sym, ap, subst, ◌∙◌}
use mathlib.Core.Bool.{true}
use mathlib.Core.Logic.{inl, inr}
use mathlib.Core.List.{List, [], ◌∷◌, map}
use native.Mathlib.Omega.{arith}
use lib.Dec.{eqb}
use lib.ListN.{length, get_or, take, length-map}
use borrow.Author.Tests.{eqb-false}
use Rattle.spec.specs.Lists.{◌and◌}
use Rattle.spec.specs.Keys.{key_below}
use Rattle.spec.specs.Log.{Log, Vectors}
use Rattle.spec.specs.Layout.Format.{All}
use Rattle.spec.specs.Map.WellFormed.{well_formed_map}
use Rattle.spec.specs.Node.Held as held
use Rattle.spec.specs.Node.Held.{Held}
use Rattle.spec.specs.Node.Shards.{held_shard}
use Rattle.spec.specs.Node.Shown as show
use Rattle.spec_laws.proofs.Lists.{by-test, not_both, and_true, and_left, and_right}
use Rattle.spec_laws.proofs.Node.Formed.{FormedNode, formed-header}
use Rattle.log_store.proofs.Bits.{every-at}
use Rattle.map_tables.specs.View.{view_map}
use Rattle.map_check.specs.Lent as maps
use Rattle.node_header.specs.declared.HeldRow.{HeldRow}
use Rattle.node_header.specs.declared.Node.{Node}
use Rattle.node_header.specs.View.{Stores, view_held_row, view_node, used, no_held_row}
use Rattle.node_header.specs.Formed.{held_row_fits, lent_node}
use Rattle.node_header.specs.Slots.{slots_of}
use Rattle.node_header.proofs.Lists.{by_case, map-rising}
use Rattle.node_header.proofs.Formed.{header-fit, header-apart}
use Rattle.node_show.specs.declared.ShownAnswer.{ShownAnswer}
use Rattle.node_show.specs.declared.ShownAnswer.TheVariants as S
use Rattle.node_show.specs.Shows.{ShownAnswered, view_starts}
use Rattle.node_show_slots.specs.Slots.{keys_of, slot_before, slotted, slots_after}
use Rattle.node_show_slots.proofs.SlotList.{slotted-all, own-slots}
use Rattle.image_header.specs.Image.{header_lent, node_at}
use Rattle.image_map.specs.Image.{map_lent, map_at}
use Rattle.image_store.specs.Image.{well_formed_image}
use Rattle.image_node.specs.State.{stores_in, state_at}
use Rattle.image_node.proofs.Counted.{counted, counted-all, counted-kept, stores-length}
use Rattle.image_node.proofs.Slots.{nodes_agree}
use Rattle.calls_header.specs.Waits.{Left, rows_room}
use Rattle.calls_header.specs.Shows.{worker_bytes, show_said, show_writes, shown_after, Shows, ShowsImage}
use Rattle.calls_header.proofs.Calls.{lent_both}
use Rattle.calls_header.proofs.Kept.{show_left_lem}
use Rattle.thm_never_malformed.specs.Intact.{Intact}
use Rattle.thm_never_malformed.proofs.Stores.{begun-store}
use Rattle.thm_never_malformed.proofs.Pairs.{StoreFits, Pairs, AtSlots, kept-few, pairs-found, slots-below, pairs-slotted}
use Rattle.thm_never_malformed.proofs.Lent.{lent-node, state_formed, state_pairs, intact_of}
use Rattle.thm_never_malformed.proofs.AfterMap.{From, After, shown-after, shown-formed, tables_fit}
use Rattle.thm_never_malformed.proofs.Refused.{Fine, shown_number, shown-fine}
use Rattle.thm_never_malformed.proofs.Keeps.{Keeps}
use Rattle.thm_never_malformed.proofs.OnHeader.{stays}

module _ (h s : List ℕ) (i : Intact h s) where
  abbrev n : Node
  n = node_at h

  abbrev v : held.Node
  v = state_at h s

  -- ---- the slots after

  from-slot : (g : Held) → From v g → AtSlots (StoreFits s) (slot_before (keys_of v) (slots_of n) g.key) g
  from-slot g (inl (o, e, l)) u keeps =
      let t = slot_before (keys_of v) (slots_of n) g.key in
      let f = pairs-found (stores_in s) (StoreFits s) g.key o (used n) (header-apart n i.formed) (unfold held_shard in e) (state_pairs h s i) in
      ap (λ (j : ℕ). well_formed_image s (j * 174080) (length g.replica.log) (length g.replica.vectors)) (keeps f.1)
      ∙ ap (λ (d : Log). well_formed_image s (t * 174080) (length d) (length g.replica.vectors)) l.log
      ∙ ap (λ (d : Vectors). well_formed_image s (t * 174080) (length o.replica.log) (length d)) l.vectors
      ∙ f.0
  from-slot g (inr (a, b)) u keeps =
      ap (λ (d : Log). well_formed_image s (u * 174080) (length d) (length g.replica.vectors)) a
      ∙ ap (λ (d : Vectors). well_formed_image s (u * 174080) 0 (length d)) b
      ∙ begun-store s (u * 174080)

  from-slots : (gs : List Held) → All (From v) gs
      → Pairs (AtSlots (StoreFits s)) (map (slot_before (keys_of v) (slots_of n)) (map (λ (g : Held). g.key) gs)) gs
  from-slots [] f = tt
  from-slots (g ∷ gs) f = (from-slot g f.0, from-slots gs f.1)

  -- the shards as they were have the slots that they had
  own : slots_after v (slots_of n) v ≡ slots_of n
  unfolding slots_after
  own =
      let a = length-map (used n) (view_held_row (stores_in s)) in
      let b = length-map v.held (λ (g : Held). g.key) in
      let c = length-map (used n) (λ (x : HeldRow). x.slot) in
      ap (slotted [])
      (own-slots (keys_of v) (slots_of n) (omega arith) (map-rising (λ (g : Held). g.key) key_below v.held ∙ (state_formed h s i).rise))
      ∙ slotted-all [] (slots_of n) (slots-below (used n) (header-apart n i.formed))

  pairs-after : (w : held.Node) → After v w → Pairs (StoreFits s) (slots_after v (slots_of n) w) w.held
  unfolding slots_after
  pairs-after w (inl e) =
      subst (λ (hs : List Held). Pairs (StoreFits s) (slotted [] (map (slot_before (keys_of v) (slots_of n)) (map (λ (g : Held). g.key) hs))) hs) (sym e)
      (subst (λ (is : List ℕ). Pairs (StoreFits s) is v.held) (sym own) (state_pairs h s i))
  pairs-after w (inr f) =
      let p = pairs-slotted (StoreFits s) (map (slot_before (keys_of v) (slots_of n)) (map (λ (g : Held). g.key) w.held)) [] w.held (from-slots w.held f) in
      subst (λ (is : List ℕ). Pairs (StoreFits s) is w.held) (sym p.1) p.2

  -- ---- the header after

  -- a family whose tables have as many vectors as the header counts says the same
  abbrev st : Stores
  st = counted (stores_in s)

  counted_same : view_node st n ≡ v
  counted_same =
      nodes_agree st (stores_in s) n
      (λ j q.
      let u = get_or (used n) j no_held_row in
      counted-kept (stores_in s) u
      (stores-length s u.slot u.held.last u.stored (kept-few u (every-at held_row_fits (used n) j no_held_row (header-fit n i.formed) q))))

  module _ (m : List ℕ) (fresh : ℕ) where
    map-fits : (z : Stores) → lent_node z n and maps.well_formed_lent (map_at m) ≡ true → well_formed_map (view_map (map_at m)) ≡ true
    unfolding maps.well_formed_lent
    map-fits z e = and_right (maps.counted (map_at m)) (well_formed_map (view_map (map_at m))) (and_right (lent_node z n) _ e)

    after-formed : (z : Stores) → view_node z n ≡ v → FormedNode (shown_after h m fresh z)
    after-formed z e =
        shown-formed (view_node z n) (lent_node z n and maps.well_formed_lent (map_at m)) fresh (view_map (map_at m)) (map-fits z)
        (subst FormedNode (sym e) (state_formed h s i))

    -- ---- the answer

    said-fine : (w : ShownAnswer) (t p a : List ℕ) (l : List show.Worker) (o : Node) → Fine (shown_number w) → Fine (show_said w t p a l o).number
    said-fine S.Shown t p a l o f = by-test (λ (x : Left). Fine x.number) (rows_room worker_bytes 54 p a l) (λ q. refl) (λ q. refl)
    said-fine (S.Refused k) t p a l o f = f

    module _ (h' p q a b : List ℕ) (r : ℕ) where
      shown : ShowsImage h h' m p q a b fresh r → Keeps (map_lent m and maps.well_formed_lent (map_at m)) h' s r
      shown g = record {
        intact =
            by_case (show_writes p a g.after)
            (λ e.
            let l = g.leaves e in
            let z = stores_in s in
            let w = after-formed st counted_same in
            intact_of h' s l.lent (g.formed i.formed st (counted-all (stores_in s)) (formed-header (shown_after h m fresh st) w) (tables_fit (shown_after h m fresh st) w)) i.size
            (subst (λ (is : List ℕ). Pairs (StoreFits s) is (state_at h' s).held) (sym (l.slots_are z))
            (subst (λ (x : held.Node). Pairs (StoreFits s) (slots_after v (slots_of n) (shown_after h m fresh z)) x.held) (sym (l.read z))
            (pairs-after (shown_after h m fresh z) (shown-after v (lent_node z n and maps.well_formed_lent (map_at m)) fresh (view_map (map_at m)))))))
            (λ e. stays h s i h' (ap (λ (x : Left). x.header) g.buffers ∙ show_left_lem g.after.answer h p a _ g.after.node e));
        fine = λ t z.
            let x = stores_in s in
            let lent = and_true (lent_node x n) (maps.well_formed_lent (map_at m)) (lent-node h s i x) (and_right (map_lent m) _ t) in
            eqb-false _ 24
            (said-fine g.after.answer h p a (view_starts (take g.after.count g.after.starts)) g.after.node
            (ap (λ (y : ShownAnswered). eqb (shown_number y.answer) 24) (g.call.same x)
            ∙ shown-fine v (lent_node x n and maps.well_formed_lent (map_at m)) lent fresh (view_map (map_at m))))
            (sym (ap (λ (y : Left). y.number) g.buffers) ∙ z);
      }

      pub on-map : Shows h h' m p q a b fresh r → Keeps (map_lent m and maps.well_formed_lent (map_at m)) h' s r
      on-map w =
          let both = lent_both (header_lent h) (map_lent m) i.lent in
          by_case (map_lent m) (λ e. shown (w.called refl (both ∙ e)))
          (λ e. record {
            intact = stays h s i h' (w.malformed refl (both ∙ e)).1.0;
            fine = λ t z. not_both (map_lent m) (and_left (map_lent m) _ t) e;
          })
