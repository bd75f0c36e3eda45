-- The store and the header of a shard that grew, by the numbers that were read. Assumes nothing.
use Prim.Native.Nat.{ℕ, ◌+◌, ◌*◌, ◌≤◌, ◌<◌}
use mathlib.Core.Path.{◌≡◌, refl, sym, ap, subst, ◌∙◌}
use mathlib.Core.Bool.{true}
use mathlib.Core.List.{List}
use native.Mathlib.Omega.{arith}
use lib.ListN.{length}
use Rattle.spec.specs.Layout.Format.{number_at}
use Rattle.spec.specs.Log.{Entry}
use Rattle.wire_read.specs.declared.OpPart.{OpPart}
use Rattle.node_header.specs.declared.HeldRow.{HeldRow}
use Rattle.node_header.specs.View.{no_held_row}
use Rattle.node_shard.proofs.Formed.{formed-few}
use Rattle.node_header.specs.Formed.{formed_node}
use Rattle.node_header.proofs.Formed.{shard-formed}
use Rattle.image_header_row.specs.Rows.{held_row_at}
use Rattle.image_header.specs.Image.{node_at}
use Rattle.image_header.specs.Becomes.{HeaderWrites}
use Rattle.image_header_check.specs.Rows.{Counts}
use Rattle.image_header_check.proofs.Rows.{counted, row_at, slot_is, last-is, stored_is, count-is}
use Rattle.image_header_form.proofs.FrontLaws.{epoch-is}
use Rattle.image_header_counts.specs.Counts.{with_counts}
use Rattle.image_store.specs.Image.{well_formed_image}
use Rattle.image_node.specs.Lent.{begin_of}
use Rattle.image_node.specs.State.{held_row_image}
use Rattle.image_store_append.specs.Put.{Grown, entry_by}
use Rattle.image_node_grow.specs.Grow.{row_in, Grows}

module _ (h : List ℕ) (at : ℕ) (counts : Counts h (node_at h).count) (under : at < (node_at h).count) where
  abbrev x : HeldRow
  x = row_in h at

  abbrev row : ℕ
  row = 48 + 1280 * at

  pub row_is : x ≡ held_row_at h row
  row_is = row_at h (node_at h).count counts at no_held_row under

  pub row-slot : x.slot ≡ number_at 8 h (row + 48)
  row-slot = ap (λ (y : HeldRow). y.slot) row_is ∙ slot_is h row

  pub row_last : x.held.last ≡ number_at 8 h (row + 72)
  row_last = ap (λ (y : HeldRow). y.held.last) row_is ∙ last-is h row

  pub row-stored : x.stored ≡ number_at 8 h (row + 56)
  row-stored = ap (λ (y : HeldRow). y.stored) row_is ∙ stored_is h row

  row-epoch : x.held.epoch.0 ≡ number_at 8 h (row + 64)
  row-epoch = ap (λ (y : HeldRow). y.held.epoch.0) row_is ∙ epoch-is h row

  -- as many peers as a shard may have
  pub row-few : formed_node (node_at h) ≡ true → (node_at h).count ≤ length (node_at h).held → number_at 8 h (row + 88) ≤ 32
  row-few formed inside =
      let f = formed-few x.held (shard-formed (node_at h) formed inside at under no_held_row) in
      let e = ap (λ (y : HeldRow). y.held.count) row_is ∙ count-is h row in
      omega arith

  module _ (slot last stored epoch : ℕ) (slot_read : slot ≡ number_at 8 h (row + 48)) (last-read : last ≡ number_at 8 h (row + 72))
      (stored-read : stored ≡ number_at 8 h (row + 56)) (epoch-read : epoch ≡ number_at 8 h (row + 64)) where
    base_here : slot * 174080 ≡ begin_of x
    base_here = ap (λ (i : ℕ). i * 174080) (slot_read ∙ sym row-slot)

    last_here : last ≡ x.held.last
    last_here = last-read ∙ sym row_last

    epoch_here : epoch ≡ x.held.epoch.0
    epoch_here = epoch-read ∙ sym row-epoch

    pub well_here : (s : List ℕ) → held_row_image s x ≡ true → well_formed_image s (slot * 174080) last stored ≡ true
    well_here s e =
        ap (λ (i : ℕ). well_formed_image s i last stored) base_here
        ∙ ap (λ (i : ℕ). well_formed_image s (begin_of x) i stored) last_here
        ∙ ap (λ (i : ℕ). well_formed_image s (begin_of x) x.held.last i) (stored-read ∙ sym row-stored) ∙ e

    pub grows : (h' s t : List ℕ) (m : List ℕ) (o : OpPart) (r : ℕ) → Grown s t (slot * 174080) last (entry_by epoch last m o) r
        → HeaderWrites h h' (with_counts (node_at h) at (last + 1) r) → Grows h h' s t at m o
    grows h' s t m o r g w = record {
      rows = r;
      store =
          subst (λ (e : ℕ). Grown s t (begin_of x) x.held.last (entry_by e x.held.last m o) r) epoch_here
          (subst (λ (l : ℕ). Grown s t (begin_of x) l (entry_by epoch l m o) r) last_here
          (subst (λ (b : ℕ). Grown s t b last (entry_by epoch last m o) r) base_here g));
      header = subst (λ (l : ℕ). HeaderWrites h h' (with_counts (node_at h) at (l + 1) r)) last_here w;
    }

  module _ (last stored : ℕ) (last-read : last ≡ number_at 8 h (row + 72)) (stored-read : stored ≡ number_at 8 h (row + 56)) where
    pub tidied : (h' : List ℕ) → HeaderWrites h h' (with_counts (node_at h) at last stored)
        → HeaderWrites h h' (with_counts (node_at h) at x.held.last x.stored)
    tidied h' w =
        subst (λ (i : ℕ). HeaderWrites h h' (with_counts (node_at h) at x.held.last i)) (stored-read ∙ sym row-stored)
        (subst (λ (i : ℕ). HeaderWrites h h' (with_counts (node_at h) at i stored)) (last-read ∙ sym row_last) w)
