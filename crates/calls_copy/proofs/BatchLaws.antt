-- A batch at a held shard, by the numbers that were read of its row. Assumes nothing.
use Prim.Native.Nat.{ℕ, ◌+◌, ◌*◌, ◌<◌}
use mathlib.Core.Path.{◌≡◌, sym, ap, subst, ◌∙◌}
use mathlib.Core.Bool.{true}
use mathlib.Core.List.{List}
use Rattle.spec.specs.Log.{Entry}
use Rattle.spec.specs.Layout.Format.{number_at}
use Rattle.spec.specs.Layout.Parts.{WireEntry}
use Rattle.image_header.specs.Image.{node_at}
use Rattle.image_header.specs.Becomes.{HeaderWrites}
use Rattle.image_header_check.specs.Rows.{Counts}
use Rattle.image_header_counts.specs.Counts.{with_counts}
use Rattle.image_store.specs.Image.{well_formed_image}
use Rattle.image_node.specs.State.{held_row_image}
use Rattle.image_node_grow.specs.Grow.{row_in}
use Rattle.image_node_grow.proofs.GrowLaws.{row-slot, row_last, row-stored}
use Rattle.image_node_batch.specs.declared.Stock.{Stock}
use Rattle.image_node_batch.specs.Batch.{HoldsAll, BatchStored}
use Rattle.calls_copy.specs.Asked.{GrowsAll}

module _ (h : List ℕ) (at : ℕ) (counts : Counts h (node_at h).count) (under : at < (node_at h).count) (slot last stored : ℕ)
    (slot_read : slot ≡ number_at 8 h (48 + 1280 * at + 48)) (last-read : last ≡ number_at 8 h (48 + 1280 * at + 72))
    (stored-read : stored ≡ number_at 8 h (48 + 1280 * at + 56)) where
  pub slot_here : slot ≡ (row_in h at).slot
  slot_here = slot_read ∙ sym (row-slot h at counts under)

  last_here : last ≡ (row_in h at).held.last
  last_here = last-read ∙ sym (row_last h at counts under)

  stored_here : stored ≡ (row_in h at).stored
  stored_here = stored-read ∙ sym (row-stored h at counts under)

  pub well-read : (s : List ℕ) → held_row_image s (row_in h at) ≡ true → well_formed_image s (slot * 174080) last stored ≡ true
  well-read s e =
      ap (λ (i : ℕ). well_formed_image s (i * 174080) last stored) slot_here
      ∙ ap (λ (i : ℕ). well_formed_image s ((row_in h at).slot * 174080) i stored) last_here
      ∙ ap (λ (i : ℕ). well_formed_image s ((row_in h at).slot * 174080) (row_in h at).held.last i) stored_here ∙ e

  pub holds_read : (es : List WireEntry) → HoldsAll es (row_in h at).held.last → HoldsAll es last
  holds_read es f = subst (HoldsAll es) (sym last_here) f

  pub grows_all : (h' s u : List ℕ) (es : List Entry) (r : Stock) → BatchStored s u slot last stored es r
      → HeaderWrites h h' (with_counts (node_at h) at r.count r.stored) → GrowsAll h h' s u at es r.count
  grows_all h' s u es r d w = record {
    rows = r.stored;
    store =
        subst (λ (i : ℕ). BatchStored s u (row_in h at).slot (row_in h at).held.last i es r) stored_here
        (subst (λ (i : ℕ). BatchStored s u (row_in h at).slot i stored es r) last_here
        (subst (λ (i : ℕ). BatchStored s u i last stored es r) slot_here d));
    header = w;
  }
