-- The slots of the shards that begin, given out one after another in the header's bytes. Assumes nothing.
use Prim.Native.Nat.{ℕ, zero, suc, ◌+◌, ◌*◌, ◌^◌, ◌≤◌, ◌<◌}
use mathlib.Core.Path.{◌≡◌, refl, sym, ap, subst, ◌∙◌}
use mathlib.Core.Bool.{true}
use mathlib.Core.List.{List}
use native.Mathlib.Omega.{arith}
use lib.Dec.{ltb}
use lib.ListN.{length, take, drop, get_or, set, length-set}
use borrow.Author.Tests.{ltb-true, ltb-false}
use Rattle.spec.specs.Lists.{every}
use Rattle.spec.specs.Layout.Format.{bytes_of, number_at}
use Rattle.node_header.specs.declared.HeldRow.{HeldRow}
use Rattle.node_header.specs.declared.Node.{Node}
use Rattle.node_header.specs.View.{with_held_rows, no_held_row}
use Rattle.node_header.specs.Grow.{lowest_free}
use Rattle.node_header.proofs.Lists.{by_case}
use Rattle.image_parts.specs.Shape.{Stored}
use Rattle.image_header_row.specs.Rows.{held_row_at}
use Rattle.image_header.specs.Image.{node_at}
use Rattle.image_header_check.specs.Rows.{Counts}
use Rattle.image_header_check.proofs.Rows.{held_long, row_at, slot_is}
use Rattle.image_header_set.proofs.Parts.{drop_past}
use Rattle.image_header_set.proofs.SetLaws.{counts-still, node-set}
use Rattle.image_header_begin.proofs.RowLaws.{slot_set, slot-set}
use Rattle.node_show_slots.specs.Slots.{slotted_at, open_fits, Assigns}
use Rattle.node_show_slots.proofs.Slots.{Assigning, assign_start, assign_on, assign_set, assign_end}
use Rattle.calls_show_walk.specs.Slots.{SlotsGiven}

-- the first i of `count` shards have a slot
pub record SlotGiving (s t : List ℕ) (count i : ℕ) : Type 0 where
  pub rows : List HeldRow
  pub node : node_at t ≡ with_held_rows (node_at s) rows
  pub assigning : Assigning (node_at s).held rows count i
  pub counts : Counts t count
  pub long : length t ≡ length s
  pub past : drop (48 + 1280 * count) t ≡ drop (48 + 1280 * count) s

pub give_slots_start : (s : List ℕ) (count : ℕ) → Counts s count → every open_fits (take count (node_at s).held) ≡ true → SlotGiving s s count 0
give_slots_start s count counts e = record {
  rows = (node_at s).held;
  node = refl;
  assigning = assign_start (node_at s).held count e;
  counts = counts;
  long = refl;
  past = refl;
}

module _ (s t : List ℕ) (count i : ℕ) (g : SlotGiving s t count i) where
  pub give_slots_end : count ≤ i → i ≤ count → SlotsGiven s t count
  give_slots_end h k = record {
    rows = g.rows;
    node = g.node;
    assigns = assign_end (node_at s).held g.rows count i h k g.assigning;
    counts = g.counts;
    long = g.long;
    past = g.past;
  }

  module _ (lt : i < count) where
    abbrev place : ℕ
    place = 48 + 1280 * i

    held-is : (node_at t).held ≡ g.rows
    held-is = ap (λ (n : Node). n.held) g.node

    inside : count ≤ length g.rows
    inside = let e = ap (λ (l : List HeldRow). length l) held-is in let h = held_long t in let f = g.counts.1 in omega arith

    row_is : get_or g.rows i no_held_row ≡ held_row_at t place
    row_is = ap (λ (l : List HeldRow). get_or l i no_held_row) (sym held-is) ∙ row_at t count g.counts i no_held_row lt

    there : (get_or g.rows i no_held_row).slot ≡ number_at 8 t (96 + 1280 * i)
    there =
        let z : place + 48 ≡ 96 + 1280 * i = omega arith in
        ap (λ (x : HeldRow). x.slot) row_is ∙ slot_is t place ∙ ap (number_at 8 t) z

    -- it has one
    pub give_slots_on : number_at 8 t (96 + 1280 * i) < 8 → SlotGiving s t count (i + 1)
    give_slots_on h = record {
      rows = g.rows;
      node = g.node;
      assigning = assign_on (node_at s).held g.rows count i inside g.counts.1 lt no_held_row g.assigning (let e = there in omega arith);
      counts = g.counts;
      long = g.long;
      past = g.past;
    }

    -- it gets the lowest that is left
    pub give_slots_set : 8 ≤ number_at 8 t (96 + 1280 * i) → (slot : ℕ) → slot ≡ lowest_free (take count (node_at t).held) → slot < 256 ^ 8 → (m : List ℕ)
        → Stored t m (96 + 1280 * i) (bytes_of 8 slot) 8 → SlotGiving s m count (i + 1)
    give_slots_set h slot is small m k =
        let c = g.counts.0 in
        let f = g.counts.1 in
        let z : 96 + 1280 * i ≡ place + 48 = omega arith in
        let r = slot-set t m place (omega arith) slot small (subst (λ (j : ℕ). Stored t m j (bytes_of 8 slot) 8) z k) in
        let y = slotted_at (get_or g.rows i no_held_row) slot in
        let new : held_row_at m place ≡ y = r.row ∙ ap (λ (x : HeldRow). slot_set x slot) (sym row_is) in
        record {
          rows = set g.rows i y;
          node = node-set t m count g.counts i lt r.outside
              ∙ ap (λ (n : Node). with_held_rows n (set n.held i (held_row_at m place))) g.node
              ∙ ap (λ (x : HeldRow). with_held_rows (node_at s) (set g.rows i x)) new;
          assigning = assign_set (node_at s).held g.rows count i inside f lt no_held_row g.assigning (let e = there in omega arith) slot
              (is ∙ ap (λ (l : List HeldRow). lowest_free (take count l)) held-is);
          counts = counts-still t m count g.counts i lt r.outside;
          long = r.outside.long ∙ g.long;
          past = drop_past m t (place + 1280) (48 + 1280 * count) (omega arith) r.outside.back ∙ g.past;
        }

-- ---- there are such slots, also where no header is written

give : (old : List HeldRow) (count : ℕ) → count ≤ 8 → (k i : ℕ) → i + k ≡ count → (new : List HeldRow) → count ≤ length new → Assigning old new count i
    → (r : List HeldRow) × Assigns (take count old) (take count r)
give old count few zero i e new le a = (new, assign_end old new count i (omega arith) (omega arith) a)
give old count few (suc k) i e new le a =
    let slot = (get_or new i no_held_row).slot in
    let y = slotted_at (get_or new i no_held_row) (lowest_free (take count new)) in
    by_case (ltb slot 8)
    (λ h. give old count few k (i + 1) (omega arith) new le (assign_on old new count i le few (omega arith) no_held_row a (ltb-true slot 8 h)))
    (λ h.
    let l = length-set new i y in
    give old count few k (i + 1) (omega arith) (set new i y) (omega arith)
    (assign_set old new count i le few (omega arith) no_held_row a (ltb-false slot 8 h) (lowest_free (take count new)) refl))

pub slots-given : (l : List HeldRow) (count : ℕ) → count ≤ length l → count ≤ 8 → every open_fits (take count l) ≡ true
    → (r : List HeldRow) × Assigns (take count l) (take count r)
slots-given l count le few e = give l count few count 0 (omega arith) l le (assign_start l count e)
