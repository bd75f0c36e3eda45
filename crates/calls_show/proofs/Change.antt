-- Laws of a map that changes what a node holds, one for each way out. Assumes nothing.
use Prim.Native.Nat.{ℕ, ◌+◌, ◌*◌, ◌≤◌, ◌<◌}
use mathlib.Core.Path.{◌≡◌, refl, sym, ap, ◌∙◌}
use mathlib.Core.Bool.{true, false}
use mathlib.Core.List.{List, [], map}
use lib.ListN.{length, take, length-map, get_or-map}
use lib.Seq.{sets, ext_get_or, length-take-le, take_all, get_or-take}
use native.Mathlib.Omega.{arith}
use Rattle.spec.specs.Lists.{every}
use Rattle.spec.specs.Layout.Format.{number_at}
use Rattle.spec.specs.Node.Shown as show
use Rattle.spec_laws.proofs.Map.WellFormed.{map-parts}
use Rattle.map_tables.specs.View.{view_map}
use Rattle.node_header.specs.declared.HeldRow.{HeldRow}
use Rattle.node_header.specs.View.{no_held_row}
use Rattle.node_header.specs.Formed.{formed_node}
use Rattle.node_header.proofs.Formed.{header-apart}
use Rattle.node_show.specs.declared.Start.{Start}
use Rattle.node_show.specs.Walks.{Walked}
use Rattle.node_show.specs.declared.NodeShown.{NodeShown}
use Rattle.node_show.specs.declared.ShownAnswer.TheVariants as S
use Rattle.node_show.specs.Rows.{Taken, held_row_of, start_of}
use Rattle.node_show.specs.Shows.{view_starts, TakesMap}
use Rattle.node_show.proofs.Shown.{walked_open, walked-apart, walked-slots, taken-full, taken-whole}
use Rattle.image_show.proofs.MapRows.{version_is, versioned}
use Rattle.node_show_slots.specs.Slots.{open_fits, Assigns}
use Rattle.calls_parts.specs.Answer.{answer_lent, number_put}
use Rattle.image_parts.proofs.Images.{length-items}
use Rattle.image_header_row.specs.Rows.{held_row_at}
use Rattle.image_header.specs.Image.{node_at}
use Rattle.image_map.specs.Image.{map_at}
use Rattle.image_header_check.specs.Rows.{Counts}
use Rattle.image_header_put.proofs.Back.{item_at}
use Rattle.image_header_set.proofs.Place.{in_array}
use Rattle.calls_header.specs.Waits.{RowsPut}
use Rattle.calls_header.specs.Shows.{worker_bytes, start_bytes}
use Rattle.calls_header.proofs.Starts.{no_start}
use Rattle.calls_header.proofs.Waits.{no_peers, no_answer, all-put, shown_as_lem}
use Rattle.calls_show_walk.specs.declared.RowsMade.{RowsMade}
use Rattle.calls_show_walk.specs.Rows.{RowsStand, RowsRefused}
use Rattle.calls_show_walk.specs.Slots.{rows_in, holding, HeaderTakes}
use Rattle.calls_show_walk.proofs.SlotLaws.{slots-given}
use Rattle.calls_show.specs.Shown.{MapFormed, TakesAt}
use Rattle.calls_show.proofs.ShowLaws.{refused, refused-put}

abbrev no_taken : Taken
no_taken = record { kept = no_held_row; start = no_start }

pub change-full : (s m : List ℕ) → formed_node (node_at s) ≡ true → (r : RowsMade) → RowsRefused (node_at s) (map_at m) r → (p a : List ℕ) → TakesAt s s m p p a a 23
change-full s m formed r k p a = record {
  after = refused 23 (node_at s);
  call = taken-full (node_at s) (map_at m) (record { full = true; items = k.items; count = r.count }) k.walks formed refl [];
  put = refused-put s p a (node_at s) 23;
}

module _ (s m u w : List ℕ) (count : ℕ) (counts : Counts s count) (formed : formed_node (node_at s) ≡ true) (well : MapFormed m) (r : RowsMade)
    (k : RowsStand (node_at s) (map_at m) u w r) where
  abbrev walked : Walked
  walked = record { full = false; items = k.items; count = r.count }

  -- the shards held after, and the workers to start for each
  abbrev list : List Taken
  list = take r.count k.items

  abbrev starts : List Start
  starts = map start_of list

  size : length list ≡ r.count
  size = length-take-le r.count k.items k.walks.long

  whole : take r.count starts ≡ starts
  whole = take_all r.count starts (let a = length-map list start_of in let b = size in omega arith)

  abbrev rows : List HeldRow
  rows = rows_in u r.count

  rows-size : length rows ≡ r.count
  rows-size = length-items r.count (held_row_at u) 1280 0

  rows_are : rows ≡ map held_row_of list
  rows_are =
      let a = rows-size in
      let b = length-map list held_row_of in
      let c = size in
      ext_get_or no_held_row rows (map held_row_of list) (omega arith)
      (λ i h.
      let lt : i < r.count = omega arith in
      let z : 0 + 1280 * i ≡ 1280 * i = omega arith in
      item_at r.count (held_row_at u) 1280 0 i no_held_row lt ∙ ap (held_row_at u) z ∙ k.rows i no_taken lt
      ∙ sym (get_or-map held_row_of list i no_taken ∙ ap held_row_of (get_or-take r.count k.items i no_taken lt)))

  rows_whole : take r.count rows ≡ rows
  rows_whole = let a = rows-size in take_all r.count rows (omega arith)

  pub rows_open : every open_fits rows ≡ true
  rows_open =
      ap (every open_fits) (sym rows_whole)
      ∙ walked_open (node_at s) (in_array s count counts) (header-apart (node_at s) formed) (map_at m) walked k.walks rows (rows_whole ∙ rows_are)

  abbrev shown_as : (version : ℕ) → List HeldRow → NodeShown
  shown_as version l = record { answer = S.Shown; starts = starts; count = r.count; node = holding (node_at s) l r.count version }

  taken : (version : ℕ) → version ≡ number_at 8 m 0 → (plain new : List HeldRow) → take r.count plain ≡ rows
      → Assigns (take r.count plain) (take r.count new) → TakesMap (node_at s) (map_at m) (shown_as version new)
  taken version is plain new e a =
      let le = in_array s count counts in
      let fit = header-apart (node_at s) formed in
      versioned (node_at s) (map_at m) version (version_is m ∙ sym is) starts r.count new
      (taken-whole (node_at s) (map_at m) walked k.walks refl starts whole plain new (e ∙ rows_are) a
      (walked-apart (node_at s) le fit (map_at m) walked k.walks plain (e ∙ rows_are) refl (map-parts (view_map (map_at m)) well.formed).2.1)
      (walked-slots (node_at s) le fit (map_at m) walked k.walks plain (e ∙ rows_are)))

  abbrev workers : List show.Worker
  workers = view_starts (take r.count starts)

  many : r.workers ≡ length workers
  many = k.workers ∙ ap (λ (l : List Start). length (view_starts l)) (sym whole)

  -- ---- the definition's node, which is not written

  given : (l : List HeldRow) × Assigns (take r.count rows) (take r.count l)
  given = let a = rows-size in slots-given rows r.count (omega arith) k.walks.few (ap (every open_fits) rows_whole ∙ rows_open)

  abbrev unwritten : NodeShown
  unwritten = shown_as (number_at 8 m 0) given.0

  unput : (p a b : List ℕ) → RowsPut worker_bytes 54 0 s s p p a b workers unwritten.node 23 → TakesAt s s m p p a b 23
  unput p a b z = record {
    after = unwritten;
    call = taken (number_at 8 m 0) refl rows given.0 rows_whole given.1;
    put = shown_as_lem s p a unwritten S.Shown refl z.buffers (λ d. z.becomes);
  }

  pub change-short : (p a : List ℕ) → length p < 54 * r.workers → TakesAt s s m p p a a 23
  change-short p a h = let e = many in unput p a a (no_peers worker_bytes 54 0 s p a workers unwritten.node (omega arith))

  module _ (p a b : List ℕ) (h : 54 * r.workers ≤ length p) (put : b ≡ number_put a r.workers) where
    room : 54 * length workers ≤ length p
    room = let e = many in omega arith

    pub change_unanswered : answer_lent a ≡ false → TakesAt s s m p p a b 23
    change_unanswered e = unput p a b (no_answer worker_bytes 54 0 s p a workers unwritten.node room b r.workers put e)

    pub change-put : answer_lent a ≡ true → (t q : List ℕ) (version : ℕ) → version ≡ number_at 8 m 0 → q ≡ sets p 0 (take (54 * r.workers) w)
        → HeaderTakes s t u r.count version → TakesAt s t m p q a b 0
    change-put e t q version is x y =
        let n = shown_as version y.rows in
        let z = all-put worker_bytes 54 0 s p a workers n.node room b r.workers put e y.writes.image y.writes.becomes
        (x ∙ ap (sets p 0) (k.starts ∙ ap (λ (l : List Start). start_bytes (view_starts l)) (sym whole))) many in
        record {
          after = n;
          call = taken version is y.plain y.rows y.is y.assigns;
          put = shown_as_lem s p a n S.Shown refl z.buffers (λ d. z.becomes);
        }
