-- The map shown to the new node 1: the headers before and after satisfy the contract of `catalogue_show_map`, which answers 0 and starts no
-- worker. Assumes nothing.
use native.Mathlib.Omega.{arith}
use mathlib.Core.Path.{◌≡◌, refl, sym, subst}
use mathlib.Core.Bool.{Bool, true}
use mathlib.Core.List.{[]}
use lib.ListN.{replicate}
use Rattle.spec.specs.Lists.{◌and◌}
use Rattle.spec.specs.Map.Tables as tables
use Rattle.spec.specs.Node.Shown as show
use Rattle.spec.specs.Node.Calls as calls
use Rattle.spec.specs.declared.Metric.TheVariants.{Euclidean}
use Rattle.spec_laws.proofs.Lists.{not_both, and_true}
use Rattle.spec_run.proofs.Cases.Opened.{opened}
use Rattle.map_tables.specs.View.{view_map}
use Rattle.map_check.specs.Lent.{well_formed_lent}
use Rattle.std.specs.Prelude.{None}
use Rattle.node_header.specs.View.{Stores, view_node}
use Rattle.node_header.specs.Formed.{slots_fit, lent_node, formed_node}
use Rattle.node_header.specs.Grow.{free_from}
use Rattle.node_show.specs.declared.Start.{Start}
use Rattle.node_show.specs.declared.NodeShown.{NodeShown}
use Rattle.node_show.specs.declared.ShownAnswer.TheVariants as S
use Rattle.node_show.specs.Slots.{slotted, slots_after}
use Rattle.node_show.specs.Shows.{view_starts, shown_answered, view_shown}
use Rattle.node_hear.specs.Hears.{HearsMap}
use Rattle.image_parts.specs.Canon as canon
use Rattle.image_map.specs.declared.Lent as maps
use Rattle.image_map.specs.Image.{map_at, map_lent, lent_map}
use Rattle.image_header_row.specs.Rows as rows
use Rattle.image_header_row.specs.Tidy as tidy
use Rattle.image_header.specs.declared.Lent as header
use Rattle.image_header.specs.Image as image
use Rattle.image_header.specs.Image.{header_lent, header_put, lent_header}
use Rattle.image_header.specs.Becomes.{HeaderWrites}
use Rattle.image_header.proofs.Becomes.{writes_long}
use Rattle.calls_parts.specs.Answer.{number_put}
use Rattle.calls_header.specs.Fresh.{fresh_node}
use Rattle.calls_header.specs.Waits.{RowsPut}
use Rattle.calls_header.specs.Shows.{worker_bytes, ShowPut, Shows}
use Rattle.calls_header.proofs.Asked.{asked-called}
use Rattle.image_header.proofs.Image.{lent_long}
use Rattle.calls_header.proofs.Calls.{shows_image}
use Rattle.calls_header.proofs.Waits.{all-put, shown_as_lem}
use Rattle.thm_one_node.specs.Images as images
use Rattle.thm_one_node.specs.Images.{map_bytes, new, shown, room}
use Rattle.thm_one_node.proofs.Map.{map, map_read, map-lent, tested}
use Rattle.thm_one_node.proofs.Headers.{key, node, leads, read-new, lent-new, nil}
use Rattle.thm_one_node.proofs.Fits.{node-fits}

-- ---- the call, on what the bytes are read into

abbrev starting : Start
starting = record { key = key; epoch = record { 0 = 1 }; metric = Euclidean; peers = record { items = replicate 32 (node 0); count = 0 } }

abbrev answered : NodeShown
answered = record { answer = S.Shown; starts = replicate 8 starting; count = 0; node = leads None 0 0 }

-- computed of the plain map, and carried over to the one that the bytes are read as
same-plain : (s : Stores) → view_shown s answered ≡ shown_answered (calls.shown_with (lent_node s (fresh_node 1 4) and true) (view_node s (fresh_node 1 4)) 0 map)
unfolding opened image.no_node lent_node slots_fit view_starts
same-plain s = rw (nil (s.log 0 0) (s.long 0 0), s.bare 0) refl

same : (s : Stores)
    → view_shown s answered
    ≡ shown_answered (calls.shown_with (lent_node s (fresh_node 1 4) and well_formed_lent (map_at map_bytes)) (view_node s (fresh_node 1 4)) 0 (view_map (map_at map_bytes)))
same s =
    let n = fresh_node 1 4 in
    subst (λ (m : tables.Map). view_shown s answered ≡ shown_answered (calls.shown_with (lent_node s n and well_formed_lent (map_at map_bytes)) (view_node s n) 0 m)) (sym map_read)
    (subst (λ (b : Bool). view_shown s answered ≡ shown_answered (calls.shown_with (lent_node s n and b) (view_node s n) 0 map)) (sym tested) (same-plain s))

hears : HearsMap (fresh_node 1 4) (map_at map_bytes) 0 answered
unfolding opened image.no_node formed_node slots_fit slotted slots_after free_from
hears = record {
  same = same;
  slots = λ e. refl;
  slots_are = λ e s. refl;
  stays = λ e. not_both true refl e;
}

-- ---- the buffers

abbrev read : header.Lent
read = record { found = true; node = fresh_node 1 4 }

is_read_lem : read ≡ lent_header new
is_read_lem = rw (lent-new, read-new)

abbrev known : maps.Lent
known = record { found = true; map = map_at map_bytes }

is_known : known ≡ lent_map map_bytes
is_known = rw map-lent

put-shown : shown ≡ header_put new (leads None 0 0)
unfolding new images.header header_put rows.held_row_bytes tidy.tidy_held_row tidy.tidy_held canon.padded
put-shown = refl

header-shown : HeaderWrites new shown (leads None 0 0)
header-shown =
    writes_long new (leads None 0 0) shown (lent_long new lent-new) (node-fits None 0 0 (omega arith) (omega arith) (omega arith)) put-shown

none-put : room ≡ number_put room 0
unfolding number_put
none-put = refl

rows-put : RowsPut worker_bytes 54 0 new shown [] [] room room [] (leads None 0 0) 0
rows-put =
    all-put {A = show.Worker} worker_bytes 54 0 new [] room [] (leads None 0 0) (omega arith) room 0 none-put refl
    header-shown.image header-shown.becomes refl refl

put : ShowPut new shown [] [] room room answered 0
unfolding view_starts
put = shown_as_lem new [] room answered S.Shown refl rows-put.buffers (λ e r. header-shown.becomes)

both_lent : (header_lent new and map_lent map_bytes) ≡ true
both_lent = and_true (header_lent new) (map_lent map_bytes) lent-new map-lent

pub shows : Shows new shown map_bytes [] [] room room 0 0
shows =
    asked-called refl both_lent
    (shows_image map_bytes known is_known new read is_read_lem refl refl shown [] [] room room 0 0 answered hears put)
