-- New headers, and the map shown to each node: the headers before and after satisfy the contracts of `catalogue_fresh_node` and of
-- `catalogue_show_map`, which answers 0. Node 1 is to start a worker for node 2, and node 2 none. Assumes nothing.
use Prim.Native.Nat.{ℕ}
use native.Mathlib.Omega.{arith}
use mathlib.Core.Path.{◌≡◌, refl, sym, subst}
use mathlib.Core.Bool.{Bool, true, false}
use mathlib.Core.List.{List, [], ◌∷◌}
use lib.ListN.{replicate}
use lib.Seq.{sets}
use Rattle.spec.specs.Lists.{◌and◌}
use Rattle.spec.specs.Map.Tables as tables
use Rattle.spec.specs.Node.Shown as show
use Rattle.spec.specs.Node.Calls as calls
use Rattle.spec.specs.declared.Metric.TheVariants.{Euclidean}
use Rattle.spec_laws.proofs.Lists.{not_both, and_true}
use Rattle.spec_run.proofs.Cases.Opened.{opened}
use Rattle.map_tables.specs.View.{view_map}
use Rattle.map_check.specs.Lent.{well_formed_lent}
use Rattle.std.specs.Prelude.{None}
use Rattle.node_header.specs.declared.Node.{Node}
use Rattle.node_header.specs.View.{Stores, view_node}
use Rattle.node_header.specs.Formed.{slots_fit, lent_node, formed_node}
use Rattle.node_header.specs.Grow.{free_from}
use Rattle.node_show.specs.declared.Start.{Start}
use Rattle.node_show.specs.declared.NodeShown.{NodeShown}
use Rattle.node_show.specs.declared.ShownAnswer.TheVariants as S
use Rattle.node_show.specs.Slots.{slotted, slots_after}
use Rattle.node_show.specs.Shows.{view_starts, shown_answered, view_shown}
use Rattle.node_hear.specs.Hears.{HearsMap}
use Rattle.image_map.specs.declared.Lent as maps
use Rattle.image_map.specs.Image.{map_at, map_lent, lent_map}
use Rattle.image_header.specs.declared.Lent as header
use Rattle.image_header.specs.Image as image
use Rattle.image_header.specs.Image.{header_put, header_lent, lent_header}
use Rattle.calls_parts.specs.Answer.{number_put}
use Rattle.calls_header.specs.Fresh.{fresh_node, Freshens}
use Rattle.calls_header.specs.Waits.{RowsPut}
use Rattle.calls_header.specs.Shows.{worker_bytes, start_bytes, ShowPut, Shows}
use Rattle.calls_header.proofs.Asked.{asked-called}
use Rattle.calls_header.proofs.Calls.{shows_image}
use Rattle.calls_header.proofs.Waits.{all-put, shown_as_lem}
use Rattle.thm_one_node.specs.Images.{unused, new, room, offset}
use Rattle.thm_one_node.proofs.Headers.{key, node, nil}
use Rattle.thm_one_node.proofs.Headers as one
use Rattle.thm_one_node.proofs.New.{made}
use Rattle.thm_two_nodes.specs.Images.{map_bytes, free, new_second, shown, shown_second, worker}
use Rattle.thm_two_nodes.proofs.Map.{map, map_read, map-lent, tested}
use Rattle.thm_two_nodes.proofs.Headers.{leads, follows, read-new, lent-new}
use Rattle.thm_two_nodes.proofs.Put.{header-shown, header-second}

-- ---- node 2 when it is new

new-put : new_second ≡ image.header_put unused (fresh_node 2 4)
unfolding new_second free unused image.header_put image.no_node
new-put = refl

pub is-new : Freshens unused new_second 2 4 0
is-new = made 2 4 new_second (omega arith) (omega arith) new-put

-- ---- the calls, on what the bytes are read into

abbrev starting : Start
starting = record { key = key; epoch = record { 0 = 1 }; metric = Euclidean; peers = record { items = node 2 ∷ replicate 31 (node 0); count = 1 } }

abbrev first : NodeShown
first = record { answer = S.Shown; starts = replicate 8 starting; count = 1; node = leads None 0 0 0 false }

abbrev second : NodeShown
second = record { answer = S.Shown; starts = replicate 8 starting; count = 0; node = follows 0 0 0 }

-- computed of the plain map
first_plain : (s : Stores) → view_shown s first ≡ shown_answered (calls.shown_with (lent_node s (fresh_node 1 4) and true) (view_node s (fresh_node 1 4)) 0 map)
unfolding opened image.no_node lent_node slots_fit view_starts
first_plain s = rw (nil (s.log 0 0) (s.long 0 0), s.bare 0) refl

second_plain : (s : Stores) → view_shown s second ≡ shown_answered (calls.shown_with (lent_node s (fresh_node 2 4) and true) (view_node s (fresh_node 2 4)) 0 map)
unfolding opened image.no_node lent_node slots_fit view_starts
second_plain s = rw (nil (s.log 0 0) (s.long 0 0), s.bare 0) refl

-- .. and carried over to the one that the bytes are read as
same : (n : Node) (x : NodeShown) → ((s : Stores) → view_shown s x ≡ shown_answered (calls.shown_with (lent_node s n and true) (view_node s n) 0 map))
    → (s : Stores)
    → view_shown s x ≡ shown_answered (calls.shown_with (lent_node s n and well_formed_lent (map_at map_bytes)) (view_node s n) 0 (view_map (map_at map_bytes)))
same n x plain s =
    subst (λ (m : tables.Map). view_shown s x ≡ shown_answered (calls.shown_with (lent_node s n and well_formed_lent (map_at map_bytes)) (view_node s n) 0 m)) (sym map_read)
    (subst (λ (b : Bool). view_shown s x ≡ shown_answered (calls.shown_with (lent_node s n and b) (view_node s n) 0 map)) (sym tested) (plain s))

first-hears : HearsMap (fresh_node 1 4) (map_at map_bytes) 0 first
unfolding opened image.no_node formed_node slots_fit slotted slots_after free_from
first-hears = record {
  same = same (fresh_node 1 4) first first_plain;
  slots = λ e. refl;
  slots_are = λ e s. refl;
  stays = λ e. not_both true refl e;
}

second-hears : HearsMap (fresh_node 2 4) (map_at map_bytes) 0 second
unfolding opened image.no_node formed_node slots_fit slotted slots_after free_from
second-hears = record {
  same = same (fresh_node 2 4) second second_plain;
  slots = λ e. refl;
  slots_are = λ e s. refl;
  stays = λ e. not_both true refl e;
}

-- ---- the buffers

abbrev known : maps.Lent
known = record { found = true; map = map_at map_bytes }

is_known : known ≡ lent_map map_bytes
is_known = rw map-lent

abbrev workers : List show.Worker
workers = record { key = record { collection = 0x73 ∷ []; shard = 0 }; peer = node 2; epoch = 1; metric = Euclidean } ∷ []

-- the worker's row
unfoldable pub started : List ℕ
started = start_bytes workers

abbrev read_first : header.Lent
read_first = record { found = true; node = fresh_node 1 4 }

is-first : read_first ≡ lent_header new
is-first = rw (one.lent-new, one.read-new)

one-put : offset ≡ number_put room 1
unfolding number_put
one-put = refl

started-put : started ≡ sets worker 0 (start_bytes workers)
unfolding opened started
started-put = refl

first_rows : RowsPut worker_bytes 54 0 new shown worker started room offset workers (leads None 0 0 0 false) 0
first_rows =
    all-put {A = show.Worker} worker_bytes 54 0 new worker room workers (leads None 0 0 0 false) (omega arith) offset 1 one-put refl
    header-shown.image header-shown.becomes started-put refl

first-put : ShowPut new shown worker started room offset first 0
unfolding view_starts
first-put = shown_as_lem new worker room first S.Shown refl first_rows.buffers (λ e r. header-shown.becomes)

both_lent : (h : List ℕ) → header_lent h ≡ true → (header_lent h and map_lent map_bytes) ≡ true
both_lent h e = and_true (header_lent h) (map_lent map_bytes) e map-lent

pub shows_first : Shows new shown map_bytes worker started room offset 0 0
shows_first =
    asked-called refl (both_lent new one.lent-new)
    (shows_image map_bytes known is_known new read_first is-first refl refl shown worker started room offset 0 0 first first-hears first-put)

abbrev read-second : header.Lent
read-second = record { found = true; node = fresh_node 2 4 }

is-second : read-second ≡ lent_header new_second
is-second = rw (lent-new, read-new)

none-put : room ≡ number_put room 0
unfolding number_put
none-put = refl

second-rows : RowsPut worker_bytes 54 0 new_second shown_second [] [] room room [] (follows 0 0 0) 0
second-rows =
    all-put {A = show.Worker} worker_bytes 54 0 new_second [] room [] (follows 0 0 0) (omega arith) room 0 none-put refl
    header-second.image header-second.becomes refl refl

second-put : ShowPut new_second shown_second [] [] room room second 0
unfolding view_starts
second-put = shown_as_lem new_second [] room second S.Shown refl second-rows.buffers (λ e r. header-second.becomes)

pub shows_second : Shows new_second shown_second map_bytes [] [] room room 0 0
shows_second =
    asked-called refl (both_lent new_second lent-new)
    (shows_image map_bytes known is_known new_second read-second is-second refl refl shown_second [] [] room room 0 0 second second-hears second-put)
