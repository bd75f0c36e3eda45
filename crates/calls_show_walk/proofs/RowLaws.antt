-- One shard that lists this node: its row before, what the map leaves of it, and its workers. Assumes nothing.
use Prim.Native.Nat.{ℕ, ◌+◌, ◌*◌, ◌≤◌, ◌<◌}
use mathlib.Core.Path.{◌≡◌, refl, sym, ap, subst, ◌∙◌}
use mathlib.Core.Bool.{Bool, true, false, cond}
use mathlib.Core.List.{List, [], ◌∷◌, map}
use mathlib.Core.Option.{Option, none, some}
use native.Mathlib.Omega.{arith}
use lib.Dec.{ltb}
use lib.ListN.{length, take, drop, get_or, length-take, length-drop}
use lib.Seq.{sets, length-take-le, take-length, get_or-take, get_or-drop}
use borrow.Author.Tests.{le-ltb, ltb-true, ltb-false, not-false}
use Rattle.spec.specs.Lists.{collect}
use Rattle.spec.specs.Limits.{max_held, max_workers}
use Rattle.spec.specs.Layout.Format.{number_at}
use Rattle.spec.specs.Keys.{Name, Key}
use Rattle.spec.specs.Map.Tables as tables
use Rattle.spec.specs.Node.Held as held
use Rattle.spec.specs.Node.Shards.{held_shard, begun, demoted}
use Rattle.spec.specs.Node.Client.{node_of}
use Rattle.spec.specs.Node.Shown as show
use Rattle.spec.specs.declared.DataNodeId.{DataNodeId}
use Rattle.spec.specs.declared.Metric.{Metric}
use Rattle.spec.specs.declared.Metric.TheVariants.{Euclidean}
use Rattle.spec.specs.declared.Peer.{Peer}
use Rattle.spec.specs.declared.Role.{Role}
use Rattle.spec.specs.declared.Role.TheVariants.{Backup, Primary}
use Rattle.spec_laws.proofs.Lists.{not_both}
use Rattle.spec_laws.proofs.Map.Orders.{same_key_lem}
use Rattle.node_shard.specs.declared.Held.{Held}
use Rattle.node_shard.specs.Shows.{worker_at}
use Rattle.map_tables.specs.declared.ShardRow.{ShardRow}
use Rattle.map_tables.specs.declared.Collections.{Collections}
use Rattle.map_tables.specs.Counted.{Sized}
use Rattle.map_tables.specs.Names.{view_name, view_key}
use Rattle.map_tables.specs.View.{view_shard, view_collections}
use Rattle.node_header.specs.declared.HeldRow.{HeldRow}
use Rattle.node_header.specs.declared.Node.{Node}
use Rattle.node_header.specs.View.{Stores, view_held_row, view_node, other_key, no_held_row}
use Rattle.node_header.specs.Formed.{formed_node}
use Rattle.node_header.proofs.Lists.{by_case}
use Rattle.node_header.proofs.Shards.{shard-none, shard_some, some_stores}
use Rattle.node_header.proofs.Grow.{stop_at, view-bare}
use Rattle.image_parts.specs.Shape.{Stored}
use Rattle.image_header_row.specs.Rows.{held_row_f, held_row_of, held_row_at}
use Rattle.image_header.specs.Image.{node_at}
use Rattle.image_header_check.specs.Rows.{Counts}
use Rattle.image_header_check.proofs.Rows.{count-is}
use Rattle.image_header_set.specs.Row.{RowBecomes}
use Rattle.image_header_set.proofs.SetLaws.{stored_outside, outside_then, row_as}
use Rattle.image_header_set.proofs.Place.{in_array, place_in, place_out, row_is, held-is, peers-few}
use Rattle.image_header_begin.specs.Begun.{begun_set}
use Rattle.image_move.proofs.Bytes.{value_same}
use Rattle.image_move.proofs.Moves.{sets_in}
use Rattle.node_show.specs.declared.Start.{Start}
use Rattle.node_show.specs.Rows.{Taken, view_start, view_taken, place_of, SlotFrom, opens, stays, listed_shown}
use Rattle.calls_header.specs.Shows.{start_bytes}
use Rattle.calls_show_row.specs.Row.{showing, Ready, Refreshes}
use Rattle.std.specs.Prelude as prelude
use Rattle.std.specs.Prelude.{Some, Result, Ok, Err}
use Rattle.calls_show_walk.specs.declared.Full.{Full}
use Rattle.calls_show_walk.specs.Rows.{Before, ShowsPut, Refused, ninth, worker, RowSkipped, RowTaken, Takes}

-- ---- a row that is copied

pub copied : (s u v : List ℕ) (to from n : ℕ) → to + 1280 ≤ length u → from + 1280 ≤ length s → n ≡ 1280 → v ≡ sets u to (take n (drop from s))
    → RowBecomes u v to (held_row_at s from)
unfolding held_row_at
copied s u v to from n room there is e =
    let b = take n (drop from s) in
    let d = length-drop from s in
    let l : length b ≡ 1280 = length-take-le n (drop from s) (omega arith) ∙ is in
    record {
      outside = stored_outside {at = to} {b = b} (record { image = e; long = l }) to 1280 (omega arith) (omega arith) room;
      row = ap held_row_of (value_same v s held_row_f to from (λ i lt.
          ap (λ (x : List ℕ). get_or x (to + i) 0) e ∙ sets_in u to b i (omega arith) (omega arith)
          ∙ get_or-take n (drop from s) i 0 (omega arith) ∙ get_or-drop from s i 0));
    }

-- ---- workers, by their nodes

collect-nodes : (k : Key) (e : ℕ) (metric : Metric) (p : Peer → Bool) (l : List Peer)
    → collect p (show.worker_for k e metric) l ≡ map (worker_at k e metric) (collect p node_of l)
unfolding collect
collect-nodes k e metric p [] = refl
collect-nodes k e metric p (x ∷ l) = go (p x) (collect-nodes k e metric p l)
  where
    go : (b : Bool) → collect p (show.worker_for k e metric) l ≡ map (worker_at k e metric) (collect p node_of l)
        → cond b (show.worker_for k e metric x ∷ collect p (show.worker_for k e metric) l) (collect p (show.worker_for k e metric) l)
        ≡ map (worker_at k e metric) (cond b (node_of x ∷ collect p node_of l) (collect p node_of l))
    go true q = ap (λ (r : List show.Worker). show.worker_for k e metric x ∷ r) q
    go false q = q

record ByNodes (k : Key) (metric : Metric) (x : show.Showing) : Type 0 where
  pub epoch : ℕ
  pub nodes : List DataNodeId
  pub same : x.start ≡ map (worker_at k epoch metric) nodes

by-nodes : (me : ℕ) (i : tables.ShardInfo) (metric : Metric) (h : held.Held) → ByNodes h.key metric (show.show_held me i metric h)
unfolding show.show_held show.promoted_to show.kept_as show.starts
by-nodes me i metric h = pick (show.is_primary i.primary me) (show.promotes h i) first (kept h.role) (still h.key metric)
  where
    first : ByNodes h.key metric (show.promoted_to me i metric h)
    first =
        let rows = show.with_rows me i.insync i.replicas [] in
        record { epoch = i.epoch; nodes = collect (show.is_new []) node_of rows; same = collect-nodes h.key i.epoch metric (show.is_new []) rows }

    kept : (r : Role) → ByNodes h.key metric (show.kept_as me i metric h r)
    kept Backup = record { epoch = 0; nodes = []; same = refl }
    kept (Primary e o) =
        let rows = show.with_rows me [] i.replicas (map (show.retained i.replicas) h.peers) in
        record { epoch = e.0; nodes = collect (show.is_new h.peers) node_of rows; same = collect-nodes h.key e.0 metric (show.is_new h.peers) rows }

    still : (k : Key) (m : Metric) {g : held.Held} → ByNodes k m (show.still g)
    still k m = record { epoch = 0; nodes = []; same = refl }

    pick : (p q : Bool) {a b c : show.Showing} → ByNodes h.key metric a → ByNodes h.key metric b → ByNodes h.key metric c
        → ByNodes h.key metric (cond p (cond q a b) c)
    pick true true x y z = x
    pick true false x y z = y
    pick false q x y z = z

-- whatever the stores hold
same-starts : (me : ℕ) (row : ShardRow) (metric : Metric) (s st : Stores) (x : HeldRow) → (showing me row metric s x).start ≡ (showing me row metric st x).start
unfolding show.show_held show.promoted_to show.kept_as
same-starts me row metric s st x =
    pick (show.is_primary i.primary me) (show.promotes (view_held_row s x) i)
    (first (view_held_row s x)) (kept (view_held_row s x) x.held.role) (left (view_held_row s x))
    (first (view_held_row st x)) (kept (view_held_row st x) x.held.role) (left (view_held_row st x)) refl (same x.held.role) refl
  where
    i : tables.ShardInfo
    i = view_shard row

    first : held.Held → show.Showing
    first h = show.promoted_to me i metric h

    kept : held.Held → Role → show.Showing
    kept h r = show.kept_as me i metric h r

    left : held.Held → show.Showing
    left h = show.still (demoted (show.refreshed i h))

    same : (r : Role) → (kept (view_held_row s x) r).start ≡ (kept (view_held_row st x) r).start
    same Backup = refl
    same (Primary e o) = refl

    pick : (p q : Bool) (a b c f g h : show.Showing) → a.start ≡ f.start → b.start ≡ g.start → c.start ≡ h.start
        → (cond p (cond q a b) c).start ≡ (cond p (cond q f g) h).start
    pick true true a b c f g h x y z = x
    pick true false a b c f g h x y z = y
    pick false q a b c f g h x y z = z

-- what a shard says whose collection the map has, as one of those that list the node
abbrev pub taken_of : Result ℕ Full → Result (prelude.Option ℕ) Full
taken_of (Ok after) = Ok (Some after)
taken_of (Err e) = Err e

module _ (me : ℕ) (row : ShardRow) (metric : Metric) (x : HeldRow) where
  abbrev told : ByNodes (view_key x.key) metric (showing me row metric some_stores x)
  told = by-nodes me (view_shard row) metric (view_held_row some_stores x)

  abbrev start_as : Start
  start_as = record {
    key = x.key;
    epoch = record { 0 = told.epoch };
    metric = metric;
    peers = record { items = told.nodes; count = length told.nodes };
  }

  start_is : (st : Stores) → view_start start_as ≡ (showing me row metric st x).start
  start_is st =
      ap (map (worker_at (view_key x.key) told.epoch metric)) (take-length told.nodes)
      ∙ sym told.same ∙ same-starts me row metric some_stores st x

-- ---- the definition's answer

module _ (n : Node) (t : Collections) (row : ShardRow) where
  abbrev pub name : Name
  name = view_name row.key.collection

  abbrev me : ℕ
  me = n.id.0

  abbrev pub Lacks : Type 0
  Lacks = (m : tables.Map) → m.collections ≡ view_collections t → show.collection_metric m name ≡ none

  abbrev pub Has : Metric → Type 0
  Has metric = (m : tables.Map) → m.collections ≡ view_collections t → show.collection_metric m name ≡ some metric

  abbrev answer : Stores → Option Metric → Option show.Showing
  answer s o = show.show_listed me (view_shard row) o (held_shard (view_node s n) (view_key row.key))

  -- with the collection the shard is held after
  held_after_lem : (metric : Metric) → Has metric → (s : Stores) (m : tables.Map) → m.collections ≡ view_collections t
      → (x : show.Showing) × (listed_shown s n m row ≡ some x)
  held_after_lem metric has s m e = go (held_shard (view_node s n) (view_key row.key)) refl
    where
      go : (o : Option held.Held) → held_shard (view_node s n) (view_key row.key) ≡ o → (x : show.Showing) × (listed_shown s n m row ≡ some x)
      go none q = (
        show.show_held me (view_shard row) metric (begun (view_key row.key) metric),
        ap (answer s) (has m e) ∙ ap (show.show_listed me (view_shard row) (some metric)) q ∙ (unfold show.show_listed in refl),
      )
      go (some h) q = (
        show.show_held me (view_shard row) metric h,
        ap (answer s) (has m e) ∙ ap (show.show_listed me (view_shard row) (some metric)) q ∙ (unfold show.show_listed in refl),
      )

  -- a ninth
  pub ninth_known : (metric : Metric) → Has metric → (count : ℕ) → 8 ≤ count → Refused n t row count
  ninth_known metric has count h = ninth h (held_after_lem metric has)

  module _ (le : n.count ≤ length n.held) (at : ℕ) (is : at ≡ place_of n (view_key row.key)) where
    abbrev kept : HeldRow
    kept = get_or n.held at no_held_row

    key-at : at < n.count → view_key kept.key ≡ view_key row.key
    key-at h = same_key_lem (view_key kept.key) (view_key row.key) (not-false _ (stop_at (other_key (view_key row.key)) no_held_row n.held n.count at le is h))

    -- its slot: that of the same shard before, or none yet
    slot_held : at < n.count → (y : HeldRow) → y.slot ≡ kept.slot → view_key y.key ≡ view_key kept.key → SlotFrom n y
    slot_held h y p k = stays at (is ∙ ap (place_of n) (sym (k ∙ key-at h))) h (sym p) (sym k)

    slot-first : n.count ≤ at → (y : HeldRow) → view_key y.key ≡ view_key row.key → y.slot ≡ max_held → y.held.last ≡ 0 → y.stored ≡ 0 → SlotFrom n y
    slot-first h y k p a b = opens (subst (λ (i : ℕ). n.count ≤ i) (is ∙ ap (place_of n) (sym k)) h) p a b

    -- ---- the map lacks the collection

    module _ (lacks : Lacks) where
      pub skipped : n.count ≤ at → (u p : List ℕ) → RowSkipped n t row u u p p
      skipped h u p = record {
        same = (refl, refl);
        skips = λ s m e.
            ap (answer s) (lacks m e)
            ∙ ap (show.show_listed me (view_shard row) none) (shard-none s n (view_key row.key) le at is h)
            ∙ (unfold show.show_listed in refl);
      }

      module _ (h : at < n.count) where
        kept-said : (s : Stores) (m : tables.Map) → m.collections ≡ view_collections t
            → listed_shown s n m row ≡ some (show.still (show.refreshed (view_shard row) (view_held_row s kept)))
        kept-said s m e =
            ap (answer s) (lacks m e)
            ∙ ap (show.show_listed me (view_shard row) none) (shard_some s n (view_key row.key) le at is h)
            ∙ (unfold show.show_listed in refl)

        pub ninth_kept : (count : ℕ) → 8 ≤ count → Refused n t row count
        ninth_kept count g = ninth g (λ s m e. (show.still (show.refreshed (view_shard row) (view_held_row s kept)), kept-said s m e))

        pub kept-taken : kept.held.count ≤ 32 → (u v w p : List ℕ) (count many : ℕ) → count < 8 → RowBecomes u v (1280 * count) kept
            → Refreshes v w (1280 * count) row → RowTaken n t row u w p p count many many
        kept-taken few u v w p count many room b r = record {
          room = room;
          taken = taken;
          shows = record {
            skips = λ a. not_both false a refl;
            over = λ a o. not_both false o refl;
            takes = λ a o s m e. record { is = kept-said s m e ∙ ap some (sym (view s)); fits = ap show.overworked (view s) ∙ light };
            slot = λ a. slot_held h (held_row_at w (1280 * count)) (r.keeps.slot ∙ ap (λ (x : HeldRow). x.slot) b.row) keys;
            key = λ a. keys ∙ key-at h;
          };
          becomes = record { outside = outside_then b.outside r.keeps.outside; row = refl };
          stored = record { image = refl; long = refl };
          next = omega arith;
          most = omega arith;
        }
          where
            taken : Taken
            taken = record {
              kept = held_row_at w (1280 * count);
              start = record { key = row.key; epoch = record { 0 = 0 }; metric = Euclidean; peers = record { items = []; count = 0 } };
            }

            keys : view_key (held_row_at w (1280 * count)).key ≡ view_key kept.key
            keys = ap view_key (r.keeps.key ∙ ap (λ (x : HeldRow). x.key) b.row)

            view : (s : Stores) → view_taken s taken ≡ show.still (show.refreshed (view_shard row) (view_held_row s kept))
            view s = ap show.still (r.same s ∙ ap (λ (x : HeldRow). show.refreshed (view_shard row) (view_held_row s x)) b.row)

            light : ltb max_workers (length (take kept.held.count kept.held.peers)) ≡ false
            light = le-ltb max_workers (length (take kept.held.count kept.held.peers)) (let a = length-take kept.held.count kept.held.peers in omega arith)

    -- ---- the map has it

    module _ (metric : Metric) (has : Has metric) where
      -- x is the shard before the map
      abbrev Was : HeldRow → Type 0
      Was x = (s : Stores) → answer s (some metric) ≡ some (showing me row metric s x)

      -- .. which keeps its slot
      abbrev Slots : HeldRow → Type 0
      Slots x = (y : HeldRow) → y.key ≡ x.key → y.slot ≡ x.slot → y.stored ≡ x.stored → y.held.last ≡ x.held.last
          → SlotFrom n y × (view_key y.key ≡ view_key row.key)

      said : (x : HeldRow) → Was x → (s : Stores) (m : tables.Map) → m.collections ≡ view_collections t → listed_shown s n m row ≡ some (showing me row metric s x)
      said x was s m e = ap (answer s) (has m e) ∙ was s

      known : (x : HeldRow) → Was x → Slots x → (u v w p q : List ℕ) (count many : ℕ) → count < 8 → held_row_at v (1280 * count) ≡ x
          → RowBecomes u v (1280 * count) x → (r : Result ℕ Full) → ShowsPut v w p q (1280 * count) me row metric many r
          → Takes n t row u w p q count many (taken_of r)
      known x was slots_are u v w p q count many room there b (Err e) a =
          worker (λ s m g. record {
            showing = showing me row metric s x;
            is = said x was s m g;
            over = ap (λ (y : HeldRow). show.overworked (showing me row metric s y)) (sym there) ∙ a s;
          })
      known x was slots_are u v w p q count many room there b (Ok after) f =
          let to = 1280 * count in
          let taken : Taken = record { kept = held_row_at w to; start = start_as me row metric x } in
          let k = f.shows.keeps in
          let from = slots_are (held_row_at w to) (k.key ∙ ap (λ (y : HeldRow). y.key) there) (k.slot ∙ ap (λ (y : HeldRow). y.slot) there)
          (k.stored ∙ ap (λ (y : HeldRow). y.stored) there) (k.last ∙ ap (λ (y : HeldRow). y.held.last) there) in
          let starts : (s : Stores) → (showing me row metric s (held_row_at v to)).start ≡ view_start (start_as me row metric x) =
          λ s. ap (λ (y : HeldRow). (showing me row metric s y).start) there ∙ sym (start_is me row metric x s) in
          let view : (s : Stores) → view_taken s taken ≡ showing me row metric s x =
          λ s.
          ap (λ (g : held.Held). record { held = g; start = view_start (start_as me row metric x) })
          (f.shows.same s metric ∙ ap (λ (y : HeldRow). (showing me row metric s y).held) there)
          ∙ ap (λ (l : List show.Worker). record { held = (showing me row metric s x).held; start = l }) (start_is me row metric x s) in
          let one = starts some_stores in
          record {
            room = room;
            taken = taken;
            shows = record {
              skips = λ z. not_both false z refl;
              over = λ z o. not_both false o refl;
              takes = λ z o s m e. record {
                is = said x was s m e ∙ ap some (sym (view s));
                fits = ap show.overworked (view s ∙ ap (showing me row metric s) (sym there)) ∙ f.few.few s metric;
              };
              slot = λ z. from.0;
              key = λ z. from.1;
            };
            becomes = record { outside = outside_then b.outside k.outside; row = refl };
            stored = subst (λ (l : List show.Worker). Stored p q (54 * many) (start_bytes l) (54 * length l)) one (f.stored some_stores);
            next = subst (λ (l : List show.Worker). after ≡ many + length l) one (f.next some_stores);
            most = subst (λ (l : List show.Worker). length l ≤ 32) one (f.most some_stores);
          }

      -- a shard that is held
      pub known-held : at < n.count → (u v w p q : List ℕ) (count many : ℕ) → count < 8 → RowBecomes u v (1280 * count) kept
          → (r : Result ℕ Full) → ShowsPut v w p q (1280 * count) me row metric many r → Takes n t row u w p q count many (taken_of r)
      known-held h u v w p q count many room b r a =
          known kept
          (λ s.
          ap (show.show_listed me (view_shard row) (some metric)) (shard_some s n (view_key row.key) le at is h)
          ∙ (unfold show.show_listed in refl))
          (λ y k p z l. (slot_held h y p (ap view_key k), ap view_key k ∙ key-at h))
          u v w p q count many room b.row b r a

      -- a shard that begins
      pub known-first : n.count ≤ at → (u v w p q : List ℕ) (count many : ℕ) → count < 8 → (z : HeldRow)
          → RowBecomes u v (1280 * count) (begun_set z row.key 8 0 metric)
          → (r : Result ℕ Full) → ShowsPut v w p q (1280 * count) me row metric many r → Takes n t row u w p q count many (taken_of r)
      known-first h u v w p q count many room z b r a =
          let x = begun_set z row.key 8 0 metric in
          known x
          (λ s.
          ap (show.show_listed me (view_shard row) (some metric)) (shard-none s n (view_key row.key) le at is h)
          ∙ (unfold show.show_listed in ap (λ (g : held.Held). some (show.show_held me (view_shard row) metric g)) (sym (view-bare s x refl refl))))
          (λ y k p e l. (slot-first h y (ap view_key k) p l e, ap view_key k))
          u v w p q count many room b.row b r a

-- ---- in the bytes of the header

pub ready : (v : List ℕ) (to : ℕ) (row : ShardRow) → to + 1280 ≤ length v → Sized row → (held_row_at v to).held.count ≤ 32 → Ready v to row
ready v to row room sized few = record { room = room; peers = (let e = count-is v to in omega arith); sized = sized }

module _ (s : List ℕ) (held : ℕ) (counts : Counts s held) (formed : formed_node (node_at s) ≡ true) (row : ShardRow) (at : ℕ)
    (is : at ≡ place_of (node_at s) (view_key row.key)) where
  module _ (lt : at < held) where
    pub few-at : (held_row_at s (48 + 1280 * at)).held.count ≤ 32
    few-at = let e = ap (λ (x : Held). x.count) (held-is s held counts at lt) in let f = peers-few s held counts at lt formed in omega arith

    as_held : {u v : List ℕ} {to : ℕ} → RowBecomes u v to (held_row_at s (48 + 1280 * at)) → RowBecomes u v to (get_or (node_at s).held at no_held_row)
    as_held b = row_as (sym (row_is s held counts at lt)) b

    pub keep_taken : (t : Collections) → Lacks (node_at s) t row → (u v w p : List ℕ) (count many : ℕ) → count < 8
        → RowBecomes u v (1280 * count) (held_row_at s (48 + 1280 * at)) → Refreshes v w (1280 * count) row
        → RowTaken (node_at s) t row u w p p count many many
    keep_taken t lacks u v w p count many room b r =
        kept-taken (node_at s) t row (in_array s held counts) at is lacks (place_in s held counts at lt) (peers-few s held counts at lt formed) u v w p count many room
        (as_held b) r

  module _ (u v : List ℕ) (to : ℕ) (metric : Metric) (b : Before s u v to held at row.key metric) where
    few-before : (held_row_at v to).held.count ≤ 32
    few-before =
        by_case (ltb at held)
        (λ e. let lt = ltb-true at held e in let k = ap (λ (x : HeldRow). x.held.count) (b.old lt) in let f = few-at lt in omega arith)
        (λ e. let k = ap (λ (x : HeldRow). x.held.count) (b.new (ltb-false at held e)) in omega arith)

    pub know_ready : to + 1280 ≤ length u → Sized row → Ready v to row
    know_ready room sized = let l = b.outside.long in ready v to row (omega arith) sized few-before

  id-is : (node_at s).id.0 ≡ number_at 8 s 0
  unfolding node_at
  id-is = refl

  pub know_taken : (me : ℕ) → me ≡ number_at 8 s 0 → (t : Collections) (metric : Metric) → Has (node_at s) t row metric → (u v w p q : List ℕ) (count many : ℕ) → count < 8
      → Before s u v (1280 * count) held at row.key metric → (r : Result ℕ Full) → ShowsPut v w p q (1280 * count) me row metric many r
      → Takes (node_at s) t row u w p q count many (taken_of r)
  know_taken me own t metric has u v w p q count many room b r a =
      let f = subst (λ (i : ℕ). ShowsPut v w p q (1280 * count) i row metric many r) (own ∙ sym id-is) a in
      by_case (ltb at held)
      (λ e.
      let lt = ltb-true at held e in
      known-held (node_at s) t row (in_array s held counts) at is metric has (place_in s held counts at lt) u v w p q count many room
      (as_held lt (record { outside = b.outside; row = b.old lt })) r f)
      (λ e.
      let ge = ltb-false at held e in
      known-first (node_at s) t row (in_array s held counts) at is metric has (place_out s held counts at ge) u v w p q count many room (held_row_at u (1280 * count))
      (record { outside = b.outside; row = b.new ge }) r f)
