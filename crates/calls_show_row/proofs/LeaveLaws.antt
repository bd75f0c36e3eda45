-- The row of a shard after a row of the map, one law for each thing that the map may say of this node. Assumes nothing.
use Prim.Native.Nat.{ℕ, ◌+◌, ◌≤◌, max}
use mathlib.Core.Path.{◌≡◌, refl, sym, ap, ◌∙◌}
use mathlib.Core.Bool.{Bool, true, false, not}
use mathlib.Core.List.{List, [], map}
use mathlib.Core.Option.{Option}
use lib.Dec.{ltb, leb}
use lib.ListN.{length, take, drop, length-take}
use native.Mathlib.Omega.{arith}
use borrow.Author.Tests.{le-ltb, lt-ltb, ltb-true, ltb-false, leb-true}
use Rattle.spec.specs.Lists.{any, collect}
use Rattle.spec.specs.Limits.{max_workers}
use Rattle.spec.specs.Log.{promote}
use Rattle.spec.specs.Map.Tables.{ShardInfo}
use Rattle.spec.specs.Node.Held as held
use Rattle.spec.specs.Node.Shards.{leads_at, demoted}
use Rattle.spec.specs.Node.Shown as show
use Rattle.spec.specs.declared.Metric.{Metric}
use Rattle.spec.specs.declared.Epoch.{Epoch}
use Rattle.spec.specs.declared.Offset.{Offset}
use Rattle.spec.specs.declared.Peer.{Peer}
use Rattle.spec.specs.declared.Role.{Role}
use Rattle.spec.specs.declared.Role.TheVariants.{Backup, Primary}
use Rattle.spec_laws.proofs.Lists.{and_right}
use Rattle.map_tables.specs.declared.ShardKey.{ShardKey}
use Rattle.map_tables.specs.declared.ShardRow.{ShardRow}
use Rattle.map_tables.specs.Names.{view_key}
use Rattle.map_tables.specs.View.{view_holders, view_in_sync, view_shard}
use Rattle.std.specs.declared.option.Option as option
use Rattle.node_shard.specs.Shows.{leader_is, leader_of, rises, record_epoch}
use Rattle.node_header.specs.declared.HeldRow.{HeldRow}
use Rattle.node_header.specs.View.{Stores, view_held_row, kept_as}
use Rattle.node_header.proofs.Lists.{by_case}
use Rattle.image_header_row.specs.Rows.{held_row_at}
use Rattle.image_header_set.specs.Row.{Outside, RowBecomes, stepped_down}
use Rattle.image_header_set.proofs.SetLaws.{outside_then}
use Rattle.image_show.proofs.RowLaws.{leader-is, starts_none}
use Rattle.calls_show_row.specs.Row.{showing, Shows, Refreshes}
use Rattle.calls_show_row.specs.Set.{holders_set, record_set}
use Rattle.calls_show_row.specs.Leave.{rows_set, Grows, Rises, Stays, starts_between, Leaves}

-- ---- the definition by its tests

module _ (me : ℕ) (i : ShardInfo) (metric : Metric) (h : held.Held) where
  by_left : show.is_primary i.primary me ≡ false → show.show_held me i metric h ≡ show.still (demoted (show.refreshed i h))
  unfolding show.show_held
  by_left e = rw e

  by-rise : show.is_primary i.primary me ≡ true → show.promotes h i ≡ true → show.show_held me i metric h ≡ show.promoted_to me i metric h
  unfolding show.show_held
  by-rise e u = rw (e, u)

  by_stay : show.is_primary i.primary me ≡ true → show.promotes h i ≡ false → show.show_held me i metric h ≡ show.kept_as me i metric h h.role
  unfolding show.show_held
  by_stay e u = rw (e, u)

-- rows in use of an array are no more than their number
few : (l : List Peer) (n : ℕ) → n ≤ max_workers → ltb max_workers (length (take n l)) ≡ false
few l n h = le-ltb max_workers (length (take n l)) (let a = length-take n l in omega arith)

-- the workers of a shard, by its key, its role and its rows
between : (r : ℕ) (old : List Peer) (y : HeldRow) (metric : Metric) (k : ShardKey) (role : Role) (l : List Peer) → y.key ≡ k → y.held.role ≡ role
    → take y.held.count y.held.peers ≡ l → starts_between r old y metric ≡ show.starts (view_key k) (record_epoch role) metric (take r old) l
between r old y metric k role l a b c =
    ap (λ (x : ShardKey). show.starts (view_key x) (record_epoch y.held.role) metric (take r old) (take y.held.count y.held.peers)) a
    ∙ ap (λ (x : Role). show.starts (view_key k) (record_epoch x) metric (take r old) (take y.held.count y.held.peers)) b
    ∙ ap (show.starts (view_key k) (record_epoch role) metric (take r old)) c

-- ---- the row, once its replicas are those that the map lists

pub refreshes : (s t : List ℕ) (at : ℕ) (row : ShardRow) → RowBecomes s t at (holders_set (held_row_at s at) row.replicas) → Refreshes s t at row
refreshes s t at row b = record {
  keeps = record {
    outside = b.outside;
    key = ap (λ (x : HeldRow). x.key) b.row;
    slot = ap (λ (x : HeldRow). x.slot) b.row;
    stored = ap (λ (x : HeldRow). x.stored) b.row;
    last = ap (λ (x : HeldRow). x.held.last) b.row;
  };
  peers = ap (λ (x : HeldRow). x.held.count) b.row;
  same = λ st. ap (view_held_row st) b.row;
}

module _ (s m t : List ℕ) (at me : ℕ) (row : ShardRow) (b : RowBecomes s m at (holders_set (held_row_at s at) row.replicas)) where
  abbrev x : HeldRow
  x = held_row_at s at

  abbrev z : HeldRow
  z = holders_set x row.replicas

  abbrev i : ShardInfo
  i = view_shard row

  shows_as : Outside m t at 1280 → (y : HeldRow) → held_row_at t at ≡ y → y.key ≡ x.key → y.slot ≡ x.slot → y.stored ≡ x.stored → y.held.last ≡ x.held.last
      → y.held.count ≤ 32 → ((st : Stores) (metric : Metric) → view_held_row st y ≡ (showing me row metric st x).held) → Shows s t at me row
  shows_as o y e k l d n c v = record {
    keeps = record {
      outside = outside_then b.outside o;
      key = ap (λ (w : HeldRow). w.key) e ∙ k;
      slot = ap (λ (w : HeldRow). w.slot) e ∙ l;
      stored = ap (λ (w : HeldRow). w.stored) e ∙ d;
      last = ap (λ (w : HeldRow). w.held.last) e ∙ n;
    };
    peers = (let j = ap (λ (w : HeldRow). w.held.count) e in omega arith);
    same = λ st metric. ap (view_held_row st) e ∙ v st metric;
  }

  module _ (leader : option.Option ℕ) (is : leader_of leader ≡ (view_shard row).primary) where
    named : (c : Bool) → leader_is leader me ≡ c → show.is_primary (view_shard row).primary me ≡ c
    named c e = ap (λ (o : Option ℕ). show.is_primary o me) (sym is) ∙ sym (leader-is leader me) ∙ e

    -- another node is primary, or none
    pub leaves-left : leader_is leader me ≡ false → RowBecomes m t at (kept_as (held_row_at m at) (stepped_down (held_row_at m at).held)) → Leaves s t at me row 0
    leaves-left p d =
        let e : held_row_at t at ≡ kept_as z (stepped_down z.held) = d.row ∙ ap (λ (w : HeldRow). kept_as w (stepped_down w.held)) b.row in
        let by : (st : Stores) (metric : Metric) → showing me row metric st x ≡ show.still (demoted (show.refreshed i (view_held_row st x))) =
        λ st metric. by_left me i metric (view_held_row st x) (named false p) in
        record {
          most = omega arith;
          full = λ st metric. ap show.overworked (by st metric);
          shows = λ _. shows_as d.outside (kept_as z (stepped_down z.held)) e refl refl refl refl (omega arith)
              (λ st metric. sym (ap (λ (r : show.Showing). r.held) (by st metric)));
          start = λ _ st metric.
              ap (λ (r : show.Showing). r.start) (by st metric)
              ∙ sym (between 0 x.held.peers (held_row_at t at) metric x.key Backup [] (ap (λ (w : HeldRow). w.key) e) (ap (λ (w : HeldRow). w.held.role) e)
              (ap (λ (w : HeldRow). take w.held.count w.held.peers) e) ∙ none metric);
        }
      where
        none : (metric : Metric) → show.starts (view_key x.key) 0 metric [] [] ≡ []
        none metric = unfold show.starts collect in refl

    -- a record of this node, whose peers are l then
    grown : (l : List Peer) (was : ℕ) (f : HeldRow → HeldRow) (r : ℕ) → Grows m t at l was f r
        → ((w : HeldRow) → ((f w).key ≡ w.key) × ((f w).slot ≡ w.slot) × ((f w).stored ≡ w.stored) × ((f w).held.last ≡ w.held.last) × ((f w).held.count ≡ w.held.count))
        → ((st : Stores) (metric : Metric) → (showing me row metric st x).held.peers ≡ l)
        → ((st : Stores) (metric : Metric) (ps : List Peer) (n : ℕ) → take n ps ≡ l → view_held_row st (f (rows_set z ps n)) ≡ (showing me row metric st x).held)
        → (r ≤ 32 → (st : Stores) (metric : Metric) → (showing me row metric st x).start ≡ starts_between r x.held.peers (held_row_at t at) metric)
        → Leaves s t at me row r
    grown l was f r g same peers view start = record {
      most = g.most;
      full = λ st metric.
          ap (λ (k : List Peer). ltb max_workers (length k)) (peers st metric)
          ∙ by_case (ltb 32 r) (λ e. lt-ltb max_workers (length l) (g.over (ltb-true 32 r e)) ∙ sym e)
          (λ e.
          let q = g.fits (ltb-false 32 r e) in
          ap (λ (k : List Peer). ltb max_workers (length k)) (sym q.rows) ∙ few (held_row_at t at).held.peers (held_row_at t at).held.count q.few ∙ sym e);
      shows = λ k.
          (let q = g.fits k in
          let ps = (held_row_at t at).held.peers in
          let n = (held_row_at t at).held.count in
          let c = same (rows_set z ps n) in
          let j = q.few in
          shows_as g.outside (f (rows_set z ps n)) (q.is ∙ ap (λ (w : HeldRow). f (rows_set w ps n)) b.row) c.0 c.1 c.2 c.3 (let h = c.4 in omega arith)
          (λ st metric. view st metric ps n q.rows));
      start = start;
    }

    module _ (led : leader_is leader me ≡ true) where
      risen : (c : Bool) → rises (held_row_at m at).held.role (held_row_at m at).held.epoch.0 row.epoch.0 ≡ c
          → rises x.held.role x.held.epoch.0 row.epoch.0 ≡ c
      risen c e = ap (λ (w : HeldRow). rises w.held.role w.held.epoch.0 row.epoch.0) (sym b.row) ∙ e

      module _ (up : rises (held_row_at m at).held.role (held_row_at m at).held.epoch.0 row.epoch.0 ≡ true) where
        by_up : (st : Stores) (metric : Metric) → showing me row metric st x ≡ show.promoted_to me i metric (view_held_row st x)
        by_up st metric = by-rise me i metric (view_held_row st x) (named true led) (risen true up)

        abbrev own : Bool
        own = any (show.is_node me) (view_in_sync row.insync)

        abbrev fresh : List Peer
        fresh = show.with_rows me (view_in_sync row.insync) (view_holders row.replicas) []

        top : max x.held.epoch.0 row.epoch.0 ≡ row.epoch.0
        top =
            let c = leb-true x.held.epoch.0 row.epoch.0
            (and_right (not (leads_at x.held.role row.epoch.0)) (leb x.held.epoch.0 row.epoch.0) (risen true up)) in
            omega arith

        up_held : (st : Stores) (metric : Metric) (ps : List Peer) (n : ℕ) → take n ps ≡ fresh
            → view_held_row st (record_set (rows_set z ps n) row.epoch own) ≡ (show.promoted_to me i metric (view_held_row st x)).held
        unfolding show.promoted_to promote
        up_held st metric ps n e = rw (e, st.long x.slot x.held.last, top)

        up_start : (st : Stores) (metric : Metric) → (show.promoted_to me i metric (view_held_row st x)).start ≡ show.starts (view_key x.key) row.epoch.0 metric [] fresh
        unfolding show.promoted_to
        up_start st metric = refl

        up_peers : (st : Stores) (metric : Metric) → (show.promoted_to me i metric (view_held_row st x)).held.peers ≡ fresh
        unfolding show.promoted_to
        up_peers st metric = refl

        -- a new record
        pub leaves-rise : (r : ℕ) → Rises m t at me row r → Leaves s t at me row r
        leaves-rise r g =
            grown fresh 0 (λ w. record_set w row.epoch own) r g (λ w. (refl, refl, refl, refl, refl))
            (λ st metric. ap (λ (k : show.Showing). k.held.peers) (by_up st metric) ∙ up_peers st metric)
            (λ st metric ps n e. up_held st metric ps n e ∙ sym (ap (λ (k : show.Showing). k.held) (by_up st metric)))
            (λ k st metric.
            let q = g.fits k in
            let ps = (held_row_at t at).held.peers in
            let n = (held_row_at t at).held.count in
            let e : held_row_at t at ≡ record_set (rows_set z ps n) row.epoch own =
            q.is ∙ ap (λ (w : HeldRow). record_set (rows_set w ps n) row.epoch own) b.row in
            let zero : take r x.held.peers ≡ [] = ap (λ (j : ℕ). take j x.held.peers) q.known in
            ap (λ (k : show.Showing). k.start) (by_up st metric) ∙ up_start st metric
            ∙ ap (λ (o : List Peer). show.starts (view_key x.key) row.epoch.0 metric o fresh) (sym zero)
            ∙ sym (between r x.held.peers (held_row_at t at) metric x.key (Primary row.epoch (record { 0 = x.held.last })) fresh
            (ap (λ (w : HeldRow). w.key) e) (ap (λ (w : HeldRow). w.held.role) e) q.rows))

      module _ (same : rises (held_row_at m at).held.role (held_row_at m at).held.epoch.0 row.epoch.0 ≡ false) where
        by_role : (role : Role) → (held_row_at m at).held.role ≡ role → (st : Stores) (metric : Metric)
            → showing me row metric st x ≡ show.kept_as me i metric (view_held_row st x) role
        by_role role e st metric =
            by_stay me i metric (view_held_row st x) (named true led) (risen false same)
            ∙ ap (show.kept_as me i metric (view_held_row st x)) (sym (ap (λ (w : HeldRow). w.held.role) b.row) ∙ e)

        -- a record that stays
        module _ (e : Epoch) (o : Offset) (role : (held_row_at m at).held.role ≡ Primary e o) where
          abbrev rows : HeldRow → List Peer
          rows w =
              show.with_rows me [] (view_holders row.replicas) (map (show.retained (view_holders row.replicas)) (take w.held.count w.held.peers))

          role_x : x.held.role ≡ Primary e o
          role_x = sym (ap (λ (w : HeldRow). w.held.role) b.row) ∙ role

          rows_same : rows (held_row_at m at) ≡ rows x
          rows_same = ap rows b.row

          on-held : (st : Stores) (metric : Metric) (ps : List Peer) (n : ℕ) → take n ps ≡ rows x
              → view_held_row st (rows_set z ps n) ≡ (show.kept_as me i metric (view_held_row st x) (Primary e o)).held
          unfolding show.kept_as
          on-held st metric ps n q = rw (q, role_x)

          on-start : (st : Stores) (metric : Metric) → (show.kept_as me i metric (view_held_row st x) (Primary e o)).start
              ≡ show.starts (view_key x.key) e.0 metric (take x.held.count x.held.peers) (rows x)
          unfolding show.kept_as
          on-start st metric = refl

          on-peers : (st : Stores) (metric : Metric) → (show.kept_as me i metric (view_held_row st x) (Primary e o)).held.peers ≡ rows x
          unfolding show.kept_as
          on-peers st metric = refl

          pub leaves_stay : (r : ℕ) → Stays m t at me row r → Leaves s t at me row r
          leaves_stay r g =
              grown (rows (held_row_at m at)) (held_row_at m at).held.count (λ w. w) r g (λ w. (refl, refl, refl, refl, refl))
              (λ st metric. ap (λ (k : show.Showing). k.held.peers) (by_role (Primary e o) role st metric) ∙ on-peers st metric ∙ sym rows_same)
              (λ st metric ps n q. on-held st metric ps n (q ∙ rows_same) ∙ sym (ap (λ (k : show.Showing). k.held) (by_role (Primary e o) role st metric)))
              (λ k st metric.
              let q = g.fits k in
              let ps = (held_row_at t at).held.peers in
              let n = (held_row_at t at).held.count in
              let y : held_row_at t at ≡ rows_set z ps n = q.is ∙ ap (λ (w : HeldRow). rows_set w ps n) b.row in
              let c : x.held.count ≡ r = sym (q.known ∙ ap (λ (w : HeldRow). w.held.count) b.row) in
              ap (λ (k : show.Showing). k.start) (by_role (Primary e o) role st metric) ∙ on-start st metric
              ∙ ap (λ (j : ℕ). show.starts (view_key x.key) e.0 metric (take j x.held.peers) (rows x)) c
              ∙ sym (between r x.held.peers (held_row_at t at) metric x.key (Primary e o) (rows x) (ap (λ (w : HeldRow). w.key) y)
              (ap (λ (w : HeldRow). w.held.role) y ∙ role_x) (q.rows ∙ rows_same)))

    -- a backup that the map names primary of an epoch below its own: only its replicas change
    pub leaves_backup : leader_is leader me ≡ true → rises (held_row_at m at).held.role (held_row_at m at).held.epoch.0 row.epoch.0 ≡ false
        → (held_row_at m at).held.role ≡ Backup → (n : ℕ) → n ≡ (held_row_at m at).held.count → n ≤ 32 → t ≡ m → Leaves s t at me row n
    leaves_backup led same role n c le u =
        let h : (st : Stores) (metric : Metric) → showing me row metric st x ≡ show.still (show.refreshed i (view_held_row st x)) =
        λ st metric. by_role led same Backup role st metric ∙ kept st metric in
        let y : held_row_at t at ≡ z = ap (λ (l : List ℕ). held_row_at l at) u ∙ b.row in
        let d : n ≡ x.held.count = c ∙ ap (λ (w : HeldRow). w.held.count) b.row in
        record {
          most = omega arith;
          full = λ st metric. ap show.overworked (h st metric) ∙ few x.held.peers x.held.count (omega arith) ∙ sym (le-ltb 32 n le);
          shows = λ _. shows_as (record { long = ap (λ (l : List ℕ). length l) u; front = ap (take at) u; back = ap (drop (at + 1280)) u }) z y refl refl refl refl (omega arith)
              (λ st metric. sym (ap (λ (r : show.Showing). r.held) (h st metric)));
          start = λ _ st metric.
              ap (λ (r : show.Showing). r.start) (h st metric)
              ∙ sym (between n x.held.peers (held_row_at t at) metric x.key x.held.role (take x.held.count x.held.peers) (ap (λ (w : HeldRow). w.key) y)
              (ap (λ (w : HeldRow). w.held.role) y) (ap (λ (w : HeldRow). take w.held.count w.held.peers) y)
              ∙ ap (λ (j : ℕ). show.starts (view_key x.key) (record_epoch x.held.role) metric (take j x.held.peers) (take x.held.count x.held.peers)) d
              ∙ starts_none (view_key x.key) (record_epoch x.held.role) metric (take x.held.count x.held.peers));
        }
      where
        kept : (st : Stores) (metric : Metric) → show.kept_as me i metric (view_held_row st x) Backup ≡ show.still (show.refreshed i (view_held_row st x))
        kept st metric = unfold show.kept_as in refl
