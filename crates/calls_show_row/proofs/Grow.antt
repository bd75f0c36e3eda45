-- The peers of a row grown, then counted and what else the map sets. Assumes nothing.
use Prim.Native.Nat.{ℕ, ◌+◌, ◌≤◌, ◌<◌}
use mathlib.Core.Path.{◌≡◌, refl, sym, ap, subst, ◌∙◌}
use mathlib.Core.Bool.{Bool}
use mathlib.Core.List.{List, [], map}
use lib.ListN.{length, take}
use native.Mathlib.Omega.{arith}
use Rattle.spec.specs.Lists.{any}
use Rattle.spec.specs.Layout.Format.{number_at}
use Rattle.spec.specs.Node.Shown as show
use Rattle.spec.specs.declared.Peer.{Peer}
use Rattle.spec.specs.declared.Role.{Role}
use Rattle.map_tables.specs.declared.ShardRow.{ShardRow}
use Rattle.map_tables.specs.View.{view_holders, view_in_sync}
use Rattle.node_shard.specs.Shows.{rises}
use Rattle.node_header.specs.declared.HeldRow.{HeldRow}
use Rattle.image_header_row.specs.Rows.{role_at, held_row_at}
use Rattle.image_header_check.proofs.Rows.{count-is}
use Rattle.image_header_form.proofs.FrontLaws.{epoch-is, role_is}
use Rattle.image_header_set.specs.Row.{RowBecomes, count_set}
use Rattle.image_header_set.proofs.SetLaws.{outside_then}
use Rattle.calls_show_row.specs.Row.{Ready}
use Rattle.calls_show_row.specs.Set.{holders_set, record_set}
use Rattle.calls_show_row.specs.Peers.{peers_in, PeersBecome, PeersGrow}
use Rattle.calls_show_row.specs.Leave.{rows_set, Grows, Rises, Stays}
use Rattle.calls_show_row.proofs.PeerLaws.{only_then}

-- they do not fit
grows_over : (s m : List ℕ) (at : ℕ) (l : List Peer) (n was : ℕ) (f : HeldRow → HeldRow) → PeersGrow s m at l n → 32 < n → Grows s m at l was f 33
grows_over s m at l n was f g h = record { most = omega arith; outside = g.outside; over = λ _. g.over h; fits = λ k. absurd (omega arith) }

-- they do
grows_fit : (s m u t : List ℕ) (at : ℕ) (l : List Peer) (n was r : ℕ) (f : HeldRow → HeldRow) → ((w : HeldRow) → ((f w).held.peers ≡ w.held.peers) × ((f w).held.count ≡ w.held.count))
    → PeersGrow s m at l n → n ≤ 32 → RowBecomes m u at (count_set (held_row_at m at) n) → RowBecomes u t at (f (held_row_at u at)) → r ≡ was → r ≤ 32
    → Grows s t at l was f r
grows_fit s m u t at l n was r f same g le a b e few =
    let p = g.fits le in
    let x = held_row_at s at in
    let y = held_row_at t at in
    let z : y ≡ f (rows_set x (peers_in m at) n) = b.row ∙ ap f (a.row ∙ ap (λ (w : HeldRow). count_set w n) p.becomes.row) in
    let c = same (rows_set x (peers_in m at) n) in
    let ps : y.held.peers ≡ peers_in m at = ap (λ (w : HeldRow). w.held.peers) z ∙ c.0 in
    let ns : y.held.count ≡ n = ap (λ (w : HeldRow). w.held.count) z ∙ c.1 in
    record {
      most = omega arith;
      outside = outside_then g.outside (outside_then a.outside b.outside);
      over = λ h. absurd (omega arith);
      fits = λ _. record {
        known = e;
        is = z ∙ ap (λ (q : List Peer). f (rows_set x q n)) (sym ps) ∙ ap (λ (j : ℕ). f (rows_set x y.held.peers j)) (sym ns);
        rows = ap (λ (j : ℕ). take j y.held.peers) ns ∙ ap (take n) ps ∙ p.rows;
        few = omega arith;
      };
    }

still : (s : List ℕ) (at : ℕ) → RowBecomes s s at (held_row_at s at)
still s at = record { outside = record { long = refl; front = refl; back = refl }; row = refl }

-- ---- a new record

module _ (s m : List ℕ) (at me : ℕ) (row : ShardRow) (n : ℕ)
    (g : PeersGrow s m at (show.with_rows me (view_in_sync row.insync) (view_holders row.replicas) []) n) where
  pub rise_over : 32 < n → Rises s m at me row 33
  rise_over h = grows_over s m at _ n 0 _ g h

  pub rise-fits : (u t : List ℕ) (own : Bool) → n ≤ 32 → RowBecomes m u at (count_set (held_row_at m at) n) → RowBecomes u t at (record_set (held_row_at u at) row.epoch own)
      → own ≡ any (show.is_node me) (view_in_sync row.insync) → Rises s t at me row 0
  rise-fits u t own le a b e =
      grows_fit s m u t at _ n 0 0 (λ w. record_set w row.epoch (any (show.is_node me) (view_in_sync row.insync))) (λ w. (refl, refl)) g le a
      (subst (λ (o : Bool). RowBecomes u t at (record_set (held_row_at u at) row.epoch o)) e b) refl (omega arith)

-- ---- a record that stays

module _ (s k m : List ℕ) (at me : ℕ) (row : ShardRow) (was n : ℕ) (is : was ≡ number_at 8 s (at + 88))
    (a : PeersBecome s k at was (map (show.retained (view_holders row.replicas)) (take was (peers_in s at))))
    (g : PeersGrow k m at (show.with_rows me [] (view_holders row.replicas) (take was (peers_in k at))) n) where
  abbrev rows : ℕ → List Peer
  rows c = show.with_rows me [] (view_holders row.replicas) (map (show.retained (view_holders row.replicas)) (take c (peers_in s at)))

  count : was ≡ (held_row_at s at).held.count
  count = is ∙ sym (count-is s at)

  both : PeersGrow s m at (rows (held_row_at s at).held.count) n
  both =
      let e : show.with_rows me [] (view_holders row.replicas) (take was (peers_in k at)) ≡ rows (held_row_at s at).held.count =
      ap (show.with_rows me [] (view_holders row.replicas)) a.rows ∙ ap rows count in
      record {
        most = g.most;
        outside = outside_then a.becomes.outside g.outside;
        fits = λ h. record { becomes = only_then s k m at a.becomes (g.fits h).becomes; rows = (g.fits h).rows ∙ e };
        over = λ h. subst (λ (l : List Peer). 32 < length l) e (g.over h);
      }

  pub stay_over : 32 < n → Stays s m at me row 33
  stay_over h = grows_over s m at _ n (held_row_at s at).held.count _ both h

  pub stay_fits : (t : List ℕ) → n ≤ 32 → was ≤ 32 → RowBecomes m t at (count_set (held_row_at m at) n) → Stays s t at me row was
  stay_fits t le few b = grows_fit s m t t at _ n (held_row_at s at).held.count was (λ w. w) (λ w. (refl, refl)) both le b (still t at) count few

-- ---- the row, once its replicas are those that the map lists

pub ready_on : (s m : List ℕ) (at : ℕ) (row : ShardRow) → RowBecomes s m at (holders_set (held_row_at s at) row.replicas) → Ready s at row → Ready m at row
ready_on s m at row b h =
    let l = b.outside.long in
    let r = h.room in
    let p = h.peers in
    let n : number_at 8 m (at + 88) ≡ number_at 8 s (at + 88) = sym (count-is m at) ∙ ap (λ (x : HeldRow). x.held.count) b.row ∙ count-is s at in
    record { room = omega arith; peers = omega arith; sized = h.sized }

pub up_is : (m : List ℕ) (at : ℕ) (role : Role) (epoch to : ℕ) (c : Bool) → role ≡ role_at m (at + 108) → epoch ≡ number_at 8 m (at + 64) → rises role epoch to ≡ c
    → rises (held_row_at m at).held.role (held_row_at m at).held.epoch.0 to ≡ c
up_is m at role epoch to c r e u =
    ap (λ (x : Role). rises x (held_row_at m at).held.epoch.0 to) (role_is m at ∙ sym r) ∙ ap (λ (x : ℕ). rises role x to) (epoch-is m at ∙ sym e) ∙ u
