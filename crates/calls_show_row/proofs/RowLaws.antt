-- The four functions that a caller has, from what a row becomes. Assumes nothing.
use Prim.Native.Nat.{ℕ, ◌+◌, ◌*◌, ◌≤◌, ◌<◌}
use mathlib.Core.Path.{◌≡◌, refl, sym, ap, subst, ◌∙◌}
use mathlib.Core.List.{List}
use lib.Dec.{ltb}
use lib.ListN.{length, take, length-take}
use native.Mathlib.Omega.{arith}
use borrow.Author.Tests.{lt-ltb, le-ltb, ltb-false, ne_eqb}
use Rattle.spec.specs.Lists.{collect}
use Rattle.spec.specs.Layout.Format.{number_at}
use Rattle.spec.specs.Node.Client.{node_of}
use Rattle.spec.specs.Node.Shown as show
use Rattle.spec.specs.declared.Metric.{Metric}
use Rattle.spec.specs.declared.Metric.TheVariants.{Euclidean}
use Rattle.spec.specs.declared.Peer.{Peer}
use Rattle.map_tables.specs.declared.ShardRow.{ShardRow}
use Rattle.map_tables.specs.Names.{view_key}
use Rattle.node_shard.specs.Shows.{record_epoch}
use Rattle.node_header.specs.declared.HeldRow.{HeldRow}
use Rattle.node_header.specs.View.{Stores}
use Rattle.node_header.proofs.Shards.{some_stores}
use Rattle.image_parts.specs.Shape.{Stored}
use Rattle.image_header_row.specs.Rows.{peers_at, held_row_at}
use Rattle.image_header_check.proofs.Rows.{count-is, peers-is}
use Rattle.calls_header.specs.Shows.{start_bytes}
use Rattle.std.specs.Prelude.{Option, Some, None}
use Rattle.calls_show_row.specs.Peers.{AtMost32}
use Rattle.calls_show_row.specs.Row.{showing, Ready, Few, Needs, Holds, Puts}
use Rattle.calls_show_row.specs.Leave.{starts_between, Leaves, PutsNew}
use Rattle.calls_show_row.proofs.NewsLaws.{collect-same, collect-most}

-- no 33rd worker
pub few-known : (s t : List ℕ) (at me : ℕ) (row : ShardRow) (r : ℕ) → Leaves s t at me row r → Few (held_row_at s at) me row → r ≤ 32
few-known s t at me row r w f = ltb-false 32 r (sym (w.full some_stores Euclidean) ∙ f.few some_stores Euclidean)

-- .. so a number is told
pub known-is : (s t : List ℕ) (at me : ℕ) (row : ShardRow) (o : Option ℕ) → AtMost32 o (Leaves s t at me row) → Few (held_row_at s at) me row
    → (n : ℕ) × (o ≡ Some n) × (n ≤ 32) × Leaves s t at me row n
known-is s t at me row None w f = absurd (let h = few-known s t at me row 33 w f in omega arith)
known-is s t at me row (Some n) w f = (n, refl, w.0, w.1)

-- ---- the row made in a copy

module _ (s : List ℕ) (at me : ℕ) (row : ShardRow) (b : List ℕ) (same : held_row_at b 0 ≡ held_row_at s at) where
  pub copy_ready : 1280 ≤ length b → Ready s at row → Ready b 0 row
  copy_ready long h = record {
    room = omega arith;
    peers = (let n : number_at 8 b 88 ≡ number_at 8 s (at + 88) = sym (count-is b 0) ∙ ap (λ (x : HeldRow). x.held.count) same ∙ count-is s at in let p = h.peers in omega arith);
    sized = h.sized;
  }

  pub copy_few : Few (held_row_at s at) me row → Few (held_row_at b 0) me row
  copy_few f = record { few = λ st metric. ap (λ (x : HeldRow). show.overworked (showing me row metric st x)) same ∙ f.few st metric }

  module _ (t : List ℕ) (r : ℕ) (w : Leaves b t 0 me row r) where
    full_is : (st : Stores) (metric : Metric) → show.overworked (showing me row metric st (held_row_at s at)) ≡ ltb 32 r
    full_is st metric = ap (λ (x : HeldRow). show.overworked (showing me row metric st x)) (sym same) ∙ w.full st metric

    pub needs_full : 32 < r → Needs (held_row_at s at) me row 33
    needs_full h = record {
      most = omega arith;
      full = λ st metric. full_is st metric ∙ lt-ltb 32 r h;
      start = λ k. absurd (omega arith);
    }

    module _ (le : r ≤ 32) where
      pub start_is : (st : Stores) (metric : Metric) → (showing me row metric st (held_row_at s at)).start ≡ starts_between r (peers_at s (at + 256)) (held_row_at t 0) metric
      start_is st metric =
          ap (λ (x : HeldRow). (showing me row metric st x).start) (sym same) ∙ w.start le st metric
          ∙ ap (λ (l : List Peer). starts_between r l (held_row_at t 0) metric) (ap (λ (x : HeldRow). x.held.peers) same ∙ peers-is s at)

      pub after-few : number_at 8 t 88 ≤ 32
      after-few = let p = (w.shows le).peers in let c = count-is t 0 in omega arith

      pub needs_some : (n k : ℕ) → n ≡ number_at 8 t 88
          → k ≡ length (collect (show.is_new (take r (peers_at s (at + 256)))) node_of (take n (peers_at t 256))) → (k ≤ 32) × Needs (held_row_at s at) me row k
      unfolding show.starts
      needs_some n k e q =
          let old = take r (peers_at s (at + 256)) in
          let rows = take n (peers_at t 256) in
          let a = after-few in
          let m = length-take n (peers_at t 256) in
          let o = collect-most (show.is_new old) node_of rows in
          let few : k ≤ 32 = omega arith in (
            few,
            record {
              most = omega arith;
              full = λ st metric. full_is st metric ∙ le-ltb 32 r le ∙ sym (ne_eqb k 33 (λ z. omega arith));
              start = λ _ st metric. ap (λ (l : List show.Worker). length l) (start_is st metric) ∙ count st metric ∙ sym q;
            },
          )
        where
          count : (st : Stores) (metric : Metric) → length (starts_between r (peers_at s (at + 256)) (held_row_at t 0) metric)
              ≡ length (collect (show.is_new (take r (peers_at s (at + 256)))) node_of (take n (peers_at t 256)))
          count st metric =
              collect-same (show.is_new (take r (peers_at s (at + 256)))) (show.worker_for (view_key (held_row_at t 0).key) (record_epoch (held_row_at t 0).held.role) metric) node_of
              (take (held_row_at t 0).held.count (held_row_at t 0).held.peers)
              ∙ ap (λ (j : ℕ). length (collect (show.is_new (take r (peers_at s (at + 256)))) node_of (take j (held_row_at t 0).held.peers))) (count-is t 0 ∙ sym e)
              ∙ ap (λ (l : List Peer). length (collect (show.is_new (take r (peers_at s (at + 256)))) node_of (take n l))) (peers-is t 0)

      module _ (metric : Metric) where
        pub room-new : (p : List ℕ) (to : ℕ) → Holds p to (held_row_at s at) me row metric
            → to + 54 * length (starts_between r (peers_at s (at + 256)) (held_row_at t 0) metric) ≤ length p
        room-new p to h =
            subst (λ (l : List show.Worker). to + 54 * length l ≤ length p) (start_is some_stores metric) (h.room some_stores)

        pub puts-all : (p q : List ℕ) (to k : ℕ) → PutsNew p q to (starts_between r (peers_at s (at + 256)) (held_row_at t 0) metric) k
            → Puts p q to (held_row_at s at) me row metric k
        puts-all p q to k w = record {
          stored = λ st. subst (λ (l : List show.Worker). Stored p q to (start_bytes l) (54 * length l)) (sym (start_is st metric)) w.stored;
          next = λ st. subst (λ (l : List show.Worker). k ≡ to + 54 * length l) (sym (start_is st metric)) w.next;
          few = λ st. subst (λ (l : List show.Worker). length l ≤ 32) (sym (start_is st metric)) w.few;
        }
