-- Laws of the six counts, by how far Create gets. Assumes nothing.
use Prim.Native.Nat.{ℕ, ◌-◌, ◌≤◌, ◌<◌}
use mathlib.Core.Path.{◌≡◌, sym, ap, ◌∙◌}
use mathlib.Core.Bool.{Bool, true, false, cond}
use mathlib.Core.List.{List}
use native.Mathlib.Omega.{arith}
use lib.ListN.{length}
use Rattle.spec.specs.Keys.{Name}
use Rattle.spec.specs.Limits.{max_u64}
use Rattle.spec.specs.Map.Tables.{NodeInfo, Spec, Map}
use Rattle.spec.specs.Map.Create.{node_at, is_alive, has_collection, zero_in}
use Rattle.spec_count.specs.Closed.{geometric, total_of, fitting_of, alive_among, room_for, closed_by, closed_six}
use Rattle.spec_count.proofs.HowMany.{many-most}
use Rattle.spec_count.proofs.Sums.{fit_none, fit-within, fit_fewer, total_fewer, few_lists}
use Rattle.image_map_count.specs.Read.{counts}

module _ (m : Map) (name : Name) (spec : Spec) (ids : List ℕ) (lists nodes total : ℕ) (whole : total ≡ total_of (length ids) lists nodes) where
  pub six_taken : has_collection name m.collections ≡ true → counts 0 total 0 0 0 0 ≡ closed_six m name spec ids lists nodes
  unfolding closed_six closed_by
  six_taken e = rw (e, whole)

  module _ (new : has_collection name m.collections ≡ false) where
    pub six_zero : zero_in spec ≡ true → counts 0 0 total 0 0 0 ≡ closed_six m name spec ids lists nodes
    unfolding closed_six closed_by
    six_zero e = rw (new, e, whole)

    module _ (spare : zero_in spec ≡ false) where
      -- no placement has that many lists
      pub six_few : lists < spec.shards → counts 0 0 0 total 0 0 ≡ closed_six m name spec ids lists nodes
      unfolding closed_six closed_by
      six_few h =
          rw (
            new,
            spare,
            fit_none spec.shards spec.replication (length ids) lists nodes h,
            fit_none spec.shards spec.replication (alive_among m.nodes ids) lists nodes h,
            ← whole,
          )
          (go (room_for m name spec.shards))
        where
          go : (b : Bool) → counts 0 0 0 total 0 0 ≡ counts (cond b 0 0) 0 0 (total - 0) (0 - 0) (cond b 0 0)
          go true = ap (λ (k : ℕ). counts 0 0 0 k 0 0) (let e : total ≡ total - 0 = omega arith in e)
          go false = ap (λ (k : ℕ). counts 0 0 0 k 0 0) (let e : total ≡ total - 0 = omega arith in e)

      module _ (given alive fit live : ℕ) (g : given ≡ length ids) (a : alive ≡ alive_among m.nodes ids)
          (f : fit ≡ fitting_of spec.shards spec.replication given lists nodes)
          (l : live ≡ fitting_of spec.shards spec.replication alive lists nodes) where
        fit_of : fit ≡ fitting_of spec.shards spec.replication (length ids) lists nodes
        fit_of = f ∙ ap (λ (k : ℕ). fitting_of spec.shards spec.replication k lists nodes) g

        live_of : live ≡ fitting_of spec.shards spec.replication (alive_among m.nodes ids) lists nodes
        live_of = l ∙ ap (λ (k : ℕ). fitting_of spec.shards spec.replication k lists nodes) a

        pub six_room : room_for m name spec.shards ≡ true
            → counts live 0 0 (total - fit) (fit - live) 0 ≡ closed_six m name spec ids lists nodes
        unfolding closed_six closed_by
        six_room r = rw (new, spare, r, fit_of, live_of, whole)

        pub six_full : room_for m name spec.shards ≡ false
            → counts 0 0 0 (total - fit) (fit - live) live ≡ closed_six m name spec ids lists nodes
        unfolding closed_six closed_by
        six_full r = rw (new, spare, r, fit_of, live_of, whole)

-- ---- what the parts ask, of a request with its total

module _ (ns : List NodeInfo) (ids : List ℕ) (s r k n total given alive : ℕ) (whole : total ≡ total_of (length ids) k n) (fits : total ≤ max_u64)
    (few : given ≤ 4) (held : n ≤ 8) (g : given ≡ length ids) (a : alive ≡ alive_among ns ids) where
  alive-most : alive ≤ given
  unfolding alive_among
  alive-most = omega (arith, a, g, many-most (λ (i : ℕ). is_alive (node_at ns i)) ids)

  given-total : total_of given k n ≡ total
  given-total = ap (λ (z : ℕ). total_of z k n) g ∙ sym whole

  pub given-asks : s ≤ k → (s ≤ k) × (geometric given n ≤ max_u64) × (total_of given k n ≤ max_u64)
  given-asks h = (h, omega (arith, few_lists given n few held), omega (arith, given-total, fits))

  pub alive-asks : s ≤ k → (s ≤ k) × (geometric alive n ≤ max_u64) × (total_of alive k n ≤ max_u64)
  alive-asks h = (
    h,
    omega (arith, few_lists alive n (omega (arith, alive-most, few)) held),
    omega (arith, total_fewer alive given k n alive-most, given-total, fits),
  )

  module _ (h : s ≤ k) (fit live : ℕ) (f : fit ≡ fitting_of s r given k n) (l : live ≡ fitting_of s r alive k n) where
    pub fit-most : fit ≤ total
    fit-most = omega (arith, f, fit-within s r given k n h, given-total)

    pub live-most : live ≤ fit
    live-most = omega (arith, f, l, fit_fewer s r alive given k n alive-most h)
