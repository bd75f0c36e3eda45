-- The workers of a shard stored one by one. Assumes nothing.
use Prim.Native.Nat.{ℕ, ◌+◌, ◌*◌, ◌≤◌}
use mathlib.Core.Path.{◌≡◌, refl, sym, ap, subst, ◌∙◌}
use mathlib.Core.List.{List, [], ◌∷◌}
use lib.ListN.{length, take, length-append}
use lib.Seq.{sets, length-sets}
use native.Mathlib.Omega.{arith}
use Rattle.spec.specs.Lists.{collect}
use Rattle.spec.specs.Layout.Format.{number_at}
use Rattle.spec.specs.Node.Shown as show
use Rattle.spec.specs.declared.Metric.{Metric}
use Rattle.spec.specs.declared.Peer.{Peer}
use Rattle.spec.specs.declared.Role.{Role}
use Rattle.map_tables.specs.declared.ShardKey.{ShardKey}
use Rattle.map_tables.specs.Names.{view_key}
use Rattle.node_shard.specs.Shows.{record_epoch, worker_at}
use Rattle.image_parts.specs.Shape.{Stored}
use Rattle.image_parts.specs.Parts.{key_at}
use Rattle.image_parts.proofs.Images.{sets-append}
use Rattle.image_header_row.specs.Rows.{role_at, peers_at, held_row_at}
use Rattle.image_header_check.proofs.Rows.{count-is, peers-is}
use Rattle.image_header_form.proofs.FrontLaws.{key-is, role_is}
use Rattle.calls_header.specs.Shows.{worker_bytes, start_bytes}
use Rattle.calls_show_row.specs.Leave.{starts_between, PutsNew}

-- ---- of the workers `all`, those before `rest` are stored, up to `next`

module _ (s : List ℕ) (to : ℕ) (all : List show.Worker) where
  abbrev pub Putting : List ℕ → (next : ℕ) → List show.Worker → Type 0
  Putting m next rest =
      (length m ≡ length s) × (next + 54 * length rest ≡ to + 54 * length all) × (next + length (start_bytes rest) ≡ to + length (start_bytes all))
      × (sets m next (start_bytes rest) ≡ sets s to (start_bytes all))

  pub putting_start : Putting s to all
  putting_start = (refl, refl, refl, refl)

  pub putting_same : (m : List ℕ) (next : ℕ) (a b : List show.Worker) → a ≡ b → Putting m next a → Putting m next b
  putting_same m next a b e p = subst (Putting m next) e p

  pub putting_step : (m t : List ℕ) (next : ℕ) (a b : List show.Worker) (w : show.Worker) → a ≡ w ∷ b → Putting m next a → Stored m t next (worker_bytes w) 54
      → Putting t (next + 54) b
  putting_step m t next a b w e p k =
      let q = putting_same m next a (w ∷ b) e p in
      let n = length-append (worker_bytes w) (start_bytes b) in
      let l = k.long in (
        ap (λ (x : List ℕ). length x) k.image ∙ length-sets m next (worker_bytes w) ∙ q.0,
        (let u = q.1 in omega arith),
        (let u = q.2 in omega arith),
        ap (λ (x : List ℕ). sets x (next + 54) (start_bytes b)) k.image
            ∙ ap (λ (j : ℕ). sets (sets m next (worker_bytes w)) (next + j) (start_bytes b)) (sym l)
            ∙ sym (sets-append m next (worker_bytes w) (start_bytes b)) ∙ q.3,
      )

  pub putting_end : (m : List ℕ) (next : ℕ) (a : List show.Worker) → a ≡ [] → length all ≤ 32 → Putting m next a → PutsNew s m to all next
  putting_end m next a e few p =
      let q = putting_same m next a [] e p in
      let u = q.1 in
      let v = q.2 in
      let n : length (start_bytes []) ≡ 0 = refl in
      record { stored = record { image = q.3; long = omega arith }; next = omega arith; few = few }

-- a worker by its peer's number
pub worker_as : (k : ShardKey) (epoch v : ℕ) (metric : Metric) (p : Peer) → v ≡ p.node.0 → {m t : List ℕ} {next : ℕ}
    → Stored m t next (worker_bytes (worker_at (view_key k) epoch metric (record { 0 = v }))) 54 → Stored m t next (worker_bytes (show.worker_for (view_key k) epoch metric p)) 54
worker_as k epoch v metric p e {m} {t} {next} h =
    subst (λ (j : ℕ). Stored m t next (worker_bytes (worker_at (view_key k) epoch metric (record { 0 = j }))) 54) e h

-- the workers to start, by what the bytes of the row after hold
pub starts_are : (old : List Peer) (t : List ℕ) (was : ℕ) (metric : Metric) (key : ShardKey) (role : Role) (epoch count : ℕ) → key ≡ key_at t 0 → role ≡ role_at t 108
    → epoch ≡ record_epoch role → count ≡ number_at 8 t 88
    → starts_between was old (held_row_at t 0) metric ≡ collect (show.is_new (take was old)) (show.worker_for (view_key key) epoch metric) (take count (peers_at t 256))
unfolding show.starts
starts_are old t was metric key role epoch count a b c d =
    rw (key-is t 0, ← a, role_is t 0, ← b, ← c, count-is t 0, ← d, peers-is t 0)
