use mathlib.Core.Path.{◌≡◌}
use Prim.Native.Nat.{◌+◌, ◌-◌, ◌≤◌}
use Rattle.image_map_check.proofs.Sync.{Synced}
use Rattle.image_map_check.proofs.rows.in_sync_fits.Given as goal

abbrev pub invariant-loop-i : goal.invariant-loop-i
invariant-loop-i l =
    (l.i ≤ l.count) × (l.last ≡ l.i - 1) × (l.first ≡ l.at + 208) × (l.replicas ≡ l.at + 80) × (l.count ≤ 8) × Synced l.s l.at l.i l.last
