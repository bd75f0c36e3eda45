-- A NewEpoch that was read, past 21; whether it is stale at a shard, and how much of the log it keeps. Definitions only.
use Rattle.std.specs.Prelude.{ℕ, ◌≡◌, Bool, true, cond, List, ltb}
use Rattle.spec.specs.Keys.{Key}
use Rattle.spec.specs.Node.Backup.{leads_from}
use Rattle.spec.specs.declared.Role.{Role}
use Rattle.wire_read.specs.declared.NewEpochPart.{NewEpochPart}
use Rattle.log_domain.specs.Parts.{table_in}
use Rattle.log_store.specs.Align.{KeptOf}
use Rattle.image_store.specs.Image.{words}
use Rattle.image_store_check.specs.Test.{offsets_in}
use Rattle.map_names.specs.Texts.{key_in}
use Rattle.node_log_backup.specs.Backs.{IsNewEpoch}

-- its parts, and the key that it names
pub record Asked (m : List ℕ) (p : NewEpochPart) (k : Key) : Type 0 where
  pub read : IsNewEpoch m p
  pub named : k ≡ key_in m p.key

-- a primary at that epoch or above it, or a shard at a higher one
unfoldable pub stale_by : Role → (own epoch : ℕ) → Bool
stale_by role own epoch = cond (leads_from role epoch) true (ltb epoch own)

-- how many entries of the log at `base` are left: all at the own epoch, otherwise the leading ones that agree
pub record Keeps (s m : List ℕ) (base last own : ℕ) (p : NewEpochPart) (r : ℕ) : Type 0 where
  pub same : p.epoch.0 ≡ own → r ≡ last
  pub other : (p.epoch.0 ≡ own → ⊥) → KeptOf (words 8 1024 s base) (offsets_in s base) last p.end.0 (table_in m p.table) r
