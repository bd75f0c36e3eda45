-- Paper 01, 'The log': a call appends to a log or cuts it. So the log before and the log after have the same entries up to the lesser
-- length, and who keeps a log in bytes writes only those past it. Definitions only.
use Rattle.std.specs.Prelude.{ℕ, ◌≤◌, min, ◌≡◌, length, take}
use Rattle.std.proofs.Math.Option.{some}
use Rattle.spec.specs.Lists.{nth}
use Rattle.spec.specs.Limits.{max_entries}
use Rattle.spec.specs.Log.{Log, last_offset}
use Rattle.spec.specs.Node.Held.{Held, Node}

-- l before, m after
abbrev pub Retains : Log → Log → Type 0
Retains l m = let both = min (length l) (length m) in take both m ≡ take both l

-- a held shard, h before and g after; a log within its limit stays so
pub record Carries (h g : Held) : Type 0 where
  pub key : g.key ≡ h.key
  pub log : Retains h.replica.log g.replica.log
  pub most : last_offset h.replica ≤ max_entries → last_offset g.replica ≤ max_entries

-- every shard that n holds is held by m in the same place
abbrev pub CarriesAll : Node → Node → Type 0
CarriesAll n m = (i : ℕ) (h : Held) → nth n.held i ≡ some h → (g : Held) × (nth m.held i ≡ some g) × Carries h g
