-- The canonical form in which names, addresses, keys and lists are written into an image (docs/IMAGES.md): a list stands at the start of its
-- array, its length is the count, and the places past it hold zeros. So the bytes depend on what a row is read as, and on nothing else.
-- Definitions only.
use Rattle.std.specs.Prelude.{ℕ, ◌-◌, List, ◌++◌, length, replicate}
use Rattle.spec.specs.Keys as keys
use Rattle.map_tables.specs.declared.Name.{Name}
use Rattle.map_tables.specs.declared.Address.{Address}
use Rattle.map_tables.specs.declared.ShardKey.{ShardKey}

module _ {A : Type 0} where
  -- a list at the start of an array of `limit` places, the others filled with what says nothing
  unfoldable pub padded : (limit : ℕ) → A → List A → List A
  padded limit none l = l ++ replicate (limit - length l) none

abbrev pub image_name : keys.Name → Name
image_name l = record { bytes = padded 32 0 l; len = length l }

abbrev pub image_address : keys.Name → Address
image_address l = record { bytes = padded 64 0 l; len = length l }

abbrev pub image_key : keys.Key → ShardKey
image_key k = record { collection = image_name k.collection; shard = k.shard }
