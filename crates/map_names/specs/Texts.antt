-- The texts and the key that stand in a message at the places which a decoded message names (paper 01, 'Bytes on the wire').
-- Definitions only.
use Rattle.std.specs.Prelude.{ℕ, ◌+◌, ◌≤◌, List, length, take, drop}
use Rattle.spec.specs.Keys.{Key}
use Rattle.spec.specs.Limits.{max_name}
use Rattle.wire_read.specs.declared.Part.{Part}
use Rattle.wire_read.specs.declared.KeyPart.{KeyPart}

-- the bytes of a name or an address
abbrev pub bytes_at : List ℕ → Part → List ℕ
bytes_at s p = take p.len (drop p.at s)

-- they stand there, within their limit
pub record Text (most : ℕ) (s : List ℕ) (p : Part) : Type 0 where
  pub short : p.len ≤ most
  pub inside : p.at + p.len ≤ length s

abbrev pub key_in : List ℕ → KeyPart → Key
key_in s p = record { collection = bytes_at s p.name; shard = p.shard }

abbrev pub KeyThere : List ℕ → KeyPart → Type 0
KeyThere s p = (p.name.len ≤ max_name) × (p.name.at + p.name.len ≤ length s)
