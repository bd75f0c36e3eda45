-- Paper 01, modules in port order (rpc/lib.rs, shard_of): which shard of its collection holds an id.
-- Definitions only.
use Rattle.std.specs.Prelude.{ℕ, ◌+◌, ◌*◌, ◌/◌, ◌%◌, ◌^◌, max}
use Rattle.std.specs.Int.Bits.{bit_xor}

-- the source's wrapping operations keep the low 64 bits
abbrev pub low64 : ℕ → ℕ
low64 n = n % 2 ^ 64

-- a number with its bits from `shift` on folded onto its lowest
abbrev pub folded : (shift z : ℕ) → ℕ
folded shift z = bit_xor z (z / 2 ^ shift)

-- the SplitMix64 finaliser
unfoldable pub mixed : ℕ → ℕ
mixed id =
    let a = low64 (id + 0x9E37_79B9_7F4A_7C15) in
    let b = low64 (folded 30 a * 0xBF58_476D_1CE4_E5B9) in
    let c = low64 (folded 27 b * 0x94D0_49BB_1331_11EB) in
    folded 31 c

-- 'shard_of with 0 shards: 0': no shards count as one
unfoldable pub shard_of : (id shards : ℕ) → ℕ
shard_of id shards = mixed id % max shards 1
