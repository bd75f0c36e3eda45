-- Paper 01: every limit, every number of a rejection or a refusal and every row of `shard_of` is as the table has it, computed by the
-- checker. Assumes nothing.
use mathlib.Core.Path.{◌≡◌, refl}
use mathlib.Core.List.{map}
use Rattle.spec.specs.Refusals.{reason_of, number_of}
use Rattle.spec.specs.Layout.ShardOf.{shard_of, mixed}
use Rattle.spec.specs.Cases.Numbers.{of_map, of_others, rejections, one_to_sixteen, refusals, seventeen_on, spread}
use Rattle.spec.proofs.Opened.{opened}

pub map_limits : map (λ l. l.named) of_map ≡ map (λ l. l.number) of_map
map_limits = refl

pub other_limits : map (λ l. l.named) of_others ≡ map (λ l. l.number) of_others
other_limits = refl

pub rejections-numbered : map reason_of rejections ≡ one_to_sixteen
rejections-numbered = refl

pub refusals-numbered : map number_of refusals ≡ seventeen_on
refusals-numbered = refl

pub spread-holds : map (λ h. shard_of h.id h.shards) spread ≡ map (λ h. h.shard) spread
unfolding opened
spread-holds = refl

-- the first number that SplitMix64 gives from 0
pub mixed_0 : mixed 0 ≡ 0xE220_A839_7B1D_CDAF
unfolding opened
mixed_0 = refl
