-- Paper 02, 2.1: the text of each rejection, computed by the checker, names among them that hold blanks, slashes, digits and the words
-- themselves; and the longest text. Assumes nothing.
use Prim.Native.Nat.{ℕ, ◌^◌, ◌-◌}
use mathlib.Core.Path.{◌≡◌, refl}
use mathlib.Core.List.{List, [], ◌∷◌}
use lib.ListN.{length, replicate}
use Rattle.spec.specs.Refusals.{
  older,
  exists,
  zero_spec,
  placement_mismatch,
  not_alive,
  no_collection,
  known_incarnation,
  not_at_incarnation,
  no_shard,
  other_epoch,
  already_held,
  removes_primary,
  not_held,
  not_in_sync,
  shrinks_primary,
  already_in_sync,
}
use Rattle.spec_words.specs.Decimal.{spelled, decimal}
use Rattle.spec_words.specs.Words.{key_words, words}

-- 'an older command from this client'
pub older_says : words older ≡ 97 ∷ 110 ∷ 32 ∷ 111 ∷ 108 ∷ 100 ∷ 101 ∷ 114 ∷ 32 ∷ 99 ∷ 111 ∷ 109 ∷ 109 ∷ 97 ∷ 110 ∷ 100 ∷ 32 ∷ 102 ∷ 114 ∷ 111 ∷ 109 ∷ 32 ∷ 116 ∷ 104 ∷ 105 ∷ 115 ∷ 32 ∷ 99 ∷ 108 ∷ 105 ∷ 101 ∷ 110 ∷ 116 ∷ []
unfolding spelled decimal key_words words
older_says = refl

-- the empty name: two blanks: 'collection  exists'
pub empty_exists_says : words (exists []) ≡ 99 ∷ 111 ∷ 108 ∷ 108 ∷ 101 ∷ 99 ∷ 116 ∷ 105 ∷ 111 ∷ 110 ∷ 32 ∷ 32 ∷ 101 ∷ 120 ∷ 105 ∷ 115 ∷ 116 ∷ 115 ∷ []
unfolding spelled decimal key_words words
empty_exists_says = refl

-- a name like the text around it: 'collection  exists exists'
pub exists_exists_says : words (exists (32 ∷ 101 ∷ 120 ∷ 105 ∷ 115 ∷ 116 ∷ 115 ∷ [])) ≡ 99 ∷ 111 ∷ 108 ∷ 108 ∷ 101 ∷ 99 ∷ 116 ∷ 105 ∷ 111 ∷ 110 ∷ 32 ∷ 32 ∷ 101 ∷ 120 ∷ 105 ∷ 115 ∷ 116 ∷ 115 ∷ 32 ∷ 101 ∷ 120 ∷ 105 ∷ 115 ∷ 116 ∷ 115 ∷ []
unfolding spelled decimal key_words words
exists_exists_says = refl

-- 'shards, replication, and dimension must be positive'
pub zero_says : words zero_spec ≡ 115 ∷ 104 ∷ 97 ∷ 114 ∷ 100 ∷ 115 ∷ 44 ∷ 32 ∷ 114 ∷ 101 ∷ 112 ∷ 108 ∷ 105 ∷ 99 ∷ 97 ∷ 116 ∷ 105 ∷ 111 ∷ 110 ∷ 44 ∷ 32 ∷ 97 ∷ 110 ∷ 100 ∷ 32 ∷ 100 ∷ 105 ∷ 109 ∷ 101 ∷ 110 ∷ 115 ∷ 105 ∷ 111 ∷ 110 ∷ 32 ∷ 109 ∷ 117 ∷ 115 ∷ 116 ∷ 32 ∷ 98 ∷ 101 ∷ 32 ∷ 112 ∷ 111 ∷ 115 ∷ 105 ∷ 116 ∷ 105 ∷ 118 ∷ 101 ∷ []
unfolding spelled decimal key_words words
zero_says = refl

-- 'the placement does not match the collection'
pub mismatch_says : words placement_mismatch ≡ 116 ∷ 104 ∷ 101 ∷ 32 ∷ 112 ∷ 108 ∷ 97 ∷ 99 ∷ 101 ∷ 109 ∷ 101 ∷ 110 ∷ 116 ∷ 32 ∷ 100 ∷ 111 ∷ 101 ∷ 115 ∷ 32 ∷ 110 ∷ 111 ∷ 116 ∷ 32 ∷ 109 ∷ 97 ∷ 116 ∷ 99 ∷ 104 ∷ 32 ∷ 116 ∷ 104 ∷ 101 ∷ 32 ∷ 99 ∷ 111 ∷ 108 ∷ 108 ∷ 101 ∷ 99 ∷ 116 ∷ 105 ∷ 111 ∷ 110 ∷ []
unfolding spelled decimal key_words words
mismatch_says = refl

-- 'node 7 is not alive'
pub not_alive_says : words (not_alive 7) ≡ 110 ∷ 111 ∷ 100 ∷ 101 ∷ 32 ∷ 55 ∷ 32 ∷ 105 ∷ 115 ∷ 32 ∷ 110 ∷ 111 ∷ 116 ∷ 32 ∷ 97 ∷ 108 ∷ 105 ∷ 118 ∷ 101 ∷ []
unfolding spelled decimal key_words words
not_alive_says = refl

-- the empty name: the text ends in a blank: 'no collection '
pub empty_lacking_says : words (no_collection []) ≡ 110 ∷ 111 ∷ 32 ∷ 99 ∷ 111 ∷ 108 ∷ 108 ∷ 101 ∷ 99 ∷ 116 ∷ 105 ∷ 111 ∷ 110 ∷ 32 ∷ []
unfolding spelled decimal key_words words
empty_lacking_says = refl

-- 'node 10 is already at incarnation 4'
pub known_says : words (known_incarnation 10 4) ≡ 110 ∷ 111 ∷ 100 ∷ 101 ∷ 32 ∷ 49 ∷ 48 ∷ 32 ∷ 105 ∷ 115 ∷ 32 ∷ 97 ∷ 108 ∷ 114 ∷ 101 ∷ 97 ∷ 100 ∷ 121 ∷ 32 ∷ 97 ∷ 116 ∷ 32 ∷ 105 ∷ 110 ∷ 99 ∷ 97 ∷ 114 ∷ 110 ∷ 97 ∷ 116 ∷ 105 ∷ 111 ∷ 110 ∷ 32 ∷ 52 ∷ []
unfolding spelled decimal key_words words
known_says = refl

-- 'node 0 is not at incarnation 18446744073709551615'
pub not_at_says : words (not_at_incarnation 0 18446744073709551615) ≡ 110 ∷ 111 ∷ 100 ∷ 101 ∷ 32 ∷ 48 ∷ 32 ∷ 105 ∷ 115 ∷ 32 ∷ 110 ∷ 111 ∷ 116 ∷ 32 ∷ 97 ∷ 116 ∷ 32 ∷ 105 ∷ 110 ∷ 99 ∷ 97 ∷ 114 ∷ 110 ∷ 97 ∷ 116 ∷ 105 ∷ 111 ∷ 110 ∷ 32 ∷ 49 ∷ 56 ∷ 52 ∷ 52 ∷ 54 ∷ 55 ∷ 52 ∷ 52 ∷ 48 ∷ 55 ∷ 51 ∷ 55 ∷ 48 ∷ 57 ∷ 53 ∷ 53 ∷ 49 ∷ 54 ∷ 49 ∷ 53 ∷ []
unfolding spelled decimal key_words words
not_at_says = refl

-- a slash and a number in the name: 'no shard a/1/2'
pub slash_says : words (no_shard (record { collection = 97 ∷ 47 ∷ 49 ∷ []; shard = 2 })) ≡ 110 ∷ 111 ∷ 32 ∷ 115 ∷ 104 ∷ 97 ∷ 114 ∷ 100 ∷ 32 ∷ 97 ∷ 47 ∷ 49 ∷ 47 ∷ 50 ∷ []
unfolding spelled decimal key_words words
slash_says = refl

-- a name like the text behind it: 'shard a/1 is at epoch 2, not 3/4 is at epoch 5, not 6'
pub epochs_says : words (other_epoch (record { collection = 97 ∷ 47 ∷ 49 ∷ 32 ∷ 105 ∷ 115 ∷ 32 ∷ 97 ∷ 116 ∷ 32 ∷ 101 ∷ 112 ∷ 111 ∷ 99 ∷ 104 ∷ 32 ∷ 50 ∷ 44 ∷ 32 ∷ 110 ∷ 111 ∷ 116 ∷ 32 ∷ 51 ∷ []; shard = 4 }) 5 6) ≡ 115 ∷ 104 ∷ 97 ∷ 114 ∷ 100 ∷ 32 ∷ 97 ∷ 47 ∷ 49 ∷ 32 ∷ 105 ∷ 115 ∷ 32 ∷ 97 ∷ 116 ∷ 32 ∷ 101 ∷ 112 ∷ 111 ∷ 99 ∷ 104 ∷ 32 ∷ 50 ∷ 44 ∷ 32 ∷ 110 ∷ 111 ∷ 116 ∷ 32 ∷ 51 ∷ 47 ∷ 52 ∷ 32 ∷ 105 ∷ 115 ∷ 32 ∷ 97 ∷ 116 ∷ 32 ∷ 101 ∷ 112 ∷ 111 ∷ 99 ∷ 104 ∷ 32 ∷ 53 ∷ 44 ∷ 32 ∷ 110 ∷ 111 ∷ 116 ∷ 32 ∷ 54 ∷ []
unfolding spelled decimal key_words words
epochs_says = refl

-- 'node 3 already holds the shard'
pub held_says : words (already_held 3) ≡ 110 ∷ 111 ∷ 100 ∷ 101 ∷ 32 ∷ 51 ∷ 32 ∷ 97 ∷ 108 ∷ 114 ∷ 101 ∷ 97 ∷ 100 ∷ 121 ∷ 32 ∷ 104 ∷ 111 ∷ 108 ∷ 100 ∷ 115 ∷ 32 ∷ 116 ∷ 104 ∷ 101 ∷ 32 ∷ 115 ∷ 104 ∷ 97 ∷ 114 ∷ 100 ∷ []
unfolding spelled decimal key_words words
held_says = refl

-- 'the primary cannot be removed'
pub removes_says : words removes_primary ≡ 116 ∷ 104 ∷ 101 ∷ 32 ∷ 112 ∷ 114 ∷ 105 ∷ 109 ∷ 97 ∷ 114 ∷ 121 ∷ 32 ∷ 99 ∷ 97 ∷ 110 ∷ 110 ∷ 111 ∷ 116 ∷ 32 ∷ 98 ∷ 101 ∷ 32 ∷ 114 ∷ 101 ∷ 109 ∷ 111 ∷ 118 ∷ 101 ∷ 100 ∷ []
unfolding spelled decimal key_words words
removes_says = refl

-- 'node 3 does not hold the shard'
pub not_held_says : words (not_held 3) ≡ 110 ∷ 111 ∷ 100 ∷ 101 ∷ 32 ∷ 51 ∷ 32 ∷ 100 ∷ 111 ∷ 101 ∷ 115 ∷ 32 ∷ 110 ∷ 111 ∷ 116 ∷ 32 ∷ 104 ∷ 111 ∷ 108 ∷ 100 ∷ 32 ∷ 116 ∷ 104 ∷ 101 ∷ 32 ∷ 115 ∷ 104 ∷ 97 ∷ 114 ∷ 100 ∷ []
unfolding spelled decimal key_words words
not_held_says = refl

-- 'node 100 is not in sync'
pub not_in_sync_says : words (not_in_sync 100) ≡ 110 ∷ 111 ∷ 100 ∷ 101 ∷ 32 ∷ 49 ∷ 48 ∷ 48 ∷ 32 ∷ 105 ∷ 115 ∷ 32 ∷ 110 ∷ 111 ∷ 116 ∷ 32 ∷ 105 ∷ 110 ∷ 32 ∷ 115 ∷ 121 ∷ 110 ∷ 99 ∷ []
unfolding spelled decimal key_words words
not_in_sync_says = refl

-- 'the primary stays in sync'
pub shrinks_says : words shrinks_primary ≡ 116 ∷ 104 ∷ 101 ∷ 32 ∷ 112 ∷ 114 ∷ 105 ∷ 109 ∷ 97 ∷ 114 ∷ 121 ∷ 32 ∷ 115 ∷ 116 ∷ 97 ∷ 121 ∷ 115 ∷ 32 ∷ 105 ∷ 110 ∷ 32 ∷ 115 ∷ 121 ∷ 110 ∷ 99 ∷ []
unfolding spelled decimal key_words words
shrinks_says = refl

-- 'node 99 is already in sync'
pub in_sync_says : words (already_in_sync 99) ≡ 110 ∷ 111 ∷ 100 ∷ 101 ∷ 32 ∷ 57 ∷ 57 ∷ 32 ∷ 105 ∷ 115 ∷ 32 ∷ 97 ∷ 108 ∷ 114 ∷ 101 ∷ 97 ∷ 100 ∷ 121 ∷ 32 ∷ 105 ∷ 110 ∷ 32 ∷ 115 ∷ 121 ∷ 110 ∷ 99 ∷ []
unfolding spelled decimal key_words words
in_sync_says = refl

-- no text that a machine can tell is longer than 108 bytes, and this one is as long
pub longest : length (words (other_epoch (record { collection = replicate 32 97; shard = 4294967295 }) 18446744073709551615 18446744073709551614)) ≡ 108
unfolding spelled decimal key_words words
longest = refl
