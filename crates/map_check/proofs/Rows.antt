-- Laws of one row: what its tests come to. Assumes nothing.
use mathlib.Core.Path.{◌≡◌, refl}
use mathlib.Core.Bool.{Bool, true, false}
use mathlib.Core.List.{List}
use Prim.Native.Nat.{ℕ, ◌≤◌, ◌<◌}
use native.Mathlib.Omega.{arith}
use lib.ListN.{length, take, length-take}
use lib.Dec.{eqb, leb}
use borrow.Author.Tests.{le-leb, lt-leb, leb-true, eq-eqb, ne_eqb}
use Rattle.spec.specs.Lists.{◌and◌, ◌or◌}
use Rattle.spec.specs.Map.WellFormed.{shard_fits}
use Rattle.map_tables.specs.declared.ShardRow.{ShardRow}
use Rattle.map_check.specs.Rows.{follows, shard_ok, in_sync_fits}

pub and_off : (t : Bool) → t and false ≡ false
unfolding ◌and◌
and_off true = refl
and_off false = refl

and_on : (t : Bool) → t and true ≡ t
unfolding ◌and◌
and_on true = refl
and_on false = refl

-- ---- sizes: a count within the limit is also that of the bytes in use

module _ (n limit : ℕ) (xs : List ℕ) where
  taken : n ≤ limit → leb (length (take n xs)) limit ≡ true
  taken h = le-leb (length (take n xs)) limit (omega (arith, length-take n xs))

  pub size-within : n ≤ limit → leb n limit and leb (length (take n xs)) limit ≡ true
  unfolding ◌and◌
  size-within h = rw (le-leb n limit h, taken h)

  pub size_over : limit < n → leb n limit and leb (length (take n xs)) limit ≡ false
  unfolding ◌and◌
  size_over h = rw (lt-leb n limit h)

  pub size_both : leb n limit and leb (length (take n xs)) limit ≡ leb n limit
  unfolding ◌and◌
  size_both = go (leb n limit) refl
    where
      go : (t : Bool) → leb n limit ≡ t → t and leb (length (take n xs)) limit ≡ t
      go true e = taken (leb-true n limit e)
      go false e = refl

-- ---- a row after another

module _ {ℓ} {A : Type ℓ} (lt : A → A → Bool) (ok : A → Bool) (i : ℕ) (before row : A) where
  pub wrong_row : ok row ≡ false → follows lt ok i before row ≡ false
  unfolding follows
  wrong_row e = rw e (and_off (eqb i 0 or lt before row))

  pub first-row : i ≡ 0 → follows lt ok i before row ≡ ok row
  unfolding follows ◌or◌ ◌and◌
  first-row e = rw (eq-eqb i 0 e)

  pub low-row : (i ≡ 0 → ⊥) → lt before row ≡ false → follows lt ok i before row ≡ false
  unfolding follows ◌or◌ ◌and◌
  low-row ne e = rw (ne_eqb i 0 ne, e)

  pub risen_row : (i ≡ 0 → ⊥) → lt before row ≡ true → follows lt ok i before row ≡ ok row
  unfolding follows ◌or◌ ◌and◌
  risen_row ne e = rw (ne_eqb i 0 ne, e)

  pub right-row : (i ≡ 0 → ⊥) → ok row ≡ true → follows lt ok i before row ≡ lt before row
  unfolding follows ◌or◌
  right-row ne e = rw (ne_eqb i 0 ne, e) (and_on (lt before row))

-- ---- a shard

module _ (s : ShardRow) where
  pub long_name : 32 < s.key.collection.len → shard_ok s ≡ false
  unfolding ◌and◌
  long_name h = rw (lt-leb s.key.collection.len 32 h)

  pub many-holders : s.key.collection.len ≤ 32 → 8 < s.replicas.count → shard_ok s ≡ false
  unfolding ◌and◌
  many-holders a h = rw (le-leb s.key.collection.len 32 a, lt-leb s.replicas.count 8 h)

  pub many_synced : s.key.collection.len ≤ 32 → s.replicas.count ≤ 8 → 8 < s.insync.count → shard_ok s ≡ false
  unfolding ◌and◌
  many_synced a b h = rw (le-leb s.key.collection.len 32 a, le-leb s.replicas.count 8 b, lt-leb s.insync.count 8 h)

  pub within-counts : s.key.collection.len ≤ 32 → s.replicas.count ≤ 8 → s.insync.count ≤ 8 → shard_ok s ≡ in_sync_fits s.replicas s.insync
  unfolding shard_fits ◌and◌
  within-counts a b d =
      let e : length (take s.replicas.count s.replicas.items) ≤ 8 = omega (arith, length-take s.replicas.count s.replicas.items) in
      let f : length (take s.key.collection.len s.key.collection.bytes) ≤ 32 = omega (arith, length-take s.key.collection.len s.key.collection.bytes) in
      rw (le-leb s.key.collection.len 32 a, le-leb s.replicas.count 8 b, le-leb s.insync.count 8 d, le-leb _ 32 f, le-leb _ 8 e)
