-- How long a text can be: 108 bytes hold every rejection that a machine can tell. Assumes nothing.
use Prim.Native.Nat.{ℕ, ◌+◌, ◌≤◌}
use mathlib.Core.List.{List, [], ◌++◌}
use native.Mathlib.Omega.{arith}
use lib.ListN.{length, length-append}
use Rattle.spec.specs.Keys.{Key}
use Rattle.spec.specs.Refusals.{
  Rejection,
  older,
  exists,
  zero_spec,
  placement_mismatch,
  not_alive,
  no_collection,
  known_incarnation,
  not_at_incarnation,
  no_shard,
  other_epoch,
  already_held,
  removes_primary,
  not_held,
  not_in_sync,
  shrinks_primary,
  already_in_sync,
}
use Rattle.spec.specs.Map.Tables.{applied, rejected, Answer, outcome, refused}
use Rattle.spec.specs.Layout.Writable.{U64}
use Rattle.spec_words.specs.Decimal.{decimal}
use Rattle.spec_words.specs.Texts.{says_not_alive, says_known, says_not_at, says_holds, says_not_held, says_not_in_sync, says_in_sync}
use Rattle.spec_words.specs.Words.{key_words, words, text_of}
use Rattle.spec_words.specs.Small.{SmallName, Numbers, Named, SmallAnswer}
use Rattle.spec_words.proofs.Decimal.{decimal_64, decimal_32}

pub key-length : (k : Key) → SmallName k.collection → length (decimal k.shard) ≤ 10 → length (key_words k) ≤ 43
unfolding key_words
key-length k h n = simp length-append (omega arith)

node-length : (n : ℕ) (tail : List ℕ) → U64 n → length (decimal n ++ tail) ≤ 20 + length tail
node-length n tail h = simp length-append (omega (arith, decimal_64 n h))

pub words-length : (r : Rejection) → Named r → Numbers r → length (words r) ≤ 108
unfolding words
words-length older name h = omega arith
words-length (exists n) name h = simp length-append (omega arith)
words-length zero_spec name h = omega arith
words-length placement_mismatch name h = omega arith
words-length (not_alive n) name h = omega (arith, node-length n says_not_alive h)
words-length (no_collection n) name h = omega arith
words-length (known_incarnation n i) name h = omega (arith, node-length n (says_known ++ decimal i) h.0, decimal_64 i h.1)
words-length (not_at_incarnation n i) name h = omega (arith, node-length n (says_not_at ++ decimal i) h.0, decimal_64 i h.1)
words-length (no_shard k) name h = omega (arith, key-length k name (decimal_32 k.shard h))
words-length (other_epoch k o g) name h =
    simp length-append (omega (arith, key-length k name (decimal_32 k.shard h.0), decimal_64 o h.1, decimal_64 g h.2))
words-length (already_held n) name h = omega (arith, node-length n says_holds h)
words-length removes_primary name h = omega arith
words-length (not_held n) name h = omega (arith, node-length n says_not_held h)
words-length (not_in_sync n) name h = omega (arith, node-length n says_not_in_sync h)
words-length shrinks_primary name h = omega arith
words-length (already_in_sync n) name h = omega (arith, node-length n says_in_sync h)

pub text-length : (a : Answer) → SmallAnswer a → length (text_of a) ≤ 108
unfolding text_of
text-length (outcome applied) h = omega arith
text-length (outcome (rejected r)) h = words-length r h.0 h.1
text-length (refused why) h = omega arith
