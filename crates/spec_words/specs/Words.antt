-- Paper 02, 2.1: the text of each rejection, as in the Rust's `Outcome::Rejected` (state.rs). Definitions only.
use Rattle.std.specs.Prelude.{ℕ, List, [], ◌++◌}
use Rattle.spec.specs.Keys.{Key}
use Rattle.spec.specs.Refusals.{
  Rejection,
  older,
  exists,
  zero_spec,
  placement_mismatch,
  not_alive,
  no_collection,
  known_incarnation,
  not_at_incarnation,
  no_shard,
  other_epoch,
  already_held,
  removes_primary,
  not_held,
  not_in_sync,
  shrinks_primary,
  already_in_sync,
}
use Rattle.spec.specs.Map.Tables.{applied, rejected, Answer, outcome, refused}
use Rattle.spec_words.specs.Decimal.{decimal}
use Rattle.spec_words.specs.Texts.{
  says_older,
  says_collection,
  says_exists,
  says_zero,
  says_mismatch,
  says_node,
  says_not_alive,
  says_known,
  says_not_at,
  says_holds,
  says_not_held,
  says_not_in_sync,
  says_in_sync,
  says_no_collection,
  says_no_shard,
  says_shard,
  says_epoch,
  says_not,
  says_slash,
  says_removes,
  says_shrinks,
}

-- a key: its collection's name as it is, a slash, the shard's number
unfoldable pub key_words : Key → List ℕ
key_words k = k.collection ++ (says_slash ++ decimal k.shard)

-- what is said of a node
abbrev pub of_node : ℕ → List ℕ → List ℕ
of_node n tail = says_node ++ (decimal n ++ tail)

-- 1 to 16
unfoldable pub words : Rejection → List ℕ
words older = says_older
words (exists n) = says_collection ++ (n ++ says_exists)
words zero_spec = says_zero
words placement_mismatch = says_mismatch
words (not_alive n) = of_node n says_not_alive
words (no_collection n) = says_no_collection ++ n
words (known_incarnation n known) = of_node n (says_known ++ decimal known)
words (not_at_incarnation n given) = of_node n (says_not_at ++ decimal given)
words (no_shard k) = says_no_shard ++ key_words k
words (other_epoch k own given) = says_shard ++ (key_words k ++ (says_epoch ++ (decimal own ++ (says_not ++ decimal given))))
words (already_held n) = of_node n says_holds
words removes_primary = says_removes
words (not_held n) = of_node n says_not_held
words (not_in_sync n) = of_node n says_not_in_sync
words shrinks_primary = says_shrinks
words (already_in_sync n) = of_node n says_in_sync

-- the text of an answer: an applied command and a refused one have none
unfoldable pub text_of : Answer → List ℕ
text_of (outcome applied) = []
text_of (outcome (rejected why)) = words why
text_of (refused why) = []
