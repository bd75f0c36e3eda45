-- Alignment over lent columns (shard.rs, adopt, epoch_ends): an epoch table in two columns, what an adoption leaves.
-- Definitions only.
use Rattle.std.specs.Prelude.{ℕ, ◌≡◌, Bool, true, cond, List, [], ◌∷◌, ltb, Float, take}
use Rattle.spec.specs.Lists.{lead}
use Rattle.spec.specs.Log.{Op, End, last_offset, agrees, epoch_ends, adopted}
use Rattle.spec.specs.Layout.Message.{Reply, reply_stale, reply_adopted}
use Rattle.spec.specs.declared.Metric.{Metric}
use Rattle.log_store.specs.View.{columns, log_of}
use Rattle.log_store.specs.Store.{Store, replica_in, well_formed_store, Sized, Spares}
use Rattle.log_store.specs.declared.replica.Adoption.{Adoption}
use Rattle.log_store.specs.declared.replica.Adoption.TheVariants.{Older, Kept}

-- the pairs that two columns make
unfoldable pub paired : List ℕ → List ℕ → List End
paired [] os = []
paired (e ∷ es) [] = []
paired (e ∷ es) (o ∷ os) = record { epoch = e; end = o } ∷ paired es os

-- the table of n pairs
unfoldable pub table_of : List ℕ → List ℕ → ℕ → List End
table_of froms ends n = paired (take n froms) (take n ends)

-- whether an entry agrees is told by its epoch and its offset
abbrev pub AgreesAt : (end : ℕ) → List End → (epoch offset : ℕ) → Bool → Type 0
AgreesAt end t e o b = (op : Op) → b ≡ agrees end t (record { epoch = e; offset = o; op = op })

-- how many leading entries agree is told by the columns of epochs and offsets
abbrev pub KeptOf : (epochs offsets : List ℕ) → (count end : ℕ) → List End → ℕ → Type 0
KeptOf es os count end t r =
    (is cs ls : List ℕ) (fs : List Float) → r ≡ lead (agrees end t) (log_of (columns es os is cs ls fs) count)

-- the epoch table of the first `count` entries, by the same columns
abbrev pub EndsOf : (epochs offsets : List ℕ) → (count : ℕ) → List End → Type 0
EndsOf es os count t = (is cs ls : List ℕ) (fs : List Float) → t ≡ epoch_ends (log_of (columns es os is cs ls fs) count)

-- 33 or 32, with its value
abbrev pub adoption_of : Adoption → Reply
adoption_of (Older e) = reply_stale e.0
adoption_of (Kept o) = reply_adopted o.0

-- a store after a new epoch was announced: `spec`'s answer and replica
pub record Aligned (own epoch end : ℕ) (t : List End) (s s' : Store) (a : Adoption) : Type 0 where
  pub answer : (m : Metric) →
      adoption_of a ≡ cond (ltb epoch own) (reply_stale own) (reply_adopted (last_offset (adopted (replica_in own m s) epoch end t)))
  pub replica : (m : Metric) →
      replica_in (cond (ltb epoch own) own epoch) m s' ≡ cond (ltb epoch own) (replica_in own m s) (adopted (replica_in own m s) epoch end t)
  pub well : well_formed_store s' ≡ true
  pub sized : Sized s'
  pub spares : Spares s s'
