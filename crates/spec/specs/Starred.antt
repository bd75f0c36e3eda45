-- Paper 01, 'Starred cases': the twelve cases as rows of one table, and a test of a row. That every row row_holds is computed in
-- proofs/Cases/Starred.antt. Definitions only.
use Rattle.std.specs.Prelude.{ℕ, zero, suc, Bool, true, false, List, [], ◌∷◌, map, eqb, length, Float}
use Rattle.std.specs.Float.{binary32}
use Rattle.std.specs.Float.Ieee.{of_bits, to_bits}
use Rattle.spec.specs.Lists.{◌and◌}
use Rattle.spec.specs.Keys.{Key}
use Rattle.spec.specs.Nearest.Distance.{distance}
use Rattle.spec.specs.Nearest.Search.{Vector, hits}
use Rattle.spec.specs.Log.{Log, Entry, End, delete, play}
use Rattle.spec.specs.Layout.Message.{Reply, reply_stored, reply_gap, reply_stale, reply_adopted}
use Rattle.spec.specs.Layout.ShardOf.{shard_of}
use Rattle.spec.specs.Node.Held.{Held}
use Rattle.spec.specs.Node.Backup.{BackupAnswer, replied, backup_refused, new_epoch_held, replicate_held}
use Rattle.spec.specs.declared.Metric.{Metric}
use Rattle.spec.specs.declared.Metric.TheVariants.{Euclidean, Angular}
use Rattle.spec.specs.declared.Role.TheVariants.{Backup}

-- entries of the given epochs, from an offset on; what they do is of no matter
unfoldable pub entries_of : (offset : ℕ) → List ℕ → Log
entries_of o [] = []
entries_of o (e ∷ es) = record { epoch = e; offset = o; op = delete o } ∷ entries_of (suc o) es

-- a backup at an epoch, whose log has entries of the given epochs
unfoldable pub backup_at : (own : ℕ) → List ℕ → Held
backup_at own epochs = record {
  key = record { collection = []; shard = 0 };
  replica = record { epoch = own; metric = Euclidean; log = entries_of 1 epochs; vectors = play (entries_of 1 epochs) };
  holders = [];
  role = Backup;
  own = false;
  peers = [];
}

-- a pair of an epoch table
abbrev pub up_to : (epoch end : ℕ) → End
up_to e o = record { epoch = e; end = o }

-- a row: what is given, and last what is answered. Components and distances are bits
pub data Row : Type 0 where
  new_epoch : (own : ℕ) → (epochs : List ℕ) → (epoch end : ℕ) → List End → Reply → Row
  replicate : (own : ℕ) → (epochs : List ℕ) → (epoch offset : ℕ) → Reply → Row
  distant : Metric → (query vector : List ℕ) → (bits : ℕ) → Row
  nearest : Metric → (query : List ℕ) → (vectors : List (List ℕ)) → (k count : ℕ) → Row
  shard : (id shards number : ℕ) → Row

-- the same reply with the same number
abbrev pub same_reply : Reply → Reply → Bool
same_reply (reply_stored a) (reply_stored b) = eqb a b
same_reply (reply_stored a) (reply_gap b) = false
same_reply (reply_stored a) (reply_stale b) = false
same_reply (reply_stored a) (reply_adopted b) = false
same_reply (reply_gap a) (reply_stored b) = false
same_reply (reply_gap a) (reply_gap b) = eqb a b
same_reply (reply_gap a) (reply_stale b) = false
same_reply (reply_gap a) (reply_adopted b) = false
same_reply (reply_stale a) (reply_stored b) = false
same_reply (reply_stale a) (reply_gap b) = false
same_reply (reply_stale a) (reply_stale b) = eqb a b
same_reply (reply_stale a) (reply_adopted b) = false
same_reply (reply_adopted a) (reply_stored b) = false
same_reply (reply_adopted a) (reply_gap b) = false
same_reply (reply_adopted a) (reply_stale b) = false
same_reply (reply_adopted a) (reply_adopted b) = eqb a b

-- an answer that is that reply
abbrev pub replies_with : Reply → BackupAnswer → Bool
replies_with r (replied q) = same_reply q r
replies_with r (backup_refused n) = false

-- components from their bits
abbrev pub floats : List ℕ → List Float
floats bits = map (of_bits binary32) bits

-- vectors with the ids 1, 2, 3 and so on
unfoldable pub numbered : (id : ℕ) → List (List ℕ) → List Vector
numbered id [] = []
numbered id (v ∷ vs) = record { id = id; components = floats v } ∷ numbered (suc id) vs

-- 'Starred cases': whether a row row_holds of the definitions
unfoldable pub row_holds : Row → Bool
row_holds (new_epoch own epochs epoch end table r) = replies_with r (new_epoch_held epoch end table (backup_at own epochs)).answer
row_holds (replicate own epochs epoch offset r) = replies_with r (replicate_held epoch offset (delete 0) (backup_at own epochs)).answer
row_holds (distant metric q v bits) = eqb (to_bits binary32 (distance metric (floats q) (floats v))) bits
row_holds (nearest metric q vs k count) = eqb (length (hits metric (floats q) (numbered 1 vs) k)) count
row_holds (shard id shards number) = eqb (shard_of id shards) number

-- 'Starred cases', in the paper's order; that of an equal epoch is request 2.3's, with a log that the source would cut. 3F800000 is 1, 40400000 is 3, 40800000 is 4, 40A00000 is 5
unfoldable pub starred : List Row
starred =
    new_epoch 2 (1 ∷ 1 ∷ 2 ∷ []) 3 5 (up_to 1 2 ∷ up_to 3 5 ∷ []) (reply_adopted 2)
    ∷ new_epoch 2 (1 ∷ 1 ∷ 2 ∷ []) 3 1 (up_to 1 2 ∷ up_to 3 5 ∷ []) (reply_adopted 1)
    ∷ new_epoch 2 (1 ∷ 1 ∷ 2 ∷ []) 3 5 [] (reply_adopted 0)
    ∷ new_epoch 2 (1 ∷ 1 ∷ 2 ∷ []) 2 1 [] (reply_adopted 3)
    ∷ new_epoch 2 (1 ∷ 1 ∷ 2 ∷ []) 1 5 (up_to 1 2 ∷ up_to 2 5 ∷ []) (reply_stale 2)
    ∷ replicate 2 (1 ∷ 1 ∷ 2 ∷ []) 3 4 (reply_stale 2)
    ∷ distant Euclidean (0 ∷ 0 ∷ []) (0x40400000 ∷ 0x40800000 ∷ []) 0x40A00000
    ∷ distant Euclidean (0x40400000 ∷ []) (0x40400000 ∷ 0x40800000 ∷ []) 0
    ∷ distant Euclidean (0x3F800000 ∷ 0x3F800000 ∷ []) (0 ∷ 0 ∷ []) 0x3FB504F3
    ∷ distant Angular (0x3F800000 ∷ 0x40400000 ∷ []) (0 ∷ 0 ∷ []) 0x3F800000
    ∷ nearest Euclidean (0 ∷ []) ((0x3F800000 ∷ []) ∷ (0x40400000 ∷ []) ∷ []) 0 0
    ∷ shard 5 0 0
    ∷ []
