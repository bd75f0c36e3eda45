-- What stands between a write and its loss (docs/LOST-WRITES.md), as small cases that the checker computes; the laws are in
-- crate spec_laws, Node/Guards.antt and Map/Shards.antt. Assumes nothing.
use Prim.Native.Nat.{ℕ}
use mathlib.Core.Path.{◌≡◌, refl}
use mathlib.Core.Bool.{Bool, true, false}
use mathlib.Core.List.{[], ◌∷◌}
use mathlib.Core.Option.{some}
use Rattle.spec.specs.Refusals.{not_in_sync}
use Rattle.spec.specs.Map.Tables.{ShardInfo}
use Rattle.spec.specs.Map.Change.{promote, decide_change, rejects}
use Rattle.spec.specs.Node.Client.{wait_row}
use Rattle.spec.specs.Node.Ack.{joins}
use Rattle.spec.specs.Node.Worker.{copies}
use Rattle.spec.specs.declared.Peer.{Peer}
use Rattle.spec.proofs.Opened.{opened}

-- nodes 1 and 2 hold the shard, and only 1 is in sync
abbrev half : ShardInfo
half = record {
  key = record { collection = []; shard = 0 };
  replicas = record { node = record { 0 = 1 }; incarnation = 4 } ∷ record { node = record { 0 = 2 }; incarnation = 4 } ∷ [];
  primary = some 1;
  insync = record { 0 = 1 } ∷ [];
  epoch = 1;
}

pub out_of_sync : decide_change half (promote 2) ≡ rejects (not_in_sync 2)
unfolding opened
out_of_sync = refl

-- a peer that has acked 1 and has been behind since 0; in the ack set or not
abbrev peer : Bool → Peer
peer m = record {
  node = record { 0 = 2 };
  acked = record { 0 = 1 };
  aligned = true;
  behind = true;
  since = 0;
  proposing = false;
  member = m;
}

pub overdue_stays : (wait_row 3 20 5 (peer true)).member ≡ true
unfolding opened
overdue_stays = refl

pub behind_waits : joins 3 2 false (peer false) ≡ false
unfolding opened
behind_waits = refl

pub older_goes_whole : copies 2 1 ≡ true
unfolding opened
older_goes_whole = refl

pub newer_goes_whole : copies 2 3 ≡ true
unfolding opened
newer_goes_whole = refl

pub own_goes_alone : copies 2 2 ≡ false
unfolding opened
own_goes_alone = refl
