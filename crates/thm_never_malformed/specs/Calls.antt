-- The engine's calls on the two images of a node, header and stores, and lists of them. A call is related to what it was lent by the contract
-- of its own entry point (include/catalogue.h), and by nothing else. Definitions only.
use Rattle.std.specs.Prelude.{ℕ, ◌≡◌, Bool, true, List, [], ◌∷◌}
use Rattle.spec.specs.Lists.{◌and◌}
use Rattle.spec.specs.Layout.Format.{Bytes}
use Rattle.map_check.specs.Lent.{well_formed_lent}
use Rattle.image_map.specs.Image.{map_lent, map_at}
use Rattle.calls_header.specs.Fresh.{Freshens}
use Rattle.calls_header.specs.Shows.{Shows}
use Rattle.calls_header.specs.Grants.{Grants}
use Rattle.calls_header.specs.Waits.{Waits}
use Rattle.calls_header.specs.Acks.{Acks}
use Rattle.calls_header.specs.Outcomes.{Outcomes}
use Rattle.calls_peer.specs.PeerCalls as peer
use Rattle.calls_peer.specs.PeerCalls.{ReplicatesImage, NewEpochsImage, CopiesImage}
use Rattle.calls_client_out.specs.Count.{count_lent}
use Rattle.calls_client.specs.Written as client
use Rattle.calls_client.specs.Written.{WritesImages}
use Rattle.calls_client.specs.Searched.{SearchesImages}
use Rattle.calls_worker.specs.Steps.{Asking, Outputs, StepsImage}

-- an entry point with what it is lent beside the two images
pub data Call : Type 0 where
  fresh_node : (id incarnation : ℕ) → Call
  show_map : (map starts answer : List ℕ) → (fresh : ℕ) → Call
  grant : (incarnation sent lease : ℕ) → Call
  wait : (name peers answer : List ℕ) → (shard epoch offset now timeout : ℕ) → Call
  ack : (name reply : List ℕ) → (shard epoch peer code : ℕ) → Call
  outcome : (name : List ℕ) → (shard epoch peer command applied : ℕ) → Call
  replicate : (message reply : List ℕ) → Call
  new_epoch : (message reply : List ℕ) → Call
  copy : (message reply : List ℕ) → Call
  write : (message answer count : List ℕ) → (clock least : ℕ) → Call
  search : (message hits answer count : List ℕ) → (clock : ℕ) → Call
  step : Asking → Outputs → Call

-- what is lent beside them is well formed ('Who is turned down', 24): a map, four bytes of the count of refused calls
abbrev pub beside_formed : Call → Bool
beside_formed (fresh_node id incarnation) = true
beside_formed (show_map m p a fresh) = map_lent m and well_formed_lent (map_at m)
beside_formed (grant incarnation sent lease) = true
beside_formed (wait name p a shard epoch offset now timeout) = true
beside_formed (ack name reply shard epoch peer code) = true
beside_formed (outcome name shard epoch peer command applied) = true
beside_formed (replicate m w) = true
beside_formed (new_epoch m w) = true
beside_formed (copy m w) = true
beside_formed (write m a c clock least) = count_lent c
beside_formed (search m o a c clock) = count_lent c
beside_formed (step w o) = true

-- the call was lent the images h and s, left h' and s' and answered the number r. A message is bytes. A call on the header alone is not lent the
-- stores; Search and a worker's step only read
unfoldable pub Called : Call → (h s h' s' : List ℕ) → (r : ℕ) → Type 0
Called (fresh_node id incarnation) h s h' s' r = Freshens h h' id incarnation r × (s' ≡ s)
Called (show_map m p a fresh) h s h' s' r = (q b : List ℕ) × Shows h h' m p q a b fresh r × (s' ≡ s)
Called (grant incarnation sent lease) h s h' s' r = Grants h h' incarnation sent lease r × (s' ≡ s)
Called (wait name p a shard epoch offset now timeout) h s h' s' r =
    (q b : List ℕ) × Waits h h' p q a b name shard epoch offset now timeout r × (s' ≡ s)
Called (ack name reply shard epoch peer code) h s h' s' r = Acks h h' name reply shard epoch peer code r × (s' ≡ s)
Called (outcome name shard epoch peer command applied) h s h' s' r = Outcomes h h' name shard epoch peer command applied r × (s' ≡ s)
Called (replicate m w) h s h' s' r = (w' : List ℕ) × Bytes m × ReplicatesImage m (peer.buffers h s w) (peer.buffers h' s' w') r
Called (new_epoch m w) h s h' s' r = (w' : List ℕ) × Bytes m × NewEpochsImage m (peer.buffers h s w) (peer.buffers h' s' w') r
Called (copy m w) h s h' s' r = (w' : List ℕ) × Bytes m × CopiesImage m (peer.buffers h s w) (peer.buffers h' s' w') r
Called (write m a c clock least) h s h' s' r =
    (a' c' : List ℕ) × Bytes m × WritesImages (client.buffers h s a) (client.buffers h' s' a') c c' clock least m r
Called (search m o a c clock) h s h' s' r =
    (c' o' a' : List ℕ) × SearchesImages h s c clock m o a c' o' a' r × (h' ≡ h) × (s' ≡ s)
Called (step w o) h s h' s' r = (o' : Outputs) × StepsImage h s w o o' r × (h' ≡ h) × (s' ≡ s)

-- a call with the number that it answered
pub record Answered : Type 0 where
  pub call : Call
  pub number : ℕ

-- calls one after the other, each on the images that the one before it left
unfoldable pub Calls : List Answered → (h s h' s' : List ℕ) → Type 0
Calls [] h s h' s' = (h' ≡ h) × (s' ≡ s)
Calls (c ∷ cs) h s h' s' = (g t : List ℕ) × Called c.call h s g t c.number × Calls cs g t h' s'

-- the claim of each: 24 is answered only for what is lent beside the images
abbrev pub NotMalformed : Answered → Type 0
NotMalformed a = beside_formed a.call ≡ true → a.number ≡ 24 → ⊥
