-- A run of the entry points for C that the checker follows: from the cluster of Start.antt, images of the code's own sizes, node 1 is granted a
-- lease, takes a Write of one Upsert and acknowledges it. Each call satisfies the contract of its entry point, and the theorem is put to the
-- run: it is of clusters and runs that there are. Assumes nothing.
use Prim.Native.Nat.{ℕ}
use mathlib.Core.Path.{◌≡◌, refl, sym, ap, subst, ◌∙◌}
use mathlib.Core.Bool.{true}
use mathlib.Core.List.{List, [], ◌∷◌}
use mathlib.Core.Option.{Option, some}
use lib.Dec.{eqb}
use Rattle.spec.specs.Lists.{nth}
use Rattle.spec.specs.Log.{Log, Entry, upsert, entry_at}
use Rattle.spec.specs.Map.Tables as tables
use Rattle.spec.specs.Layout.Format.{Bytes}
use Rattle.spec.specs.Layout.Message as message
use Rattle.spec.specs.Node.Held as held
use Rattle.spec_laws.proofs.Lists.{by-test}
use Rattle.spec_run.specs.State.{Write, at}
use Rattle.spec_run.specs.Event.{Event, lease_granted, client_writes, node_waits}
use Rattle.spec_run.specs.Rules.{allowed}
use Rattle.spec_run.specs.Fresh.{Fresh}
use Rattle.spec_run.specs.Claim.{in_sync_at, Durable, Stands, Origin}
use Rattle.spec_run.specs.Claim as claim
use Rattle.spec_run.proofs.Cases.Opened.{opened}
use Rattle.thm_one_node.specs.Images as images
use Rattle.thm_one_node.specs.Images.{room, offset, count}
use Rattle.thm_one_node.proofs.Map.{key, map, map_read}
use Rattle.thm_one_node.proofs.Headers.{bytes-leased, bytes-written}
use Rattle.thm_one_node.proofs.Grant.{grants}
use Rattle.thm_one_node.proofs.Columns.{one, entry, stored, stored_bytes}
use Rattle.thm_one_node.proofs.Write.{bytes, decoded, read, vectors}
use Rattle.thm_one_node.proofs.WriteImages.{writes_images, state_written}
use Rattle.thm_one_node.proofs.Wait.{waits}
use Rattle.thm_durable_bytes.specs.Cluster.{Cluster, seen, InMemory, with_header, with_node, host}
use Rattle.thm_durable_bytes.specs.Calls.{offset_in, write_said, wait_said, Waits, Called, Calls}
use Rattle.thm_durable_bytes.proofs.Durable as theorem
use Rattle.thm_durable_bytes.proofs.Durable.{durable}
use Rattle.thm_durable_bytes.proofs.Start.{begun_fresh}
use Rattle.thm_durable_bytes.proofs.Instance.Start.{headers, first, first-begun, first_in_memory}

-- ---- the clusters

-- what the host remembers of the Write
abbrev wrote : Write
wrote = record { node = 1; key = key; epoch = 1; offset = 1; op = upsert 41 (one ∷ []) }

leased : Cluster
leased = with_header first 1 images.leased

written : Cluster
written = host (with_node leased 1 images.written stored) (λ s. write_said s 1 (message.decode_write bytes) (offset_in 0 offset))

pub last : Cluster
last = host (with_header written 1 images.written) (λ s. wait_said s wrote 0 [] room)

-- ---- each is in memory

pub at-bytes : (f : ℕ → List ℕ) (m : ℕ) (x : List ℕ) → ((n : ℕ) → Bytes (f n)) → Bytes x → (n : ℕ) → Bytes (at f m x n)
unfolding at
at-bytes f m x b h n = by-test Bytes (eqb n m) (λ e. h) (λ e. b n)

leased_in_memory : InMemory leased
unfolding leased with_header
leased_in_memory = record {
  headers = at-bytes first.headers 1 images.leased first_in_memory.headers bytes-leased;
  stores = first_in_memory.stores;
}

written_in_memory : InMemory written
unfolding written with_node host
written_in_memory = record {
  headers = at-bytes leased.headers 1 images.written leased_in_memory.headers bytes-written;
  stores = at-bytes leased.stores 1 stored leased_in_memory.stores stored_bytes;
}

-- ---- the calls

abbrev pub events : List Event
events = lease_granted 1 4 0 100 ∷ client_writes 1 5 1 bytes ∷ node_waits 0 6 10 ∷ []

on-grant : Called first (lease_granted 1 4 0 100) leased
unfolding Called first headers leased
on-grant = (images.leased, 0, grants, refl)

on-write : Called leased (client_writes 1 5 1 bytes) written
unfolding Called at with_header first headers leased written
on-write = (images.written, stored, room, offset, count, count, 0, writes_images, refl)

remembered : nth written.accepted 0 ≡ some wrote
unfolding opened with_header with_node host seen first leased written
remembered = rw decoded refl

on_wait_lem : Called written (node_waits 0 6 10) last
unfolding Called opened with_header with_node host first leased written last
on_wait_lem = subst (λ (o : Option Write). Waits written 6 10 o last) (sym remembered) (images.written, [], [], room, room, 0, waits, refl)

may_write : (d : Cluster) → allowed (seen d) (client_writes 1 5 1 bytes) ≡ true
unfolding opened bytes
may_write d = refl

pub calls-made : Calls first events last
unfolding Calls allowed
calls-made =
    (leased, first_in_memory, refl, on-grant, (written, leased_in_memory, may_write leased, on-write, (last, written_in_memory, refl, on_wait_lem, refl)))

-- ---- the theorem, put to it

pub first-fresh : Fresh (seen first)
first-fresh = begun_fresh first first-begun

pub kept : Durable (seen last)
kept = durable first last events first-fresh calls-made

-- the write is acknowledged
pub acknowledged : (seen last).acknowledged ≡ wrote ∷ []
unfolding opened with_header with_node host seen first leased written last
acknowledged = rw decoded refl

-- the map lists node 1 in sync
listed : in_sync_at map key 1 ≡ true
unfolding opened
listed = refl

in_sync_lem : in_sync_at (seen last).map key 1 ≡ true
unfolding with_header with_node host seen first leased written last
in_sync_lem = ap (λ (m : tables.Map). in_sync_at m key 1) map_read ∙ listed

-- so it stands in the log that node 1's bytes are read as
pub stands : Stands wrote (claim.log_of ((seen last).nodes 1) key)
stands = kept.stands wrote 0 (rw acknowledged (unfold nth in refl)) 1 in_sync_lem

-- which is this log, with these vectors
pub node-read : (seen last).nodes 1 ≡ read (entry ∷ []) vectors
unfolding at with_header with_node host seen first leased written last
node-read = state_written

pub log-read : claim.log_of ((seen last).nodes 1) key ≡ entry ∷ []
unfolding opened
log-read = ap (λ (n : held.Node). claim.log_of n key) node-read

-- request 2.5: its entry is the Write that was accepted at epoch 1, and nothing else stands there under that epoch
at_first : entry_at (claim.log_of ((seen last).nodes 1) key) 1 ≡ some entry
unfolding entry_at nth
at_first = ap (λ (l : Log). entry_at l 1) log-read

pub origin : Origin (seen last) key 1 entry
origin = (theorem.written first last events first-fresh calls-made).entries key 1 1 entry at_first

pub same-entry : (x : Entry) → entry_at (claim.log_of ((seen last).nodes 1) key) 1 ≡ some x → x.epoch ≡ 1 → x ≡ entry
same-entry x p e = (theorem.alike first last events first-fresh calls-made).entries key 1 1 1 x entry p at_first e
