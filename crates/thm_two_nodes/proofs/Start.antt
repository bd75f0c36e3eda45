-- A cluster that a host begins by the entry points: the headers of nodes 1 and 2 are what `catalogue_fresh_node` and `catalogue_show_map`
-- leave, every other what `catalogue_fresh_node` does for node 0, which is no holder. It is in memory. Assumes nothing.
use Prim.Native.Nat.{ℕ, zero, suc}
use native.Mathlib.Omega.{arith}
use mathlib.Core.Path.{◌≡◌, refl}
use mathlib.Core.Bool.{true, false}
use mathlib.Core.List.{List, []}
use mathlib.Core.Option.{some}
use Rattle.spec.specs.Lists.{nth, any}
use Rattle.spec.specs.Map.Change.{holds}
use Rattle.spec.specs.Layout.Format.{Bytes}
use Rattle.spec.specs.declared.Replica.{Replica}
use Rattle.spec_laws.proofs.Lists.{not_both, none_some, some_same}
use Rattle.spec_run.specs.Fresh.{Fresh}
use Rattle.spec_run.proofs.Cases.Start.{info}
use Rattle.thm_one_node.specs.Images.{unused, new, stores, room, offset}
use Rattle.thm_one_node.proofs.Headers.{bytes-unused}
use Rattle.thm_one_node.proofs.New as one
use Rattle.thm_one_node.proofs.Columns.{stores-bytes}
use Rattle.thm_durable_bytes.specs.Cluster.{Cluster, seen, InMemory}
use Rattle.thm_durable_bytes.specs.Start.{New, ShownFirst, Begun}
use Rattle.thm_durable_bytes.proofs.Start.{begun_fresh}
use Rattle.thm_two_nodes.specs.Images.{map_bytes, new_second, shown, shown_second, worker}
use Rattle.thm_two_nodes.proofs.Map.{copies, tested, begins, none_zero, none_above}
use Rattle.thm_two_nodes.proofs.Headers.{bytes-shown, bytes-second}
use Rattle.thm_two_nodes.proofs.Shown.{started, is-new, shows_first, shows_second}

unfoldable pub headers : ℕ → List ℕ
headers zero = unused
headers (suc zero) = shown
headers (suc (suc zero)) = shown_second
headers (suc (suc (suc n))) = unused

unfoldable pub begun : Cluster
begun = record {
  map = map_bytes;
  headers = headers;
  stores = λ n. stores;
  clients = λ n. 100;
  requests = λ a b. [];
  replies = [];
  offers = [];
  outcomes = [];
  accepted = [];
  acknowledged = [];
}

-- ---- it was begun by the entry points

-- 4 of the holders, and 0
incarnation : ℕ → ℕ
incarnation zero = 0
incarnation (suc zero) = 4
incarnation (suc (suc zero)) = 4
incarnation (suc (suc (suc n))) = 0

holder : (n : ℕ) → holds n copies ≡ true → ShownFirst begun n (incarnation n)
unfolding begun headers holds any incarnation
holder zero h = not_both false h refl
holder (suc zero) h = record {
  header = new;
  new = record { buffer = unused; made = one.is-new };
  fresh = 0;
  starts = worker;
  started = started;
  answer = room;
  answered = offset;
  shown = shows_first;
}
holder (suc (suc zero)) h = record {
  header = new_second;
  new = record { buffer = unused; made = is-new };
  fresh = 0;
  starts = [];
  started = [];
  answer = room;
  answered = room;
  shown = shows_second;
}
holder (suc (suc (suc n))) h = let k = suc (suc (suc n)) in not_both (holds k copies) h (none_above k (omega arith))

other : (n : ℕ) → holds n copies ≡ false → New (begun.headers n) 0 (incarnation n)
unfolding begun headers holds any incarnation
other zero h = record { buffer = unused; made = one.is-unused }
other (suc zero) h = not_both true refl h
other (suc (suc zero)) h = not_both true refl h
other (suc (suc (suc n))) h = record { buffer = unused; made = one.is-unused }

listed : (r : Replica) (place : ℕ) → nth copies place ≡ some r → incarnation r.node.0 ≡ r.incarnation
unfolding nth incarnation
listed r zero e = rw (← some_same e) refl
listed r (suc zero) e = rw (← some_same e) refl
listed r (suc (suc place)) e = none_some e

is-begun : Begun begun
unfolding begun
is-begun = record {
  shard = info;
  tested = tested;
  created = begins;
  incarnation = incarnation;
  listed = listed;
  holders = holder;
  id = λ n. 0;
  apart = λ n h. none_zero;
  others = other;
  clients = λ n. omega arith;
  requests = λ a b. refl;
  replies = refl;
  offers = refl;
  outcomes = refl;
  accepted = refl;
  acknowledged = refl;
}

pub fresh : Fresh (seen begun)
fresh = begun_fresh begun is-begun

-- ---- it is in memory

headers-bytes : (n : ℕ) → Bytes (headers n)
unfolding headers
headers-bytes zero = bytes-unused
headers-bytes (suc zero) = bytes-shown
headers-bytes (suc (suc zero)) = bytes-second
headers-bytes (suc (suc (suc n))) = bytes-unused

pub begun_in_memory : InMemory begun
unfolding begun
begun_in_memory = record { headers = headers-bytes; stores = λ n. stores-bytes }
