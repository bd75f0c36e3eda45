-- A cluster that a host begins by the entry points: node 1's header is what `catalogue_fresh_node` and `catalogue_show_map` leave, every other
-- what `catalogue_fresh_node` does for node 0, which is no holder. It is in memory. Assumes nothing.
use Prim.Native.Nat.{ℕ, zero, suc}
use native.Mathlib.Omega.{arith}
use mathlib.Core.Path.{◌≡◌, refl}
use mathlib.Core.Bool.{true, false}
use mathlib.Core.List.{List, []}
use mathlib.Core.Option.{some}
use Rattle.spec.specs.Lists.{nth, any}
use Rattle.spec.specs.Map.Change.{holds}
use Rattle.spec.specs.Layout.Format.{Bytes}
use Rattle.spec.specs.declared.Replica.{Replica}
use Rattle.spec_laws.proofs.Lists.{not_both, none_some, some_same}
use Rattle.thm_one_node.specs.Images.{map_bytes, unused, new, shown, stores, room}
use Rattle.thm_one_node.proofs.Map.{copies, info, tested, created, none_zero, none_above}
use Rattle.thm_one_node.proofs.Headers.{bytes-unused, bytes-shown}
use Rattle.thm_one_node.proofs.New.{is-new, is-unused}
use Rattle.thm_one_node.proofs.Shown.{shows}
use Rattle.thm_one_node.proofs.Columns.{stores-bytes}
use Rattle.thm_durable_bytes.specs.Cluster.{Cluster, InMemory}
use Rattle.thm_durable_bytes.specs.Start.{New, ShownFirst, Begun}

unfoldable pub headers : ℕ → List ℕ
headers zero = unused
headers (suc zero) = shown
headers (suc (suc n)) = unused

unfoldable pub first : Cluster
first = record {
  map = map_bytes;
  headers = headers;
  stores = λ n. stores;
  clients = λ n. 100;
  requests = λ a b. [];
  replies = [];
  offers = [];
  outcomes = [];
  accepted = [];
  acknowledged = [];
}

-- ---- it was begun by the entry points

-- 4 of node 1, and 0
incarnation : ℕ → ℕ
incarnation zero = 0
incarnation (suc zero) = 4
incarnation (suc (suc n)) = 0

holder : (n : ℕ) → holds n copies ≡ true → ShownFirst first n (incarnation n)
unfolding first headers holds any incarnation
holder zero h = not_both false h refl
holder (suc zero) h = record {
  header = new;
  new = record { buffer = unused; made = is-new };
  fresh = 0;
  starts = [];
  started = [];
  answer = room;
  answered = room;
  shown = shows;
}
holder (suc (suc n)) h = let k = suc (suc n) in not_both (holds k copies) h (none_above k (omega arith))

other : (n : ℕ) → holds n copies ≡ false → New (first.headers n) 0 (incarnation n)
unfolding first headers holds any incarnation
other zero h = record { buffer = unused; made = is-unused }
other (suc zero) h = not_both true refl h
other (suc (suc n)) h = record { buffer = unused; made = is-unused }

listed : (r : Replica) (place : ℕ) → nth copies place ≡ some r → incarnation r.node.0 ≡ r.incarnation
unfolding nth incarnation
listed r zero e = rw (← some_same e) refl
listed r (suc place) e = none_some e

pub first-begun : Begun first
unfolding first
first-begun = record {
  shard = info;
  tested = tested;
  created = created;
  incarnation = incarnation;
  listed = listed;
  holders = holder;
  id = λ n. 0;
  apart = λ n h. none_zero;
  others = other;
  clients = λ n. omega arith;
  requests = λ a b. refl;
  replies = refl;
  offers = refl;
  outcomes = refl;
  accepted = refl;
  acknowledged = refl;
}

-- ---- it is in memory

headers-bytes : (n : ℕ) → Bytes (headers n)
unfolding headers
headers-bytes zero = bytes-unused
headers-bytes (suc zero) = bytes-shown
headers-bytes (suc (suc n)) = bytes-unused

pub first_in_memory : InMemory first
unfolding first
first_in_memory = record { headers = headers-bytes; stores = λ n. stores-bytes }
