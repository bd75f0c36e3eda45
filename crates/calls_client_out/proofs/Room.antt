-- A search finds no more neighbours than its output has room for. Assumes nothing.
use Prim.Native.Nat.{ℕ, ◌≤◌}
use mathlib.Core.Path.{◌≡◌, sym, ap, subst, ◌∙◌}
use mathlib.Core.Bool.{Bool, not}
use mathlib.Core.List.{List}
use mathlib.Core.Option.{Option, none, some}
use native.Mathlib.Omega.{arith}
use lib.Dec.{ltb}
use lib.Ieee.{Float}
use lib.ListN.{length}
use borrow.Author.Tests.{ltb-false}
use Rattle.spec.specs.Keys.{Key}
use Rattle.spec.specs.Refusals.{unknown_shard, not_primary, no_lease, too_few_in_sync, undecodable, outside_domain, no_room, malformed, last_epoch, no_worker}
use Rattle.spec.specs.Layout.Message as message
use Rattle.spec.specs.Nearest.Search.{hits}
use Rattle.spec.specs.Node.Held as held
use Rattle.spec.specs.Node.Shards.{Result, leads_at}
use Rattle.spec.specs.Node.Lease.{leased}
use Rattle.spec.specs.Node.Wire.{patterns_in_domain, floats_of}
use Rattle.spec.specs.Node.Client as client
use Rattle.spec.specs.Node.Calls as calls
use Rattle.spec_laws.proofs.Lists.{by-test, none_some, some_same}
use Rattle.spec_laws.proofs.Node.Shards.{at_cases}
use Rattle.node_header.specs.declared.Node.{Node}
use Rattle.node_header.specs.View.{view_node}
use Rattle.node_header.proofs.Shards.{some_stores}
use Rattle.node_lent.specs.Lend.{LentStore, lent_for, slot_of}
use Rattle.node_lent.proofs.Lend.{holding, holding_changes}
use Rattle.node_search.specs.declared.SearchAnswer.{SearchAnswer}
use Rattle.node_search.specs.declared.SearchAnswer.TheVariants as S
use Rattle.node_search.specs.declared.NodeSearched.{NodeSearched}
use Rattle.node_search.specs.Searches.{Output, room, word, SearchAnswered, SearchSlot, SearchesAt}

-- ---- by the definition

abbrev Fits : ℕ → client.SearchAnswer → Type 0
Fits most (client.found h) = length h ≤ most
Fits most (client.search_refused x) = Unit {0}

held_fits : (lease : Bool) (most epoch k : ℕ) (q : List Float) (h : held.Held) → Fits most (client.search_held lease most epoch k q h).answer
unfolding client.search_held
held_fits lease most epoch k q h =
    let P : Result client.SearchAnswer held.Held → Type 0 = λ r. Fits most r.answer in
    by-test P (not (leads_at h.role epoch)) (λ e. tt)
    (λ e. by-test P (not lease) (λ f. tt)
    (λ f. by-test P (ltb most (length (hits h.replica.metric q h.replica.vectors k))) (λ g. tt) (λ g. ltb-false most _ g)))

module _ (lent : Key → Bool) (n : held.Node) (clock most : ℕ) where
  abbrev Fit : Result client.SearchAnswer held.Node → Type 0
  Fit r = Fits most r.answer

  of_fits : (o : Option message.Query) → Fit (calls.search_of lent n clock most o)
  unfolding client.on_search
  of_fits none = tt
  of_fits (some v) =
      by-test Fit (not (patterns_in_domain v.bits)) (λ e. tt)
      (λ e. by-test Fit (not (lent v.key)) (λ f. tt)
      (λ f. at_cases n v.key (client.search_refused unknown_shard) (client.search_held (leased n clock) most v.epoch v.k (floats_of v.bits)) Fit
      (λ g. tt) (λ h g. held_fits (leased n clock) most v.epoch v.k (floats_of v.bits) h)))

  with-fits : (m : List ℕ) → Fit (calls.search_with lent n clock most m)
  unfolding calls.search_with
  with-fits m = by-test Fit (calls.late_time clock) (λ e. tt) (λ e. of_fits (message.decode_search m))

-- ---- by the call's contract

-- how many it found
abbrev found_of : SearchAnswer → ℕ
found_of (S.Found n) = n
found_of (S.NotPrimary e) = 0
found_of (S.Refused x) = 0

word_fits : (most : ℕ) (x : client.SearchAnswer) → Fits most x → found_of (word x) ≤ most
word_fits most (client.found h) f = f
word_fits most (client.search_refused unknown_shard) f = omega arith
word_fits most (client.search_refused (not_primary e)) f = omega arith
word_fits most (client.search_refused no_lease) f = omega arith
word_fits most (client.search_refused too_few_in_sync) f = omega arith
word_fits most (client.search_refused undecodable) f = omega arith
word_fits most (client.search_refused outside_domain) f = omega arith
word_fits most (client.search_refused no_room) f = omega arith
word_fits most (client.search_refused malformed) f = omega arith
word_fits most (client.search_refused last_epoch) f = omega arith
word_fits most (client.search_refused no_worker) f = omega arith

module _ (n : Node) (a : LentStore) (m : List ℕ) (clock : ℕ) (o p : Output) (before : ℕ) (r : NodeSearched) (d : SearchesAt n a m clock o p before r) where
  by-slot : (slot : ℕ) → SearchSlot n m slot → found_of r.answer ≤ room o
  by-slot slot own =
      let s = holding some_stores slot a in
      let e = d.same s slot own (holding_changes some_stores slot a a).before in
      subst (λ (x : ℕ). x ≤ room o) (sym (ap (λ (z : SearchAnswered). found_of z.answer) e))
      (word_fits (room o) (calls.search_with (lent_for s n a) (view_node s n) clock (room o) m).answer
      (with-fits (lent_for s n a) (view_node s n) clock (room o) m))

  -- whatever the bytes are read as
  by_read : (q : Option message.Query) → message.decode_search m ≡ q → found_of r.answer ≤ room o
  by_read none e = by-slot 0 (λ v f. none_some (sym e ∙ f))
  by_read (some w) e = by-slot (slot_of n w.key) (λ v f. ap (λ (z : message.Query). slot_of n z.key) (some_same (sym e ∙ f)))
