-- `catalogue_search` at two nodes whose images are intact and are read the same but for logs: both answer alike, every byte of the outputs.
-- Assumes nothing.
use Prim.Native.Nat.{ℕ}
use mathlib.Core.Path.{◌≡◌, refl, sym, ap, ◌∙◌}
use mathlib.Core.Bool.{Bool, true, false}
use mathlib.Core.List.{List}
use mathlib.Core.Option.{Option, none, some}
use Rattle.spec.specs.Lists.{◌and◌}
use Rattle.spec.specs.Keys.{Key}
use Rattle.spec.specs.Layout.Message.{Query, decode_search}
use Rattle.spec.specs.Node.Held as held
use Rattle.spec.specs.Node.Shards.{Result}
use Rattle.spec.specs.Node.Wire.{patterns_in_domain, floats_of}
use Rattle.spec.specs.Node.Client as client
use Rattle.spec.specs.Node.Calls.{late_time, search_with}
use Rattle.spec_laws.proofs.Lists.{and_true, some_same}
use Rattle.node_header.specs.declared.Node.{Node}
use Rattle.node_header.specs.View.{view_node}
use Rattle.node_header.proofs.Lists.{by_case}
use Rattle.image_header.specs.Image.{node_at}
use Rattle.node_lent.specs.Lend.{slot_of, lent_for}
use Rattle.image_node.specs.Lent.{lent_store_in, lends_state}
use Rattle.image_node.specs.State.{stores_in}
use Rattle.node_search.specs.Searches.{Output, SearchAnswered, room, word, filled}
use Rattle.calls_client_out.specs.Count.{count_lent, count_put}
use Rattle.calls_client_out.specs.Found.{SearchEnded, ended, hits_lent, fresh_hits, search_ended, SearchServed}
use Rattle.calls_client.specs.Searched.{lends_call, SearchesQuery}
use Rattle.thm_never_malformed.specs.Intact.{Intact}
use Rattle.thm_never_malformed.proofs.Lent.{lends, lent_for_lem}
use Rattle.thm_durable_bytes.proofs.Entry.{columns, test, before, lends_before, same_test, entry}
use Rattle.thm_order_writes.proofs.Search.{Alike, on_alike}
use Rattle.thm_order_bytes.specs.Images.{Images, node_in, SearchedAlike}

-- a count and the images of a state
counted : (u : Images) → Intact u.header u.stores → (c : List ℕ) (k : Key) → count_lent c ≡ true → lends_call c u.header u.stores k ≡ true
counted u i c k e = and_true (count_lent c) (lends_state u.header u.stores k) e (lends u.header u.stores i k)

uncounted : (u : Images) (c : List ℕ) (k : Key) → count_lent c ≡ false → lends_call c u.header u.stores k ≡ false
unfolding ◌and◌
uncounted u c k e = rw e

-- ---- past 24: what the caller gets is the definition's

module _ (clock : ℕ) (m hits answer : List ℕ) (q : Query) (early : late_time clock ≡ false) (is : decode_search m ≡ some q) (inside : patterns_in_domain q.bits ≡ true)
  where
    abbrev fresh : Output
    fresh = fresh_hits (hits_lent hits)

    abbrev k : Key
    k = q.key

    abbrev does : held.Node → client.SearchAnswer
    does n = (client.on_search n clock (room fresh) k q.epoch q.k (floats_of q.bits)).answer

    abbrev tells : client.SearchAnswer → SearchEnded
    tells a = search_ended hits answer (filled fresh a) (word a)

    with-lent : (t : Key → Bool) (n : held.Node) → t k ≡ true
        → search_with t n clock (room fresh) m ≡ client.on_search n clock (room fresh) k q.epoch q.k (floats_of q.bits)
    unfolding search_with
    with-lent t n e = rw (early, is, inside, e)

    module _ (u : Images) (i : Intact u.header u.stores) where
      abbrev h : List ℕ
      h = u.header

      abbrev s : List ℕ
      s = u.stores

      abbrev p : Node
      p = node_at h

      abbrev lent : Result client.SearchAnswer held.Node
      lent = search_with (lent_for (before h s k) p (columns h s k)) (view_node (before h s k) p) clock (room fresh) m

      at_state : lent.answer ≡ does (node_in u)
      at_state =
          let passes = lent_for_lem h s i (stores_in s) k in
          ap (λ (f : Key → Bool). (search_with f (view_node (before h s k) p) clock (room fresh) m).answer) (same_test h s k)
          ∙ ap (λ (z : held.Node). (search_with (test h s k) z clock (room fresh) m).answer) (entry h s k (lends h s i k) u.memory passes)
          ∙ ap (λ (z : Result client.SearchAnswer held.Node). z.answer) (with-lent (test h s k) (node_in u) passes)

      searched : (e : SearchEnded) → SearchServed p (lent_store_in s p k) m clock hits answer e → e ≡ tells (does (node_in u))
      searched e d =
          let t =
          d.call.same (before h s k) (slot_of p k) (λ z g. ap (λ (y : Query). slot_of p y.key) (some_same (sym is ∙ g))) (lends_before h s k) in
          let said : d.told.answer ≡ word (does (node_in u)) = ap (λ (z : SearchAnswered). z.answer) t ∙ ap word at_state in
          let left : d.left ≡ filled fresh (does (node_in u)) = ap (λ (z : SearchAnswered). z.output) t ∙ ap (filled fresh) at_state in
          d.is
          ∙ ap (λ (o : Output). search_ended hits answer o d.told.answer) left
          ∙ ap (search_ended hits answer (filled fresh (does (node_in u)))) said

-- ---- two nodes

module _ (u v : Images) (i : Intact u.header u.stores) (j : Intact v.header v.stores) (a : Alike (node_in u) (node_in v)) where
  module _ (clock : ℕ) (m hits answer count : List ℕ) (e₁ e₂ : SearchEnded) where
    query : (q : Query) → late_time clock ≡ false → decode_search m ≡ some q → SearchesQuery u.header u.stores count clock m hits answer q e₁
        → SearchesQuery v.header v.stores count clock m hits answer q e₂ → e₁ ≡ e₂
    query q early is s t =
        by_case (patterns_in_domain q.bits)
        (λ f.
        by_case (count_lent count)
        (λ g.
        searched clock m hits answer q early is f u i e₁ (s.lent f (counted u i count q.key g))
        ∙ ap (tells clock m hits answer q early is f)
        (on_alike (room (fresh_hits (hits_lent hits))) q.epoch q.k (floats_of q.bits) (node_in u) (node_in v) a clock q.key)
        ∙ sym (searched clock m hits answer q early is f v j e₂ (t.lent f (counted v j count q.key g))))
        (λ g. s.unlent f (uncounted u count q.key g) ∙ sym (t.unlent f (uncounted v count q.key g))))
        (λ f. s.outside f ∙ sym (t.outside f))

  pub alike_searches : SearchedAlike u v
  alike_searches clock m hits answer count c₁ hits₁ answer₁ c₂ hits₂ answer₂ r₁ r₂ s t =
      let e = same in
      let n = ap (λ (z : SearchEnded). z.number) e in (
        n,
        ap (λ (z : SearchEnded). z.hits) e,
        ap (λ (z : SearchEnded). z.answer) e,
        s.count ∙ ap (count_put count) n ∙ sym t.count,
      )
    where
      of : late_time clock ≡ false → (o : Option Query) → decode_search m ≡ o → ended r₁ hits₁ answer₁ ≡ ended r₂ hits₂ answer₂
      of l none d = s.ends.undecoded d ∙ sym (t.ends.undecoded d)
      of l (some q) d =
          query clock m hits answer count (ended r₁ hits₁ answer₁) (ended r₂ hits₂ answer₂) q l d (s.ends.query l q d) (t.ends.query l q d)

      same : ended r₁ hits₁ answer₁ ≡ ended r₂ hits₂ answer₂
      same = by_case (late_time clock) (λ l. s.ends.late l ∙ sym (t.ends.late l)) (λ l. of l (decode_search m) refl)
