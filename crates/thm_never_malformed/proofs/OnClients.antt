-- A client's calls over intact images: Write and Search leave them intact, and do not answer 24 where four bytes of count are lent. Assumes
-- nothing.
use Prim.Native.Nat.{ℕ}
use mathlib.Core.Path.{◌≡◌, refl, sym, ap, ◌∙◌}
use mathlib.Core.Bool.{true, false}
use mathlib.Core.Logic.{◌⊎◌, inl, inr, ⊎_elim}
use mathlib.Core.List.{List}
use mathlib.Core.Option.{Option, none, some}
use native.Mathlib.Omega.{arith}
use lib.Dec.{eqb}
use borrow.Author.Tests.{eqb-false}
use Rattle.spec.specs.Lists.{◌and◌}
use Rattle.spec.specs.Keys.{Key}
use Rattle.spec.specs.Layout.Format.{Bytes}
use Rattle.spec.specs.Layout.Message as message
use Rattle.spec.specs.Node.Calls.{late_time, write_with}
use Rattle.spec.specs.Node.Wire.{op_in_domain, patterns_in_domain}
use Rattle.spec_laws.proofs.Lists.{by-test, not_both, some_same, and_true}
use Rattle.spec_laws.proofs.Node.KeptCalls.{write_with_kept}
use Rattle.node_header.specs.declared.Node.{Node}
use Rattle.node_header.specs.View.{view_node}
use Rattle.node_header.specs.Slots.{slots_of}
use Rattle.node_header.specs.Answers.{Answered}
use Rattle.node_header.proofs.Lists.{by_case}
use Rattle.image_header.specs.Image.{node_at}
use Rattle.node_lent.specs.Lend.{slot_of, lent_for}
use Rattle.image_node.specs.Lent.{lent_store_in, lends_state}
use Rattle.image_node.specs.State.{stores_in, state_at}
use Rattle.image_node.proofs.Family.{lent_in, lent_changes}
use Rattle.node_write.specs.declared.WriteReply.{WriteReply}
use Rattle.node_write.specs.declared.WriteReply.TheVariants as R
use Rattle.node_write.specs.ClientWrites.{number_in, turned_down}
use Rattle.node_search.specs.declared.SearchAnswer.{SearchAnswer}
use Rattle.node_search.specs.declared.SearchAnswer.TheVariants as S
use Rattle.node_search.specs.Searches.{Output, SearchAnswered, room}
use Rattle.calls_parts.specs.Answer.{answer_lent}
use Rattle.calls_client_out.specs.Count.{count_lent}
use Rattle.calls_client_out.specs.Ends.{Buffers, buffers, WriteEnded, ended, ended_as}
use Rattle.calls_client_out.specs.Found as found
use Rattle.calls_client_out.specs.Found.{SearchEnded, hits_lent, fresh_hits, search_ended, SearchServed}
use Rattle.calls_client.specs.Searched.{lends_call, SearchesImages}
use Rattle.calls_client.specs.Written.{WriteServed, WritesImages}
use Rattle.thm_never_malformed.specs.Intact.{Intact}
use Rattle.thm_never_malformed.proofs.Lent.{lends, lent_for_lem, state_formed}
use Rattle.thm_never_malformed.proofs.Changes.{write_changes}
use Rattle.thm_never_malformed.proofs.Refused.{Fine, search_number, write-fine, search_fine}
use Rattle.thm_never_malformed.proofs.Keeps.{Keeps, unwritten, Ends}
use Rattle.thm_never_malformed.proofs.OnShard.{same_after}

-- ---- Write

-- how it ends, by its answer
module _ (b c : Buffers) (h s : List ℕ) (r : ℕ) where
  abbrev EndsAs : WriteReply → Type 0
  EndsAs w = Ends b.header b.stores c.header c.stores (turned_down w) (number_in w) r

  -- both images stand in the answer
  kept : (w : WriteReply) (k : ℕ) (l : List ℕ) → ended r c ≡ ended k (buffers b.header b.stores l) → (k ≡ 24 → number_in w ≡ 24) → EndsAs w
  kept w k l e f = record {
    left = inl (ap (λ (y : WriteEnded). y.left.header) e, ap (λ (y : WriteEnded). y.left.stores) e);
    refused = λ u. f (sym (ap (λ (y : WriteEnded). y.number) e) ∙ u);
  }

  ends : (w : WriteReply) → ended r c ≡ ended_as b h s w → EndsAs w
  ends (R.Accepted o) e =
      by-test (λ (y : WriteEnded). ended r c ≡ y → EndsAs (R.Accepted o)) (answer_lent b.answer)
      (λ p q. let z = ap (λ (y : WriteEnded). y.number) q in record { left = inr (refl, z); refused = λ u. absurd (omega arith) })
      (λ p q. kept (R.Accepted o) 23 b.answer q (λ u. absurd (omega arith))) e
  ends (R.NotPrimary x) e = kept (R.NotPrimary x) 18 _ e (λ u. u)
  ends (R.Refused k) e = kept (R.Refused k) k b.answer e (λ u. u)

module _ (h s : List ℕ) (i : Intact h s) (m : List ℕ) (clock : ℕ) (count : List ℕ) where
  abbrev n : Node
  n = node_at h

  -- a count and the images of a state
  counted : (k : Key) → count_lent count ≡ true → lends_call count h s k ≡ true
  counted k e = and_true (count_lent count) (lends_state h s k) e (lends h s i k)

  uncounted : (k : Key) → count_lent count ≡ false → lends_call count h s k ≡ false
  unfolding ◌and◌
  uncounted k e = rw e

  module _ (h' s' a a' count' : List ℕ) (least r : ℕ) (bytes : Bytes m) where
    abbrev b : Buffers
    b = buffers h s a

    abbrev c : Buffers
    c = buffers h' s' a'

    turned : (number : ℕ) → (count_lent count ≡ true → Fine number) → ended r c ≡ ended number b → Keeps (count_lent count) h' s' r
    turned number f e = record {
      intact = unwritten h s h' s' i (ap (λ (y : WriteEnded). y.left.header) e, ap (λ (y : WriteEnded). y.left.stores) e);
      fine = λ u z. eqb-false number 24 (f u) (sym (ap (λ (y : WriteEnded). y.number) e) ∙ z);
    }

    passed : (v : message.Write) → message.decode_write m ≡ some v → WriteServed b v.key clock least m (ended r c) → Keeps (count_lent count) h' s' r
    passed v e p =
        let k = v.key in
        let named : (w : message.Write) → message.decode_write m ≡ some w → k ≡ w.key =
        λ w d. ap (λ (x : message.Write). x.key) (some_same (sym e ∙ d)) in
        let t = ends b c _ _ r p.told.answer p.is in
        let z = lent_in (stores_in s) (slot_of n k) (lent_store_in s n k) in
        let fine : Fine (number_in p.told.answer) =
        ap (λ (x : Answered WriteReply). eqb (number_in x.answer) 24)
        (p.call.same z (lent_in (stores_in s) (slot_of n k) p.left) (slot_of n k) (λ w d. ap (slot_of n) (named w d))
        (lent_changes (stores_in s) (slot_of n k) (lent_store_in s n k) p.left))
        ∙ write-fine (view_node z n) (lent_for z n (lent_store_in s n k)) clock least m
        (λ w d. ap (lent_for z n (lent_store_in s n k)) (sym (named w d)) ∙ lent_for_lem h s i z k) in
        record {
          intact =
              ⊎_elim (unwritten h s h' s' i)
              (λ d.
              same_after (λ lent x. write_with lent x clock least m) h s h' s' k (slots_of p.told.node) i (p.state d.0 d.1)
              (write_with_kept (state_at h s) (state_formed h s i) _ clock least m bytes) p.call.slots_are (write_changes (state_at h s) _ k clock least m named))
              t.left;
          fine = λ u x. eqb-false _ 24 fine (t.refused x);
        }

    pub on-write : WritesImages b c count count' clock least m r → Keeps (count_lent count) h' s' r
    on-write w = by_case (late_time clock) (λ e. turned 21 (λ u. refl) (w.ends.late e)) (λ e. go e (message.decode_write m) refl)
      where
        go : late_time clock ≡ false → (o : Option message.Write) → message.decode_write m ≡ o → Keeps (count_lent count) h' s' r
        go e none d = turned 21 (λ u. refl) (w.ends.undecoded d)
        go e (some v) d =
            let x = w.ends.read e v d in
            by_case (op_in_domain v.op)
            (λ f.
            by_case (count_lent count) (λ g. passed v d (x.lent f (counted v.key g)))
            (λ g. turned 24 (λ u. not_both (count_lent count) u g) (x.unlent f (uncounted v.key g))))
            (λ f. turned 22 (λ u. refl) (x.outside f))

  -- ---- Search

  module _ (o a count' o' a' : List ℕ) (r : ℕ) where
    refused : (number : ℕ) → (count_lent count ≡ true → Fine number) → found.ended r o' a' ≡ found.ended number o a → count_lent count ≡ true → r ≡ 24 → ⊥
    refused number f e u z = eqb-false number 24 (f u) (sym (ap (λ (y : SearchEnded). y.number) e) ∙ z)

    said-fine : (p : Output) (w : SearchAnswer) → Fine (search_number w) → Fine (search_ended o a p w).number
    said-fine p (S.Found k) f = by-test (λ (x : SearchEnded). Fine x.number) (answer_lent a) (λ q. refl) (λ q. refl)
    said-fine p (S.NotPrimary e) f = refl
    said-fine p (S.Refused k) f = f

    searched : (v : message.Query) → message.decode_search m ≡ some v → SearchServed n (lent_store_in s n v.key) m clock o a (found.ended r o' a') → r ≡ 24 → ⊥
    searched v e p z =
        let k = v.key in
        let named : (w : message.Query) → message.decode_search m ≡ some w → k ≡ w.key =
        λ w d. ap (λ (x : message.Query). x.key) (some_same (sym e ∙ d)) in
        let t = lent_in (stores_in s) (slot_of n k) (lent_store_in s n k) in
        let fine : Fine (search_number p.told.answer) =
        ap (λ (x : SearchAnswered). eqb (search_number x.answer) 24)
        (p.call.same t (slot_of n k) (λ w d. ap (slot_of n) (named w d)) (lent_changes (stores_in s) (slot_of n k) (lent_store_in s n k) (lent_store_in s n k)).before)
        ∙ search_fine (view_node t n) (lent_for t n (lent_store_in s n k)) clock (room (fresh_hits (hits_lent o))) m
        (λ w d. ap (lent_for t n (lent_store_in s n k)) (sym (named w d)) ∙ lent_for_lem h s i t k) in
        eqb-false _ 24 (said-fine p.left p.told.answer fine) (sym (ap (λ (y : SearchEnded). y.number) p.is) ∙ z)

    -- it leaves both images
    pub on_search_lem : SearchesImages h s count clock m o a count' o' a' r → count_lent count ≡ true → r ≡ 24 → ⊥
    on_search_lem w = by_case (late_time clock) (λ e. refused 21 (λ u. refl) (w.ends.late e)) (λ e. go e (message.decode_search m) refl)
      where
        go : late_time clock ≡ false → (q : Option message.Query) → message.decode_search m ≡ q → count_lent count ≡ true → r ≡ 24 → ⊥
        go e none d u = refused 21 (λ y. refl) (w.ends.undecoded d) u
        go e (some v) d u =
            let x = w.ends.query e v d in
            by_case (patterns_in_domain v.bits) (λ f. searched v d (x.lent f (counted v.key u))) (λ f. refused 22 (λ y. refl) (x.outside f) u)
