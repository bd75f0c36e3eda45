-- A host that began by the entry points has a fresh run: the headers that `catalogue_show_map` left of new ones are read as the nodes of a
-- fresh state. Assumes nothing.
use Prim.Native.Nat.{ℕ}
use mathlib.Core.Path.{◌≡◌, refl, sym, ap, subst, ◌∙◌}
use mathlib.Core.Bool.{Bool, true, false}
use mathlib.Core.List.{List}
use mathlib.Core.Option.{some}
use lib.Dec.{eqb, leb}
use lib.ListN.{length, take}
use borrow.Author.Tests.{leb-true, leb-false}
use Rattle.spec.specs.Lists.{◌and◌, every, rising, nth}
use Rattle.spec.specs.Map.Tables.{Map, refused}
use Rattle.spec.specs.Map.Change.{holds}
use Rattle.spec.specs.Map.WellFormed.{well_formed_map}
use Rattle.spec.specs.Node.Held as held
use Rattle.spec.specs.Node.Shown as show
use Rattle.spec.specs.Node.WellFormed.{well_formed_header}
use Rattle.spec.specs.Node.Calls.{shown_with, call_shown}
use Rattle.spec.specs.declared.Replica.{Replica}
use Rattle.spec_laws.proofs.Lists.{not_both}
use Rattle.spec_run.specs.Fresh.{Shown, Fresh}
use Rattle.spec_run.proofs.Created.{created, shown_holder, shown-other}
use Rattle.map_tables.specs.View.{view_map}
use Rattle.map_check.specs.Lent.{well_formed_lent}
use Rattle.node_header.specs.declared.Node.{Node}
use Rattle.node_header.specs.View.{Stores, view_node}
use Rattle.node_header.specs.Formed.{lent_node}
use Rattle.node_header.proofs.Lists.{by_case}
use Rattle.node_header.proofs.Formed.{formed-lent}
use Rattle.node_show.specs.declared.ShownAnswer.{ShownAnswer}
use Rattle.node_show.specs.Shows.{ShownAnswered, shown_word, view_starts}
use Rattle.image_map.specs.Image.{map_at, map_lent}
use Rattle.image_header.specs.Image.{header_lent, node_at}
use Rattle.image_node.specs.State.{stores_in, state_at}
use Rattle.calls_header.specs.Waits.{Left, rows_room}
use Rattle.calls_header.specs.Fresh.{FreshImage}
use Rattle.calls_header.specs.Shows.{worker_bytes, show_said, is_shown, show_writes, shown_call, ShowsImage, Shows}
use Rattle.thm_durable.proofs.Lent.{map-well}
use Rattle.thm_durable_bytes.specs.Cluster.{Cluster, seen}
use Rattle.thm_durable_bytes.specs.Start.{New, Begun}
use Rattle.thm_durable_bytes.proofs.Asked as calls
use Rattle.thm_durable_bytes.proofs.Numbers.{refusal_number}

-- ---- the nodes

module _ (h : List ℕ) (me incarnation : ℕ) (new : New h me incarnation) where
  new_image : FreshImage new.buffer h me incarnation 0
  new_image =
      let p = new.made in
      by_case (leb 10288 (length new.buffer)) (λ e. p.made (leb-true 10288 (length new.buffer) e))
      (λ e. not_both (eqb 0 0) refl (ap (λ (i : ℕ). eqb i 0) (p.short (leb-false 10288 (length new.buffer) e)).0))

  new-empty : (st : Stores) → view_node st (node_at h) ≡ held.empty_node me incarnation
  new-empty st = new_image.leaves.read st

  new-lent : (st : Stores) → lent_node st (node_at h) ≡ true
  new-lent st = sym (formed-lent (node_at h) st) ∙ new_image.formed

-- a map shown that was refused, or had no room for the workers, does not answer 0
unshown : (z : show.ShownAnswer) (s p a : List ℕ) (l : List show.Worker) (n : Node) → (is_shown (shown_word z) and rows_room worker_bytes 54 p a l) ≡ false
    → eqb (show_said (shown_word z) s p a l n).number 0 ≡ false
unfolding ◌and◌
unshown (show.shown ws) s p a l n e = rw e refl
unshown (show.shown_refused r) s p a l n e = (refusal_number r).zero

module _ (h t m p q a b : List ℕ) (fresh : ℕ) (d : Shows h t m p q a b fresh 0) (st : Stores) where
  written : (g : ShowsImage h t m p q a b fresh 0) → show_writes p a g.after ≡ true
  written g =
      let x = g.after in
      let z = (shown_call h m fresh st).answer in
      let l = view_starts (take x.count x.starts) in
      let word : x.answer ≡ shown_word z = ap (λ (u : ShownAnswered). u.answer) (g.call.same st) in
      by_case (show_writes p a x) (λ e. e)
      (λ e.
      not_both (eqb 0 0) refl
      (ap (λ (u : Left). eqb u.number 0) g.buffers
      ∙ ap (λ (w : ShownAnswer). eqb (show_said w h p a l x.node).number 0) word
      ∙ unshown z h p a l x.node (ap (λ (w : ShownAnswer). is_shown w and rows_room worker_bytes 54 p a l) (sym word) ∙ e)))

  -- the header is read as the definition's node after it
  shown_state : view_node st (node_at t) ≡ (shown_call h m fresh st).after
  shown_state =
      calls.asked false (header_lent h and map_lent m) 0 d
      (λ why number e. not_both (eqb 0 0) refl (ap (λ (i : ℕ). eqb i 0) number ∙ (refusal_number why).zero))
      (λ g. (g.leaves (written g)).read st)

module _ (d : Cluster) (b : Begun d) where
  abbrev m : Map
  m = view_map (map_at d.map)

  abbrev own : (me : ℕ) (r : Replica) (place : ℕ) → nth b.shard.replicas place ≡ some r → r.node.0 ≡ me → b.incarnation me ≡ r.incarnation
  own me r place at same = subst (λ (k : ℕ). b.incarnation k ≡ r.incarnation) same (b.listed r place at)

  holder : (n : ℕ) → holds n b.shard.replicas ≡ true → Shown m b.shard n (state_at (d.headers n) (d.stores n))
  unfolding call_shown
  holder n h =
      let f = b.holders n h in
      let k = b.incarnation n in
      let st = stores_in (d.stores n) in
      let v = held.empty_node n k in
      let tests : (lent_node st (node_at f.header) and well_formed_lent (map_at d.map)) ≡ (well_formed_header v and well_formed_map m) =
      rw (new-lent f.header n k f.new st, b.tested, map-well (map_at d.map) b.tested)
      (unfold well_formed_header in unfold rising in unfold every in unfold ◌and◌ in refl) in
      subst (Shown m b.shard n)
      (sym (shown_state f.header (d.headers n) d.map f.starts f.started f.answer f.answered f.fresh f.shown st
      ∙ ap (λ (x : held.Node). (shown_with (lent_node st (node_at f.header) and well_formed_lent (map_at d.map)) x f.fresh m).after)
      (new-empty f.header n k f.new st)
      ∙ ap (λ (t : Bool). (shown_with t v f.fresh m).after) tests))
      (shown_holder m b.shard b.created n k f.fresh h (own n))

  other : (n : ℕ) → holds n b.shard.replicas ≡ false → Shown m b.shard n (state_at (d.headers n) (d.stores n))
  other n h =
      let k = b.incarnation n in
      subst (Shown m b.shard n) (sym (new-empty (d.headers n) (b.id n) k (b.others n h) (stores_in (d.stores n))))
      (shown-other m b.shard b.created n (held.empty_node (b.id n) k) h (b.apart n h) refl)

  pub begun_fresh : Fresh (seen d)
  unfolding seen
  begun_fresh = record {
    shard = b.shard;
    created = b.created;
    shown = λ n. by_case (holds n b.shard.replicas) (holder n) (other n);
    clients = b.clients;
    requests = b.requests;
    replies = b.replies;
    offers = b.offers;
    outcomes = b.outcomes;
    accepted = b.accepted;
    acknowledged = b.acknowledged;
  }
