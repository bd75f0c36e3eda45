-- The invariant after a request is heard: a batch is stored, an alignment adopted, or the answer is stale. Assumes nothing.
use Prim.Native.Nat.{ℕ, zero, suc, ◌+◌, ◌≤◌, ◌<◌, min, max}
use mathlib.Core.Path.{◌≡◌, refl, sym, ap, ◌∙◌, subst}
use mathlib.Core.Bool.{Bool, true, false, cond}
use mathlib.Core.List.{List, [], ◌∷◌, ◌++◌}
use mathlib.Core.Option.{Option, none, some}
use native.Mathlib.Omega.{arith}
use lib.Dec.{eqb, leb, ltb}
use lib.ListN.{length, length-append}
use borrow.Author.Tests.{eqb-true, eqb-false, eq-eqb, ne_eqb, leb-true, leb-false, le-leb, lt-leb, ltb-true, ltb-false}
use Rattle.spec.specs.Lists.{◌and◌, ◌or◌, nth, every}
use Rattle.spec.specs.Log.{Op, Entry, Log, End, entry_at, epoch_ends, keep, ShardReplica, append, push, cut_to, store_all, promote, entries_from, Vectors, play}
use Rattle.spec_laws.proofs.Lists.{by-test, not_both, and_left, and_right, none_some, some_same, nth-nil, nth-same, nth_lt, lt_nth, nth_last, nth_snoc, Within, within-length, within-append}
use Rattle.spec_laws.proofs.Log.Numbered.{Numbered, numbered_snoc, numbered_within}
use Rattle.spec_laws.proofs.Log.Play.{InStep}
use Rattle.thm_run.proofs.Protocol.Base.{All, all_map, all_snoc, all-nth, all_remove, nth-all, upd, upd-all, upd_same, upd_other, upd-keeps, same_or, upd2, upd2-all, upd2-same, upd2-other, at_pair, remove_at, count, count_snoc, count_remove, count_none}
use Rattle.thm_run.proofs.Protocol.Sets.{member, without, In, in_cons, in_head, of_cons, not_nil, of_without, in_without, not_without, every_in}
use Rattle.thm_run.proofs.Protocol.State.{Map, Lead, Role, backup, lead, Node, Request, align, send, Answer, adopts, stores, stale_align, stale_send, Reply, Proposal, Outcome, Accepted, Acknowledged, State, set_map, set_node, set_requests, add_reply, set_proposals, set_outcomes, add_accepted, add_acknowledged}
use Rattle.thm_run.proofs.Protocol.Ghost.{History, Agree}
use Rattle.thm_run.proofs.Protocol.Inv.{BookOk, LeadOk, RoleOk, NodeAt, NodeOk, Leading, MapOk, At, RequestOk, AnswerOk, ReplyOk, ProposalOk, OutcomeOk, Stands, AcceptedOk, AcknowledgedOk, WayOk, expands, shrinks, tokens, TokenOk, TokensOk, Took, CoverOk, Clauses}
use Rattle.thm_run.proofs.Protocol.Frame.{is-lead, not_lead, lead-same, at-within, agree_sym, agree_trans, agree_grow, agree_in, Grown, still, request-grown, reply-grown, proposal_grown, way_grown, role_more, cover_same, rerole}
use Rattle.spec_laws.proofs.Log.Keep.{kept_prefix, keep-within}
use Rattle.spec_laws.proofs.Log.Store.{store_all_epoch, store_all_holds, store_all_within}
use Rattle.spec_laws.proofs.Log.Play.{in_step_cut, in_step_store_all}
use Rattle.thm_run.proofs.Protocol.State.{with_role, leads_from, replied, adopting, storing, hear_one, hear_as, on_hear}
use Rattle.thm_run.proofs.Protocol.OnReply.{rerole_only}
use Rattle.thm_run.proofs.Protocol.OnPropose.{lead_of}
use Rattle.thm_run.proofs.Protocol.OnSend.{add_reply_lem}
use Rattle.thm_run.proofs.Protocol.Grow as grow
use Rattle.thm_run.proofs.Protocol.OnAdopt as adopt

-- a node that is not the primary of its epoch gets more of that epoch's log, and answers with its length
module _ (h : History) (s : State) (k : Clauses h s) (a p : ℕ) (r : Role) (x : ShardReplica) where
  abbrev E : ℕ
  E = (s.nodes p).replica.epoch

  abbrev pub longer-history : History
  longer-history = grow.new h s k p r x (h.book E)

  pub fuller : (s.nodes p).role ≡ r → x.epoch ≡ E → Within (s.nodes p).replica.log x.log → InStep x → Within x.log (h.book E) → (h.pr E ≡ p → ⊥)
      → Clauses longer-history (set_node s p (record { replica = x; role = r }))
  fuller is same-epoch longer played within other =
      grow.grows h s k p r x (h.book E) is same-epoch longer played (λ i y q. q) within (λ q. absurd (other q)) (λ _. refl)
      (λ q. ap h.book q ∙ k.book.blank) (k.book.numbered E) (k.book.below E)
      (λ i y q. upd-all (λ d v. Within (h.book d) v) {f = h.book} {n = E} {x = h.book E} (λ i y q. q) (λ d ne i y q. q) y.epoch i y (k.book.own E i y q))

  epoch_here : x.epoch ≡ E → (upd s.nodes p (record { replica = x; role = r }) p).replica.epoch ≡ E
  epoch_here q = ap (λ (z : Node). z.replica.epoch) (upd_same s.nodes p (record { replica = x; role = r })) ∙ q

  -- with the answer, which tells its length
  pub answered : Clauses longer-history (set_node s p (record { replica = x; role = r })) → x.epoch ≡ E → (e : ℕ) → e ≡ E → (v : Answer)
      → AnswerOk (length x.log) e e s.map.epoch v → Clauses longer-history (replied (set_node s p (record { replica = x; role = r })) a p e v)
  unfolding set_node replied
  answered c q e same v ok =
      let count : length x.log ≡ longer-history.held e p =
      sym (upd2-same h.held E p (length x.log)) ∙ ap (λ (d : ℕ). longer-history.held d p) (sym same) in
      add_reply_lem longer-history (set_node s p (record { replica = x; role = r })) c (record { node = a; peer = p; epoch = e; answer = v })
      (subst (λ (d : ℕ). AnswerOk (longer-history.held e p) e d s.map.epoch v) (same ∙ sym (epoch_here q))
      (subst (λ (d : ℕ). AnswerOk d e e s.map.epoch v) count ok))

-- a batch at the own epoch
module _ (h : History) (s : State) (k : Clauses h s) (a p e : ℕ) (es : Log) (ok : RequestOk h.pr h.st h.book h.start a p (send e es))
    (same : e ≡ (s.nodes p).replica.epoch) where
  abbrev x : ShardReplica
  x = store_all (s.nodes p).replica e es

  stored : Clauses (longer-history h s k a p (s.nodes p).role x) (replied (set_node s p (storing (s.nodes p) e es)) a p e (stores (length x.log)))
  unfolding storing
  stored =
      answered h s k a p (s.nodes p).role x
      (fuller h s k a p (s.nodes p).role x refl (store_all_epoch e (s.nodes p).replica es) (store_all_holds e (s.nodes p).replica es)
      (in_step_store_all (s.nodes p).replica e es (k.nodes p).played)
      (store_all_within e (h.book (s.nodes p).replica.epoch) (s.nodes p).replica es (k.nodes p).within
      (λ i y q. subst (λ (d : ℕ). At (h.book d) y) same (all-nth (At (h.book e)) es i y ok.entries q)))
      (λ q. ok.other (sym ok.owner ∙ ap h.pr same ∙ q)))
      (store_all_epoch e (s.nodes p).replica es) e same (stores (length x.log)) (omega arith, omega arith)

-- an alignment at the own epoch: the whole log stays
module _ (h : History) (s : State) (k : Clauses h s) (a p e end : ℕ) (t : List End) (ok : RequestOk h.pr h.st h.book h.start a p (align e end t))
    (same : e ≡ (s.nodes p).replica.epoch) (led : leads_from (s.nodes p).role e ≡ false) where
  uncut : Clauses h (replied (set_node s p (with_role (s.nodes p) backup)) a p e (adopts (length (s.nodes p).replica.log)))
  unfolding replied set_node with_role
  uncut =
      add_reply_lem h (set_node s p (with_role (s.nodes p) backup))
      (rerole_only h s k p backup tt (λ st w. not_both (leads_from (s.nodes p).role e) (leads st w) led) tt)
      (record { node = a; peer = p; epoch = e; answer = adopts (length (s.nodes p).replica.log) }) (
        omega (arith, (ap (λ (d : ℕ). h.held d p) same ∙ (k.nodes p).here)),
        omega (arith, same, (ap (λ (z : Node). z.replica.epoch) (upd_same s.nodes p (with_role (s.nodes p) backup)))),
      )
    where
      -- were it the map's primary, it would lead at the map's epoch, and have turned the alignment down
      leads : h.st s.map.epoch ≡ true → s.map.primary ≡ p → leads_from (s.nodes p).role e ≡ true
      leads st w =
          let f = k.map.now st in
          let low = k.book.range (s.nodes p).replica.epoch (k.nodes p).begun in
          ap (λ (r : Role). leads_from r e) (ap (λ (m : ℕ). (s.nodes m).role) (sym w) ∙ f.1)
          ∙ (unfold leads_from in le-leb e f.0.epoch (omega (arith, f.2, same, low)))

-- an alignment of a later epoch
module _ (h : History) (s : State) (k : Clauses h s) (a p e end : ℕ) (t : List End) (ok : RequestOk h.pr h.st h.book h.start a p (align e end t))
    (later : (s.nodes p).replica.epoch < e) where
  adopted_later : Clauses (adopt.new h s k a p e end t ok later)
      (replied (set_node s p (adopting (s.nodes p) e end t)) a p e (adopts (length (cut_to (s.nodes p).replica e end t).log)))
  unfolding replied set_node adopting cut_to
  adopted_later =
      add_reply_lem (adopt.new h s k a p e end t ok later) (set_node s p (adopting (s.nodes p) e end t)) (adopt.adopts_ok h s k a p e end t ok later)
      (record { node = a; peer = p; epoch = e; answer = adopts (length (keep end t (s.nodes p).replica.log)) }) (
        omega (arith, upd2-same h.held e p (length (keep end t (s.nodes p).replica.log))),
        omega (arith, (ap (λ (z : Node). z.replica.epoch) (upd_same s.nodes p (adopting (s.nodes p) e end t)))),
      )

-- a stale answer tells an epoch that the map has given
stale : (h : History) (s : State) → Clauses h s → (a p e : ℕ) (v : Answer) → ((held own : ℕ) → AnswerOk held e own s.map.epoch v) → Clauses h (replied s a p e v)
unfolding replied
stale h s k a p e v f = add_reply_lem h s k (record { node = a; peer = p; epoch = e; answer = v }) (f (h.held e p) (s.nodes p).replica.epoch)

pub on_hear_lem : (h : History) (s : State) → Clauses h s → (a p i : ℕ) → (h' : History) × (h'.start ≡ h.start) × Clauses h' (on_hear s a p i)
unfolding on_hear hear_as hear_one
on_hear_lem h s k a p i = go (nth (s.requests a p) i) refl
  where
    le_top : (s.nodes p).replica.epoch ≤ s.map.epoch
    le_top = k.book.range (s.nodes p).replica.epoch (k.nodes p).begun

    After : State → Type 0
    After v = (h' : History) × (h'.start ≡ h.start) × Clauses h' v

    go : (o : Option Request) → nth (s.requests a p) i ≡ o → After (hear_as s a p o)
    go none q = (h, refl, k)
    go (some (align e end t)) q =
        let ok = all-nth (RequestOk h.pr h.st h.book h.start a p) (s.requests a p) i (align e end t) (k.way.requests a p) q in
        let old = stale h s k a p e (stale_align (s.nodes p).replica.epoch) (λ held own. le_top) in
        by-test After (leads_from (s.nodes p).role e) (λ u. (h, refl, old))
        (λ u. by-test After (ltb e (s.nodes p).replica.epoch) (λ y. (h, refl, old))
        (λ y. by-test After (eqb e (s.nodes p).replica.epoch)
        (λ z. (h, refl, uncut h s k a p e end t ok (eqb-true e (s.nodes p).replica.epoch z) u))
        (λ z. let le = ltb-false e (s.nodes p).replica.epoch y in
        let lt : (s.nodes p).replica.epoch < e = omega (arith, eqb-false e (s.nodes p).replica.epoch z) in
        (adopt.new h s k a p e end t ok lt, refl, adopted_later h s k a p e end t ok lt))))
    go (some (send e es)) q =
        let ok = all-nth (RequestOk h.pr h.st h.book h.start a p) (s.requests a p) i (send e es) (k.way.requests a p) q in
        by-test After (eqb e (s.nodes p).replica.epoch)
        (λ u. let same = eqb-true e (s.nodes p).replica.epoch u in
        (longer-history h s k a p (s.nodes p).role (store_all (s.nodes p).replica e es), refl, stored h s k a p e es ok same))
        (λ u. (h, refl, stale h s k a p e (stale_send (s.nodes p).replica.epoch) (λ held own. le_top)))
