-- What a history of the paper and the state beside it keep through commands and proposals: Turns.antt's account of them. Assumes nothing.
use Prim.Native.Nat.{ℕ, zero, suc, ◌<◌}
use mathlib.Core.Path.{◌≡◌, refl, sym, ap, subst, ◌∙◌}
use mathlib.Core.Bool.{true, not}
use mathlib.Core.Logic.{◌⊎◌, inl, inr}
use mathlib.Core.List.{List, [], ◌∷◌, ◌++◌, map}
use mathlib.Core.Option.{Option, none, some}
use lib.ListN.{length, drop}
use lib.Seq.{drop-append_seam}
use borrow.Author.Tests.{eqb-true, ne_eqb}
use Rattle.spec.specs.Lists.{nth}
use Rattle.spec.specs.Map.Tables.{Map, Session}
use Rattle.spec.specs.Map.Apply.{session_at}
use Rattle.spec.specs.Map.Calls.{apply_call}
use Rattle.spec.specs.Layout.Request.{Request}
use Rattle.spec_laws.proofs.Lists.{not_both, some_same, nth-nil}
use Rattle.spec_run.specs.State.{State, Offer, at}
use Rattle.spec_run.specs.Step.{removed, replaced}
use Rattle.spec_run.specs.Rules.{not_last}
use Rattle.spec_run.specs.Paper.{Sender, proposer, another, Turn, Commanded, Seqs, Rising, sent_by, proposing, without, own_of}
use Rattle.thm_run.proofs.Protocol.Base.{All, all-nth, same_or}
use Rattle.thm_run.proofs.Simulation.Lists.{nth-map, all-removed}
use Rattle.thm_run.proofs.Paper.Sessions.{other_client, own_client}
use Rattle.thm_run.proofs.Paper.Turns.{at_same, at_other, Differs, Counted, offer_node, turn_node, OfNode, Origin, Known, taken-gone, made_counted, made-known, gone-counted, gone-known, seqs_differ}

module _ (q : Seqs) where
  -- of the sessions, the proposals under way and the commands so far
  pub record Inv (ss : List Session) (os : List Offer) (c : Commanded) : Type 0 where
    pub counted : Counted os c
    pub known : Known q ss c

  -- the proposal at a place is its turn's
  turn_node_lem : (os : List Offer) (c : Commanded) → Counted os c → (i : ℕ) (o : Offer) (t : Turn) → nth os i ≡ some o → nth c.turns i ≡ some t
      → t.node ≡ o.node
  turn_node_lem os c h i o t e f =
      some_same (sym (nth-map turn_node c.turns i t f) ∙ ap (λ (l : List ℕ). nth l i) (sym h.beside) ∙ nth-map offer_node os i o e)

  -- what is remembered under a client number that is the node's own is the node's
  own_origin : (c : Commanded) (n client : ℕ) (x : Session) → own_of n (c.senders client) ≡ true → Origin q c client x
      → (m : OfNode q c client x) × (m.node ≡ n)
  own_origin c n client x r (inl a) = not_both (own_of n (c.senders client)) r (ap (own_of n) a)
  own_origin c n client x r (inr m) = (m, eqb-true m.node n (sym (ap (own_of n) m.sender) ∙ r))

  -- ---- a proposal's seq is not the remembered one

  pub unused : Rising q → (ss : List Session) (os : List Offer) (c : Commanded) → Counted os c → Known q ss c
      → (i client : ℕ) (o : Offer) (t : Turn) → nth os i ≡ some o → nth c.turns i ≡ some t → own_of o.node (c.senders client) ≡ true
      → not_last (session_at ss client) (q o.node t.turn) ≡ true
  unused rising ss os c h k i client o t e f own = go (session_at ss client) refl
    where
      go : (x : Option Session) → session_at ss client ≡ x → not_last x (q o.node t.turn) ≡ true
      go none z = refl
      go (some x) z =
          let m = own_origin c o.node client x own (k client x z) in
          let u : x.seq ≡ q o.node m.0.turn = m.0.seq ∙ ap (λ (n : ℕ). q n m.0.turn) m.1 in
          let d = all-nth (Differs m.0.node m.0.turn) c.turns i t m.0.gone f in
          let ne = d (turn_node_lem os c h i o t e f ∙ sym m.1) in
          ap not
          (ne_eqb x.seq (q o.node t.turn)
          (λ w. seqs_differ q rising o.node t.turn m.0.turn ne (sym w ∙ u)))

  -- ---- who sends

  other_sender : (c : Commanded) (index client : ℕ) (y : Sender) (k : ℕ) (x : Session) → (k ≡ client → ⊥) → Origin q c k x
      → Origin q (sent_by c index client y) k x
  other_sender c index client y k x ne (inl a) = inl (at_other c.senders client (some y) k ne ∙ a)
  other_sender c index client y k x ne (inr m) =
      inr (record {
        node = m.node;
        turn = m.turn;
        sender = at_other c.senders client (some y) k ne ∙ m.sender;
        seq = m.seq;
        had = m.had;
        gone = m.gone;
      })

  -- Promote, under a client number that is no node's from now on
  pub promoted-known : (m : Map) (r : Request) (c : Commanded) → Known q m.sessions c
      → Known q (apply_call m r).map.sessions (sent_by c r.index r.client another)
  promoted-known m r c h k x e =
      same_or (Origin q (sent_by c r.index r.client another) k x) k r.client
      (λ p. inl (ap (at c.senders r.client (some another)) p ∙ at_same c.senders r.client (some another)))
      (λ ne. other_sender c r.index r.client another k x ne (h k x (sym (other_client m r k ne) ∙ e)))

  -- a proposal that the map takes
  module _ (m : Map) (r : Request) (os : List Offer) (c : Commanded) (h : Counted os c) (known : Known q m.sessions c)
      (i : ℕ) (o : Offer) (t : Turn) (e : nth os i ≡ some o) (f : nth c.turns i ≡ some t)
      (own : own_of o.node (c.senders r.client) ≡ true) (seq : r.seq ≡ q o.node t.turn) where
    abbrev after : Commanded
    after = sent_by (without c i) r.index r.client (proposer o.node)

    mine : after.senders r.client ≡ some (proposer o.node)
    mine = at_same c.senders r.client (some (proposer o.node))

    -- what was remembered of the node before
    before : (x : Session) → session_at m.sessions r.client ≡ some x → OfNode q after r.client x
    before x z =
        let w = own_origin c o.node r.client x own (known r.client x z) in
        let n = w.0 in
        record {
          node = o.node;
          turn = n.turn;
          sender = mine;
          seq = n.seq ∙ ap (λ (k : ℕ). q k n.turn) w.1;
          had = subst (λ (k : ℕ). n.turn < c.proposed k) w.1 n.had;
          gone =
              subst (λ (k : ℕ). All (Differs k n.turn) (removed c.turns i)) w.1
              (all-removed (Differs n.node n.turn) c.turns i n.gone);
        }

    -- what it remembers of it now
    now : (x : Session) → x.seq ≡ r.seq → OfNode q after r.client x
    now x z =
        let w = turn_node_lem os c h i o t e f in
        record {
          node = o.node;
          turn = t.turn;
          sender = mine;
          seq = z ∙ seq;
          had = subst (λ (k : ℕ). t.turn < c.proposed k) w (all-nth (λ (u : Turn). u.turn < c.proposed u.node) c.turns i t h.below f);
          gone = subst (λ (k : ℕ). All (Differs k t.turn) (removed c.turns i)) w (taken-gone c.turns i t h.apart f);
        }

    pub taken-known : Known q (apply_call m r).map.sessions after
    taken-known k x z =
        same_or (Origin q after k x) k r.client
        (λ p.
        subst (λ (j : ℕ). Origin q after j x) (sym p)
        (go (own_client m r x (subst (λ (j : ℕ). session_at (apply_call m r).map.sessions j ≡ some x) p z))))
        (λ ne.
        other_sender (without c i) r.index r.client (proposer o.node) k x ne
        (gone-known q m.sessions c i known k x (sym (other_client m r k ne) ∙ z)))
      where
        go : (session_at m.sessions r.client ≡ some x) ⊎ (x.seq ≡ r.seq) → Origin q after r.client x
        go (inl a) = inr (before x a)
        go (inr a) = inr (now x a)

    pub taken-counted : Counted (removed os i) after
    taken-counted = let g = gone-counted q os c i h in record { beside = g.beside; below = g.below; apart = g.apart }

  -- ---- a state that differs in nothing of this

  pub quiet : (s s' : State) (c : Commanded) → s'.map ≡ s.map → s'.offers ≡ s.offers
      → Inv s.map.sessions s.offers c → Inv s'.map.sessions s'.offers c
  quiet s s' c e f v = record {
    counted = subst (λ (l : List Offer). Counted l c) (sym f) v.counted;
    known = subst (λ (m : Map). Known q m.sessions c) (sym e) v.known;
  }

  -- proposals that an event makes
  pub makes : (s s' : State) (c : Commanded) (new : List Offer) → s'.map ≡ s.map → s'.offers ≡ s.offers ++ new
      → Inv s.map.sessions s.offers c
      → Inv s'.map.sessions s'.offers (proposing c (drop (length s.offers) s'.offers))
  makes s s' c new e f v =
      let d : drop (length s.offers) s'.offers ≡ new =
      ap (drop (length s.offers)) f ∙ drop-append_seam s.offers new in
      subst (λ (l : List Offer). Inv s'.map.sessions s'.offers (proposing c l)) (sym d)
      (record {
        counted = subst (λ (l : List Offer). Counted l (proposing c new)) (sym f) (made_counted q s.offers new c v.counted);
        known = subst (λ (m : Map). Known q m.sessions (proposing c new)) (sym e) (made-known q s.map.sessions new c v.known);
      })

  -- a proposal that is awaited no more is still its node's
  pub renamed : (os : List Offer) (c : Commanded) (i : ℕ) (o p : Offer) → nth os i ≡ some o → p.node ≡ o.node → Counted os c
      → Counted (replaced os i p) c
  unfolding replaced nth
  renamed os c i o p e n h = record { beside = same os i e ∙ h.beside; below = h.below; apart = h.apart }
    where
      same : (l : List Offer) (j : ℕ) → nth l j ≡ some o → map offer_node (replaced l j p) ≡ map offer_node l
      same [] j z = nth-nil j o z
      same (x ∷ xs) zero z = ap (λ (k : ℕ). k ∷ map offer_node xs) (n ∙ ap offer_node (sym (some_same z)))
      same (x ∷ xs) (suc j) z = ap (λ (l : List ℕ). x.node ∷ l) (same xs j z)
