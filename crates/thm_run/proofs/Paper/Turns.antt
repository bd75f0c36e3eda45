-- The proposals that a node has made, those of them that are under way, and what the map remembers of them: a proposal under way has a turn
-- that none other has, and the map remembers no turn that is under way. So a proposal's seq is never the remembered one. Assumes nothing.
use Prim.Native.Nat.{ℕ, zero, suc, ◌+◌, ◌-◌, ◌≤◌, ◌<◌}
use native.Mathlib.Omega.{arith}
use mathlib.Core.Path.{◌≡◌, refl, sym, ap, subst, ◌∙◌}
use mathlib.Core.Bool.{Bool, true, false}
use mathlib.Core.Logic.{◌⊎◌, inl, inr}
use mathlib.Core.List.{List, [], ◌∷◌, ◌++◌, map}
use mathlib.Core.Option.{some}
use lib.Dec.{eqb, ltb}
use borrow.Author.Tests.{eqb-true, eqb-false, ltb-true, ltb-false}
use Rattle.spec.specs.Lists.{nth}
use Rattle.spec.specs.Map.Tables.{Session}
use Rattle.spec.specs.Map.Apply.{session_at}
use Rattle.spec_laws.proofs.Lists.{by-test, nth-nil, some_same}
use Rattle.spec_run.specs.State.{Offer, at}
use Rattle.spec_run.specs.Step.{removed}
use Rattle.spec_run.specs.Paper.{proposer, another, Turn, Commanded, Seqs, Rising, proposing, without}
use Rattle.thm_run.proofs.Protocol.Base.{All, all_map, all_snoc, all-nth, remove_at}
use Rattle.thm_run.proofs.Simulation.Lists.{all-removed, removed-map}

-- ---- finite maps

pub at_same {ℓ} : {A : Type ℓ} (f : ℕ → A) (n : ℕ) (x : A) → at f n x n ≡ x
unfolding at
at_same f n x = by-test (λ v. v ≡ x) (eqb n n) (λ e. refl) (λ e. absurd (eqb-false n n e refl))

pub at_other {ℓ} : {A : Type ℓ} (f : ℕ → A) (n : ℕ) (x : A) (m : ℕ) → (m ≡ n → ⊥) → at f n x m ≡ f m
unfolding at
at_other f n x m ne = by-test (λ v. v ≡ f m) (eqb m n) (λ e. absurd (ne (eqb-true m n e))) (λ e. refl)

-- a count that rises at one place falls at none
at-rises : (f : ℕ → ℕ) (n m : ℕ) → f m ≤ at f n (suc (f n)) m
unfolding at
at-rises f n m =
    by-test (λ v. f m ≤ v) (eqb m n) (λ e. let q : f m ≡ f n = ap f (eqb-true m n e) in omega arith) (λ e. omega arith)

-- ---- turns

-- the turn is another one
abbrev pub Differs : (node turn : ℕ) → Turn → Type 0
Differs n k u = u.node ≡ n → u.turn ≡ k → ⊥

abbrev pub Apart : List Turn → Type 0
Apart [] = Unit {0}
Apart (t ∷ ts) = All (Differs t.node t.turn) ts × Apart ts

apart_snoc : (ts : List Turn) (t : Turn) → Apart ts → All (Differs t.node t.turn) ts → Apart (ts ++ (t ∷ []))
apart_snoc [] t a d = (tt, tt)
apart_snoc (u ∷ us) t a d =
    (all_snoc (Differs u.node u.turn) us t a.0 (λ p q. d.0 (sym p) (sym q)), apart_snoc us t a.1 d.1)

apart-removed : (ts : List Turn) (i : ℕ) → Apart ts → Apart (removed ts i)
unfolding removed
apart-removed [] i a = tt
apart-removed (t ∷ ts) zero a = a.1
apart-removed (t ∷ ts) (suc i) a = (all-removed (Differs t.node t.turn) ts i a.0, apart-removed ts i a.1)

-- the one that is taken away is gone
pub taken-gone : (ts : List Turn) (i : ℕ) (t : Turn) → Apart ts → nth ts i ≡ some t → All (Differs t.node t.turn) (removed ts i)
unfolding removed nth
taken-gone [] i t a e = nth-nil i t e
taken-gone (u ∷ us) zero t a e = subst (λ (v : Turn). All (Differs v.node v.turn) us) (some_same e) a.0
taken-gone (u ∷ us) (suc i) t a e =
    let d = all-nth (Differs u.node u.turn) us i t a.0 e in
    ((λ p q. d (sym p) (sym q)), taken-gone us i t a.1 e)

abbrev pub offer_node : Offer → ℕ
offer_node o = o.node

abbrev pub turn_node : Turn → ℕ
turn_node t = t.node

-- the turns stand in the places of the proposals under way, below what their nodes have made, and differ
pub record Counted (os : List Offer) (c : Commanded) : Type 0 where
  pub beside : map offer_node os ≡ map turn_node c.turns
  pub below : All (λ (t : Turn). t.turn < c.proposed t.node) c.turns
  pub apart : Apart c.turns

-- ---- what the map remembers

module _ (q : Seqs) where
  -- of a node: the seq of a turn that it has had, and that is under way no more
  pub record OfNode (c : Commanded) (client : ℕ) (x : Session) : Type 0 where
    pub node : ℕ
    pub turn : ℕ
    pub sender : c.senders client ≡ some (proposer node)
    pub seq : x.seq ≡ q node turn
    pub had : turn < c.proposed node
    pub gone : All (Differs node turn) c.turns

  abbrev pub Origin : Commanded → ℕ → Session → Type 0
  Origin c client x = (c.senders client ≡ some another) ⊎ OfNode c client x

  abbrev pub Known : List Session → Commanded → Type 0
  Known ss c = (client : ℕ) (x : Session) → session_at ss client ≡ some x → Origin c client x

  -- ---- proposals that are made

  module _ (c : Commanded) (o : Offer) where
    abbrev k : ℕ
    k = c.proposed o.node

    abbrev new : Turn
    new = record { node = o.node; turn = k }

    abbrev next : Commanded
    next = record {
      index = c.index;
      senders = c.senders;
      proposed = at c.proposed o.node (suc k);
      turns = c.turns ++ (new ∷ []);
    }

    grows : (n : ℕ) → c.proposed n ≤ next.proposed n
    grows n = at-rises c.proposed o.node n

    one-counted : (os : List Offer) → Counted os c → Counted (os ++ (o ∷ [])) next
    one-counted os h = record {
      beside = map_snoc offer_node os o ∙ ap (λ (l : List ℕ). l ++ (o.node ∷ [])) h.beside ∙ sym (map_snoc turn_node c.turns new);
      below =
          all_snoc (λ (t : Turn). t.turn < next.proposed t.node) c.turns new
          (all_map {P = λ (t : Turn). t.turn < c.proposed t.node} {Q = λ (t : Turn). t.turn < next.proposed t.node}
          (λ t p. let g = grows t.node in omega arith) c.turns h.below)
          (let e = at_same c.proposed o.node (suc k) in omega arith);
      apart =
          apart_snoc c.turns new h.apart
          (all_map {P = λ (t : Turn). t.turn < c.proposed t.node} {Q = Differs o.node k}
          (λ (t : Turn) p e f. let g : c.proposed t.node ≡ k = ap c.proposed e in absurd (omega arith)) c.turns h.below);
    }
      where
        map_snoc : {A : Type 0} (f : A → ℕ) (l : List A) (x : A) → map f (l ++ (x ∷ [])) ≡ map f l ++ (f x ∷ [])
        map_snoc f [] x = refl
        map_snoc f (y ∷ ys) x = ap (λ (r : List ℕ). f y ∷ r) (map_snoc f ys x)

    one_known : (ss : List Session) → Known ss c → Known ss next
    one_known ss h client x e = go (h client x e)
      where
        go : Origin c client x → Origin next client x
        go (inl a) = inl a
        go (inr m) =
            inr (record {
              node = m.node;
              turn = m.turn;
              sender = m.sender;
              seq = m.seq;
              had = let g = grows m.node in let p = m.had in omega arith;
              gone =
                  all_snoc (Differs m.node m.turn) c.turns new m.gone
                  (λ n f. let g : c.proposed m.node ≡ k = ap c.proposed (sym n) in let p = m.had in absurd (omega arith));
            })

  pub made_counted : (os new : List Offer) (c : Commanded) → Counted os c → Counted (os ++ new) (proposing c new)
  unfolding proposing
  made_counted os [] c h = subst (λ (l : List Offer). Counted l c) (sym (append-none os)) h
    where
      append-none : (l : List Offer) → l ++ [] ≡ l
      append-none [] = refl
      append-none (x ∷ xs) = ap (λ (r : List Offer). x ∷ r) (append-none xs)
  made_counted os (o ∷ new) c h =
      subst (λ (l : List Offer). Counted l (proposing (next c o) new)) (append-one os) (made_counted (os ++ (o ∷ [])) new (next c o) (one-counted c o os h))
    where
      append-one : (l : List Offer) → (l ++ (o ∷ [])) ++ new ≡ l ++ (o ∷ new)
      append-one [] = refl
      append-one (x ∷ xs) = ap (λ (r : List Offer). x ∷ r) (append-one xs)

  pub made-known : (ss : List Session) (new : List Offer) (c : Commanded) → Known ss c → Known ss (proposing c new)
  unfolding proposing
  made-known ss [] c h = h
  made-known ss (o ∷ new) c h = made-known ss new (next c o) (one_known c o ss h)

  -- ---- a proposal that is under way no more

  pub gone-counted : (os : List Offer) (c : Commanded) (i : ℕ) → Counted os c → Counted (removed os i) (without c i)
  gone-counted os c i h = record {
    beside =
        removed-map offer_node os i ∙ ap (λ (l : List ℕ). remove_at l i) h.beside ∙ sym (removed-map turn_node c.turns i);
    below = all-removed (λ (t : Turn). t.turn < c.proposed t.node) c.turns i h.below;
    apart = apart-removed c.turns i h.apart;
  }

  pub without_of_node : (c : Commanded) (i client : ℕ) (x : Session) → OfNode c client x → OfNode (without c i) client x
  without_of_node c i client x m = record {
    node = m.node;
    turn = m.turn;
    sender = m.sender;
    seq = m.seq;
    had = m.had;
    gone = all-removed (Differs m.node m.turn) c.turns i m.gone;
  }

  pub gone-known : (ss : List Session) (c : Commanded) (i : ℕ) → Known ss c → Known ss (without c i)
  gone-known ss c i h client x e = go (h client x e)
    where
      go : Origin c client x → Origin (without c i) client x
      go (inl a) = inl a
      go (inr m) = inr (without_of_node c i client x m)

  -- ---- rising seqs differ

  module _ (rising : Rising q) (n : ℕ) where
    up : (a d : ℕ) → q n a < q n (suc (a + d))
    up a zero = let e : suc (a + 0) ≡ suc a = omega arith in subst (λ (z : ℕ). q n a < q n z) (sym e) (rising n a)
    up a (suc d) =
        let e : suc (a + suc d) ≡ suc (suc (a + d)) = omega arith in
        let p = up a d in
        let r = rising n (suc (a + d)) in
        subst (λ (z : ℕ). q n a < q n z) (sym e) (omega arith)

    pub seqs_differ : (a b : ℕ) → (a ≡ b → ⊥) → q n a ≡ q n b → ⊥
    seqs_differ a b ne e = go (ltb a b) refl
      where
        go : (t : Bool) → ltb a b ≡ t → ⊥
        go true t =
            let l = ltb-true a b t in
            let p : suc (a + (b - suc a)) ≡ b = omega arith in
            let u : q n a < q n b = subst (λ (z : ℕ). q n a < q n z) p (up a (b - suc a)) in
            omega arith
        go false t =
            let l : b < a = let g = ltb-false a b t in omega arith in
            let p : suc (b + (a - suc b)) ≡ a = omega arith in
            let u : q n b < q n a = subst (λ (z : ℕ). q n b < q n z) p (up b (a - suc b)) in
            omega arith
