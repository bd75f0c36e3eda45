-- Request 2.13, in the protocol: an aligned peer holds what it has acknowledged, a batch that follows on it is stored whole, and who has
-- acknowledged all holds the primary's log. Assumes nothing.
use Prim.Native.Nat.{ℕ, zero, suc, ◌+◌, ◌-◌, ◌≤◌, ◌<◌, min, max}
use mathlib.Core.Path.{◌≡◌, refl, sym, ap, ◌∙◌, subst}
use mathlib.Core.Bool.{Bool, true, false, cond}
use mathlib.Core.List.{List, [], ◌∷◌, ◌++◌}
use mathlib.Core.Option.{Option, none, some}
use native.Mathlib.Omega.{arith}
use lib.ListN.{length, take, drop, length-take, length-drop}
use Rattle.spec.specs.Lists.{nth}
use Rattle.spec.specs.Log.{Entry, Log, ShardReplica, store, store_all, entries_from}
use Rattle.spec.specs.Map.Change.{holds}
use Rattle.spec_laws.proofs.Lists.{not_both, Within, within-length, within_same}
use Rattle.spec_laws.proofs.Log.Numbered.{Numbered, numbered_within, from_at}
use Rattle.spec_laws.proofs.Log.Store.{store_cases, store-epoch, push-length}
use Rattle.thm_run.proofs.Protocol.Base.{upd-all, upd_same, upd_other}
use Rattle.thm_run.proofs.Protocol.State.{Lead, lead, Node, State, with_ack, with_peer}
use Rattle.thm_run.proofs.Protocol.Ghost.{History}
use Rattle.thm_run.proofs.Protocol.Inv.{Clauses}
use Rattle.thm_run.proofs.Protocol.OnPropose.{lead_of}
use Rattle.thm_run.proofs.Protocol.OnSend.{log-whole}
use Rattle.thm_run.proofs.Protocol.Reached.{ReachedOk}
use Rattle.thm_run.proofs.Protocol.Run.{Inv}
use Rattle.thm_rounds.proofs.Steady.{Scene, Steady, SteadyAt, Closed, own-a}

-- ---- entries that follow one another are all stored

abbrev pub Follows : ℕ → Log → Type 0
Follows k es = (i : ℕ) (x : Entry) → nth es i ≡ some x → x.offset ≡ suc (k + i)

store_reaches : (r : ShardReplica) (e k : ℕ) (x : Entry) → e ≡ r.epoch → x.offset ≡ suc k → k ≤ length r.log → suc k ≤ length (store r e x).replica.log
store_reaches r e k x own is le =
    store_cases (λ v. suc k ≤ length v.replica.log) r e x
    (λ p q. let n = push-length r x in omega arith) (λ p q. omega arith) (λ p q. absurd (omega arith)) (λ n. absurd (n own))

pub stored-all : (es : Log) (r : ShardReplica) (e k : ℕ) → e ≡ r.epoch → Follows k es → k ≤ length r.log → k + length es ≤ length (store_all r e es).log
unfolding store_all nth
stored-all [] r e k own f le = omega arith
stored-all (x ∷ xs) r e k own f le =
    let first : x.offset ≡ suc k = (let z = f 0 x refl in omega arith) in
    let more = stored-all xs (store r e x).replica e (suc k) (own ∙ sym (store-epoch r e x)) (λ i y q. let z = f (suc i) y q in omega arith)
    (store_reaches r e k x own first le) in
    omega arith

pub follows : (l : Log) (k n : ℕ) → Numbered l → Follows k (entries_from l (k + 1) n)
follows l k n num i x q = let z = num (max (k + 1) 1 - 1 + i) x (from_at l (k + 1) n i x q).1 in omega arith

pub many : (l : Log) (k n : ℕ) → length (entries_from l (k + 1) n) ≡ min n (length l - k)
unfolding entries_from
many l k n = let p = length-take n (drop (max (k + 1) 1 - 1) l) in let q = length-drop (max (k + 1) 1 - 1) l in omega arith

module _ (c : Scene) where
  abbrev a : ℕ
  a = c.a

  abbrev p : ℕ
  p = c.p

  -- nothing is known of the peer
  abbrev pub Some : Lead → Type 0
  Some l = Unit {0}

  pub some_closed : c.Aligning → Closed c Some
  some_closed y = record {
    ack = λ l v k. tt;
    other = λ l q t b ne k. tt;
    adopt = λ l t y k. tt;
    store = λ l t k. tt;
    loose = λ l k u. y;
  }

  -- it is aligned, and has acknowledged so many entries
  abbrev pub Far : ℕ → Lead → Type 0
  Far low l = (l.aligned p ≡ true) × (low ≤ l.acked p)

  pub far_closed : (low : ℕ) → (c.Aligning → low ≡ 0) → Closed c (Far low)
  unfolding with_ack with_peer
  far_closed low bare = record {
    ack = λ l v k. k;
    other = λ l q t b ne k. (upd_other l.aligned q b p ne ∙ k.0, rw (upd_other l.acked q t p ne) k.1);
    adopt = λ l t y k. (upd_same l.aligned p true, let z = bare y in omega arith);
    store = λ l t k. (
      upd_same l.aligned p (l.aligned p) ∙ k.0,
      subst (λ (n : ℕ). low ≤ n) (sym (upd_same l.acked p (max (l.acked p) t))) (let z = k.1 in omega arith),
    );
    loose = λ l k u. not_both (l.aligned p) k.0 u;
  }

  module _ (holder : holds p c.world.holders ≡ true) (K : Lead → Type 0) (cl : Closed c K) (s : State) (v : Inv s) (k : SteadyAt c K s) where
    abbrev h : History
    h = v.history

    abbrev l : Lead
    l = k.leads.0

    pub epoch-p : l.aligned p ≡ true → (s.nodes p).replica.epoch ≡ c.E
    epoch-p t =
        let z : ReachedOk (s.nodes p).replica.epoch p (lead l) = rw k.leads.1 at (v.reached a p) in
        omega (arith, z t, k.epochs p holder, k.leads.2)

    pub acked-p : l.aligned p ≡ true → l.acked p ≤ length (s.nodes p).replica.log
    acked-p t =
        let d = (lead_of h s v.clauses a l k.leads.1).acked p in
        let z : h.held (s.nodes a).replica.epoch p ≡ length (s.nodes p).replica.log =
        ap (λ (d : ℕ). h.held d p) (own-a c K cl s v k ∙ sym (epoch-p t)) ∙ (v.clauses.nodes p).here in
        omega (arith, d, z)

    whole : length c.log ≡ length (h.book c.E)
    whole =
        ap length (sym k.log) ∙ log-whole h s v.clauses a l k.leads.1 ∙ ap (λ (d : ℕ). length (h.book d)) (own-a c K cl s v k)

    within-p : (s.nodes p).replica.epoch ≡ c.E → Within (s.nodes p).replica.log (h.book c.E)
    within-p e = subst (λ (d : ℕ). Within (s.nodes p).replica.log (h.book d)) e (v.clauses.nodes p).within

    -- a peer at that epoch holds no more than the primary
    pub no_longer : (s.nodes p).replica.epoch ≡ c.E → length (s.nodes p).replica.log ≤ length c.log
    no_longer e = let z = within-length (s.nodes p).replica.log (h.book c.E) (within-p e) in let y = whole in omega arith

    pub numbered-a : Numbered c.log
    numbered-a =
        subst Numbered k.log
        (numbered_within (s.nodes a).replica.log (h.book (s.nodes a).replica.epoch) (v.clauses.nodes a).within
        (v.clauses.book.numbered (s.nodes a).replica.epoch))

    pub same_log : l.aligned p ≡ true → length c.log ≤ l.acked p → (s.nodes p).replica.log ≡ c.log
    same_log t le =
        let b = h.book c.E in
        let held = acked-p t in
        let y = whole in
        let u : Within (s.nodes a).replica.log b = subst (λ (d : ℕ). Within (s.nodes a).replica.log (h.book d)) (own-a c K cl s v k) (v.clauses.nodes a).within in
        let n : length (s.nodes a).replica.log ≡ length c.log = ap length k.log in
        within_same (s.nodes p).replica.log b (within-p (epoch-p t)) (omega arith) ∙ sym (within_same (s.nodes a).replica.log b u (omega arith)) ∙ k.log
