-- Laws of `apply` (paper 01, 'The shard map', 'Who is turned down'): a refusal changes nothing, a rejection only what is remembered of its
-- client, a request that is applied again repeats its answer, and who sets the version. Assumes nothing.
use mathlib.Core.Path.{◌≡◌, refl, sym, ap, ◌∙◌, subst}
use mathlib.Core.Bool.{Bool, true, false, cond}
use mathlib.Core.List.{List, [], ◌∷◌}
use mathlib.Core.Option.{Option, none, some}
use Prim.Native.Nat.{ℕ, ◌<◌, ◌≤◌}
use native.Mathlib.Omega.{arith}
use lib.ListN.{length}
use lib.Dec.{eqb, ltb}
use borrow.Author.Tests.{ltb-true, ltb-false, lt-ltb, le-ltb, eqb-true, eqb-false, eq-eqb, ne_eqb}
use Rattle.spec.specs.Limits.{max_clients}
use Rattle.spec.specs.Refusals.{Rejection, older, Refusal, no_room}
use Rattle.spec.specs.Map.Tables.{Outcome, applied, rejected, Session, Map, Answer, outcome, refused}
use Rattle.spec.specs.Map.Change.{accepts, rejects}
use Rattle.spec.specs.Map.Apply.{Applied, apply, apply_to, settle, decide, commit, remembered, session_at, is_client, session_below, sets_version}
use Rattle.spec.specs.Layout.Request.{Request, Command, create, drop_collection, register, mark_dead, add_replica, remove_replica, promote_primary, shrink_in_sync, expand_in_sync, bench}
use mathlib.Core.Logic.{◌⊎◌, inl, inr}
use Rattle.spec_laws.proofs.Lists.{by-test}
use Rattle.spec_laws.proofs.Map.Rows.{find-put, find_put_other}

-- ---- the ways through apply

module _ (m : Map) (r : Request) where
  -- 'an equal seq repeats the old outcome'
  pub equal_seq : (s : Session) → session_at m.sessions r.client ≡ some s → r.seq ≡ s.seq
      → apply m r ≡ record { answer = outcome s.outcome; map = m }
  unfolding apply apply_to
  equal_seq s e q = rw (e, le-ltb r.seq s.seq (omega arith), eq-eqb r.seq s.seq q)

  -- '1 older command (not remembered)'
  pub older_seq : (s : Session) → session_at m.sessions r.client ≡ some s → r.seq < s.seq
      → apply m r ≡ record { answer = rejects older; map = m }
  unfolding apply apply_to
  older_seq s e q = rw (e, lt-ltb r.seq s.seq q)

  -- a later command of a known client
  pub next_seq : (s : Session) → session_at m.sessions r.client ≡ some s → s.seq < r.seq
      → apply m r ≡ settle m r (decide m r.command)
  unfolding apply apply_to
  next_seq s e q = rw (e, le-ltb r.seq s.seq (omega arith), ne_eqb r.seq s.seq (λ w. omega arith))

  -- the first command of a client
  pub new_client : session_at m.sessions r.client ≡ none → length m.sessions < max_clients
      → apply m r ≡ settle m r (decide m r.command)
  unfolding apply apply_to
  new_client e q = rw (e, lt-ltb (length m.sessions) max_clients q)

  -- '23 a 65th client'
  pub full-clients : session_at m.sessions r.client ≡ none → max_clients ≤ length m.sessions
      → apply m r ≡ record { answer = refused no_room; map = m }
  unfolding apply apply_to
  full-clients e q = rw (e, le-ltb (length m.sessions) max_clients q)

  -- a property of every way: the map as it was under any answer, and a command that is settled
  pub by_way {κ} : (P : Applied → Type κ) → ((a : Answer) → P (record { answer = a; map = m })) → ((a : Answer) → P (settle m r a)) → P (apply m r)
  unfolding apply apply_to
  by_way P kept done = go (session_at m.sessions r.client)
    where
      go : (o : Option Session) → P (apply_to m r o)
      go none = by-test P (ltb (length m.sessions) max_clients) (λ q. done (decide m r.command)) (λ q. kept (refused no_room))
      go (some s) =
          by-test P (ltb r.seq s.seq)
          (λ q. kept (rejects older))
          (λ q. by-test P (eqb r.seq s.seq) (λ w. kept (outcome s.outcome)) (λ w. done (decide m r.command)))

  -- ---- what is left as it was

  -- '21 to 26 remember nothing': a refusal changes nothing
  pub refusal_keeps : (why : Refusal) → (apply m r).answer ≡ refused why → (apply m r).map ≡ m
  unfolding settle
  refusal_keeps why = by_way (λ (v : Applied). v.answer ≡ refused why → v.map ≡ m) (λ a e. refl) done
    where
      done : (a : Answer) → (settle m r a).answer ≡ refused why → (settle m r a).map ≡ m
      done (outcome applied) e = let z : ◌≡◌ {A = ℕ} 0 1 = cc in absurd (omega arith)
      done (outcome (rejected w)) e = let z : ◌≡◌ {A = ℕ} 0 1 = cc in absurd (omega arith)
      done (refused w) e = refl

  -- 'Rejections are remembered by client', and nothing else of the map changes
  pub rejection_keeps : (why : Rejection) → (apply m r).answer ≡ rejects why
      → ((apply m r).map.version ≡ m.version) × ((apply m r).map.nodes ≡ m.nodes) × ((apply m r).map.collections ≡ m.collections)
      × ((apply m r).map.shards ≡ m.shards)
  unfolding settle remembered
  rejection_keeps why =
      by_way
      (λ (v : Applied). v.answer ≡ rejects why
      → (v.map.version ≡ m.version) × (v.map.nodes ≡ m.nodes) × (v.map.collections ≡ m.collections) × (v.map.shards ≡ m.shards))
      (λ a e. (refl, refl, refl, refl))
      done
    where
      done : (a : Answer) → (settle m r a).answer ≡ rejects why
          → ((settle m r a).map.version ≡ m.version) × ((settle m r a).map.nodes ≡ m.nodes)
          × ((settle m r a).map.collections ≡ m.collections) × ((settle m r a).map.shards ≡ m.shards)
      done (outcome applied) e = let z : ◌≡◌ {A = ℕ} 0 1 = cc in absurd (omega arith)
      done (outcome (rejected w)) e = (refl, refl, refl, refl)
      done (refused w) e = (refl, refl, refl, refl)

  -- ---- the version

  -- 'only Applied, other than Bench, sets the version to the index'
  pub version_kept : (((apply m r).answer ≡ accepts → ⊥) ⊎ (sets_version r.command ≡ false)) → (apply m r).map.version ≡ m.version
  unfolding settle remembered
  version_kept (inl h) =
      by_way (λ (v : Applied). (v.answer ≡ accepts → ⊥) → v.map.version ≡ m.version) (λ a w. refl) done h
    where
      done : (a : Answer) → ((settle m r a).answer ≡ accepts → ⊥) → (settle m r a).map.version ≡ m.version
      done (outcome applied) w = absurd (w refl)
      done (outcome (rejected y)) w = refl
      done (refused y) w = refl
  version_kept (inr h) = by_way (λ (v : Applied). v.map.version ≡ m.version) (λ a. refl) done
    where
      done : (a : Answer) → (settle m r a).map.version ≡ m.version
      done (outcome applied) = rw h
      done (outcome (rejected y)) = refl
      done (refused y) = refl

  -- a command that is decided now, applied, and no Bench
  pub version_set_lem : apply m r ≡ settle m r (decide m r.command) → decide m r.command ≡ accepts → sets_version r.command ≡ true
      → (apply m r).map.version ≡ r.index
  unfolding settle remembered
  version_set_lem way yes' h = ap (λ (v : Applied). v.map.version) (way ∙ ap (settle m r) yes') ∙ rw h

-- Bench never sets it
pub bench_keeps_version : (m : Map) (r : Request) (bs : List ℕ) → r.command ≡ bench bs → (apply m r).map.version ≡ m.version
bench_keeps_version m r bs e = version_kept m r (inr (ap sets_version e))

-- and of the commands it is the only one that does not
sets_version_lem : (c : Command) → ((bs : List ℕ) → c ≡ bench bs → ⊥) → sets_version c ≡ true
sets_version_lem (create n s p) other = refl
sets_version_lem (drop_collection n) other = refl
sets_version_lem (register n a i) other = refl
sets_version_lem (mark_dead n i) other = refl
sets_version_lem (add_replica k n i e) other = refl
sets_version_lem (remove_replica k n e) other = refl
sets_version_lem (promote_primary k n e) other = refl
sets_version_lem (shrink_in_sync k n e) other = refl
sets_version_lem (expand_in_sync k n e) other = refl
sets_version_lem (bench bs) other = absurd (other bs refl)

-- every other command that is decided now and applied sets it to its index
pub applied_sets_version : (m : Map) (r : Request) → apply m r ≡ settle m r (decide m r.command) → decide m r.command ≡ accepts
    → ((bs : List ℕ) → r.command ≡ bench bs → ⊥) → (apply m r).map.version ≡ r.index
applied_sets_version m r way yes' other = version_set_lem m r way yes' (sets_version_lem r.command other)

-- ---- what is remembered

module _ (r : Request) where
  -- of its own client the new outcome
  pub own-session : (n : Map) (o : Outcome) (version : ℕ)
      → session_at (remembered n r o version).sessions r.client ≡ some (record { client = r.client; seq = r.seq; outcome = o })
  unfolding remembered session_at
  own-session n o version =
      find-put (is_client r.client) session_below (record { client = r.client; seq = r.seq; outcome = o }) (eq-eqb r.client r.client refl)
      (λ y low. ne_eqb y.client r.client (λ e. omega (arith, ltb-true y.client r.client low, e)))
      n.sessions

  -- of every other client what was remembered
  pub other-session : (n : Map) (o : Outcome) (version c : ℕ) → (c ≡ r.client → ⊥)
      → session_at (remembered n r o version).sessions c ≡ session_at n.sessions c
  unfolding remembered session_at
  other-session n o version c ne =
      find_put_other (is_client c) session_below (record { client = r.client; seq = r.seq; outcome = o })
      (ne_eqb r.client c (λ e. ne (sym e)))
      (λ y p q. ne_eqb y.client c (λ e. ne (omega (arith, e, ltb-false r.client y.client p, ltb-false y.client r.client q))))
      n.sessions

-- 'Near misses': a command that is decided now is remembered with its outcome, also a rejected one
pub outcome-remembered : (m : Map) (r : Request) (o : Outcome) → apply m r ≡ settle m r (decide m r.command) → decide m r.command ≡ outcome o
    → session_at (apply m r).map.sessions r.client ≡ some (record { client = r.client; seq = r.seq; outcome = o })
unfolding settle
outcome-remembered m r o way e = ap (λ (v : Applied). session_at v.map.sessions r.client) (way ∙ ap (settle m r) e) ∙ kept o
  where
    kept : (o : Outcome) → session_at (settle m r (outcome o)).map.sessions r.client ≡ some (record { client = r.client; seq = r.seq; outcome = o })
    kept applied = own-session r (commit m r.command) applied (cond (sets_version r.command) r.index m.version)
    kept (rejected w) = own-session r m (rejected w) m.version

-- a request that comes again is answered as it was, and changes nothing: also one that was rejected
pub apply-again : (m : Map) (r : Request) → apply (apply m r).map r ≡ apply m r
unfolding apply apply_to settle
apply-again m r = go (session_at m.sessions r.client) refl
  where
    own : (n : Map) (o : Outcome) (version : ℕ)
        → apply_to (remembered n r o version) r (session_at (remembered n r o version).sessions r.client)
        ≡ record { answer = outcome o; map = remembered n r o version }
    own n o version = rw (own-session r n o version, le-ltb r.seq r.seq (omega arith), eq-eqb r.seq r.seq refl)

    again : (a : Answer) (e : decide m r.command ≡ a) (f : apply_to m r (session_at m.sessions r.client) ≡ settle m r a)
        → apply_to (settle m r a).map r (session_at (settle m r a).map.sessions r.client) ≡ settle m r a
    again (outcome applied) e f = own (commit m r.command) applied (cond (sets_version r.command) r.index m.version)
    again (outcome (rejected w)) e f = own m (rejected w) m.version
    again (refused w) e f = f

    go : (o : Option Session) → session_at m.sessions r.client ≡ o
        → apply_to (apply_to m r o).map r (session_at (apply_to m r o).map.sessions r.client) ≡ apply_to m r o
    go none e =
        by-test (λ (v : Applied). apply_to v.map r (session_at v.map.sessions r.client) ≡ v) (ltb (length m.sessions) max_clients)
        (λ q. again (decide m r.command) refl (rw (e, q)))
        (λ q. rw (e, q))
    go (some s) e =
        by-test (λ (v : Applied). apply_to v.map r (session_at v.map.sessions r.client) ≡ v) (ltb r.seq s.seq)
        (λ q. rw (e, q))
        (λ q. by-test (λ (v : Applied). apply_to v.map r (session_at v.map.sessions r.client) ≡ v) (eqb r.seq s.seq)
        (λ w. rw (e, q, w))
        (λ w. again (decide m r.command) refl (rw (e, q, w))))
