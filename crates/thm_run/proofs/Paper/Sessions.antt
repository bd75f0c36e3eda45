-- What the map remembers after a command: of its client what it remembered before, or the command's seq; of every other client what it
-- remembered before. Assumes nothing.
use Prim.Native.Nat.{ℕ}
use mathlib.Core.Path.{◌≡◌, refl, sym, ap, ◌∙◌}
use mathlib.Core.Logic.{◌⊎◌, inl, inr}
use mathlib.Core.List.{List, []}
use mathlib.Core.Option.{some}
use Rattle.spec.specs.Map.Tables.{Map, Session, Outcome, Answer, outcome, refused, applied, rejected}
use Rattle.spec.specs.Map.Apply.{Applied, settle, commit, change_shard, remembered, session_at}
use Rattle.spec.specs.Map.WellFormed.{well_formed_map}
use Rattle.spec.specs.Map.Calls.{apply_call}
use Rattle.spec.specs.Layout.Request as layout
use Rattle.spec.specs.Layout.Request.{Request, Command}
use Rattle.spec_laws.proofs.Lists.{by-test, some_same}
use Rattle.spec_laws.proofs.Map.Sessions.{by_way, own-session, other-session}

commit-sessions : (m : Map) (c : Command) → (commit m c).sessions ≡ m.sessions
unfolding commit change_shard
commit-sessions m (layout.create n s p) = refl
commit-sessions m (layout.drop_collection n) = refl
commit-sessions m (layout.register n a i) = refl
commit-sessions m (layout.mark_dead n i) = refl
commit-sessions m (layout.add_replica k n i e) = refl
commit-sessions m (layout.remove_replica k n e) = refl
commit-sessions m (layout.promote_primary k n e) = refl
commit-sessions m (layout.shrink_in_sync k n e) = refl
commit-sessions m (layout.expand_in_sync k n e) = refl
commit-sessions m (layout.bench b) = refl

module _ (m : Map) (r : Request) where
  -- a property of the map after: it is as it was, or remembers the request's outcome
  by_call : (P : Map → Type 0) → P m → ((n : Map) (o : Outcome) (version : ℕ) → n.sessions ≡ m.sessions → P (remembered n r o version))
      → P (apply_call m r).map
  unfolding apply_call settle
  by_call P kept done =
      by-test (λ (v : Applied). P v.map) (well_formed_map m) (λ t. by_way m r (λ (v : Applied). P v.map) (λ a. kept) settled) (λ t. kept)
    where
      settled : (a : Answer) → P (settle m r a).map
      settled (outcome applied) = done (commit m r.command) applied _ (commit-sessions m r.command)
      settled (outcome (rejected why)) = done m (rejected why) m.version refl
      settled (refused why) = kept

  pub other_client : (c : ℕ) → (c ≡ r.client → ⊥) → session_at (apply_call m r).map.sessions c ≡ session_at m.sessions c
  other_client c ne =
      by_call (λ (n : Map). session_at n.sessions c ≡ session_at m.sessions c) refl
      (λ n o version e. other-session r n o version c ne ∙ ap (λ (l : List Session). session_at l c) e)

  pub own_client : (x : Session) → session_at (apply_call m r).map.sessions r.client ≡ some x
      → (session_at m.sessions r.client ≡ some x) ⊎ (x.seq ≡ r.seq)
  own_client x =
      by_call (λ (n : Map). session_at n.sessions r.client ≡ some x → (session_at m.sessions r.client ≡ some x) ⊎ (x.seq ≡ r.seq))
      (λ e. inl e)
      (λ n o version e f. inr (ap (λ (s : Session). s.seq) (some_same (sym f ∙ own-session r n o version))))
