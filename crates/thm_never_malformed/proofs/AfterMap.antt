-- Paper 01, 'Map shown': a shard that is held after a map has the log and the vectors that it had, or it begins without any. The node stays well
-- formed, and no table has over 1,024 rows. Assumes nothing.
use Prim.Native.Nat.{ℕ}
use mathlib.Core.Path.{◌≡◌, refl, sym, ap, subst, ◌∙◌}
use mathlib.Core.Bool.{Bool, true, not}
use mathlib.Core.Logic.{◌⊎◌, inl, inr}
use mathlib.Core.List.{List, [], ◌∷◌, map}
use mathlib.Core.Option.{Option, none, some}
use native.Mathlib.Omega.{arith}
use lib.Dec.{ltb}
use lib.ListN.{length, length-map}
use borrow.Author.Tests.{le-leb, not-false}
use Rattle.spec.specs.Lists.{any, every, find}
use Rattle.spec.specs.Keys.{Key}
use Rattle.spec.specs.Layout.Format.{All}
use Rattle.spec.specs.Map.Tables.{Map, ShardInfo}
use Rattle.spec.specs.Map.WellFormed.{well_formed_map}
use Rattle.spec.specs.Node.Held.{Held, Node}
use Rattle.spec.specs.Node.Shards.{Result, of_key, held_shard, begun}
use Rattle.spec.specs.Node.Shown.{Showing, ShownAnswer, is_primary, promotes, promoted_to, kept_as, show_held, show_listed, listed_as, collection_metric, show_shard, or_not, showings, held_of, too_many, take_map, dead_as, on_map}
use Rattle.spec.specs.Node.Calls.{shown_with}
use Rattle.spec.specs.Node.WellFormed.{well_formed_held, log_of}
use Rattle.spec.specs.declared.Metric.{Metric}
use Rattle.spec.specs.declared.Role.{Role}
use Rattle.spec.specs.declared.Role.TheVariants.{Backup, Primary}
use Rattle.spec_laws.proofs.Lists.{by-test, none_some, some_same}
use Rattle.spec_laws.proofs.Map.Orders.{same_key_lem}
use Rattle.spec_laws.proofs.Map.Rows.{find_true}
use Rattle.spec_laws.proofs.Node.Formed.{FormedNode, held-formed}
use Rattle.spec_laws.proofs.Node.Frames.{SameLog, show_log}
use Rattle.spec_laws.proofs.Node.KeptMap.{map-kept}
use Rattle.spec_laws.proofs.Node.Logs.{log-formed}
use Rattle.log_store.specs.Table.{vector_of, vectors_of, play_rows}
use Rattle.log_store.proofs.PlayRows.{rows-vectors, rows-most}
use Rattle.node_header.proofs.Lists.{every_both}
use Rattle.image_header.specs.Becomes.{table_fits}

-- ---- one shard

show_key : (me : ℕ) (i : ShardInfo) (m : Metric) (h : Held) → (show_held me i m h).held.key ≡ h.key
unfolding show_held
show_key me i m h =
    let P : Showing → Type 0 = λ s. s.held.key ≡ h.key in
    by-test P (is_primary i.primary me) (λ p. by-test P (promotes h i) (λ q. unfold promoted_to in refl) (λ q. kept h.role)) (λ p. refl)
  where
    kept : (r : Role) → (kept_as me i m h r).held.key ≡ h.key
    kept Backup = unfold kept_as in refl
    kept (Primary e o) = unfold kept_as in refl

-- of the node v: the shard of its key with its log and vectors, or none
abbrev pub From : Node → Held → Type 0
From v g =
    ((h : Held) × (held_shard v g.key ≡ some h) × SameLog h.replica g.replica) ⊎ ((g.replica.log ≡ []) × (g.replica.vectors ≡ []))

module _ (v : Node) where
  -- a shard found by a key has it
  own_key : (k : Key) (h : Held) → held_shard v k ≡ some h → held_shard v h.key ≡ some h
  unfolding held_shard
  own_key k h e = ap (λ (j : Key). find (of_key j) v.held) (same_key_lem h.key k (find_true (of_key k) v.held h e)) ∙ e

  listed_from : (i : ShardInfo) (c : Option Metric) (o : Option Held) → held_shard v i.key ≡ o → (s : Showing) → show_listed v.id i c o ≡ some s
      → From v s.held
  unfolding show_listed
  listed_from i none none q s e = none_some e
  listed_from i none (some h) q s e =
      subst (λ (t : Showing). From v t.held) (some_same e)
      (inl (h, own_key i.key h q, record { log = refl; vectors = refl; metric = refl }))
  listed_from i (some m) none q s e =
      let l = show_log v.id i m (begun i.key m) in
      subst (λ (t : Showing). From v t.held) (some_same e) (inr (l.log, l.vectors))
  listed_from i (some m) (some h) q s e =
      subst (λ (t : Showing). From v t.held) (some_same e)
      (inl (h, ap (held_shard v) (show_key v.id i m h) ∙ own_key i.key h q, show_log v.id i m h))

  shard-from : (m : Map) (i : ShardInfo) (s : Showing) → show_shard v m i ≡ some s → From v s.held
  unfolding show_shard
  shard-from m i s =
      by-test (λ (o : Option Showing). o ≡ some s → From v s.held) (any (listed_as v.id v.incarnation) i.replicas)
      (λ q. listed_from i (collection_metric m i.key.collection) (held_shard v i.key) refl s)
      (λ q e. none_some e)

  -- ---- the whole map

  one_more : (o : Option Showing) (l : List Showing) → ((s : Showing) → o ≡ some s → From v s.held) → All (From v) (map held_of l)
      → All (From v) (map held_of (or_not o l))
  one_more none l f p = p
  one_more (some s) l f p = (f s refl, p)

  all_from : (m : Map) (is : List ShardInfo) → All (From v) (map held_of (showings v m is))
  unfolding showings
  all_from m [] = tt
  all_from m (i ∷ is) = one_more (show_shard v m i) (showings v m is) (λ s. shard-from m i s) (all_from m is)

  -- the shards as they were, or each from one of them
  abbrev pub After : Node → Type 0
  After w = (w.held ≡ v.held) ⊎ All (From v) w.held

  pub shown-after : (lent : Bool) (fresh : ℕ) (m : Map) → After (shown_with lent v fresh m).after
  unfolding shown_with on_map take_map
  shown-after lent fresh m =
      let P : Result ShownAnswer Node → Type 0 = λ r. After r.after in
      by-test P (not lent) (λ p. inl refl)
      (λ p. by-test P (ltb m.version v.version) (λ q. inl refl)
      (λ q. by-test P (any (dead_as v) m.nodes) (λ d. inr tt)
      (λ d. by-test P (too_many (showings v m m.shards)) (λ z. inl refl) (λ z. inr (all_from m m.shards)))))

  pub shown-formed : (lent : Bool) (fresh : ℕ) (m : Map) → (lent ≡ true → well_formed_map m ≡ true) → FormedNode v
      → FormedNode (shown_with lent v fresh m).after
  unfolding shown_with
  shown-formed lent fresh m w x =
      by-test (λ (r : Result ShownAnswer Node). FormedNode r.after) (not lent) (λ p. x) (λ p. map-kept v fresh m (w (not-false lent p)) x)

-- ---- the tables

-- the vectors are the log played: no more than its entries
table_fits_lem : (h : Held) → well_formed_held h ≡ true → log_of h ≡ true → table_fits h ≡ true
unfolding vectors_of
table_fits_lem h w l =
    let f = log-formed h.replica l in
    let log = h.replica.log in
    let few = (held-formed h w).log in
    let same = ap length (f.played ∙ sym (rows-vectors log f.numbered)) in
    le-leb (length h.replica.vectors) 1024 (omega (arith, same, few, length-map (play_rows log) (vector_of log), rows-most log))

pub tables_fit : (v : Node) → FormedNode v → every table_fits v.held ≡ true
tables_fit v x = every_both well_formed_held log_of table_fits table_fits_lem v.held x.shards x.logs
