-- Laws of a row of the map that changes nothing of a shard. Assumes nothing.
use Prim.Native.Nat.{ℕ, ◌+◌, ◌≤◌, ◌<◌}
use mathlib.Core.Path.{◌≡◌, refl, sym, ap, ◌∙◌}
use mathlib.Core.Bool.{Bool, true, false, not, cond}
use mathlib.Core.List.{List, [], ◌∷◌, ◌++◌, map, append_assoc}
use mathlib.Core.Option.{Option}
use native.Mathlib.Omega.{arith}
use lib.Dec.{eqb}
use lib.ListN.{length, take, get_or}
use borrow.Author.Tests.{eq-eqb, not-true, not-false}
use Rattle.spec.specs.Lists.{◌and◌, any, collect}
use Rattle.spec.specs.Keys.{Key}
use Rattle.spec.specs.Log.{Log, Vectors}
use Rattle.spec.specs.Layout.Format.{number_at}
use Rattle.spec.specs.Map.Tables.{ShardInfo}
use Rattle.spec.specs.Node.Held as held
use Rattle.spec.specs.Node.Shards.{on_node, of_node, demoted}
use Rattle.spec.specs.Node.Shown as show
use Rattle.spec.specs.declared.Metric.{Metric}
use Rattle.spec.specs.declared.Replica.{Replica}
use Rattle.spec.specs.declared.Peer.{Peer}
use Rattle.spec.specs.declared.Role.{Role}
use Rattle.spec.specs.declared.Role.TheVariants.{Backup, Primary}
use Rattle.spec_laws.proofs.Lists.{not_both}
use Rattle.map_tables.specs.declared.ShardRow.{ShardRow}
use Rattle.map_tables.specs.declared.Holders.{Holders}
use Rattle.map_tables.specs.View.{view_holders, view_shard}
use Rattle.node_shard.specs.declared.Held.{Held}
use Rattle.std.specs.declared.option.Option as option
use Rattle.std.specs.Prelude.{None, Some}
use Rattle.node_shard.specs.Shows.{leader_is, leader_of, rises}
use Rattle.node_shard.specs.View.{view_held}
use Rattle.node_shard.proofs.Loops.{take_next}
use Rattle.image_parts.specs.Parts.{replicas_at}
use Rattle.image_header_row.specs.Rows.{role_at, peers_at, held_row_at}
use Rattle.image_header_check.proofs.Rows.{holders-is, count-is, peers-is}
use Rattle.image_header_form.proofs.FrontLaws.{epoch-is, role_is, replicas-is}
use Rattle.image_show.specs.Quiet.{lost, HoldsAs, LedOn, LeftOn, QuietRow}

-- ---- the ack set

abbrev with_member : Peer → Bool → Peer
with_member p b = record {
  node = p.node;
  acked = p.acked;
  aligned = p.aligned;
  behind = p.behind;
  since = p.since;
  proposing = p.proposing;
  member = b;
}

found-still : (rs : List Replica) (p : Peer) → lost rs p ≡ false → show.retained rs p ≡ p
unfolding show.retained ◌and◌
found-still rs p e = ap (with_member p) (go p.member (any (on_node p.node.0) rs) e)
  where
    go : (a b : Bool) → (a and not b) ≡ false → (a and b) ≡ a
    go true b q = not-false b q
    go false b q = refl

none_first : {A : Type 0} (p : A → Bool) (x : A) (l : List A) → any p (x ∷ l) ≡ false → (p x ≡ false) × (any p l ≡ false)
unfolding any
none_first p x l e = go (p x) refl e
  where
    go : (b : Bool) → p x ≡ b → cond b true (any p l) ≡ false → (p x ≡ false) × (any p l ≡ false)
    go true q e = not_both true refl e
    go false q e = (q, e)

all-still : (rs : List Replica) (l : List Peer) → any (lost rs) l ≡ false → map (show.retained rs) l ≡ l
all-still rs [] e = refl
all-still rs (p ∷ l) e = let f = none_first (lost rs) p l e in rw (found-still rs p f.0, all-still rs l f.1)

-- ---- no worker starts for rows that were there

any-mid : {A : Type 0} (p : A → Bool) (before : List A) (x : A) (l : List A) → p x ≡ true → any p (before ++ (x ∷ l)) ≡ true
unfolding any
any-mid p [] x l e = rw e
any-mid p (y ∷ before) x l e = go (p y) (any-mid p before x l e)
  where
    go : (b : Bool) → any p (before ++ (x ∷ l)) ≡ true → cond b true (any p (before ++ (x ∷ l))) ≡ true
    go true q = refl
    go false q = q

none-new : {B : Type 0} (f : Peer → B) (before l : List Peer) → collect (show.is_new (before ++ l)) f l ≡ []
unfolding collect
none-new f before [] = refl
none-new f before (p ∷ l) =
    let there = any-mid (of_node p.node.0) before p l (eq-eqb p.node.0 p.node.0 refl) in
    let q : (before ++ (p ∷ [])) ++ l ≡ before ++ (p ∷ l) = append_assoc before (p ∷ []) l in
    rw there (ap (λ (o : List Peer). collect (show.is_new o) f l) (sym q) ∙ none-new f (before ++ (p ∷ [])) l)

pub starts_none : (k : Key) (e : ℕ) (metric : Metric) (l : List Peer) → show.starts k e metric l l ≡ []
unfolding show.starts
starts_none k e metric l = none-new (show.worker_for k e metric) [] l

-- ---- the shard as the definition has it

abbrev held_as : held.Held → List Replica → Role → Bool → List Peer → held.Held
held_as h holders role own peers = record { key = h.key; replica = h.replica; holders = holders; role = role; own = own; peers = peers }

module _ (me : ℕ) (i : ShardInfo) (metric : Metric) (h : held.Held) (same : h.holders ≡ i.replicas) where
  fresh-same : show.refreshed i h ≡ h
  fresh-same = ap (λ (r : List Replica). held_as h r h.role h.own h.peers) (sym same)

  -- a record that stays, by its role
  kept-still : (role : Role) → h.role ≡ role → map (show.retained i.replicas) h.peers ≡ h.peers → show.with_rows me [] i.replicas h.peers ≡ h.peers
      → show.kept_as me i metric h role ≡ show.still h
  unfolding show.kept_as
  kept-still Backup e m w = ap show.still fresh-same
  kept-still (Primary epoch end) e m w =
      rw (m, w, starts_none h.key epoch.0 metric h.peers)
      (ap (λ (r : List Replica). show.still (held_as h r (Primary epoch end) h.own h.peers)) (sym same)
      ∙ ap (λ (r : Role). show.still (held_as h h.holders r h.own h.peers)) (sym e))

  shown_led : show.is_primary i.primary me ≡ true → show.promotes h i ≡ false → any (lost i.replicas) h.peers ≡ false
      → show.with_rows me [] i.replicas h.peers ≡ h.peers → show.show_held me i metric h ≡ show.still h
  unfolding show.show_held
  shown_led p q l w = rw (p, q) (kept-still h.role refl (all-still i.replicas h.peers l) w)

  shown-left : show.is_primary i.primary me ≡ false → h.role ≡ Backup → h.own ≡ false → h.peers ≡ [] → show.show_held me i metric h ≡ show.still h
  unfolding show.show_held
  shown-left p r o l =
      rw p
      (ap (λ (x : List Replica). show.still (held_as h x Backup false [])) (sym same)
      ∙ ap (λ (x : Role). show.still (held_as h h.holders x false [])) (sym r)
      ∙ ap (λ (x : Bool). show.still (held_as h h.holders h.role x [])) (sym o)
      ∙ ap (λ (x : List Peer). show.still (held_as h h.holders h.role h.own x)) (sym l))

-- ---- and by the tests

pub leader-is : (l : option.Option ℕ) (me : ℕ) → leader_is l me ≡ show.is_primary (leader_of l) me
leader-is None me = refl
leader-is (Some n) me = refl

module _ (h : Held) (me : ℕ) (row : ShardRow) (holders : HoldsAs h row.replicas) (leader : option.Option ℕ) (is : leader_of leader ≡ (view_shard row).primary) where
  named : (b : Bool) → leader_is leader me ≡ b → show.is_primary (view_shard row).primary me ≡ b
  named b e = ap (λ (o : Option ℕ). show.is_primary o me) (sym is) ∙ sym (leader-is leader me) ∙ e

  pub quiet_led : leader_is leader me ≡ true → LedOn h me row → QuietRow h me row
  quiet_led p w = record {
    holders = holders;
    same = λ k l v metric. shown_led me (view_shard row) metric (view_held k l v h) holders (named true p) w.stays w.members w.rows;
  }

  pub quiet_left : leader_is leader me ≡ false → LeftOn h → QuietRow h me row
  quiet_left p w = record {
    holders = holders;
    same = λ k l v metric. shown-left me (view_shard row) metric (view_held k l v h) holders (named false p) w.role w.own
        (ap (λ (n : ℕ). take n h.peers) w.count);
  }

-- ---- where the bytes have them

module _ (s : List ℕ) (at : ℕ) where
  pub holds-made : (list : Holders) (n : ℕ) → n ≡ number_at 8 s (at + 80) → n ≡ list.count → (copies : List Replica) → copies ≡ replicas_at s (at + 128)
      → take list.count copies ≡ take list.count list.items → HoldsAs (held_row_at s at).held list
  holds-made list n e z copies c q =
      ap (λ (k : ℕ). take k (held_row_at s at).held.replicas) (holders-is s at ∙ sym e ∙ z) ∙ ap (take list.count) (replicas-is s at ∙ sym c) ∙ q

  pub led_made : (me : ℕ) (row : ShardRow) (role : Role) (epoch n : ℕ) → role ≡ role_at s (at + 108) → epoch ≡ number_at 8 s (at + 64) → n ≡ number_at 8 s (at + 88)
      → rises role epoch row.epoch.0 ≡ false → any (lost (view_holders row.replicas)) (take n (peers_at s (at + 256))) ≡ false
      → show.with_rows me [] (view_holders row.replicas) (take n (peers_at s (at + 256))) ≡ take n (peers_at s (at + 256))
      → LedOn (held_row_at s at).held me row
  led_made me row role epoch n r e c up l w =
      let rs = view_holders row.replicas in
      let p : take n (peers_at s (at + 256)) ≡ take (held_row_at s at).held.count (held_row_at s at).held.peers =
      ap (λ (k : ℕ). take k (peers_at s (at + 256))) (c ∙ sym (count-is s at)) ∙ ap (λ (v : List Peer). take (held_row_at s at).held.count v) (sym (peers-is s at)) in
      record {
        stays = ap (λ (x : Role). rises x (held_row_at s at).held.epoch.0 row.epoch.0) (role_is s at ∙ sym r)
            ∙ ap (λ (x : ℕ). rises role x row.epoch.0) (epoch-is s at ∙ sym e) ∙ up;
        members = ap (any (lost rs)) (sym p) ∙ l;
        rows = ap (show.with_rows me [] rs) (sym p) ∙ w ∙ p;
      }

-- ---- replicas one by one

abbrev pub no_copy : Replica
no_copy = record { node = record { 0 = 0 }; incarnation = 0 }

pub copies-on : (a b : List Replica) (i : ℕ) (d : Replica) → i < length a → i < length b → take i a ≡ take i b
    → (get_or a i d).node.0 ≡ (get_or b i d).node.0 → (get_or a i d).incarnation ≡ (get_or b i d).incarnation → take (i + 1) a ≡ take (i + 1) b
copies-on a b i d la lb e p q =
    let x : get_or a i d ≡ get_or b i d = ap (λ (n : ℕ). record { node = record { 0 = n }; incarnation = (get_or a i d).incarnation }) p
    ∙ ap (λ (n : ℕ). record { node = (get_or b i d).node; incarnation = n }) q in
    take_next a i d la ∙ ap (λ (l : List Replica). l ++ (get_or a i d ∷ [])) e ∙ ap (λ (r : Replica). take i b ++ (r ∷ [])) x ∙ sym (take_next b i d lb)
