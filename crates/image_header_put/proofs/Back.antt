-- Rows written back one after another, and the header that they make. Assumes nothing.
use Prim.Native.Nat.{ℕ, zero, suc, ◌+◌, ◌-◌, ◌*◌, ◌^◌, ◌≤◌, ◌<◌}
use mathlib.Core.Path.{◌≡◌, refl, sym, ap, subst, ◌∙◌}
use mathlib.Core.Bool.{Bool, true, false}
use mathlib.Core.List.{List, [], ◌∷◌, ◌++◌, map, append_assoc}
use lib.Dec.{eqb}
use lib.ListN.{length, get_or, take, drop, replicate, length-map}
use lib.Seq.{sets, take_at}
use borrow.Author.Tests.{le-leb}
use native.Mathlib.Omega.{arith}
use native.Mathlib.Nat.{mul-suc}
use Rattle.spec.specs.Layout.Format.{Bytes, bytes_of, number_at, concat_map, All}
use Rattle.spec.specs.declared.Peer.{Peer}
use Rattle.spec_laws.proofs.Wire.Bytes.{number-below}
use Rattle.spec_laws.proofs.Wire.Data.{metric_below}
use Rattle.node_header.specs.declared.HeldRow.{HeldRow}
use Rattle.node_header.specs.declared.Node.{Node}
use Rattle.node_header.specs.View.{no_held_row, used}
use Rattle.node_header.proofs.Lists.{by_case}
use Rattle.image_parts.specs.Shape.{Shape, Value, byte, word, ◌▸◌, rep, size, items, value, Good, Stored, in_use, rows_at}
use Rattle.image_parts.specs.Canon.{padded}
use Rattle.image_parts.specs.Parts.{key_bytes, replica_f, replica_read, replica_value, replicas_bytes}
use Rattle.image_parts.proofs.Images.{put_step, put-end, concat_mapped, stored-then, length-items}
use Rattle.image_parts.specs.Codes.{flag_code}
use Rattle.spec.specs.Layout.Parts.{metric_code}
use Rattle.image_parts.proofs.Canon.{take-used}
use Rattle.image_parts.proofs.CodeLaws.{flag_small}
use Rattle.image_header_row.specs.Rows.{no_peer, weigh, peer_flags, role_f, role_of, role_value, role_bytes, numbers_bytes, peers_at, peers_bytes, held_row_f, held_row_of, held_row_value, held_row_at, held_row_bytes, peer_f, peer_of, peer_value}
use Rattle.image_header_row.specs.Tidy.{tidy_held, tidy_held_row}
use Rattle.image_header.specs.Image as place
use Rattle.image_header.specs.Image.{node_at, head_of, head_bytes, shards_bytes, header_put}
use Rattle.image_header.specs.Becomes.{HeaderWrites}
use Rattle.image_header.proofs.Tidy.{HeldRowFits}
use Rattle.image_header.proofs.Back.{Fits}
use Rattle.image_header.proofs.Becomes.{writes_long}
use Rattle.image_header_check.specs.Rows.{Counts}
use Rattle.image_header_check.proofs.Rows.{count-is, peers-is, peers_long, held_long}
use Rattle.image_header_form.specs.Rows.{front_bytes}
use Rattle.image_header_form.proofs.Bytes.{drop-on, value_past, drop-after}
use Rattle.image_header_form.proofs.FrontLaws.{stored_same}
use Rattle.image_header_put.specs.Back.{with_end, EndOf}

-- ---- a row in two parts

pub regroup : (k z a b e l h c m o y r p q : List ℕ)
    → (((((k ++ z) ++ (((((((a ++ b) ++ e) ++ l) ++ h) ++ c) ++ m) ++ o)) ++ y) ++ r) ++ p) ++ q
    ≡ (((k ++ z) ++ a) ++ b) ++ (((((((((e ++ l) ++ h) ++ c) ++ m) ++ o) ++ y) ++ r) ++ p) ++ q)
regroup k z a b e l h c m o y r p q = simp append_assoc

pub kept-parts : (x : HeldRow)
    → (((key_bytes x.key ++ bytes_of 4 0) ++ bytes_of 8 x.slot) ++ bytes_of 8 x.stored)
    ++ (((numbers_bytes x.held ++ role_bytes x.held.role) ++ replicas_bytes x.held.replicas) ++ peers_bytes x.held.peers)
    ≡ held_row_bytes x
unfolding held_row_bytes key_bytes numbers_bytes role_bytes replicas_bytes peers_bytes
kept-parts x = refl

pub kept_split : (x : HeldRow) → front_bytes x ++ peers_bytes x.held.peers ≡ held_row_bytes x
unfolding front_bytes numbers_bytes
kept_split x =
    regroup (key_bytes x.key) (bytes_of 4 0) (bytes_of 8 x.slot) (bytes_of 8 x.stored) (bytes_of 8 x.held.epoch.0) (bytes_of 8 x.held.last)
    (bytes_of 8 x.held.holders) (bytes_of 8 x.held.count) (bytes_of 4 (metric_code x.held.metric)) (bytes_of 4 (flag_code x.held.own))
    (bytes_of 4 0) (role_bytes x.held.role) (replicas_bytes x.held.replicas) (peers_bytes x.held.peers)
    ∙ kept-parts x

pub peers_past : (s t : List ℕ) (q : ℕ) → drop q s ≡ drop q t → peers_at s q ≡ peers_at t q
unfolding peers_at
peers_past s t q e = ap (λ l. map peer_of l) (value_past (rep 32 peer_f) s t q e)

pub kept_past : (s t : List ℕ) (q : ℕ) → drop q s ≡ drop q t → held_row_at s q ≡ held_row_at t q
unfolding held_row_at
kept_past s t q e = ap held_row_of (value_past held_row_f s t q e)

pub tidy_peers : (x : HeldRow) → (tidy_held_row x).held.peers ≡ padded 32 no_peer (take x.held.count x.held.peers)
unfolding tidy_held_row tidy_held
tidy_peers x = refl

-- the front, then the peers
pub row-stored : (out m t : List ℕ) (p n : ℕ) → p + 1280 ≤ length out → Stored out m p (front_bytes (tidy_held_row (held_row_at out p))) 256
    → n ≡ in_use 32 (number_at 8 out (p + 88)) → Stored m t (p + 256) (peers_bytes (padded 32 no_peer (take n (peers_at m (p + 256))))) 1024
    → Stored out t p (held_row_bytes (tidy_held_row (held_row_at out p))) 1280
row-stored out m t p n room front e peers =
    let x = held_row_at out p in
    let a : peers_at m (p + 256) ≡ (held_row_at out p).held.peers = peers_past m out (p + 256) (drop-after front (omega arith)) ∙ sym (peers-is out p) in
    let l : length (held_row_at out p).held.peers ≡ 32 = ap (λ (r : List Peer). length r) (peers-is out p) ∙ peers_long out (p + 256) in
    let b : take n (held_row_at out p).held.peers ≡ take (held_row_at out p).held.count (held_row_at out p).held.peers =
    ap (λ (k : ℕ). take k (held_row_at out p).held.peers) (e ∙ ap (in_use 32) (sym (count-is out p))) ∙ take-used 32 (held_row_at out p).held.count (held_row_at out p).held.peers l in
    let d : padded 32 no_peer (take n (peers_at m (p + 256))) ≡ (tidy_held_row (held_row_at out p)).held.peers =
    ap (λ (r : List Peer). padded 32 no_peer (take n r)) a ∙ ap (λ (r : List Peer). padded 32 no_peer r) b ∙ sym (tidy_peers (held_row_at out p)) in
    let q = subst (λ (r : List Peer). Stored m t (p + 256) (peers_bytes r) 1024) d peers in
    subst (λ (r : List ℕ). Stored out t p r 1280) (kept_split (tidy_held_row (held_row_at out p))) (stored-then front q)

-- ---- rows one after another

abbrev pub row_bytes : HeldRow → List ℕ
row_bytes x = held_row_bytes (tidy_held_row x)

module _ {A : Type 0} where
  pub item_at : (n : ℕ) (get : ℕ → A) (w at i : ℕ) (d : A) → i < n → get_or (items n get w at) i d ≡ get (at + w * i)
  item_at zero get w at i d h = absurd (omega arith)
  item_at (suc n) get w at zero d h = let q : at + w * 0 ≡ at = omega arith in rw q
  item_at (suc n) get w at (suc i) d h =
      let q : at + w + w * i ≡ at + w * suc i = omega (arith, mul-suc w i) in
      item_at n get w (at + w) i d (omega arith) ∙ ap get q

  pub items_past : (n : ℕ) (get put : ℕ → A) (w at : ℕ) (s t : List ℕ) → ((p : ℕ) → drop p s ≡ drop p t → get p ≡ put p)
      → drop at s ≡ drop at t → items n get w at ≡ items n put w at
  items_past zero get put w at s t law e = refl
  items_past (suc n) get put w at s t law e = rw (law at e, items_past n get put w (at + w) s t law (drop-on s t at w e))

  pub items-all : (P : A → Type 0) (n : ℕ) (get : ℕ → A) (w at : ℕ) → ((p : ℕ) → P (get p)) → All P (items n get w at)
  items-all P zero get w at law = tt
  items-all P (suc n) get w at law = (law at, items-all P n get w (at + w) law)

-- the rows of a header of so many shards
abbrev pub rows : List ℕ → ℕ → List HeldRow
rows s count = items count (held_row_at s) 1280 48

module _ (s : List ℕ) (count : ℕ) where
  pub rows_long : length (rows s count) ≡ count
  rows_long = length-items count (held_row_at s) 1280 48

  pub row_of : (i : ℕ) → i < count → held_row_at s (48 + 1280 * i) ≡ get_or (rows s count) i no_held_row
  row_of i h = sym (item_at count (held_row_at s) 1280 48 i no_held_row h)

module _ (s : List ℕ) (l : List HeldRow) where
  -- the first i are there, and behind them all is as it was
  abbrev pub Done : List ℕ → ℕ → Type 0
  Done out i =
      (length out ≡ length s)
      × (sets out (48 + 1280 * i) (concat_map row_bytes (drop i l)) ≡ sets s 48 (concat_map row_bytes l))
      × (drop (48 + 1280 * i) out ≡ drop (48 + 1280 * i) s)

  -- a row that is still to come is read as before
  pub still : (out : List ℕ) (i : ℕ) → Done out i → held_row_at out (48 + 1280 * i) ≡ held_row_at s (48 + 1280 * i)
  still out i d = kept_past out s (48 + 1280 * i) d.2

  pub done-step : (out m : List ℕ) (i : ℕ) → 10288 ≤ length s → length l ≤ 8 → i < length l → Done out i → length m ≡ length out
      → (x : HeldRow) → x ≡ get_or l i no_held_row → Stored out m (48 + 1280 * i) (row_bytes x) 1280 → Done m (i + 1)
  done-step out m i room few lt d len x e k =
      let q : 48 + 1280 * (i + 1) ≡ 48 + 1280 * i + 1280 = omega arith in
      let n = d.0 in
      let g : 48 + 1280 * i + 1280 ≤ length out = omega arith in
      let put = subst (λ (y : HeldRow). Stored out m (48 + 1280 * i) (row_bytes y) 1280) e k in (
        len ∙ d.0,
        put_step row_bytes 1280 l no_held_row out m i (48 + 1280 * i) (48 + 1280 * (i + 1)) lt q put ∙ d.1,
        rw q (drop-after k g ∙ drop-on out s (48 + 1280 * i) 1280 d.2),
      )

  pub done_end : (out : List ℕ) (i : ℕ) → i ≡ length l → Done out i → out ≡ sets s 48 (concat_map held_row_bytes (map tidy_held_row l))
  done_end out i n d =
      put-end row_bytes l s out (48 + 1280 * i) i 48 n d.1 ∙ ap (λ (b : List ℕ). sets s 48 b) (sym (concat_mapped held_row_bytes tidy_held_row l))

-- ---- what is read from bytes fits its types

module _ (s : List ℕ) (bytes : Bytes s) where
  pub good : (f : Shape) (at : ℕ) → Good f (value f s at)
  good byte at = bytes at
  good (word k) at = number-below k s at bytes
  good (f ▸ g) at = (good f at, good g (at + size f))
  good (rep n f) at = (length-items n (value f s) (size f) at, items-all (Good f) n (value f s) (size f) at (λ p. good f p))

role_good : (v : Value role_f) → Good role_f v → Good role_f (role_value (role_of v))
role_good v g = by_case (eqb v.0.0 0) (λ e. rw e ((omega arith, omega arith), omega arith)) (λ e. rw e ((omega arith, g.0.1), g.1))

pub weigh-most : (b : Bool) (w : ℕ) → weigh b w ≤ w
weigh-most false w = omega arith
weigh-most true w = omega arith

pub peer_good : (v : Value peer_f) → Good peer_f v → Good peer_f (peer_value (peer_of v))
peer_good v g =
    let p = peer_of v in
    let f : peer_flags (peer_of v) < 16 = omega (arith, weigh-most (peer_of v).aligned 1, weigh-most (peer_of v).behind 2, weigh-most (peer_of v).proposing 4, weigh-most (peer_of v).member 8) in
    ((((g.0.0.0.0, g.0.0.0.1), g.0.0.1), omega arith), omega arith)

each_good : {A : Type 0} (f : Shape) (of : Value f → A) (val : A → Value f) → ((v : Value f) → Good f v → Good f (val (of v))) → (l : List (Value f))
    → All (Good f) l → All (Good f) (map val (map of l))
each_good f of val law [] p = tt
each_good f of val law (x ∷ l) p = (law x p.0, each_good f of val law l p.1)

pub kept_good : (v : Value held_row_f) → Good held_row_f v → Good held_row_f (held_row_value (held_row_of v))
kept_good v ((((key, unused), slot), stored), (((((((((epoch, last), holders), count), metric), own), zeros), role), replicas), peers)) =
    let m = metric_below (held_row_of v).held.metric in
    let o = flag_small (held_row_of v).held.own in (
      (((key, omega arith), slot), stored),
      (
        (
          (((((((epoch, last), holders), count), omega arith), omega arith), omega arith), role_good _ role),
          (length-map (held_row_of v).held.replicas replica_value ∙ length-map v.1.0.1 replica_read ∙ replicas.0, each_good replica_f replica_read replica_value (λ w g. g) v.1.0.1 replicas.1),
        ),
        (length-map (held_row_of v).held.peers peer_value ∙ length-map v.1.1 peer_of ∙ peers.0, each_good peer_f peer_of peer_value peer_good v.1.1 peers.1),
      ),
    )

-- ---- the whole header

pub whole : (s m t : List ℕ) (n : Node) (l : List HeldRow) → 10288 ≤ length s → Fits n → Stored s m 0 (head_bytes n) 48 → l ≡ used n
    → t ≡ sets m 48 (concat_map held_row_bytes (map tidy_held_row l)) → HeaderWrites s t n
whole s m t n l room fits head r e =
    writes_long s n t room fits
    (e ∙ ap (λ (k : List HeldRow). sets m 48 (concat_map held_row_bytes (map tidy_held_row k))) r
    ∙ ap (λ (u : List ℕ). sets u 48 (shards_bytes n)) head.image ∙ (unfold header_put in refl))

module _ (s : List ℕ) (count : ℕ) (counts : Counts s count) where
  pub in_use_lem : in_use 8 (number_at 8 s 24) ≡ count
  in_use_lem = rw counts.2 (rw (le-leb count 8 counts.1))

  pub used-rows : (code end : ℕ) → used (with_end (node_at s) code end) ≡ rows s count
  unfolding node_at rows_at
  used-rows code end =
      ap (λ (k : ℕ). take (number_at 8 s 24) (items k (held_row_at s) 1280 48 ++ replicate (8 - k) place.no_held_row)) in_use_lem
      ∙ take_at (items count (held_row_at s) 1280 48) (replicate (8 - count) place.no_held_row) (number_at 8 s 24) (length-items count (held_row_at s) 1280 48 ∙ sym counts.2)

  module _ (bytes : Bytes s) (code end : ℕ) (is : EndOf code end) (small : end < 256 ^ 8) where
    fits : Fits (with_end (node_at s) code end)
    unfolding node_at held_row_at
    fits = record {
      id = number-below 8 s 0 bytes;
      incarnation = number-below 8 s 8 bytes;
      version = number-below 8 s 16 bytes;
      expiry = rw is.1 small;
      long = held_long s;
      rows = subst (λ (l : List HeldRow). All HeldRowFits l) (sym (used-rows code end)) (items-all HeldRowFits count (held_row_at s) 1280 48 (λ p. kept_good (value held_row_f s p) (good s bytes held_row_f p)));
    }

    head-is : head_of (number_at 8 s 0) (number_at 8 s 8) (number_at 8 s 16) count code end ≡ head_bytes (with_end (node_at s) code end)
    unfolding node_at
    head-is = rw (in_use_lem, is.0, is.1)

    pub put_whole : (m t : List ℕ) → Stored s m 0 (head_of (number_at 8 s 0) (number_at 8 s 8) (number_at 8 s 16) count code end) 48
        → t ≡ sets m 48 (concat_map held_row_bytes (map tidy_held_row (rows m count))) → HeaderWrites s t (with_end (node_at s) code end)
    put_whole m t head e =
        let room = counts.0 in
        let past : drop 48 m ≡ drop 48 s = drop-after head (omega arith) in
        let r : rows m count ≡ used (with_end (node_at s) code end) = items_past count (held_row_at m) (held_row_at s) 1280 48 m s (λ p q. kept_past m s p q) past ∙ sym (used-rows code end) in
        whole s m t (with_end (node_at s) code end) (rows m count) room fits (stored_same head-is head) r e
