-- The peers that a wait names are those of rows of the header's image: each is a u64, they are 32 at most, and a host reads them from its
-- output. Assumes nothing.
use Prim.Native.Nat.{ℕ, zero, suc, ◌+◌, ◌-◌, ◌*◌, ◌^◌, ◌≤◌, ◌<◌}
use mathlib.Core.Path.{◌≡◌, refl, ap, subst, ◌∙◌}
use mathlib.Core.Bool.{Bool, true, false, cond, not}
use mathlib.Core.List.{List, [], ◌∷◌, ◌++◌, map}
use mathlib.Core.Option.{Option, none, some}
use native.Mathlib.Omega.{arith}
use lib.ListN.{length, take, drop, replicate, length-map}
use lib.Seq.{sets}
use Rattle.spec.specs.Keys.{Key}
use Rattle.spec.specs.Lists.{◌or◌, find, every, collect}
use Rattle.spec.specs.Layout.Format.{Bytes, All, number_at, concat_map}
use Rattle.spec.specs.Node.Held as held
use Rattle.spec.specs.Node.Shards.{Result, of_key, at_found, at_shard, held_shard, leads_at}
use Rattle.spec.specs.Node.Client.{WaitAnswer, done, waiting, wait_refused, to_shrink, node_of, has_acked, wait_held, on_wait}
use Rattle.spec.specs.Node.Calls.{late_time, wait_with}
use Rattle.spec.specs.Refusals.{unknown_shard}
use Rattle.spec.specs.Log.{last_offset}
use Rattle.spec.specs.declared.DataNodeId.{DataNodeId}
use Rattle.spec.specs.declared.Peer.{Peer}
use Rattle.spec_laws.proofs.Lists.{by-test, none_some, some_same}
use Rattle.spec_laws.proofs.Wire.Bytes.{number-below, number-bytes, length-bytes}
use Rattle.node_header.specs.declared.HeldRow.{HeldRow}
use Rattle.node_header.specs.View.{Stores, view_held_row, view_node}
use Rattle.image_parts.specs.Shape.{in_use, items, rows_at, value}
use Rattle.image_parts.specs.Codes.{id_of}
use Rattle.image_parts.specs.Canon.{padded}
use Rattle.image_parts.proofs.Back.{length-rows, rows_back, drop-sets}
use Rattle.image_parts.proofs.Images.{length-items}
use Rattle.image_parts.proofs.Tidied.{take_within, all_take, all-padded, all_map}
use Rattle.image_header_row.specs.Rows.{peer_f, peer_of, no_peer, held_row_at}
use Rattle.image_header.specs.Image.{no_held_row, node_at}
use Rattle.calls_header.specs.Waits.{id_bytes}
use Rattle.calls_parts.specs.Answer.{number_put}
use Rattle.thm_durable_bytes.specs.Calls.{named}
use Rattle.thm_durable_bytes.proofs.Outputs.{number-beside}

-- ---- lists

module _ {A : Type 0} (P : A → Type 0) where
  all-items : (n : ℕ) (get : ℕ → A) (w at : ℕ) → ((i : ℕ) → P (get i)) → All P (items n get w at)
  all-items zero get w at h = tt
  all-items (suc n) get w at h = (h at, all-items n get w (at + w) h)

  all-find : (t : A → Bool) (l : List A) (x : A) → All P l → find t l ≡ some x → P x
  unfolding find
  all-find t [] x h e = none_some e
  all-find t (y ∷ ys) x h e = go (t y) (all-find t ys x h.1) e
    where
      go : (b : Bool) → (find t ys ≡ some x → P x) → cond b (some y) (find t ys) ≡ some x → P x
      go true more e = subst P (some_same e) h.0
      go false more e = more e

-- ---- the rows of a header that is read from bytes

abbrev pub IsU64 : DataNodeId → Type 0
IsU64 x = x.0 < 256 ^ 8

abbrev Row : Peer → Type 0
Row p = IsU64 p.node

abbrev Rows : List Peer → Type 0
Rows l = All Row l × (length l ≤ 32)

abbrev KeptRows : HeldRow → Type 0
KeptRows x = Rows x.held.peers

module _ (h : List ℕ) (bytes : Bytes h) where
  peers-rows : (from : ℕ) → Rows (map peer_of (items 32 (value peer_f h) 32 from))
  peers-rows from = (
    all_map Row peer_of (items 32 (value peer_f h) 32 from) (all-items (λ v. Row (peer_of v)) 32 (value peer_f h) 32 from (λ i. number-below 8 h i bytes)),
    omega (arith, length-map (items 32 (value peer_f h) 32 from) peer_of, length-items 32 (value peer_f h) 32 from),
  )

  kept-rows : (at : ℕ) → KeptRows (held_row_at h at)
  unfolding held_row_at
  kept-rows at = peers-rows _

  no_rows : KeptRows no_held_row
  unfolding no_held_row padded
  no_rows = (all-padded Row 32 no_peer (omega arith) [] tt, omega arith)

  header-rows : All KeptRows (node_at h).held
  unfolding node_at rows_at padded
  header-rows =
      let u = in_use 8 (number_at 8 h 24) in
      subst (λ (i : ℕ). All KeptRows (items u (held_row_at h) 1280 48 ++ replicate (8 - i) no_held_row)) (length-items u (held_row_at h) 1280 48)
      (all-padded KeptRows 8 no_held_row no_rows (items u (held_row_at h) 1280 48) (all-items KeptRows u (held_row_at h) 1280 48 kept-rows))

  -- .. and of the shards that it holds
  shard-rows : (st : Stores) (k : Key) (g : held.Held) → held_shard (view_node st (node_at h)) k ≡ some g → Rows g.peers
  unfolding held_shard
  shard-rows st k g e =
      let n = node_at h in
      all-find (λ (x : held.Held). Rows x.peers) (of_key k) (view_node st n).held g
      (all_map (λ (x : held.Held). Rows x.peers) (view_held_row st) (take n.count n.held)
      (all-within (take n.count n.held) (all_take KeptRows n.count n.held header-rows)))
      e
    where
      all-within : (l : List HeldRow) → All KeptRows l → All (λ (x : HeldRow). Rows (view_held_row st x).peers) l
      all-within [] r = tt
      all-within (x ∷ xs) r = (
        (all_take Row x.held.count x.held.peers r.0.0, omega (arith, r.0.1, take_within x.held.count x.held.peers)),
        all-within xs r.1,
      )

-- ---- the answer of a wait

-- at most 32 ids
abbrev pub Ids : List DataNodeId → Type 0
Ids l = All IsU64 l × (length l ≤ 32)

abbrev pub Answer : WaitAnswer → Type 0
Answer (done l) = Ids l
Answer (waiting l) = Ids l
Answer (wait_refused r) = Unit {0}

collected : (t : Peer → Bool) (l : List Peer) → All Row l → All IsU64 (collect t node_of l) × (length (collect t node_of l) ≤ length l)
unfolding collect
collected t [] r = (tt, omega arith)
collected t (p ∷ ps) r = go (t p) (collected t ps r.1)
  where
    go : (b : Bool) → All IsU64 (collect t node_of ps) × (length (collect t node_of ps) ≤ length ps)
        → All IsU64 (cond b (node_of p ∷ collect t node_of ps) (collect t node_of ps)) × (length (cond b (node_of p ∷ collect t node_of ps) (collect t node_of ps)) ≤ length (p ∷ ps))
    go true q = ((r.0, q.0), omega (arith, q.1))
    go false q = (q.0, omega (arith, q.1))

held-ids : (now timeout epoch offset : ℕ) (g : held.Held) → Rows g.peers → Answer (wait_held now timeout epoch offset g).answer
unfolding wait_held
held-ids now timeout epoch offset g r =
    let t = to_shrink (last_offset g.replica) now timeout in
    let c = collected t g.peers r.0 in
    let ids : Ids (collect t node_of g.peers) = (c.0, omega (arith, c.1, r.1)) in
    by-test (λ (z : Result WaitAnswer held.Held). Answer z.answer) (not (leads_at g.role epoch)) (λ e. tt)
    (λ e. by-test Answer (every (has_acked offset) g.peers) (λ e. ids) (λ e. ids))

pub wait_ids : (h : List ℕ) → Bytes h → (st : Stores) (b : Bool) (now timeout : ℕ) (k : Key) (epoch offset : ℕ)
    → Answer (wait_with b (view_node st (node_at h)) now timeout k epoch offset).answer
unfolding wait_with on_wait at_shard
wait_ids h bytes st b now timeout k epoch offset =
    by-test (λ (z : Result WaitAnswer held.Node). Answer z.answer) (late_time now or late_time timeout) (λ e. tt)
    (λ e. by-test (λ (z : Result WaitAnswer held.Node). Answer z.answer) (not b) (λ e. tt) (λ e. at (held_shard (view_node st (node_at h)) k) refl))
  where
    at : (o : Option held.Held) → held_shard (view_node st (node_at h)) k ≡ o
        → Answer (at_found (view_node st (node_at h)) k (wait_refused unknown_shard) (wait_held now timeout epoch offset) o).answer
    at none e = tt
    at (some g) e = held-ids now timeout epoch offset g (shard-rows h bytes st k g e)

-- ---- they are read from the output

pub named_back : (l : List DataNodeId) → Ids l → (peers answer : List ℕ) → 8 ≤ length answer → 8 * length l ≤ length peers
    → named (sets peers 0 (concat_map id_bytes l)) (number_put answer (length l)) ≡ l
named_back l ids peers answer room places =
    let bs = concat_map id_bytes l in
    let s = sets peers 0 bs in
    let get : ℕ → DataNodeId = λ (at : ℕ). id_of (number_at 8 s at) in
    let few = ids.1 in
    let long : length bs ≡ length l * 8 = length-rows IsU64 id_bytes 8 (λ x h. length-bytes 8 x.0) l ids.0 in
    ap (λ (i : ℕ). items i get 8 0) (number-beside (length l) answer (omega arith) room)
    ∙ rows_back IsU64 id_bytes 8 (λ x h. length-bytes 8 x.0) s get (λ x at t h e. ap id_of (number-bytes 8 x.0 s at t h e)) l 0 (drop (0 + length bs) peers) ids.0
    (drop-sets peers 0 bs (omega arith))
