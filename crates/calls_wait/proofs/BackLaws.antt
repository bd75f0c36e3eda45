-- A header after a wait, in place. Assumes nothing.
use Prim.Native.Nat.{ℕ, zero, suc, ◌+◌, ◌*◌, ◌^◌, ◌≤◌, ◌<◌}
use mathlib.Core.Path.{◌≡◌, sym, ap, subst, ◌∙◌}
use mathlib.Core.List.{List, [], ◌∷◌, map}
use lib.Dec.{eqb}
use lib.ListN.{length, get_or, take, drop, set, length-map, length-set}
use lib.Seq.{sets, length-take-le, take-set-lt, get_or-set_same, get_or-set_other}
use native.Mathlib.Omega.{arith}
use Rattle.spec.specs.Lists.{◌or◌}
use Rattle.spec.specs.Layout.Format.{Bytes, number_at, concat_map, All}
use Rattle.spec.specs.Node.Client.{lacks, overdue, wait_row}
use Rattle.spec.specs.declared.Peer.{Peer}
use Rattle.spec_laws.proofs.Wire.Bytes.{number-below}
use Rattle.node_header.specs.declared.HeldRow.{HeldRow}
use Rattle.node_header.specs.declared.Node.{Node}
use Rattle.node_header.specs.View.{no_held_row, used}
use Rattle.node_header.proofs.Lists.{by_case}
use Rattle.image_parts.specs.Shape.{Good, Stored, word, value}
use Rattle.image_parts.specs.Canon.{padded}
use Rattle.image_parts.proofs.Canon.{take-padded, length-padded}
use Rattle.image_parts.proofs.Images.{stored-then}
use Rattle.image_parts.proofs.Tidied.{all-padded, all_map, all_mapped, all_take}
use Rattle.image_header_row.specs.Rows.{no_peer, weigh, peer_f, peer_value, peers_at, peers_bytes, held_row_f, held_row_at, held_row_bytes, expiry_of, expiry_code, expiry_time}
use Rattle.image_header_row.specs.Tidy.{tidy_held, tidy_held_row}
use Rattle.image_header.specs.Image.{node_at, head_of, head_bytes}
use Rattle.image_header.specs.Becomes.{HeaderWrites}
use Rattle.image_header.proofs.Tidy.{HeldRowFits}
use Rattle.image_header.proofs.Back.{Fits}
use Rattle.image_header_check.specs.Rows.{Counts}
use Rattle.image_header_check.proofs.Rows.{count-is, last-is, peers-is, peers_long, held_long, counted, row_at}
use Rattle.image_header_form.specs.Rows.{front_bytes}
use Rattle.image_header_form.proofs.Bytes.{drop-on, value_past, drop-after}
use Rattle.image_header_form.proofs.FrontLaws.{stored_same}
use Rattle.image_header_put.proofs.Back.{kept_split, peers_past, kept_past, weigh-most, kept_good, good, items_past, items-all, rows, rows_long, row_of, Done, whole, used-rows, in_use_lem}
use Rattle.calls_wait.specs.Waited.{waited_held_row, waited_node}

-- ---- the row of the shard that is waited for

module _ (x : HeldRow) (clock timeout : ℕ) (few : x.held.count ≤ 32) (long : length x.held.peers ≡ 32) where
  abbrev changed : List Peer
  changed = map (wait_row x.held.last clock timeout) (take x.held.count x.held.peers)

  in_rows : length (take x.held.count x.held.peers) ≡ x.held.count
  in_rows = length-take-le x.held.count x.held.peers (omega arith)

  changed_long : length changed ≡ x.held.count
  changed_long = length-map (take x.held.count x.held.peers) (wait_row x.held.last clock timeout) ∙ in_rows

  pub changed-taken : take x.held.count (padded 32 no_peer changed) ≡ changed
  changed-taken = subst (λ (k : ℕ). take k (padded 32 no_peer changed) ≡ changed) changed_long (take-padded 32 no_peer changed)

  waited-peers : (tidy_held_row (waited_held_row x clock timeout)).held.peers ≡ padded 32 no_peer changed
  unfolding tidy_held_row tidy_held waited_held_row
  waited-peers = ap (λ (l : List Peer). padded 32 no_peer l) changed-taken

  waited-front : front_bytes (tidy_held_row x) ≡ front_bytes (tidy_held_row (waited_held_row x clock timeout))
  unfolding front_bytes tidy_held_row tidy_held waited_held_row
  waited-front =
      let q : length (take x.held.count (padded 32 no_peer changed)) ≡ length (take x.held.count x.held.peers) =
      ap (λ (l : List Peer). length l) changed-taken ∙ changed_long ∙ sym in_rows in
      rw q

pub row-waited : (out m t : List ℕ) (p n last clock timeout : ℕ) → p + 1280 ≤ length out → number_at 8 out (p + 88) ≤ 32
    → Stored out m p (front_bytes (tidy_held_row (held_row_at out p))) 256 → n ≡ number_at 8 out (p + 88) → last ≡ number_at 8 out (p + 72)
    → Stored m t (p + 256) (peers_bytes (padded 32 no_peer (map (wait_row last clock timeout) (take n (peers_at m (p + 256)))))) 1024
    → Stored out t p (held_row_bytes (tidy_held_row (waited_held_row (held_row_at out p) clock timeout))) 1280
row-waited out m t p n last clock timeout room few front e f peers =
    let a : peers_at m (p + 256) ≡ (held_row_at out p).held.peers = peers_past m out (p + 256) (drop-after front (omega arith)) ∙ sym (peers-is out p) in
    let l : length (held_row_at out p).held.peers ≡ 32 = ap (λ (r : List Peer). length r) (peers-is out p) ∙ peers_long out (p + 256) in
    let c = count-is out p in
    let k : (held_row_at out p).held.count ≤ 32 = omega arith in
    let n' : n ≡ (held_row_at out p).held.count = e ∙ sym (count-is out p) in
    let l' : last ≡ (held_row_at out p).held.last = f ∙ sym (last-is out p) in
    let d : padded 32 no_peer (map (wait_row last clock timeout) (take n (peers_at m (p + 256)))) ≡ (tidy_held_row (waited_held_row (held_row_at out p) clock timeout)).held.peers =
    ap (λ (r : List Peer). padded 32 no_peer (map (wait_row last clock timeout) (take n r))) a
    ∙ ap (λ (j : ℕ). padded 32 no_peer (map (wait_row last clock timeout) (take j (held_row_at out p).held.peers))) n'
    ∙ ap (λ (j : ℕ). padded 32 no_peer (map (wait_row j clock timeout) (take (held_row_at out p).held.count (held_row_at out p).held.peers))) l'
    ∙ sym (waited-peers (held_row_at out p) clock timeout k l) in
    let q = subst (λ (r : List Peer). Stored m t (p + 256) (peers_bytes r) 1024) d peers in
    let g = stored_same (waited-front (held_row_at out p) clock timeout k l) front in
    stored_same (kept_split (tidy_held_row (waited_held_row (held_row_at out p) clock timeout))) (stored-then g q)

-- ---- one row among the others

module _ (s : List ℕ) (count at : ℕ) (y : HeldRow) where
  abbrev pub rows_set : List HeldRow
  rows_set = set (rows s count) at y

  pub set_long : length rows_set ≡ count
  set_long = length-set (rows s count) at y ∙ rows_long s count

  pub set_here : at < count → y ≡ get_or rows_set at no_held_row
  set_here h = let l = rows_long s count in sym (get_or-set_same (rows s count) at y no_held_row (omega arith))

  pub set_there : (i : ℕ) → i < count → (i ≡ at → ⊥) → held_row_at s (48 + 1280 * i) ≡ get_or rows_set i no_held_row
  set_there i h ne = row_of s count i h ∙ sym (get_or-set_other (rows s count) at i y no_held_row ne)

-- ---- a row that was waited for fits its types

wait_good : (last clock timeout : ℕ) → clock < 256 ^ 8 → (p : Peer) → Good peer_f (peer_value p) → Good peer_f (peer_value (wait_row last clock timeout p))
unfolding wait_row
wait_good last clock timeout small p g =
    by_case (lacks last p)
    (λ e. rw e
    (let f : weigh p.aligned 1 + 2 + weigh (p.proposing or overdue clock timeout p) 4 + weigh p.member 8 < 16 =
    omega (arith, weigh-most p.aligned 1, weigh-most (p.proposing or overdue clock timeout p) 4, weigh-most p.member 8) in
    ((((g.0.0.0.0, g.0.0.0.1), by_case p.behind (λ b. rw b g.0.0.1) (λ b. rw b small)), omega arith), omega arith)))
    (λ e. rw e g)

all_to : {A : Type 0} (P Q : A → Type 0) (f : A → A) → ((x : A) → P x → Q (f x)) → (l : List A) → All P l → All Q (map f l)
all_to P Q f law [] p = tt
all_to P Q f law (x ∷ l) p = (law x p.0, all_to P Q f law l p.1)

all_set : {A : Type 0} (P : A → Type 0) (l : List A) (i : ℕ) (y : A) → P y → All P l → All P (set l i y)
all_set P [] i y q p = tt
all_set P (x ∷ l) zero y q p = (q, p.1)
all_set P (x ∷ l) (suc i) y q p = (p.0, all_set P l i y q p.1)

waited_good : (x : HeldRow) (clock timeout : ℕ) → clock < 256 ^ 8 → x.held.count ≤ 32 → HeldRowFits x → HeldRowFits (waited_held_row x clock timeout)
unfolding waited_held_row
waited_good x clock timeout small few g =
    let f = wait_row x.held.last clock timeout in
    let P : Peer → Type 0 = λ p. Good peer_f (peer_value p) in
    let l : length x.held.peers ≡ 32 = sym (length-map x.held.peers peer_value) ∙ g.1.1.0 in
    let c = changed_long x clock timeout few l in
    let used = all_take P x.held.count x.held.peers (all_mapped (Good peer_f) peer_value x.held.peers g.1.1.1) in
    let next = all_to P P f (wait_good x.held.last clock timeout small) (take x.held.count x.held.peers) used in
    let none : Good peer_f (peer_value no_peer) = ((((omega arith, omega arith), omega arith), omega arith), omega arith) in (
      g.0,
      (
        g.1.0,
        (
          length-map (padded 32 no_peer (changed x clock timeout few l)) peer_value ∙ length-padded 32 no_peer (changed x clock timeout few l) (omega arith),
          all_map (Good peer_f) peer_value (padded 32 no_peer (changed x clock timeout few l)) (all-padded P 32 no_peer none (changed x clock timeout few l) next),
        ),
      ),
    )

-- ---- the whole header

end_small : (code end : ℕ) → end < 256 ^ 8 → expiry_time (expiry_of code end) < 256 ^ 8
end_small code end h = by_case (eqb code 0) (λ e. rw e (omega arith)) (λ e. rw e h)

module _ (s : List ℕ) (count : ℕ) (counts : Counts s count) (at clock timeout : ℕ) (lt : at < count) (few : number_at 8 s (48 + 1280 * at + 88) ≤ 32) where
  abbrev place : ℕ
  place = 48 + 1280 * at

  abbrev after : Node
  after = waited_node (node_at s) at clock timeout

  here : get_or (node_at s).held at no_held_row ≡ held_row_at s place
  here = row_at s count counts at no_held_row lt

  used-after : used after ≡ rows_set s count at (waited_held_row (held_row_at s place) clock timeout)
  unfolding waited_held_row
  used-after =
      let e = counts.2 in
      let k = counted s in
      let n : at < (node_at s).count = omega arith in
      take-set-lt (node_at s).count (node_at s).held at _ n
      ∙ ap (λ (x : HeldRow). set (used (node_at s)) at (waited_held_row x clock timeout)) here
      ∙ ap (λ (l : List HeldRow). set l at (waited_held_row (held_row_at s place) clock timeout)) (used-rows s count counts 0 0)

  module _ (bytes : Bytes s) (small : clock < 256 ^ 8) where
    fits : Fits after
    unfolding node_at held_row_at
    fits =
        let k = count-is s place in
        let c : (held_row_at s place).held.count ≤ 32 = omega arith in
        record {
          id = number-below 8 s 0 bytes;
          incarnation = number-below 8 s 8 bytes;
          version = number-below 8 s 16 bytes;
          expiry = end_small (number_at 4 s 36) (number_at 8 s 40) (number-below 8 s 40 bytes);
          long = length-set (node_at s).held at _ ∙ held_long s;
          rows = subst (λ (l : List HeldRow). All HeldRowFits l) (sym used-after)
              (all_set HeldRowFits (rows s count) at _ (waited_good (held_row_at s place) clock timeout small c (kept_good (value held_row_f s place) (good s bytes held_row_f place)))
              (items-all HeldRowFits count (held_row_at s) 1280 48 (λ p. kept_good (value held_row_f s p) (good s bytes held_row_f p))));
        }

    head-is : head_of (number_at 8 s 0) (number_at 8 s 8) (number_at 8 s 16) count (expiry_code (expiry_of (number_at 4 s 36) (number_at 8 s 40))) (expiry_time (expiry_of (number_at 4 s 36) (number_at 8 s 40))) ≡ head_bytes after
    unfolding node_at
    head-is = rw (in_use_lem s count counts)

    pub put-waited : (m t : List ℕ) → Stored s m 0 (head_of (number_at 8 s 0) (number_at 8 s 8) (number_at 8 s 16) count (expiry_code (expiry_of (number_at 4 s 36) (number_at 8 s 40))) (expiry_time (expiry_of (number_at 4 s 36) (number_at 8 s 40)))) 48
        → t ≡ sets m 48 (concat_map held_row_bytes (map tidy_held_row (rows_set m count at (waited_held_row (held_row_at m place) clock timeout)))) → HeaderWrites s t after
    put-waited m t head e =
        let past : drop 48 m ≡ drop 48 s = drop-after head (omega (arith, counts.0)) in
        let r : rows m count ≡ rows s count = items_past count (held_row_at m) (held_row_at s) 1280 48 m s (λ p q. kept_past m s p q) past in
        let x : held_row_at m place ≡ held_row_at s place = kept_past m s place (drop-on m s 48 (1280 * at) past) in
        let l : rows_set m count at (waited_held_row (held_row_at m place) clock timeout) ≡ used after =
        ap (λ (k : List HeldRow). set k at (waited_held_row (held_row_at m place) clock timeout)) r
        ∙ ap (λ (k : HeldRow). set (rows s count) at (waited_held_row k clock timeout)) x ∙ sym used-after in
        whole s m t after (rows_set m count at (waited_held_row (held_row_at m place) clock timeout)) counts.0 fits
        (stored_same head-is head) l e

-- ---- what is read on the way

pub count-still : (s : List ℕ) (l : List HeldRow) (out : List ℕ) (i : ℕ) → Done s l out i → number_at 8 out (48 + 1280 * i + 88) ≡ number_at 8 s (48 + 1280 * i + 88)
count-still s l out i d = value_past (word 8) out s (48 + 1280 * i + 88) (drop-on out s (48 + 1280 * i) 88 d.2)

pub count_behind : {s m : List ℕ} {b : List ℕ} → Stored s m 0 b 48 → 10288 ≤ length s → (at : ℕ) → number_at 8 m (48 + 1280 * at + 88) ≡ number_at 8 s (48 + 1280 * at + 88)
count_behind {s} {m} {b} head room at =
    let past : drop 48 m ≡ drop 48 s = drop-after head (omega arith) in
    value_past (word 8) m s (48 + 1280 * at + 88) (drop-on m s (48 + 1280 * at) 88 (drop-on m s 48 (1280 * at) past))
