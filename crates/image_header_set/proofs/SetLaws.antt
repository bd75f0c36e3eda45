-- One row of a header changed where it stands, and the header written back then. Assumes nothing.
use Prim.Native.Nat.{ℕ, zero, suc, ◌+◌, ◌-◌, ◌*◌, ◌^◌, ◌/◌, ◌≤◌, ◌<◌}
use mathlib.Core.Path.{◌≡◌, refl, sym, ap, subst, ◌∙◌}
use mathlib.Core.Bool.{Bool, true, false}
use mathlib.Core.List.{List, [], ◌∷◌, ◌++◌, map}
use lib.Dec.{eqb}
use lib.ListN.{length, take, drop, set, get_or, replicate, length-append, length-map}
use lib.Seq.{sets, length-sets, sets-eq, set-append_left}
use native.Mathlib.Omega.{arith}
use mir.Val.{Val}
use denote.Laws.{Is}
use denote.Struct.Declared.{row}
use native.Mathlib.Nat.{mul-suc}
use Rattle.spec.specs.Layout.Format.{Bytes, bytes_of, number_at, concat_map, All}
use Rattle.spec.specs.declared.Peer.{Peer}
use Rattle.spec.specs.declared.Role.{Role}
use Rattle.spec.specs.contracts.Peer as ofPeer
use Rattle.spec.specs.declared.Role.TheVariants.{Backup}
use Rattle.spec_laws.proofs.Wire.Bytes.{number-below, length-bytes}
use Rattle.std.specs.Prelude.{Option}
use Rattle.std.specs.Prelude.{None, Some}
use Rattle.node_shard.specs.declared.Held.{Held}
use Rattle.node_shard.specs.View.{with_rows}
use Rattle.node_header.specs.declared.HeldRow.{HeldRow}
use Rattle.node_header.specs.declared.Node.{Node}
use Rattle.node_header.specs.View as view
use Rattle.node_header.specs.View.{used, kept_as, with_held_rows, with_shard}
use Rattle.node_header.proofs.Lists.{by_case}
use Rattle.image_parts.specs.Shape.{Shape, Value, word, rep, u32, u64, value, items, in_use, rows_at, Good, Stored}
use Rattle.image_parts.specs.Codes.{flag_of, flag_code}
use Rattle.image_parts.proofs.Images.{sets-append, length-items}
use Rattle.image_parts.proofs.Back.{length-encode}
use Rattle.image_parts.proofs.CodeLaws.{flag_back, flag_small}
use Rattle.image_header_row.specs.Rows.{bit_of, weigh, peer_flags, peer_f, peer_of, peer_value, peer_bytes, role_f, role_bytes, held_row_f, held_row_of, held_row_value, held_row_at, held_row_bytes, expiry_of, expiry_code, expiry_time}
use Rattle.image_header_row.specs.Tidy.{tidy_held_row}
use Rattle.image_header.specs.Image.{no_held_row, node_at, head_bytes, shards_bytes, header_put}
use Rattle.image_header.specs.Becomes.{HeaderWrites}
use Rattle.image_header.proofs.Tidy.{HeldRowFits, all_fit}
use Rattle.image_header.proofs.Back.{Fits}
use Rattle.image_header.proofs.Image.{written_long}
use Rattle.image_header.proofs.Becomes.{writes_long}
use Rattle.image_header_check.specs.Rows.{Counts}
use Rattle.image_header_check.proofs.Rows.{held_long, counted, row_at}
use Rattle.image_header_form.proofs.Bytes.{drop-after}
use Rattle.image_header_put.specs.Back.{with_end, EndOf}
use Rattle.image_header_put.proofs.Back.{rows, rows_long, used-rows, in_use_lem, items-all, kept_good, good, kept_past, weigh-most}
use Rattle.image_header_set.specs.Row.{Outside, RowBecomes, peer_set, own_set, role_set, count_set, stepped_down, aligned_set, stored_set, epoch_set, last_set}
use Rattle.image_header_set.proofs.Parts.{Part, whole, first, second, each, offset, replace, part-set, alter, alter_to, map-set, take-before, take_short, value_before, drop_past, items-alter}

-- ---- all but a stretch is as it was

pub stored_outside : {s t : List ℕ} {at : ℕ} {b : List ℕ} {n : ℕ} → Stored s t at b n → (p w : ℕ) → p ≤ at → at + n ≤ p + w → p + w ≤ length s → Outside s t p w
stored_outside {s} {t} {at} {b} {n} k p w le ge room = record {
  long = ap length k.image ∙ length-sets s at b;
  front = take_short s t at p le (take-before k);
  back = drop_past t s (at + n) (p + w) ge (drop-after k (omega arith));
}

pub outside_then : {s m t : List ℕ} {p w : ℕ} → Outside s m p w → Outside m t p w → Outside s t p w
outside_then a b = record { long = b.long ∙ a.long; front = b.front ∙ a.front; back = b.back ∙ a.back }

pub row-then : {s m t : List ℕ} {p : ℕ} {x y : HeldRow} → RowBecomes s m p x → RowBecomes m t p y → RowBecomes s t p y
row-then a b = record { outside = outside_then a.outside b.outside; row = b.row }

pub row_as : {s t : List ℕ} {p : ℕ} {x y : HeldRow} → x ≡ y → RowBecomes s t p x → RowBecomes s t p y
row_as e a = record { outside = a.outside; row = a.row ∙ e }

-- ---- one field of a row

-- what is written of a peer is read as it
bits : (a b c d : Bool)
    → (bit_of (weigh a 1 + weigh b 2 + weigh c 4 + weigh d 8) ≡ a)
    × (bit_of ((weigh a 1 + weigh b 2 + weigh c 4 + weigh d 8) / 2) ≡ b)
    × (bit_of ((weigh a 1 + weigh b 2 + weigh c 4 + weigh d 8) / 4) ≡ c)
    × (bit_of ((weigh a 1 + weigh b 2 + weigh c 4 + weigh d 8) / 8) ≡ d)
bits false false false false = (refl, refl, refl, refl)
bits false false false true = (refl, refl, refl, refl)
bits false false true false = (refl, refl, refl, refl)
bits false false true true = (refl, refl, refl, refl)
bits false true false false = (refl, refl, refl, refl)
bits false true false true = (refl, refl, refl, refl)
bits false true true false = (refl, refl, refl, refl)
bits false true true true = (refl, refl, refl, refl)
bits true false false false = (refl, refl, refl, refl)
bits true false false true = (refl, refl, refl, refl)
bits true false true false = (refl, refl, refl, refl)
bits true false true true = (refl, refl, refl, refl)
bits true true false false = (refl, refl, refl, refl)
bits true true false true = (refl, refl, refl, refl)
bits true true true false = (refl, refl, refl, refl)
bits true true true true = (refl, refl, refl, refl)

pub peer-back : (p : Peer) → peer_of (peer_value p) ≡ p
peer-back p = let b = bits p.aligned p.behind p.proposing p.member in rw (b.0, b.1, b.2, b.3)

module _ (s t : List ℕ) (p : ℕ) (room : p + 1280 ≤ length s) where
  pub peer-set : (i : ℕ) → i < 32 → (q : Peer) → Good peer_f (peer_value q) → Stored s t (p + 256 + 32 * i) (peer_bytes q) 32
      → RowBecomes s t p (peer_set (held_row_at s p) i q)
  unfolding held_row_at peer_bytes
  peer-set i lt q g k =
      let at : Part held_row_f peer_f = second (second (each i lt whole)) in
      let e : p + 256 + 32 * i ≡ p + offset at = omega arith in
      let l = value (rep 32 peer_f) s (p + 64 + 192) in
      record {
        outside = stored_outside k p 1280 (omega arith) (omega arith) room;
        row = ap held_row_of (part-set at s t p (peer_value q) g room (rw e at k))
            ∙ ap (λ (r : List Peer). peers_as (held_row_of (value held_row_f s p)) r)
            (ap (map peer_of) (alter_to l i (peer_value q)) ∙ map-set peer_of l i (peer_value q) ∙ ap (set (map peer_of l) i) (peer-back q));
      }
    where
      peers_as : HeldRow → List Peer → HeldRow
      peers_as x r = kept_as x (with_rows x.held r)

  pub own-set : (b : Bool) → Stored s t (p + 100) (bytes_of 4 (flag_code b)) 4 → RowBecomes s t p (own_set (held_row_at s p) b)
  unfolding held_row_at
  own-set b k =
      let at : Part held_row_f u32 = second (first (first (first (first (second whole))))) in
      let f = flag_small b in
      record {
        outside = stored_outside k p 1280 (omega arith) (omega arith) room;
        row = ap held_row_of (part-set at s t p (flag_code b) (omega arith) room k) ∙ ap (λ (c : Bool). own_set (held_row_of (value held_row_f s p)) c) (flag_back b);
      }

  pub count_set_lem : (n : ℕ) → n < 256 ^ 8 → Stored s t (p + 88) (bytes_of 8 n) 8 → RowBecomes s t p (count_set (held_row_at s p) n)
  unfolding held_row_at
  count_set_lem n small k =
      let at : Part held_row_f u64 = second (first (first (first (first (first (first (second whole))))))) in
      record {
        outside = stored_outside k p 1280 (omega arith) (omega arith) room;
        row = ap held_row_of (part-set at s t p n small room k);
      }

  pub backup_set : Stored s t (p + 108) (role_bytes Backup) 20 → RowBecomes s t p (role_set (held_row_at s p) Backup)
  unfolding held_row_at role_bytes
  backup_set k =
      let at : Part held_row_f role_f = second (first (first (second whole))) in
      record {
        outside = stored_outside k p 1280 (omega arith) (omega arith) room;
        row = ap held_row_of (part-set at s t p ((0, 0), 0) ((omega arith, omega arith), omega arith) room k);
      }

-- one after the other: the role left, no peers, not in its own ack set
pub stepped_down_lem : (s m u t : List ℕ) (p : ℕ) → p + 1280 ≤ length s → Stored s m (p + 108) (role_bytes Backup) 20 → Stored m u (p + 88) (bytes_of 8 0) 8
    → RowBecomes u t p (own_set (held_row_at u p) false) → RowBecomes s t p (kept_as (held_row_at s p) (stepped_down (held_row_at s p).held))
stepped_down_lem s m u t p room role count own =
    let a = backup_set s m p room role in
    let n = a.outside.long in
    let b = count_set_lem m u p (omega arith) 0 (omega arith) count in
    row_as (ap (λ (x : HeldRow). own_set x false) (b.row ∙ ap (λ (x : HeldRow). count_set x 0) a.row)) (row-then a (row-then b own))

-- ---- the log aligned

module _ (s t : List ℕ) (p : ℕ) (room : p + 1280 ≤ length s) (n : ℕ) (small : n < 256 ^ 8) where
  stored-set : Stored s t (p + 56) (bytes_of 8 n) 8 → RowBecomes s t p (stored_set (held_row_at s p) n)
  unfolding held_row_at
  stored-set k =
      let at : Part held_row_f u64 = first (second whole) in
      record {
        outside = stored_outside k p 1280 (omega arith) (omega arith) room;
        row = ap held_row_of (part-set at s t p n small room k);
      }

  epoch-set : Stored s t (p + 64) (bytes_of 8 n) 8 → RowBecomes s t p (epoch_set (held_row_at s p) n)
  unfolding held_row_at
  epoch-set k =
      let at : Part held_row_f u64 = second (first (first (first (first (first (first (first (first (first whole))))))))) in
      record {
        outside = stored_outside k p 1280 (omega arith) (omega arith) room;
        row = ap held_row_of (part-set at s t p n small room k);
      }

  last_set_lem : Stored s t (p + 72) (bytes_of 8 n) 8 → RowBecomes s t p (last_set (held_row_at s p) n)
  unfolding held_row_at
  last_set_lem k =
      let at : Part held_row_f u64 = second (first (first (first (first (first (first (first (first (second whole))))))))) in
      record {
        outside = stored_outside k p 1280 (omega arith) (omega arith) room;
        row = ap held_row_of (part-set at s t p n small room k);
      }

-- how many rows, the epoch, how many entries, and the role left
pub aligned-set : (s a b d t : List ℕ) (p epoch last stored : ℕ) → p + 1280 ≤ length s → epoch < 256 ^ 8 → last < 256 ^ 8 → stored < 256 ^ 8
    → Stored s a (p + 56) (bytes_of 8 stored) 8 → Stored a b (p + 64) (bytes_of 8 epoch) 8 → Stored b d (p + 72) (bytes_of 8 last) 8
    → RowBecomes d t p (kept_as (held_row_at d p) (stepped_down (held_row_at d p).held)) → RowBecomes s t p (aligned_set (held_row_at s p) epoch last stored)
aligned-set s a b d t p epoch last stored room he hl hs ks ke kl down =
    let x = stored-set s a p room stored hs ks in
    let la = x.outside.long in
    let y = epoch-set a b p (omega arith) epoch he ke in
    let lb = y.outside.long in
    let z = last_set_lem b d p (omega arith) last hl kl in
    row_as
    (ap (λ (w : HeldRow). kept_as w (stepped_down w.held))
    (z.row ∙ ap (λ (w : HeldRow). last_set w last) (y.row ∙ ap (λ (w : HeldRow). epoch_set w epoch) x.row)))
    (row-then x (row-then y (row-then z down)))

-- a peer that a function is handed fits
pub peer-typed : (p : Peer) (vs : List Val) → Is (row ofPeer.the_type) p vs → Good peer_f (peer_value p)
peer-typed p vs q =
    let f : peer_flags p < 16 = omega (arith, weigh-most p.aligned 1, weigh-most p.behind 2, weigh-most p.proposing 4, weigh-most p.member 8) in
    ((((q.1.1.0.1.1.0.1, q.1.1.1.0.1.1.0.1), q.1.1.1.1.1.1.0.1), omega arith), omega arith)

-- ---- the header that the bytes are read as then

expiry_back : (e : Option ℕ) → expiry_of (expiry_code e) (expiry_time e) ≡ e
expiry_back None = refl
expiry_back (Some t) = refl

pub end_kept : (e : Option ℕ) (code end : ℕ) → code ≡ expiry_code e → end ≡ expiry_time e → EndOf code end
end_kept e code end c t =
    let q : expiry_of code end ≡ e = ap (λ (k : ℕ). expiry_of k end) c ∙ ap (expiry_of (expiry_code e)) t ∙ expiry_back e in
    (ap expiry_code q ∙ sym c, ap expiry_time q ∙ sym t)

pub end_read : (s : List ℕ) (a b : ℕ) → a ≡ number_at 4 s 36 → b ≡ number_at 8 s 40 → (e : Option ℕ) → e ≡ expiry_of a b → e ≡ (node_at s).expiry
unfolding node_at
end_read s a b p q e is = is ∙ ap (λ (k : ℕ). expiry_of k b) p ∙ ap (expiry_of (number_at 4 s 36)) q

abbrev with_expiry : Node → Option ℕ → Node
with_expiry n x = record { id = n.id; incarnation = n.incarnation; expiry = x; version = n.version; held = n.held; count = n.count }

pub writes-same : {s t : List ℕ} {n m : Node} → n ≡ m → HeaderWrites s t n → HeaderWrites s t m
writes-same {s} {t} {n} {m} e w = subst (λ (x : Node). HeaderWrites s t x) e w

pub same_end : (s : List ℕ) (e : Option ℕ) → e ≡ (node_at s).expiry → (code end : ℕ) → code ≡ expiry_code e → end ≡ expiry_time e → with_end (node_at s) code end ≡ node_at s
same_end s e is code end c t =
    ap (λ (k : ℕ). with_end (node_at s) k end) c ∙ ap (with_end (node_at s) (expiry_code e)) t ∙ ap (with_expiry (node_at s)) (expiry_back e ∙ is)

module _ (s m : List ℕ) (count : ℕ) (counts : Counts s count) (at : ℕ) (lt : at < count) (out : Outside s m (48 + 1280 * at) 1280) where
  abbrev place : ℕ
  place = 48 + 1280 * at

  front : (k p : ℕ) → p + k ≤ 48 → number_at k m p ≡ number_at k s p
  front k p h = value_before m s place out.front (word k) p (omega arith)

  pub counts-still : Counts m count
  counts-still = let l = out.long in let c = counts.0 in (omega arith, counts.1, front 8 24 (omega arith) ∙ counts.2)

  before : (p : ℕ) → p + 1280 ≤ place → held_row_at m p ≡ held_row_at s p
  unfolding held_row_at
  before p h = ap held_row_of (value_before m s place out.front held_row_f p h)

  after : (p : ℕ) → place + 1280 ≤ p → held_row_at m p ≡ held_row_at s p
  after p h = kept_past m s p (drop_past m s (place + 1280) p h out.back)

  rows-set : rows m count ≡ set (rows s count) at (held_row_at m place)
  rows-set = items-alter (held_row_at s) (held_row_at m) 1280 count at 48 place lt refl (λ x. held_row_at m place) before refl after ∙ alter_to (rows s count) at (held_row_at m place)

  pub node-set : node_at m ≡ with_held_rows (node_at s) (set (node_at s).held at (held_row_at m place))
  unfolding node_at rows_at
  node-set =
      let n = rows_long s count in
      let u = in_use_lem s count counts in
      let rest = replicate (8 - count) no_held_row in
      let held : rows m count ++ rest ≡ set (rows s count ++ rest) at (held_row_at m place) =
      ap (λ (l : List HeldRow). l ++ rest) rows-set ∙ sym (set-append_left (rows s count) rest at (held_row_at m place) (omega arith)) in
      rw (front 8 0 (omega arith), front 8 8 (omega arith), front 4 36 (omega arith), front 8 40 (omega arith), front 8 16 (omega arith), front 8 24 (omega arith), u) (rw held)

-- ---- and the header written back

kept_long : (x : HeldRow) → HeldRowFits x → length (held_row_bytes x) ≡ 1280
unfolding held_row_bytes
kept_long x g = length-encode held_row_f (held_row_value x) g

shards_long : (l : List HeldRow) → All HeldRowFits l → length (concat_map held_row_bytes l) ≡ 1280 * length l
shards_long [] p = refl
shards_long (x ∷ l) p =
    length-append (held_row_bytes x) (concat_map held_row_bytes l) ∙ omega (arith, kept_long x p.0, shards_long l p.1, mul-suc 1280 (length l))

end_small : (code end : ℕ) → end < 256 ^ 8 → expiry_time (expiry_of code end) < 256 ^ 8
end_small code end h = by_case (eqb code 0) (λ e. rw e (omega arith)) (λ e. rw e h)

module _ (s : List ℕ) (bytes : Bytes s) (count : ℕ) (counts : Counts s count) where
  rows_are : used (node_at s) ≡ rows s count
  rows_are = used-rows s count counts 0 0

  pub node-fits : Fits (node_at s)
  unfolding node_at held_row_at
  node-fits = record {
    id = number-below 8 s 0 bytes;
    incarnation = number-below 8 s 8 bytes;
    version = number-below 8 s 16 bytes;
    expiry = end_small (number_at 4 s 36) (number_at 8 s 40) (number-below 8 s 40 bytes);
    long = held_long s;
    rows = subst (λ (l : List HeldRow). All HeldRowFits l) (sym rows_are) (items-all HeldRowFits count (held_row_at s) 1280 48 (λ p. kept_good (value held_row_f s p) (good s bytes held_row_f p)));
  }

  pub rows_written : length (shards_bytes (node_at s)) ≡ 1280 * count
  rows_written =
      let l = rows_long s count in
      shards_long (map tidy_held_row (used (node_at s))) (all_fit (used (node_at s)) node-fits.rows)
      ∙ ap (λ (k : ℕ). 1280 * k) (length-map (used (node_at s)) tidy_held_row ∙ ap (λ (r : List HeldRow). length r) rows_are ∙ l)

-- bytes that are written over do not count
pub put_over : (s m : List ℕ) (n : Node) → length m ≡ length s → 48 + length (shards_bytes n) ≤ length s
    → drop (48 + length (shards_bytes n)) m ≡ drop (48 + length (shards_bytes n)) s → header_put m n ≡ header_put s n
unfolding header_put
put_over s m n e room d =
    let b = head_bytes n ++ shards_bytes n in
    let lh : length (head_bytes n) ≡ 48 = refl in
    let lb : length b ≡ 48 + length (shards_bytes n) = length-append (head_bytes n) (shards_bytes n) ∙ ap (λ (k : ℕ). k + length (shards_bytes n)) lh in
    let z : 0 + length b ≡ 48 + length (shards_bytes n) = omega arith in
    let past : drop (0 + length b) m ≡ drop (0 + length b) s = rw z d in
    sym (sets-append m 0 (head_bytes n) (shards_bytes n))
    ∙ sets-eq b m 0 (omega arith) ∙ ap (λ (l : List ℕ). b ++ l) past ∙ sym (sets-eq b s 0 (omega arith))
    ∙ sets-append s 0 (head_bytes n) (shards_bytes n)

-- the bytes that were changed all lie where the header is written then
pub back_over : (s m t : List ℕ) (count : ℕ) → Counts m count → Bytes m → 10288 ≤ length s → length m ≡ length s
    → drop (48 + 1280 * count) m ≡ drop (48 + 1280 * count) s → HeaderWrites m t (node_at m) → HeaderWrites s t (node_at m)
back_over s m t count counts bytes room long past w =
    let few = counts.1 in
    let size = rows_written m bytes count counts in
    let z : 48 + 1280 * count ≡ 48 + length (shards_bytes (node_at m)) = omega arith in
    writes_long s (node_at m) t room (node-fits m bytes count counts)
    (w.image ∙ sym (written_long m (node_at m) (omega arith)) ∙ put_over s m (node_at m) long (omega arith) (rw z at past))

module _ (s m t : List ℕ) (count : ℕ) (counts : Counts s count) (at : ℕ) (lt : at < count) where
  -- one row changed, then all in the canonical form
  pub row_put : (x : HeldRow) → RowBecomes s m (48 + 1280 * at) x → Bytes m → HeaderWrites m t (node_at m)
      → HeaderWrites s t (with_held_rows (node_at s) (set (node_at s).held at x))
  row_put x r bytes w =
      let o = r.outside in
      let few = counts.1 in
      writes-same (node-set s m count counts at lt o ∙ ap (λ (y : HeldRow). with_held_rows (node_at s) (set (node_at s).held at y)) r.row)
      (back_over s m t count (counts-still s m count counts at lt o) bytes counts.0 o.long
      (drop_past m s (48 + 1280 * at + 1280) (48 + 1280 * count) (omega arith) o.back) w)

  -- .. of which its key, its slot and its numbers of entries and rows stay
  pub row_back : (h : Held) → RowBecomes s m (48 + 1280 * at) (kept_as (held_row_at s (48 + 1280 * at)) h) → Bytes m → HeaderWrites m t (node_at m)
      → HeaderWrites s t (with_shard (node_at s) at h)
  row_back h r bytes w =
      row_put (kept_as (get_or (node_at s).held at view.no_held_row) h)
      (row_as (ap (λ (x : HeldRow). kept_as x h) (sym (row_at s count counts at view.no_held_row lt))) r) bytes w
