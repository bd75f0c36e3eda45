-- A header that was written is read back, whatever the image held before: every code is listed, and the header that the bytes are read as
-- has the rows written, so that it is the one written, whatever the stores hold. Assumes nothing.
use Prim.Native.Nat.{ℕ, ◌+◌, ◌/◌, ◌^◌, ◌≤◌, ◌<◌}
use mathlib.Core.Path.{◌≡◌, refl, sym, ap, subst, ◌∙◌}
use mathlib.Core.Bool.{Bool, true, false}
use mathlib.Core.List.{List, [], ◌∷◌, ◌++◌, map}
use lib.ListN.{length, take, drop, length-map}
use lib.Seq.{sets, length-sets, length-take-le}
use native.Mathlib.Omega.{arith}
use borrow.Author.Tests.{lt-ltb, le-leb}
use Rattle.spec.specs.Layout.Format.{number_at, concat_map, All}
use Rattle.spec.specs.Layout.Parts.{metric_code}
use Rattle.spec.specs.Node.Held as held
use Rattle.spec_laws.proofs.Wire.Data.{metric_of_lem, metric_below}
use Rattle.spec_laws.proofs.Wire.Tests.{and_intro}
use Rattle.spec.specs.declared.Peer.{Peer}
use Rattle.spec.specs.declared.Role.{Role}
use Rattle.spec.specs.declared.Role.TheVariants.{Backup, Primary}
use Rattle.node_admit.specs.View.{view_expiry}
use Rattle.std.specs.Prelude.{Option}
use Rattle.std.specs.Prelude.{None, Some}
use Rattle.node_shard.specs.declared.Held.{Held}
use Rattle.map_tables.proofs.Tables.{map-take}
use Rattle.node_header.specs.View.{Stores, used, view_held_row, view_node}
use Rattle.node_header.specs.Slots.{slots_of}
use Rattle.node_header.specs.declared.HeldRow.{HeldRow}
use Rattle.node_header.specs.declared.Node.{Node}
use Rattle.image_parts.specs.Shape.{Shape, Value, ◌▸◌, u32, u64, value, in_use, codes_below}
use Rattle.image_parts.proofs.Canon.{take-used}
use Rattle.image_parts.proofs.Images.{length-used}
use Rattle.image_parts.proofs.Tidied.{take_within}
use Rattle.image_parts.proofs.Back.{length-encode, value-encode, Holds, holds-stored, holds_kept, TableFits, length-table, table-back, table_codes}
use Rattle.image_parts.proofs.CodeLaws.{flag_back, flag_small, replicas-back}
use Rattle.image_header_row.specs.Rows.{bit_of, weigh, peer_of, peer_value, role_of, role_value, held_row_f, held_row_of, held_row_value, held_row_at, held_row_bytes, expiry_of, expiry_code, expiry_time}
use Rattle.image_header_row.specs.Tidy.{tidy_held_row}
use Rattle.image_header.proofs.Flags.{flags_back}
use Rattle.image_header.proofs.Tidy.{HeldRowFits, all_fit, view-tidied, slots-tidied}
use Rattle.image_header.specs.Image.{no_held_row, shard_codes, flags_listed, codes_listed, node_at, head_bytes, shards_bytes, header_put}

-- ---- parts

bits : (a b c d : Bool)
    → (bit_of (weigh a 1 + weigh b 2 + weigh c 4 + weigh d 8) ≡ a)
    × (bit_of ((weigh a 1 + weigh b 2 + weigh c 4 + weigh d 8) / 2) ≡ b)
    × (bit_of ((weigh a 1 + weigh b 2 + weigh c 4 + weigh d 8) / 4) ≡ c)
    × (bit_of ((weigh a 1 + weigh b 2 + weigh c 4 + weigh d 8) / 8) ≡ d)
bits false false false false = (refl, refl, refl, refl)
bits false false false true = (refl, refl, refl, refl)
bits false false true false = (refl, refl, refl, refl)
bits false false true true = (refl, refl, refl, refl)
bits false true false false = (refl, refl, refl, refl)
bits false true false true = (refl, refl, refl, refl)
bits false true true false = (refl, refl, refl, refl)
bits false true true true = (refl, refl, refl, refl)
bits true false false false = (refl, refl, refl, refl)
bits true false false true = (refl, refl, refl, refl)
bits true false true false = (refl, refl, refl, refl)
bits true false true true = (refl, refl, refl, refl)
bits true true false false = (refl, refl, refl, refl)
bits true true false true = (refl, refl, refl, refl)
bits true true true false = (refl, refl, refl, refl)
bits true true true true = (refl, refl, refl, refl)

peer-back : (p : Peer) → peer_of (peer_value p) ≡ p
peer-back p = let b = bits p.aligned p.behind p.proposing p.member in rw (b.0, b.1, b.2, b.3)

peers-back : (l : List Peer) → map peer_of (map peer_value l) ≡ l
peers-back [] = refl
peers-back (x ∷ l) = rw (peer-back x, peers-back l)

role_back : (r : Role) → role_of (role_value r) ≡ r
role_back Backup = refl
role_back (Primary e o) = refl

role_small : (r : Role) → (role_value r).0.0 < 2
role_small Backup = omega arith
role_small (Primary e o) = omega arith

expiry_back : (e : Option ℕ) → expiry_of (expiry_code e) (expiry_time e) ≡ e
expiry_back None = refl
expiry_back (Some t) = refl

expiry_small : (e : Option ℕ) → expiry_code e < 2
expiry_small None = omega arith
expiry_small (Some t) = omega arith

-- ---- a held shard

kept_long : (x : HeldRow) → HeldRowFits x → length (held_row_bytes x) ≡ 1280
unfolding held_row_bytes
kept_long x g = length-encode held_row_f (held_row_value x) g

module _ (s : List ℕ) where
  kept-value : (x : HeldRow) (at : ℕ) (t : List ℕ) → HeldRowFits x → drop at s ≡ held_row_bytes x ++ t → value held_row_f s at ≡ held_row_value x
  unfolding held_row_bytes
  kept-value x at t g e = value-encode held_row_f (held_row_value x) s at t g e

  kept_back : (x : HeldRow) (at : ℕ) (t : List ℕ) → HeldRowFits x → drop at s ≡ held_row_bytes x ++ t → held_row_at s at ≡ x
  unfolding held_row_at
  kept_back x at t g e =
      ap held_row_of (kept-value x at t g e)
      ∙ (rw (metric_of_lem x.held.metric, flag_back x.held.own, role_back x.held.role, replicas-back x.held.replicas, peers-back x.held.peers))

  metric_code_lem : (x : HeldRow) (at : ℕ) (t : List ℕ) → HeldRowFits x → drop at s ≡ held_row_bytes x ++ t → number_at 4 s (at + 96) < 2
  metric_code_lem x at t g e =
      let c : number_at 4 s (at + 64 + 32) ≡ metric_code x.held.metric = ap (λ (v : Value held_row_f). v.1.0.0.0.0.0.1) (kept-value x at t g e) in
      let q : at + 96 ≡ at + 64 + 32 = omega arith in
      rw (q, c) (metric_below x.held.metric)

  own_code : (x : HeldRow) (at : ℕ) (t : List ℕ) → HeldRowFits x → drop at s ≡ held_row_bytes x ++ t → number_at 4 s (at + 100) < 2
  own_code x at t g e =
      let c = ap (λ (v : Value held_row_f). v.1.0.0.0.0.1) (kept-value x at t g e) in
      let q : at + 100 ≡ at + 64 + 36 = omega arith in
      rw (q, c) (flag_small x.held.own)

  role_code : (x : HeldRow) (at : ℕ) (t : List ℕ) → HeldRowFits x → drop at s ≡ held_row_bytes x ++ t → number_at 4 s (at + 108) < 2
  role_code x at t g e =
      let c = ap (λ (v : Value held_row_f). v.1.0.0.1.0.0) (kept-value x at t g e) in
      let q : at + 108 ≡ at + 64 + 44 = omega arith in
      rw (q, c) (role_small x.held.role)

-- ---- the whole header

-- numbers and arrays, of the shards in use, are those of their types
pub record Fits (n : Node) : Type 0 where
  pub id : n.id.0 < 256 ^ 8
  pub incarnation : n.incarnation < 256 ^ 8
  pub version : n.version < 256 ^ 8
  pub expiry : expiry_time n.expiry < 256 ^ 8
  pub long : length n.held ≡ 8
  pub rows : All HeldRowFits (used n)

abbrev head_f : Shape
head_f = u64 ▸ u64 ▸ u64 ▸ u64 ▸ u32 ▸ u32 ▸ u64

abbrev head_value : Node → Value head_f
head_value n = ((((((n.id.0, n.incarnation), n.version), in_use 8 n.count), 0), expiry_code n.expiry), expiry_time n.expiry)

abbrev node_of : ℕ → ℕ → Option ℕ → ℕ → List held.Held → held.Node
node_of i c e v l = record { id = i; incarnation = c; expiry = view_expiry e; version = v; held = l }

same-node : {i j c d v w : ℕ} {e f : Option ℕ} {l m : List held.Held} → i ≡ j → c ≡ d → e ≡ f → v ≡ w → l ≡ m → node_of i c e v l ≡ node_of j d f w m
same-node p q r s t = rw (p, q, r, s, t)

module _ (n : Node) (fits : Fits n) where
  -- the rows written, as those of a table
  rows-used : take (in_use 8 n.count) (map tidy_held_row n.held) ≡ map tidy_held_row (used n)
  rows-used = sym (map-take tidy_held_row (in_use 8 n.count) n.held) ∙ ap (map tidy_held_row) (take-used 8 n.count n.held fits.long)

  table : TableFits HeldRowFits 8 (in_use 8 n.count) (map tidy_held_row n.held)
  table =
      let k = fits.long in
      let u = length-used 8 n.count n.held k in
      record {
        count = omega (arith, take_within n.count n.held);
        long = length-map n.held tidy_held_row ∙ k;
        rows = subst (λ (l : List HeldRow). All HeldRowFits l) (sym rows-used) (all_fit (used n) fits.rows);
      }

module _ (s : List ℕ) (n : Node) (room : 10288 ≤ length s) (fits : Fits n) where
  abbrev count : ℕ
  count = in_use 8 n.count

  abbrev rows : List HeldRow
  rows = map tidy_held_row n.held

  length-shards : length (shards_bytes n) ≤ 10240
  length-shards =
      let k = (table n fits).count in
      let l = length-table HeldRowFits held_row_bytes 1280 kept_long 8 count rows (table n fits) in
      let e = ap (λ (l : List HeldRow). length (concat_map held_row_bytes l)) (rows-used n fits) in
      omega arith

  pub length-put : length (header_put s n) ≡ length s
  unfolding header_put
  length-put = length-sets (sets s 0 (head_bytes n)) 48 (shards_bytes n) ∙ length-sets s 0 (head_bytes n)

  head-held : Holds (header_put s n) 0 (head_bytes n)
  unfolding header_put
  head-held =
      let lh : length (head_bytes n) ≡ 48 = refl in
      holds_kept (sets s 0 (head_bytes n)) 0 48 (head_bytes n) (shards_bytes n) (holds-stored s 0 (head_bytes n) (omega arith)) (omega arith)

  shards-held : Holds (header_put s n) 48 (concat_map held_row_bytes (take count rows))
  unfolding header_put
  shards-held =
      let k = length-shards in
      let l : length (sets s 0 (head_bytes n)) ≡ length s = length-sets s 0 (head_bytes n) in
      subst (λ (l : List HeldRow). Holds (header_put s n) 48 (concat_map held_row_bytes l)) (sym (rows-used n fits))
      (holds-stored (sets s 0 (head_bytes n)) 48 (shards_bytes n) (omega arith))

  head-back : value head_f (header_put s n) 0 ≡ head_value n
  head-back =
      let c = (table n fits).count in
      let e = expiry_small n.expiry in
      value-encode head_f (head_value n) (header_put s n) 0 head-held.tail
      ((((((fits.id, fits.incarnation), fits.version), omega arith), omega arith), omega arith), fits.expiry)
      head-held.here

  count-back : number_at 8 (header_put s n) 24 ≡ count
  count-back = ap (λ (v : Value head_f). v.0.0.0.1) head-back

  codes_below_lem : (o : ℕ) → ((x : HeldRow) (p : ℕ) (t : List ℕ) → HeldRowFits x → drop p (header_put s n) ≡ held_row_bytes x ++ t → number_at 4 (header_put s n) (p + o) < 2)
      → codes_below 2 1280 (header_put s n) (in_use 8 (number_at 8 (header_put s n) 24)) (48 + o) ≡ true
  codes_below_lem o law =
      table_codes HeldRowFits held_row_bytes 1280 kept_long 8 count rows (table n fits) (header_put s n) 48 2 o law shards-held (number_at 8 (header_put s n) 24) count-back

  shard_codes_lem : shard_codes (header_put s n) ≡ true
  unfolding shard_codes
  shard_codes_lem =
      let w = header_put s n in
      let e : number_at 4 w 36 ≡ expiry_code n.expiry = ap (λ (v : Value head_f). v.0.1) head-back in
      let h : number_at 4 w 36 < 2 = rw e (expiry_small n.expiry) in
      and_intro
      (and_intro (lt-ltb (number_at 4 w 36) 2 h) refl)
      (and_intro (codes_below_lem 96 (metric_code_lem w)) (and_intro (codes_below_lem 100 (own_code w)) (codes_below_lem 108 (role_code w))))

  flags_listed_lem : flags_listed (header_put s n) (in_use 8 (number_at 8 (header_put s n) 24)) 48 ≡ true
  flags_listed_lem =
      let w = header_put s n in
      let k = table n fits in
      let c = k.count in
      let l = k.long in
      let used : length (take count rows) ≡ count = length-take-le count rows (omega arith) in
      ap (λ (m : ℕ). flags_listed w m 48) (ap (in_use 8) count-back ∙ (rw (le-leb count 8 c)) ∙ sym used)
      ∙ flags_back w (kept-value w) kept_long (take count rows) 48 shards-held.tail k.rows shards-held.here

  -- what was written lends a header
  pub codes_listed_lem : codes_listed (header_put s n) ≡ true
  unfolding codes_listed
  codes_listed_lem = and_intro shard_codes_lem flags_listed_lem

  -- and its shards are those written
  pub used-back : used (node_at (header_put s n)) ≡ map tidy_held_row (used n)
  unfolding node_at
  used-back =
      let w = header_put s n in
      table-back HeldRowFits held_row_bytes 1280 kept_long 8 count rows (table n fits) w 48 (held_row_at w) no_held_row (kept_back w) shards-held (number_at 8 w 24) count-back
      ∙ rows-used n fits

  -- so that it is read as the one that was given, and each shard has its slot
  pub header-back : (st : Stores) → view_node st (node_at (header_put s n)) ≡ view_node st n
  unfolding node_at
  header-back st =
      let w = header_put s n in
      let c = ap (λ (v : Value head_f). v.0.1) head-back in
      let t = ap (λ (v : Value head_f). v.1) head-back in
      same-node
      (ap (λ (v : Value head_f). v.0.0.0.0.0.0) head-back)
      (ap (λ (v : Value head_f). v.0.0.0.0.0.1) head-back)
      (ap (λ (k : ℕ). expiry_of k (number_at 8 w 40)) c ∙ ap (expiry_of (expiry_code n.expiry)) t ∙ expiry_back n.expiry)
      (ap (λ (v : Value head_f). v.0.0.0.0.1) head-back)
      (ap (map (view_held_row st)) used-back ∙ view-tidied st (used n))

  -- the count is that of the rows
  pub counted_back : (node_at (header_put s n)).count ≡ in_use 8 n.count
  unfolding node_at
  counted_back = count-back

  pub count-within : (node_at (header_put s n)).count ≤ 8
  count-within = let k = (table n fits).count in let e = counted_back in omega arith

  pub slots-back : slots_of (node_at (header_put s n)) ≡ slots_of n
  slots-back = ap (map (λ (x : HeldRow). x.slot)) used-back ∙ slots-tidied (used n)
