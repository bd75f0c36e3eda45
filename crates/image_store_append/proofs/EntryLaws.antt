-- The bytes of one entry, and a store one entry longer: its table is that of the longer log. Assumes nothing.
use Prim.Native.Nat.{ℕ, zero, suc, ◌+◌, ◌*◌, ◌^◌, ◌≤◌, ◌<◌}
use mathlib.Core.Path.{◌≡◌, refl, sym, ap, ◌∙◌, subst}
use mathlib.Core.Bool.{Bool, true, false, not}
use mathlib.Core.List.{List, [], ◌∷◌, ◌++◌, map}
use native.Mathlib.Omega.{arith}
use native.Mathlib.Numerals.{add-one}
use borrow.Author.Tests.{leb-true, le-leb}
use lib.Dec.{T, leb}
use lib.Ieee.{Float, binary32, of_bits, fits}
use lib.Ieee.Bits.{of_bits-fits, to_bits-of_bits, nan_bits_is}
use lib.ListN.{length, drop, length-append}
use lib.Seq.{sets, drop-cons, drop-length, drop-append_seam}
use Rattle.spec.specs.Lists.{◌and◌, every, put, filter, rising}
use Rattle.spec.specs.Log.{upsert, delete, Entry, Log}
use Rattle.spec.specs.Layout.Format.{Bytes, bytes_of, number_at, concat_map}
use Rattle.spec.specs.Nearest.Order.{in_domain, bits_in_domain}
use Rattle.spec.specs.Node.Wire.{float_of, bits_of, floats_of}
use Rattle.spec.specs.Node.WellFormed.{component, numbered_from, well_formed_vector, well_formed_entry}
use Rattle.spec_laws.proofs.Lists.{and_true, and_left, and_right}
use Rattle.spec_laws.proofs.Wire.Bytes.{length-bytes, number-below}
use Rattle.spec_laws.proofs.Map.Rows.{every_tail, every_cons}
use Rattle.log_store.specs.Table.{Row, rows_of, row_below, other_row, row_op, play_rows}
use Rattle.log_store.specs.Store.{every_below}
use Rattle.log_store.proofs.Bits.{domain_number, floats-length}
use Rattle.log_store.proofs.Facts.{same-rows}
use Rattle.log_store.proofs.Firsts.{firsts-length}
use Rattle.log_store.proofs.PlayRows.{rows_snoc, rows-rise, rows-most}
use Rattle.log_store.proofs.Rows.{rows-length}
use Rattle.log_check.specs.Conditions.{Rises}
use Rattle.log_check.proofs.Lookup.{rows-rises}
use Rattle.image_store.specs.Image.{words, keys_in, places_in, entry_at, log_at, rows_at, code_fits_at, well_formed_image}
use Rattle.image_store.specs.Write.{Fits, numbers_put, entry_put, entries_put, log_put, rows_put}
use Rattle.image_store.proofs.WriteLaws.{other}
use Rattle.image_store.proofs.Stored.{words_same}
use Rattle.image_store.proofs.Words.{words-length, words-at}
use Rattle.image_store_append.specs.Put.{Tables, Vector, Appended, Grown, longer, upsert_at, delete_at}
use Rattle.image_store_append.proofs.WordLaws.{sets_join}

-- ---- patterns, one after the other

pub patterns-step : (out s : List ℕ) (at from n i x : ℕ) → i < n → x ≡ number_at 4 s (from + 4 * i)
    → sets (sets out (at + 4 * i) (bytes_of 4 x)) (at + 4 * (i + 1)) (concat_map (bytes_of 4) (drop (i + 1) (words 4 n s from)))
    ≡ sets out (at + 4 * i) (concat_map (bytes_of 4) (drop i (words 4 n s from)))
patterns-step out s at from n i x h e =
    let w = words 4 n s from in
    let p : at + 4 * (i + 1) ≡ at + 4 * i + length (bytes_of 4 x) = omega (arith, length-bytes 4 x) in
    let d : drop i w ≡ x ∷ drop (i + 1) w =
    drop-cons w i 0 (omega (arith, words-length 4 n s from))
    ∙ ap (λ (y : ℕ). y ∷ drop (suc i) w) (words-at 4 n s from i h ∙ sym e) ∙ ap (λ (m : ℕ). x ∷ drop m w) (sym (add-one i)) in
    ap (λ (m : ℕ). sets (sets out (at + 4 * i) (bytes_of 4 x)) m (concat_map (bytes_of 4) (drop (i + 1) w))) p
    ∙ sets_join (bytes_of 4 x) (concat_map (bytes_of 4) (drop (i + 1) w)) out (at + 4 * i)
    ∙ ap (λ (l : List ℕ). sets out (at + 4 * i) (concat_map (bytes_of 4) l)) (sym d)

pub patterns-end : (out s : List ℕ) (at from n i : ℕ) → i ≡ n → sets out (at + 4 * i) (concat_map (bytes_of 4) (drop i (words 4 n s from))) ≡ out
patterns-end out s at from n i e =
    let w = words 4 n s from in
    ap (λ (m : ℕ). sets out (at + 4 * i) (concat_map (bytes_of 4) (drop m w))) (e ∙ sym (words-length 4 n s from))
    ∙ ap (λ (l : List ℕ). sets out (at + 4 * i) (concat_map (bytes_of 4) l)) (drop-length w)

-- ---- patterns in the domain are those of their floats

bits_back : (b : ℕ) → b < 256 ^ 4 → bits_in_domain b ≡ true → bits_of (float_of b) ≡ b
bits_back b h e =
    to_bits-of_bits binary32 b h (subst (λ (t : Bool). T (not t)) (nan_bits_is binary32 b) (domain_number b e))

patterns-back : (n : ℕ) (s : List ℕ) (at : ℕ) → Bytes s → every bits_in_domain (words 4 n s at) ≡ true → map bits_of (floats_of (words 4 n s at)) ≡ words 4 n s at
unfolding words floats_of
patterns-back zero s at b e = refl
patterns-back (suc n) s at b e =
    let t = every_tail bits_in_domain (number_at 4 s at) (words 4 n s (at + 4)) e in
    rw (bits_back (number_at 4 s at) (number-below 4 s at b) t.0, patterns-back n s (at + 4) b t.1)

-- ---- the entry

module _ (s m : List ℕ) (base i epoch id from n : ℕ) (b : Bytes m) (v : Vector (words 4 n m from)) where
  pub upsert_put : (t u : List ℕ) → t ≡ sets s (base + 26624 + i * 128) (concat_map (bytes_of 4) (words 4 n m from))
      → u ≡ numbers_put t base i epoch (i + 1) id 1 n → u ≡ entry_put s base i (upsert_at epoch i id (words 4 n m from))
  unfolding entry_put
  upsert_put t u ts us =
      let w = words 4 n m from in
      us ∙ ap (λ (l : List ℕ). numbers_put l base i epoch (i + 1) id 1 n) ts
      ∙ ap (λ (l : List ℕ). numbers_put (sets s (base + 26624 + i * 128) (concat_map (bytes_of 4) l)) base i epoch (i + 1) id 1 n) (sym (patterns-back n m from b v.domain))
      ∙ ap (numbers_put (sets s (base + 26624 + i * 128) (concat_map (bytes_of 4) (map bits_of (floats_of w)))) base i epoch (i + 1) id 1)
      (sym (floats-length w ∙ words-length 4 n m from))

pub delete_put : (s u : List ℕ) (base i epoch id : ℕ) → u ≡ numbers_put s base i epoch (i + 1) id 2 0 → u ≡ entry_put s base i (delete_at epoch i id)
unfolding entry_put
delete_put s u base i epoch id e = e

T_true : (b : Bool) → T b → b ≡ true
T_true true t = refl
T_true false t = absurd t

components-formed : (bits : List ℕ) → every bits_in_domain bits ≡ true → every component (floats_of bits) ≡ true
unfolding floats_of every bits_in_domain
components-formed [] h = refl
components-formed (b ∷ bs) h =
    let r = every_tail bits_in_domain b bs h in
    every_cons component (float_of b) (map float_of bs)
    (and_true (fits binary32 (of_bits binary32 b)) (in_domain (of_bits binary32 b)) (T_true (fits binary32 (of_bits binary32 b)) (of_bits-fits binary32 b)) r.0)
    (components-formed bs r.1)

pub upsert_fits : (epoch i id : ℕ) (bits : List ℕ) → epoch < 256 ^ 8 → i < 1024 → id < 256 ^ 8 → Vector bits → Fits (upsert_at epoch i id bits)
unfolding well_formed_vector
upsert_fits epoch i id bits he hi hd v =
    let e = floats-length bits in
    let a = v.some in
    let b = v.short in
    record {
      epoch = he;
      offset = omega arith;
      id = hd;
      formed = and_true (leb 1 (length (floats_of bits))) (leb (length (floats_of bits)) 32 and every component (floats_of bits))
          (le-leb 1 (length (floats_of bits)) (omega arith))
          (and_true (leb (length (floats_of bits)) 32) (every component (floats_of bits)) (le-leb (length (floats_of bits)) 32 (omega arith)) (components-formed bits v.domain));
    }

pub delete_fits : (epoch i id : ℕ) → epoch < 256 ^ 8 → i < 1024 → id < 256 ^ 8 → Fits (delete_at epoch i id)
delete_fits epoch i id he hi hd = record { epoch = he; offset = omega arith; id = hd; formed = refl }

-- ---- a store that passes the test

-- a table has no more rows than the log has entries
pub longer-few : (s : List ℕ) (base count : ℕ) (e : Entry) → count < 1024 → length (play_rows (longer s base count e)) ≤ 1024
unfolding log_at
longer-few s base count e h =
    omega
    (arith, rows-most (longer s base count e), length-append (log_at s base count) (e ∷ []), firsts-length (entry_at s base) count)

module _ (s : List ℕ) (base count stored : ℕ) (well : well_formed_image s base count stored ≡ true) where
  abbrev log : Log
  log = log_at s base count

  stored-most : stored ≤ 1024
  unfolding well_formed_image
  stored-most = leb-true stored 1024 (and_left (leb stored 1024) _ (and_right (leb count 1024) _ well))

  rows-played : rows_at s base stored ≡ play_rows log
  unfolding well_formed_image
  rows-played =
      same-rows (rows_at s base stored) (play_rows log)
      (and_right (every well_formed_entry log) _
      (and_right (every_below (code_fits_at s base) count) _
      (and_right (numbered_from 1 log) _ (and_right (leb stored 1024) _ (and_right (leb count 1024) _ well)))))

  hk : stored ≤ length (keys_in s base)
  hk = omega (arith, stored-most, words-length 8 1024 s (base + 157696))

  hp : stored ≤ length (places_in s base)
  hp = omega (arith, stored-most, words-length 8 1024 s (base + 165888))

  log_long : length log ≡ count
  unfolding log_at
  log_long = firsts-length (entry_at s base) count

  pub stored-few : stored ≤ count
  stored-few =
      let a = rows-length (keys_in s base) (places_in s base) stored hk hp in
      let b = ap length rows-played in
      let c = rows-most log in
      omega (arith, log_long)

  pub keys-rise : Rises (keys_in s base) stored
  keys-rise = rows-rises (keys_in s base) (places_in s base) stored hk hp (ap (rising row_below) rows-played ∙ rows-rise log)

  module _ (e : Entry) (fit : Fits e) (under : count < 1024) where
    -- the table is not where an entry is written
    apart_of : (at : ℕ) → base + 157696 ≤ at → words 8 1024 (entry_put s base count e) at ≡ words 8 1024 s at
    apart_of at h =
        words_same (entry_put s base count e) s 8 1024 at
        (λ j p q. other s base count e fit j (λ x. omega arith) (λ x. omega arith) (λ x. omega arith) (λ x. omega arith) (λ x. omega arith) (λ x. omega arith))

    pub keys_kept : keys_in (entry_put s base count e) base ≡ keys_in s base
    keys_kept = apart_of (base + 157696) (omega arith)

    rows-kept : rows_at (entry_put s base count e) base stored ≡ rows_at s base stored
    rows-kept =
        ap (λ (k : List ℕ). rows_of k (places_in (entry_put s base count e) base) stored) keys_kept
        ∙ ap (λ (p : List ℕ). rows_of (keys_in s base) p stored) (apart_of (base + 165888) (omega arith))

    pub keys_rise_on : (t : List ℕ) → t ≡ entry_put s base count e → Rises (keys_in t base) stored
    keys_rise_on t ts = subst (λ (l : List ℕ). Rises l stored) (sym (ap (λ (l : List ℕ). keys_in l base) ts ∙ keys_kept)) keys-rise

    log-put : log_put s base count (longer s base count e) ≡ entry_put s base count e
    unfolding entries_put
    log-put =
        ap (entries_put s base count)
        (ap (λ (k : ℕ). drop k (log ++ (e ∷ []))) (sym log_long) ∙ drop-append_seam log (e ∷ []))

    -- the operation on the rows, after the entry was written: the store is one entry longer
    pub appended : (t u : List ℕ) (r : ℕ) → t ≡ entry_put s base count e → Tables t u base (row_op (rows_at t base stored) e.op e.offset) r
        → Appended s u base count e r
    appended t u r ts w =
        let q : row_op (rows_at t base stored) e.op e.offset ≡ play_rows (longer s base count e) =
        ap (λ (rs : List Row). row_op rs e.op e.offset) (ap (λ (l : List ℕ). rows_at l base stored) ts ∙ rows-kept ∙ rows-played)
        ∙ sym (rows_snoc log e) in
        record {
          image = w.image ∙ ap (λ (l : List ℕ). rows_put l base (row_op (rows_at t base stored) e.op e.offset)) (ts ∙ sym log-put) ∙ ap (rows_put (log_put s base count (longer s base count e)) base) q;
          rows = w.count ∙ ap length q;
        }

    -- .. and can be read again
    pub grown : (t u : List ℕ) (r : ℕ) → t ≡ entry_put s base count e → Tables t u base (row_op (rows_at t base stored) e.op e.offset) r
        → Grown s u base count e r
    grown t u r ts w =
        let a = appended t u r ts w in
        record { appended = a; fits = fit; few = omega (arith, a.rows, longer-few s base count e under) }

pub as_upsert : (t u : List ℕ) (base stored id o r : ℕ) (xs : List Float)
    → Tables t u base (put row_below (record { id = id; offset = o }) (rows_at t base stored)) r
    → Tables t u base (row_op (rows_at t base stored) (upsert id xs) o) r
unfolding row_op
as_upsert t u base stored id o r xs w = w

pub as_delete : (t u : List ℕ) (base stored id o r : ℕ)
    → Tables t u base (filter (other_row id) (rows_at t base stored)) r → Tables t u base (row_op (rows_at t base stored) (delete id) o) r
unfolding row_op
as_delete t u base stored id o r w = w
