-- What a push leaves: the log with one entry more, the table with its operation played, all well formed. Assumes nothing.
use Prim.Native.Nat.{ℕ, ◌+◌, ◌≤◌, ◌<◌}
use mathlib.Core.Path.{◌≡◌, refl, sym, ap, ◌∙◌, subst}
use mathlib.Core.Bool.{Bool, true, false, cond}
use mathlib.Core.List.{List, [], ◌∷◌, ◌++◌, map}
use mathlib.Core.Logic.{⊎_elim, ◌≢◌}
use native.Mathlib.Nat.{eq-or-lt_of_le}
use native.Mathlib.Omega.{arith}
use lib.Dec.{T, eqb, leb}
use lib.Ieee.{binary32, of_bits, fits}
use lib.Ieee.Bits.{of_bits-fits}
use lib.ListN.{length}
use lib.Seq.{get_or-set_other, get_or-set_same}
use borrow.Author.Tests.{eq-eqb, ne_eqb, leb-true, le-leb}
use Rattle.spec.specs.Lists.{◌and◌, every, put, filter}
use Rattle.spec.specs.Nearest.Order.{in_domain, bits_in_domain}
use Rattle.spec.specs.Node.Wire.{float_of, floats_of}
use Rattle.spec.specs.Node.WellFormed.{component, well_formed_vector, well_formed_op, well_formed_entry}
use Rattle.spec.specs.Log.{upsert, delete, Entry, Log, Vectors, apply_op, play, push}
use Rattle.spec.specs.declared.Metric.{Metric}
use Rattle.spec_laws.proofs.Lists.{and_true}
use Rattle.spec_laws.proofs.Map.Rows.{every_tail, every_cons}
use Rattle.spec_laws.proofs.Log.Numbered.{Numbered, numbered_snoc}
use Rattle.spec_laws.proofs.Log.Play.{play_snoc}
use Rattle.log_store.specs.View.{Columns, Room, log_of, op_from, written, written_all}
use Rattle.log_store.specs.Table.{Row, Tabled, row_below, other_row, row_op, play_rows}
use Rattle.log_store.specs.Store.{Store, lent, store_log, store_rows, replica_in, code_fits, well_formed_store, Sized, Storable, Spares, Pushed}
use Rattle.log_store.proofs.Columns.{log-length}
use Rattle.log_store.proofs.PlayRows.{rows_snoc}
use Rattle.log_store.proofs.Written.{written-log, written-room, written-floats}
use Rattle.log_store.proofs.Bits.{floats-length}
use Rattle.log_store.proofs.Facts.{Facts, facts, well-formed, room_of_lem, stored-most, store_in_step}
use Rattle.log_store.proofs.Spared.{past_later}

pub every_snoc {ℓ} : {A : Type ℓ} (t : A → Bool) (l : List A) (x : A) → every t l ≡ true → t x ≡ true → every t (l ++ (x ∷ [])) ≡ true
unfolding every
every_snoc t [] x h p = rw p
every_snoc t (y ∷ ys) x h p =
    let r = every_tail t y ys h in every_cons t y (ys ++ (x ∷ [])) r.0 (every_snoc t ys x r.1 p)

T_true : (b : Bool) → T b → b ≡ true
T_true true t = refl
T_true false t = absurd t

-- components from bits in the domain are well formed
components-formed : (bits : List ℕ) → every bits_in_domain bits ≡ true → every component (floats_of bits) ≡ true
unfolding floats_of every bits_in_domain
components-formed [] h = refl
components-formed (b ∷ bs) h =
    let r = every_tail bits_in_domain b bs h in
    every_cons component (float_of b) (map float_of bs)
    (and_true (fits binary32 (of_bits binary32 b)) (in_domain (of_bits binary32 b)) (T_true (fits binary32 (of_bits binary32 b)) (of_bits-fits binary32 b)) r.0)
    (components-formed bs r.1)

vector-formed : (bits : List ℕ) → every bits_in_domain bits ≡ true → 1 ≤ length bits → length bits ≤ 32 → well_formed_vector (floats_of bits) ≡ true
unfolding well_formed_vector
vector-formed bits d h k =
    let e = floats-length bits in
    and_true (leb 1 (length (floats_of bits))) (leb (length (floats_of bits)) 32 and every component (floats_of bits))
    (le-leb 1 (length (floats_of bits)) (omega arith))
    (and_true (leb (length (floats_of bits)) 32) (every component (floats_of bits)) (le-leb (length (floats_of bits)) 32 (omega arith))
    (components-formed bits d))

op-formed : (b : Bool) (code id : ℕ) (bits : List ℕ) → every bits_in_domain bits ≡ true → length bits ≤ 32
    → cond b (leb 1 (length bits)) (eqb code 2) ≡ true → well_formed_op (cond b (upsert id (floats_of bits)) (delete id)) ≡ true
op-formed true code id bits d s h = vector-formed bits d (leb-true 1 (length bits) h) s
op-formed false code id bits d s h = refl

-- the operation on rows, by its code
pub set-op : (rs : List Row) (code id o : ℕ) (bits : List ℕ) → code ≡ 1
    → put row_below (record { id = id; offset = o }) rs ≡ row_op rs (op_from code id bits) o
unfolding op_from row_op
set-op rs code id o bits e = rw (eq-eqb code 1 e)

pub drop-op : (rs : List Row) (code id o : ℕ) (bits : List ℕ) → (code ≡ 1 → ⊥) → filter (other_row id) rs ≡ row_op rs (op_from code id bits) o
unfolding op_from row_op
drop-op rs code id o bits n = rw (ne_eqb code 1 n)

fits-at : (b : Bool) (code : ℕ) (bits : List ℕ) → length bits ≤ 32 → cond b (leb 1 (length bits)) (eqb code 2) ≡ true
    → cond b (leb (length bits) 32) (eqb code 2) ≡ true
fits-at true code bits s h = le-leb (length bits) 32 s
fits-at false code bits s h = h

module _ (s : Store) (z : Sized s) (w : well_formed_store s ≡ true) (free : s.count < 1024)
    (epoch code id : ℕ) (bits : List ℕ) (st : Storable code bits) where
  abbrev f : Facts s
  f = facts s w

  abbrev n : ℕ
  n = s.count

  abbrev entry : Entry
  entry = record { epoch = epoch; offset = n + 1; op = op_from code id bits }

  room : Room s.columns n
  room = room_of_lem s f z

  abbrev new : Columns
  new = written s.columns n epoch code id bits

  new-log : log_of new (n + 1) ≡ store_log s ++ (entry ∷ [])
  new-log = written-log s.columns n epoch code id bits room free st.short

  code_at : (i : ℕ) → i < n + 1 → code_fits new i ≡ true
  unfolding written
  code_at i h =
      ⊎_elim
      (λ (q : i ≡ n).
      rw (
        q,
        get_or-set_same s.columns.codes n code 0 (omega (arith, z.codes)),
        get_or-set_same s.columns.lengths n (length bits) 0 (omega (arith, z.lengths)),
      )
      (fits-at (eqb code 1) code bits st.short st.listed))
      (λ (lt : i < n).
      let ne : i ≢ n = λ q. omega arith in
      rw (get_or-set_other s.columns.codes n i code 0 ne, get_or-set_other s.columns.lengths n i (length bits) 0 ne) (f.codes i lt))
      (eq-or-lt_of_le {n = i} {m = n} (omega arith))

  module _ (ks ps : List ℕ) (r : ℕ)
      (t : Tabled (s.stored + 1) s.keys s.places ks ps r (row_op (store_rows s) (op_from code id bits) (n + 1))) where
    abbrev after : Store
    after = lent new ks ps (n + 1) r

    after_facts : Facts after
    unfolding op_from
    after_facts = record {
      count = omega arith;
      stored = omega (arith, t.fits, z.keys);
      numbered =
          subst Numbered (sym new-log)
          (numbered_snoc (store_log s) entry f.numbered (omega (arith, log-length s.columns n)));
      codes = code_at;
      entries =
          ap (every well_formed_entry) new-log
          ∙ every_snoc well_formed_entry (store_log s) entry f.entries
          (op-formed (eqb code 1) code id bits st.domain st.short st.listed);
      rows =
          t.rows
          ∙ ap (λ (rs : List Row). row_op rs (op_from code id bits) (n + 1)) f.rows
          ∙ sym (rows_snoc (store_log s) entry)
          ∙ ap play_rows (sym new-log);
      floats =
          subst (λ (m : ℕ). 32768 ≤ m) (sym (written-floats s.columns n epoch code id bits room free st.short)) f.floats;
    }

    vectors-after : (e : ℕ) (m : Metric) → (replica_in e m after).vectors ≡ apply_op (replica_in e m s).vectors (op_from code id bits)
    unfolding replica_in
    vectors-after e m =
        store_in_step after after_facts e m
        ∙ ap play new-log
        ∙ play_snoc (store_log s) entry
        ∙ ap (λ (vs : Vectors). apply_op vs (op_from code id bits)) (sym (store_in_step s f e m))

    replica-after : (e : ℕ) (m : Metric) → replica_in e m after ≡ push (replica_in e m s) entry
    unfolding replica_in push
    replica-after e m =
        ap (λ (l : Log). record { epoch = e; metric = m; log = l; vectors = (replica_in e m after).vectors }) new-log
        ∙ ap (λ (vs : Vectors). record { epoch = e; metric = m; log = store_log s ++ (entry ∷ []); vectors = vs }) (vectors-after e m)

    sized-after : Sized after
    unfolding written
    sized-after =
        let q = written-room s.columns n epoch code id bits room free st.short in
        record {
          epochs = q.epochs;
          offsets = q.offsets;
          ids = q.ids;
          codes = q.codes;
          lengths = q.lengths;
          keys = t.keys ∙ z.keys;
          places = t.places ∙ z.places;
        }

    spared : Spares s after
    unfolding written_all
    spared =
        let few = stored-most s f z in
        record {
          entries = record { epoch = epoch; code = code; id = id; bits = bits } ∷ [];
          grown = omega arith;
          columns = refl;
          keys = past_later (s.stored + 1) (n + 1) ks s.keys (omega arith) t.keys_past;
          places = past_later (s.stored + 1) (n + 1) ps s.places (omega arith) t.places_past;
          same = λ e. absurd (omega arith);
        }

    pushed_new : Pushed s after entry
    pushed_new = record {
      count = refl;
      replica = replica-after;
      well = well-formed after after_facts;
      sized = sized-after;
      spares = spared;
    }

    -- by any columns that are the written ones
    pub pushed : (c : Columns) → c ≡ new → Pushed s (lent c ks ps (n + 1) r) entry
    pushed c e = subst (λ (d : Columns). Pushed s (lent d ks ps (n + 1) r) entry) (sym e) pushed_new

  -- what set_row and drop_row leave is the operation played
  module _ (ks ps : List ℕ) (r : ℕ) (c : Columns) (e : c ≡ new) where
    pub pushed_set : code ≡ 1
        → Tabled (s.stored + 1) s.keys s.places ks ps r (put row_below (record { id = id; offset = n + 1 }) (store_rows s))
        → Pushed s (lent c ks ps (n + 1) r) entry
    pushed_set q t =
        pushed ks ps r (subst (Tabled (s.stored + 1) s.keys s.places ks ps r) (set-op (store_rows s) code id (n + 1) bits q) t) c e

    pub pushed_drop : (code ≡ 1 → ⊥)
        → Tabled (s.stored + 1) s.keys s.places ks ps r (filter (other_row id) (store_rows s))
        → Pushed s (lent c ks ps (n + 1) r) entry
    pushed_drop q t =
        pushed ks ps r (subst (Tabled (s.stored + 1) s.keys s.places ks ps r) (drop-op (store_rows s) code id (n + 1) bits q) t) c e
