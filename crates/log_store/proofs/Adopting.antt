-- What each way out of `adopt` leaves, by `spec`'s adopted. Assumes nothing.
use Prim.Native.Nat.{ℕ, zero, suc, ◌≤◌, ◌<◌}
use mathlib.Core.Path.{◌≡◌, refl, sym, ap, ◌∙◌, subst}
use mathlib.Core.Bool.{Bool, true, cond}
use mathlib.Core.List.{List, [], ◌∷◌}
use native.Mathlib.Omega.{arith}
use borrow.Author.Tests.{eq-eqb, ne_eqb, lt-ltb, le-ltb}
use lib.ListN.{length, take}
use mathlib.Core.Option.{some}
use Rattle.spec.specs.Lists.{nth, every, lead}
use Rattle.spec.specs.Node.WellFormed.{well_formed_entry}
use Rattle.spec.specs.Log.{Entry, End, Log, Vectors, ShardReplica, last_offset, agrees, keep, play, cut_to, adopted}
use Rattle.spec.specs.Layout.Message.{reply_stale, reply_adopted}
use Rattle.spec.specs.declared.Metric.{Metric}
use Rattle.spec.specs.declared.Epoch.{Epoch}
use Rattle.spec.specs.declared.Offset.{Offset}
use Rattle.spec_laws.proofs.Lists.{take_within}
use Rattle.spec_laws.proofs.Map.Rows.{every_tail, every_cons}
use Rattle.spec_laws.proofs.Log.Numbered.{numbered_within}
use Rattle.spec_laws.proofs.Log.Keep.{keep-lead}
use Rattle.log_store.specs.View.{Columns, entry_of, log_of, written_all}
use Rattle.log_store.specs.Table.{Tabled, rows_of, play_rows, rows_played}
use Rattle.log_store.specs.Store.{Store, lent, store_log, replica_in, well_formed_store, Sized, Spares}
use Rattle.log_store.specs.Align.{Aligned}
use Rattle.log_store.specs.declared.replica.Adoption.TheVariants.{Older, Kept}
use Rattle.log_store.proofs.Firsts.{firsts-take}
use Rattle.log_store.proofs.Columns.{log-length}
use Rattle.log_store.proofs.Rebuilt.{played-log}
use Rattle.log_store.proofs.Put.{lead-most}
use Rattle.log_store.proofs.Facts.{Facts, facts, well-formed, store_in_step}
use Rattle.log_store.proofs.Spared.{spares_none}

pub prefix_log : (c : Columns) (n k : ℕ) → k ≤ n → log_of c k ≡ take k (log_of c n)
unfolding log_of
prefix_log c n k h = sym (firsts-take (entry_of c) n k h)

every_take {ℓ} : {A : Type ℓ} (p : A → Bool) (k : ℕ) (l : List A) → every p l ≡ true → every p (take k l) ≡ true
unfolding every
every_take p zero l h = refl
every_take p (suc k) [] h = refl
every_take p (suc k) (x ∷ xs) h =
    let r = every_tail p x xs h in every_cons p x (take k xs) r.0 (every_take p k xs r.1)

module _ (s : Store) (z : Sized s) (w : well_formed_store s ≡ true) where
  abbrev f : Facts s
  f = facts s w

  -- a prefix of a well-formed store, with its own rows
  pub cut_facts : (ks ps : List ℕ) (k r : ℕ) → k ≤ s.count → length ks ≡ 1024 → r ≤ 1024
      → rows_of ks ps r ≡ play_rows (log_of s.columns k) → Facts (lent s.columns ks ps k r)
  cut_facts ks ps k r h lk hr q = record {
    count = omega (arith, f.count);
    stored = hr;
    numbered =
        numbered_within (log_of s.columns k) (store_log s)
        (subst (λ (l : Log). (i : ℕ) (x : Entry) → nth l i ≡ some x → nth (store_log s) i ≡ some x) (sym (prefix_log s.columns s.count k h)) (take_within k (store_log s)))
        f.numbered;
    codes = λ i l. f.codes i (omega arith);
    entries = ap (every well_formed_entry) (prefix_log s.columns s.count k h) ∙ every_take well_formed_entry k (store_log s) f.entries;
    rows = q;
    floats = f.floats;
  }

  pub cut-sized : (ks ps : List ℕ) (k r : ℕ) → length ks ≡ 1024 → length ps ≡ 1024 → Sized (lent s.columns ks ps k r)
  cut-sized ks ps k r lk lp = record {
    epochs = z.epochs;
    offsets = z.offsets;
    ids = z.ids;
    codes = z.codes;
    lengths = z.lengths;
    keys = lk;
    places = lp;
  }

  module _ (own epoch end : ℕ) (t : List End) where
    pub aligned_older : (e : Epoch) → e.0 ≡ own → epoch < own → Aligned own epoch end t s s (Older e)
    aligned_older e q h = record {
      answer = λ m. ap reply_stale q ∙ sym (ap (λ (b : Bool). cond b (reply_stale own) (reply_adopted (last_offset (adopted (replica_in own m s) epoch end t)))) (lt-ltb epoch own h));
      replica =
          λ m.
          ap (λ (b : Bool). replica_in (cond b own epoch) m s) (lt-ltb epoch own h)
          ∙ sym (ap (λ (b : Bool). cond b (replica_in own m s) (adopted (replica_in own m s) epoch end t)) (lt-ltb epoch own h));
      well = w;
      sized = z;
      spares = spares_none s;
    }

    -- at the own epoch the whole log stays
    pub aligned-same : (o : Offset) → o.0 ≡ s.count → epoch ≡ own → Aligned own epoch end t s s (Kept o)
    unfolding replica_in adopted
    aligned-same o q h = record {
      answer =
          λ m.
          ap reply_adopted (q ∙ sym (log-length s.columns s.count))
          ∙ ap (λ (b : Bool). reply_adopted (last_offset (cond b (replica_in own m s) (cut_to (replica_in own m s) epoch end t)))) (sym (eq-eqb epoch own h))
          ∙ sym (ap (λ (b : Bool). cond b (reply_stale own) (reply_adopted (last_offset (adopted (replica_in own m s) epoch end t)))) (le-ltb epoch own (omega arith)));
      replica =
          λ m.
          ap (λ (b : Bool). replica_in (cond b own epoch) m s) (le-ltb epoch own (omega arith))
          ∙ ap (λ (e : ℕ). replica_in e m s) h
          ∙ ap (λ (b : Bool). cond b (replica_in own m s) (cut_to (replica_in own m s) epoch end t)) (sym (eq-eqb epoch own h))
          ∙ sym (ap (λ (b : Bool). cond b (replica_in own m s) (adopted (replica_in own m s) epoch end t)) (le-ltb epoch own (omega arith)));
      well = w;
      sized = z;
      spares = spares_none s;
    }

    module _ (above : own < epoch) (k : ℕ) (isKept : k ≡ lead (agrees end t) (store_log s)) where
      pub k-most : k ≤ s.count
      k-most = let h = lead-most (agrees end t) (store_log s) in omega (arith, log-length s.columns s.count)

      keep-is : keep end t (store_log s) ≡ log_of s.columns k
      keep-is = keep-lead end t (store_log s) ∙ ap (λ (n : ℕ). take n (store_log s)) (sym isKept) ∙ sym (prefix_log s.columns s.count k k-most)

      kept-length : length (keep end t (store_log s)) ≡ k
      kept-length = ap length keep-is ∙ log-length s.columns k

      newer : own ≤ epoch
      newer = omega arith

      is_cut : (m : Metric) → adopted (replica_in own m s) epoch end t ≡ cut_to (replica_in own m s) epoch end t
      unfolding replica_in adopted
      is_cut m = rw (ne_eqb epoch own (λ q. omega arith)) refl

      -- the replica that is left, given its log and its vectors
      aligned-by : (s' : Store) (o : Offset) → o.0 ≡ k → store_log s' ≡ keep end t (store_log s)
          → ((m : Metric) → (replica_in epoch m s').vectors ≡ (cut_to (replica_in own m s) epoch end t).vectors)
          → well_formed_store s' ≡ true → Sized s' → Spares s s' → Aligned own epoch end t s s' (Kept o)
      unfolding replica_in cut_to
      aligned-by s' o q l v w' z' sp = record {
        answer =
            λ m.
            ap reply_adopted (q ∙ sym kept-length)
            ∙ ap (λ (r : ShardReplica). reply_adopted (last_offset r)) (sym (is_cut m))
            ∙ sym (ap (λ (b : Bool). cond b (reply_stale own) (reply_adopted (last_offset (adopted (replica_in own m s) epoch end t)))) (le-ltb epoch own newer));
        replica =
            λ m.
            ap (λ (b : Bool). replica_in (cond b own epoch) m s') (le-ltb epoch own newer)
            ∙ ap (λ (x : Log). record { epoch = epoch; metric = m; log = x; vectors = (replica_in epoch m s').vectors }) l
            ∙ ap (λ (x : Vectors). record { epoch = epoch; metric = m; log = keep end t (store_log s); vectors = x }) (v m)
            ∙ sym (is_cut m)
            ∙ sym (ap (λ (b : Bool). cond b (replica_in own m s) (adopted (replica_in own m s) epoch end t)) (le-ltb epoch own newer));
        well = w';
        sized = z';
        spares = sp;
      }

      pub aligned-cut : (ks ps : List ℕ) (r : ℕ) (o : Offset) → o.0 ≡ k → k < s.count
          → Tabled k s.keys s.places ks ps r (rows_played s.columns.offsets s.columns.ids s.columns.codes k)
          → Aligned own epoch end t s (lent s.columns ks ps k r) (Kept o)
      unfolding cut_to replica_in written_all
      aligned-cut ks ps r o q h u =
          let lk : length ks ≡ 1024 = u.keys ∙ z.keys in
          let lp : length ps ≡ 1024 = u.places ∙ z.places in
          let fc = cut_facts ks ps k r k-most lk (omega (arith, u.fits, z.keys)) (u.rows ∙ sym (played-log s.columns k)) in
          aligned-by (lent s.columns ks ps k r) o q (sym keep-is)
          (λ m.
          store_in_step (lent s.columns ks ps k r) fc epoch m
          ∙ ap play (sym keep-is)
          ∙ sym (ap (λ (b : Bool). cond b (play (keep end t (store_log s))) (replica_in own m s).vectors)
          (lt-ltb (length (keep end t (store_log s))) (length (store_log s)) (omega (arith, kept-length, log-length s.columns s.count)))))
          (well-formed (lent s.columns ks ps k r) fc) (cut-sized ks ps k r lk lp)
          (record {
            entries = [];
            grown = omega arith;
            columns = refl;
            keys = u.keys_past;
            places = u.places_past;
            same = λ e. absurd (omega arith);
          })

      pub aligned-whole : (o : Offset) → o.0 ≡ s.count → s.count ≤ k → Aligned own epoch end t s s (Kept o)
      unfolding cut_to replica_in
      aligned-whole o q h =
          let same : k ≡ s.count = (let m = k-most in omega arith) in
          aligned-by s o (q ∙ sym same) (ap (log_of s.columns) (sym same) ∙ sym keep-is)
          (λ m.
          sym (ap (λ (b : Bool). cond b (play (keep end t (store_log s))) (replica_in own m s).vectors)
          (le-ltb (length (keep end t (store_log s))) (length (store_log s)) (omega (arith, kept-length, log-length s.columns s.count)))))
          w z (spares_none s)
