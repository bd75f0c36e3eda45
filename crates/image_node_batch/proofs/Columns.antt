-- Columns that hold a batch, for contracts that say that there are some: written down, and no code makes them. Assumes nothing.
use Prim.Native.Nat.{ℕ, zero, suc, ◌+◌, ◌-◌, ◌≤◌, ◌<◌}
use mathlib.Core.Path.{◌≡◌, refl, ap, ◌∙◌, subst}
use mathlib.Core.Bool.{Bool, true, false}
use mathlib.Core.Logic.{⊎_elim}
use mathlib.Core.List.{List, map}
use native.Mathlib.Omega.{arith}
use borrow.Author.Tests.{eqb-true, eqb-false}
use lib.Dec.{eqb, ltb}
use lib.ListN.{length, get_or, take, set}
use lib.Seq.{length-take-le}
use Rattle.spec.specs.Lists.{◌and◌, every, lead}
use Rattle.spec.specs.Log.{Op, Entry}
use Rattle.spec.specs.Layout.Format.{next, value}
use Rattle.spec.specs.Layout.Parts.{entry_f, entry_of}
use Rattle.spec.specs.Node.Wire.{op_in_domain, entry_in_domain, stored_op, stored_entry}
use Rattle.spec.specs.declared.Offset.{Offset}
use Rattle.spec_laws.proofs.Lists.{not_both}
use Rattle.wire_read.specs.Shown.{part, entry_shown}
use Rattle.wire_read.specs.declared.Part.{Part}
use Rattle.wire_read.specs.declared.EntryPart.{EntryPart}
use Rattle.log_store.specs.View.{Columns, op_from, written}
use Rattle.log_store.specs.Table.{inserted, removed}
use Rattle.log_store.specs.Store.{Store, lent, Sized, Storable, Pushed, well_formed_store}
use Rattle.log_store.specs.declared.replica.Outcome.{Outcome}
use Rattle.log_store.specs.declared.replica.Outcome.TheVariants.{Through, Gap, Full}
use Rattle.log_store.proofs.Facts.{facts, stored-most, rows-rising}
use Rattle.log_store.proofs.Put.{lead-most}
use Rattle.log_store.proofs.Tabled.{tabled-level, tabled-between, tabled-gone, tabled-absent}
use Rattle.log_store.proofs.Push.{pushed_set, pushed_drop}
use Rattle.log_store.proofs.Arrived.{arrived_old, arrived_far, arrived_full, arrived_pushed, below-full, count_most}
use Rattle.log_domain.specs.Parts.{op_in, OpThere, entries_in, EntriesThere}
use Rattle.log_domain.proofs.InMessage.{entry_in, entries_start, entries_all, entry-op, entries_rest, domain_first, domain_rest}
use Rattle.log_arrive.specs.Arrivals.{Arrives, HasRoom, StoresAll}
use Rattle.log_arrive.proofs.Batch.{OnWay, on_begin, on_turn, on-done}
use Rattle.node_header.proofs.Lists.{by_case}
use Rattle.image_store.proofs.Stored.{lt_or_ge}
use Rattle.image_node_grow.proofs.Ops.{stores-op}

-- ---- one entry more

pub record Pushable (s : Store) (e : Entry) : Type 0 where
  pub after : Store
  pub pushed : Pushed s after e

module _ (s : Store) (z : Sized s) (w : well_formed_store s ≡ true) (free : s.count < 1024) (epoch code id : ℕ) (bits : List ℕ) (st : Storable code bits) where
  abbrev n : ℕ
  n = s.stored

  abbrev offset : ℕ
  offset = s.count + 1

  abbrev at : ℕ
  at = lead (λ k. ltb k id) (take n s.keys)

  abbrev there : Bool
  there = ltb at n and eqb (get_or s.keys at 0) id

  abbrev new : Columns
  new = written s.columns s.count epoch code id bits

  few : n < 1024
  few = omega (arith, stored-most s (facts s w) z)

  keys_hold : n < length s.keys
  keys_hold = omega (arith, few, z.keys)

  places_hold : n < length s.places
  places_hold = omega (arith, few, z.places)

  at-most : at ≤ n
  at-most =
      let h = keys_hold in
      omega (arith, lead-most (λ k. ltb k id) (take n s.keys), length-take-le n s.keys (omega arith))

  sets-row : code ≡ 1 → Pushable s (record { epoch = epoch; offset = offset; op = op_from code id bits })
  sets-row one =
      let hk = keys_hold in
      let hp = places_hold in
      by_case there
      (λ t. record {
        after = lent new s.keys (set s.places at offset) offset n;
        pushed = pushed_set s z w free epoch code id bits st s.keys (set s.places at offset) n new refl one
            (tabled-level s.keys s.places n id at refl there refl offset (omega arith) (omega arith) t);
      })
      (λ f. record {
        after = lent new (inserted at n id s.keys) (inserted at n offset s.places) offset (n + 1);
        pushed = pushed_set s z w free epoch code id bits st (inserted at n id s.keys) (inserted at n offset s.places) (n + 1) new refl one
            (tabled-between s.keys s.places n id at refl there refl offset at-most hk hp f (inserted at n id s.keys) (inserted at n offset s.places) refl refl);
      })

  drops_row : (code ≡ 1 → ⊥) → Pushable s (record { epoch = epoch; offset = offset; op = op_from code id bits })
  drops_row two =
      let hk : n ≤ length s.keys = (let h = keys_hold in omega arith) in
      let hp : n ≤ length s.places = (let h = places_hold in omega arith) in
      let rise = rows-rising s (facts s w) in
      by_case there
      (λ t. record {
        after = lent new (removed at n s.keys) (removed at n s.places) offset (n - 1);
        pushed = pushed_drop s z w free epoch code id bits st (removed at n s.keys) (removed at n s.places) (n - 1) new refl two
            (tabled-gone s.keys s.places n id at refl there refl hk hp rise t (removed at n s.keys) (removed at n s.places) refl refl);
      })
      (λ f. record {
        after = lent new s.keys s.places offset n;
        pushed = pushed_drop s z w free epoch code id bits st s.keys s.places n new refl two
            (tabled-absent s.keys s.places n id at refl there refl hk hp rise f);
      })

  push-any : Pushable s (record { epoch = epoch; offset = offset; op = op_from code id bits })
  push-any = by_case (eqb code 1) (λ q. sets-row (eqb-true code 1 q)) (λ q. drops_row (eqb-false code 1 q))

-- ---- an entry that arrives

record Arrival (own : ℕ) (e : Entry) (s : Store) : Type 0 where
  pub after : Store
  pub out : Outcome
  pub arrives : Arrives own own e s after out

module _ (own : ℕ) (m : List ℕ) (p : EntryPart) (op : OpThere m p.op) (inside : op_in_domain (op_in m p.op) ≡ true)
    (s : Store) (z : Sized s) (w : well_formed_store s ≡ true) where
  abbrev e : Entry
  e = stored_entry (entry_in m p)

  takes : p.offset.0 ≡ s.count + 1 → s.count < 1024 → Arrival own e s
  takes h free =
      let st = stores-op m p.op op inside in
      let a = push-any s z w free p.epoch.0 st.code st.id st.bits st.storable in
      let o : Offset = record { 0 = s.count + 1 } in
      record {
        after = a.after;
        out = Through o;
        arrives = record {
          arrived = arrived_pushed own own p.epoch.0 p.offset.0 (stored_op (op_in m p.op)) s a.after z w refl o refl h free
              (subst (λ (x : Op). Pushed s a.after (record { epoch = p.epoch.0; offset = s.count + 1; op = x })) st.is a.pushed);
          kept = λ t. not_both false t refl;
        };
      }

  arrival : Arrival own e s
  arrival =
      by_case (eqb p.offset.0 (s.count + 1))
      (λ q.
      let h = eqb-true p.offset.0 (s.count + 1) q in
      by_case (eqb s.count 1024)
      (λ f. record {
        after = s;
        out = Full;
        arrives = record { arrived = arrived_full own own e s z w refl h (eqb-true s.count 1024 f); kept = λ t. refl };
      })
      (λ f. takes h (below-full s.count (count_most s w) (eqb-false s.count 1024 f))))
      (λ q.
      let h = eqb-false p.offset.0 (s.count + 1) q in
      let last : Offset = record { 0 = s.count } in
      let missing : Offset = record { 0 = s.count + 1 } in
      ⊎_elim
      (λ (l : p.offset.0 < s.count + 1). record {
        after = s;
        out = Through last;
        arrives = record { arrived = arrived_old own own e s z w refl last refl (omega arith); kept = λ t. not_both false t refl };
      })
      (λ (l : s.count + 1 ≤ p.offset.0). record {
        after = s;
        out = Gap missing;
        arrives = record { arrived = arrived_far own own e s z w refl missing refl (omega (arith, h)); kept = λ t. not_both false t refl };
      })
      (lt_or_ge p.offset.0 (s.count + 1)))

-- ---- the batch

pub record Holds (own : ℕ) (es : List Entry) (s : Store) : Type 0 where
  pub after : Store
  pub all : StoresAll own es s after

module _ (own : ℕ) (m : List ℕ) (es : List Entry) (s₀ : Store) (fit : HasRoom own es s₀) where
  rest-held : (left n at i : ℕ) → n - i ≡ left → EntriesThere m (part at (n - i)) → every entry_in_domain (entries_in m (part at (n - i))) ≡ true
      → (s : Store) → OnWay own es s₀ s (map stored_entry (entries_in m (part at (n - i)))) → Holds own es s₀
  rest-held zero n at i q h d s w = record { after = s; all = on-done own m es s₀ n at i s (omega arith) w }
  rest-held (suc left) n at i q h d s w =
      let l : i < n = omega arith in
      let p = entry_shown at (entry_of (value entry_f m at)) (next entry_f m at) in
      let a = arrival own m p (entry-op m n at i l h p refl) (domain_first m n at i l h p refl d) s w.sized w.well in
      rest-held left n p.next (i + 1) (omega arith) (entries_rest m n at i l h p refl) (domain_rest m n at i l h p refl d) a.after
      (on_turn own m es s₀ n at i fit l h p refl s a.after a.out w a.arrives)

pub batch-held : (own : ℕ) (m : List ℕ) (p : Part) (s : Store) → Sized s → well_formed_store s ≡ true → EntriesThere m p
    → every entry_in_domain (entries_in m p) ≡ true → HasRoom own (map stored_entry (entries_in m p)) s → Holds own (map stored_entry (entries_in m p)) s
batch-held own m p s z w h d fit =
    rest-held own m (map stored_entry (entries_in m p)) s fit (p.len - 0) p.len p.at 0 refl (entries_start m p h) (ap (every entry_in_domain) (entries_all m p) ∙ d) s
    (on_begin own m p s z w)
