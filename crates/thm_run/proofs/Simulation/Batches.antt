-- Paper 01, 'Bytes on the wire': entries of a log, and the ends of its epochs, are within what may be written, and come back as they
-- were. Assumes nothing.
use Prim.Native.Nat.{ℕ, zero, suc, ◌≤◌}
use mathlib.Core.Path.{◌≡◌, refl, ap, subst}
use mathlib.Core.Bool.{Bool, true}
use mathlib.Core.List.{List, [], ◌∷◌, map}
use mathlib.Core.Option.{some}
use native.Mathlib.Omega.{arith}
use lib.Dec.{eqb}
use lib.ListN.{length}
use Rattle.spec.specs.Lists.{nth, every}
use Rattle.spec.specs.Limits.{max_u64, max_entries}
use Rattle.spec.specs.Log.{Op, Entry, Log, End, ShardReplica, with_end, epoch_ends, last_offset}
use Rattle.spec.specs.Layout.Format as format
use Rattle.spec.specs.Layout.Writable.{GoodEnd, GoodEntry}
use Rattle.spec.specs.Node.Wire.{entry_in_domain, stored_op, stored_entry, wire_op, wire_entry}
use Rattle.spec.specs.Node.WellFormed.{well_formed_op, well_formed_entry}
use Rattle.spec_laws.proofs.Lists.{by-test, some_same, nth-nil, nth_lt}
use Rattle.spec_laws.proofs.Map.Rows.{every_tail, every_cons}
use Rattle.spec_laws.proofs.Node.Logs.{FormedLog}
use Rattle.thm_run.proofs.Protocol.Base.{All}
use Rattle.thm_run.proofs.Simulation.Ops.{IdFits, op-back}
use Rattle.thm_run.proofs.Simulation.Relation.{World, LogFits}

-- an entry that can go out under an epoch
pub record Ready (epoch : ℕ) (e : Entry) : Type 0 where
  pub upto : e.epoch ≤ epoch
  pub offset : e.offset ≤ max_entries
  pub formed : well_formed_op e.op ≡ true
  pub id : IdFits e.op

every-nth : {A : Type 0} (p : A → Bool) (l : List A) (i : ℕ) (x : A) → every p l ≡ true → nth l i ≡ some x → p x ≡ true
unfolding nth
every-nth p [] i x h e = nth-nil i x e
every-nth {A} p (y ∷ ys) zero x h e = subst (λ (v : A). p v ≡ true) (some_same e) (every_tail p y ys h).0
every-nth p (y ∷ ys) (suc i) x h e = every-nth p ys i x (every_tail p y ys h).1 e

-- every entry of a log is
pub ready : (w : World) (s : ShardReplica) → LogFits w s → FormedLog s → last_offset s ≤ max_entries → (i : ℕ) (e : Entry) → nth s.log i ≡ some e
    → Ready s.epoch e
ready w s k f small i e q = record {
  upto = (k.entries i e q).0;
  offset = (let p = f.numbered i e q in let r = nth_lt s.log i e q in omega arith);
  formed = every-nth well_formed_entry s.log i e f.entries q;
  id = (k.entries i e q).1;
}

-- what a batch needs, to go out and to come back
pub record Batch (epoch : ℕ) (l : Log) : Type 0 where
  pub good : format.All GoodEntry (map wire_entry l)
  pub inside : every entry_in_domain (map wire_entry l) ≡ true
  pub same : map stored_entry (map wire_entry l) ≡ l
  pub formed : every well_formed_entry l ≡ true
  pub fits : All (λ (x : Entry). (x.epoch ≤ epoch) × IdFits x.op) l

pub batch : (epoch : ℕ) → epoch ≤ max_u64 → (l : Log) → All (Ready epoch) l → Batch epoch l
unfolding every
batch epoch upto [] h = record { good = tt; inside = refl; same = refl; formed = refl; fits = tt }
batch epoch upto (e ∷ es) h =
    let r = batch epoch upto es h.1 in
    let a = h.0 in
    let b = op-back e.op a.formed a.id in
    let u = a.upto in
    let o = a.offset in
    record {
      good = ((omega arith, omega arith, b.good), r.good);
      inside = every_cons entry_in_domain (wire_entry e) (map wire_entry es) b.inside r.inside;
      same = joined (stored_entry (wire_entry e)) e (entry-same b.same) r.same;
      formed = every_cons well_formed_entry e es a.formed r.formed;
      fits = ((u, a.id), r.fits);
    }
  where
    joined : (x y : Entry) {l m : Log} → x ≡ y → l ≡ m → x ∷ l ≡ y ∷ m
    joined x y p q = rw (p, q)

    entry-same : stored_op (wire_op e.op) ≡ e.op → stored_entry (wire_entry e) ≡ e
    entry-same p = ap {B = Entry} (λ (v : Op). record { epoch = e.epoch; offset = e.offset; op = v }) p

-- the ends of its epochs
pub ends_good : (epoch : ℕ) → epoch ≤ max_u64 → (l : Log) → All (Ready epoch) l → format.All GoodEnd (epoch_ends l) × (length (epoch_ends l) ≤ length l)
unfolding epoch_ends
ends_good epoch upto [] h = (tt, omega arith)
ends_good epoch upto (e ∷ es) h =
    let r = ends_good epoch upto es h.1 in
    let u = h.0.upto in
    let o = h.0.offset in
    more (epoch_ends es) (omega arith, omega arith) r.0 r.1
  where
    more : (t : List End) → GoodEnd (record { epoch = e.epoch; end = e.offset }) → format.All GoodEnd t → length t ≤ length es
        → format.All GoodEnd (with_end e t) × (length (with_end e t) ≤ suc (length es))
    more [] g h n = unfold with_end in ((g, tt), omega arith)
    more (t ∷ ts) g h n =
        unfold with_end in
        by-test (λ (v : List End). format.All GoodEnd v × (length v ≤ suc (length es))) (eqb e.epoch t.epoch)
        {x = t ∷ ts} {y = record { epoch = e.epoch; end = e.offset } ∷ t ∷ ts}
        (λ q. (h, omega arith)) (λ q. ((g, h), omega arith))
