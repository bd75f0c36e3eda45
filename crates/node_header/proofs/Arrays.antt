-- Laws of a header within its arrays: one shard put back keeps it so, and keeps its slots. Assumes nothing.
use mathlib.Core.Path.{◌≡◌, refl, sym, ap, ◌∙◌, subst}
use mathlib.Core.Bool.{Bool, true, false, not}
use mathlib.Core.List.{List, [], ◌∷◌, map}
use Prim.Native.Nat.{ℕ, zero, suc, ◌<◌, ◌≤◌}
use native.Mathlib.Omega.{arith}
use lib.Dec.{eqb, leb, ltb}
use lib.ListN.{length, take, get_or, set}
use lib.Seq.{take_all, get_or-take, take-set-lt, length-take-le}
use borrow.Author.Tests.{le-leb, lt-ltb, le-ltb, ltb-true, ltb-false}
use Rattle.spec.specs.Lists.{◌and◌, any, every}
use Rattle.spec.specs.Limits.{max_held, max_name, max_entries, max_replicas, max_workers}
use Rattle.spec.specs.Keys.{Key}
use Rattle.spec.specs.Log.{Log, Vectors}
use Rattle.spec_laws.proofs.Lists.{and_true, and_left, and_right}
use Rattle.spec_laws.proofs.Map.Rows.{every_tail, every_cons}
use Rattle.spec.specs.declared.Peer.{Peer}
use Rattle.spec.specs.declared.Replica.{Replica}
use Rattle.spec.specs.Node.Held as held
use Rattle.node_shard.specs.declared.Held.{Held}
use Rattle.map_tables.proofs.Tables.{every-at}
use Rattle.node_header.specs.declared.HeldRow.{HeldRow}
use Rattle.node_header.specs.declared.Node.{Node}
use Rattle.node_header.specs.View.{used, kept_as, no_held_row, with_shard}
use Rattle.node_header.specs.Formed.{counts_fit, on_slot, slots_fit}
use Rattle.node_header.specs.Arrays.{at_most, Trims, arrays_fit, Fitting}
use Rattle.node_header.specs.Slots.{slots_of, SameSlots, Keeps}
use Rattle.node_header.proofs.Lists.{by_case}

-- ---- a count cut to its array

at-most : (n limit : ℕ) → at_most n limit ≤ limit
at-most n limit = by_case (ltb n limit) (λ e. rw e (let z = ltb-true n limit e in omega arith)) (λ e. rw e (omega arith))

take-most : {A : Type 0} (xs : List A) (n limit : ℕ) → length xs ≤ limit → take (at_most n limit) xs ≡ take n xs
take-most xs n limit h =
    by_case (ltb n limit) (λ e. rw e)
    (λ e. let z = ltb-false n limit e in rw e (take_all limit xs h ∙ sym (take_all n xs (omega arith))))

abbrev pub cut : Held → (count holders : ℕ) → Held
cut h count holders = record {
  epoch = h.epoch;
  metric = h.metric;
  last = h.last;
  role = h.role;
  own = h.own;
  replicas = h.replicas;
  holders = holders;
  peers = h.peers;
  count = count;
}

-- what a shard with these replicas and rows is read as
abbrev rebuilt : Held → Key → Log → Vectors → List Replica → List Peer → held.Held
rebuilt h k l v rs ps = record {
  key = k;
  replica = record { epoch = h.epoch.0; metric = h.metric; log = l; vectors = v };
  holders = rs;
  role = h.role;
  own = h.own;
  peers = ps;
}

pub trims : (h : Held) → length h.peers ≤ 32 → length h.replicas ≤ 8 → (count holders : ℕ) → count ≡ at_most h.count 32
    → holders ≡ at_most h.holders 8 → Trims h (cut h count holders)
trims h a b count holders p q = record {
  count = (let z = at-most h.count 32 in omega (arith, p));
  holders = (let z = at-most h.holders 8 in omega (arith, q));
  seen = λ k l v.
      ap (λ (i : List Peer). rebuilt h k l v (take holders h.replicas) i) (ap (λ (j : ℕ). take j h.peers) p ∙ take-most h.peers h.count 32 a)
      ∙ ap (λ (i : List Replica). rebuilt h k l v i (take h.count h.peers)) (ap (λ (j : ℕ). take j h.replicas) q ∙ take-most h.replicas h.holders 8 b);
}

-- ---- one shard put back

every_set : (p : HeldRow → Bool) (l : List HeldRow) (i : ℕ) (y : HeldRow) → every p l ≡ true → p y ≡ true → every p (set l i y) ≡ true
every_set p [] i y e q = e
every_set p (x ∷ xs) zero y e q = every_cons p y xs q (every_tail p x xs e).1
every_set p (x ∷ xs) (suc i) y e q = let t = every_tail p x xs e in every_cons p x (set xs i y) t.0 (every_set p xs i y t.1 q)

-- slots alone decide
any_same : (t : ℕ) (l : List HeldRow) (i : ℕ) (y : HeldRow) → i < length l → y.slot ≡ (get_or l i no_held_row).slot → any (on_slot t) (set l i y) ≡ any (on_slot t) l
unfolding any
any_same t [] i y h e = refl
any_same t (x ∷ xs) zero y h e = rw e
any_same t (x ∷ xs) (suc i) y h e = rw (any_same t xs i y (omega arith) e)

slots_same : (l : List HeldRow) (i : ℕ) (y : HeldRow) → i < length l → y.slot ≡ (get_or l i no_held_row).slot → slots_fit (set l i y) ≡ slots_fit l
unfolding slots_fit
slots_same [] i y h e = refl
slots_same (x ∷ xs) zero y h e = rw e
slots_same (x ∷ xs) (suc i) y h e = rw (any_same x.slot xs i y (omega arith) e) (rw (slots_same xs i y (omega arith) e))

counts-kept : (x : HeldRow) (h g : Held) → Trims h g → counts_fit x ≡ true → counts_fit (kept_as x g) ≡ true
unfolding counts_fit
counts-kept x h g t e =
    let a = leb x.key.collection.len max_name in
    let b = leb x.stored max_entries in
    let c = leb x.held.holders max_replicas in
    let d = leb x.held.count max_workers in
    let r = and_right a (b and c and d) e in
    and_true a (b and leb g.holders max_replicas and leb g.count max_workers) (and_left a (b and c and d) e)
    (and_true b (leb g.holders max_replicas and leb g.count max_workers) (and_left b (c and d) r)
    (and_true (leb g.holders max_replicas) (leb g.count max_workers) (le-leb g.holders max_replicas t.holders) (le-leb g.count max_workers t.count)))

fitting_put : (n : Node) → n.count ≤ length n.held → (at : ℕ) → at < n.count → (h g : Held) → Trims h g → (m : Node) → m ≡ with_shard n at g → Fitting n m
unfolding arrays_fit
fitting_put n le at lt h g t m put e =
    let a = leb n.count max_held in
    let b = every counts_fit (used n) in
    let c = slots_fit (used n) in
    let r = and_right a (b and c) e in
    let x = get_or n.held at no_held_row in
    let y = kept_as x g in
    let w = take-set-lt n.count n.held at y lt in
    let size = length-take-le n.count n.held le in
    subst (λ (z : Node). leb z.count max_held and every counts_fit (used z) and slots_fit (used z) ≡ true) (sym put)
    (and_true a (every counts_fit (take n.count (set n.held at y)) and slots_fit (take n.count (set n.held at y))) (and_left a (b and c) e)
    (and_true (every counts_fit (take n.count (set n.held at y))) (slots_fit (take n.count (set n.held at y)))
    (ap (every counts_fit) w
    ∙ every_set counts_fit (used n) at y (and_left b c r)
    (counts-kept x h g t (every-at counts_fit n.held n.count at no_held_row le (and_left b c r) lt)))
    (ap slots_fit w ∙ slots_same (used n) at y (omega arith) (ap (λ (z : HeldRow). z.slot) (sym (get_or-take n.count n.held at no_held_row lt))) ∙ and_right b c r)))

-- ---- the slots stay

slots_set : (l : List HeldRow) (i : ℕ) (y : HeldRow) → i < length l → y.slot ≡ (get_or l i no_held_row).slot
    → map (λ (x : HeldRow). x.slot) (set l i y) ≡ map (λ (x : HeldRow). x.slot) l
slots_set [] i y h e = refl
slots_set (x ∷ xs) zero y h e = ap (λ (s : ℕ). s ∷ map (λ (z : HeldRow). z.slot) xs) e
slots_set (x ∷ xs) (suc i) y h e = ap (λ (l : List ℕ). x.slot ∷ l) (slots_set xs i y (omega arith) e)

-- one shard put back in its slot
slots-put : (n : Node) → n.count ≤ length n.held → (at : ℕ) → at < n.count → (g : Held) (m : Node) → m ≡ with_shard n at g → SameSlots n m
slots-put n le at lt g m put =
    let x = get_or n.held at no_held_row in
    let size = length-take-le n.count n.held le in
    ap slots_of put
    ∙ ap (map (λ (z : HeldRow). z.slot)) (take-set-lt n.count n.held at (kept_as x g) lt)
    ∙ slots_set (used n) at (kept_as x g) (omega arith) (ap (λ (z : HeldRow). z.slot) (sym (get_or-take n.count n.held at no_held_row lt)))

-- a header that comes back as it was, and one with a shard put back
pub keeps-all : (n : Node) → Keeps n n
keeps-all n = record { fits = λ e. e; slots_are = refl }

pub keeps-put : (n : Node) → n.count ≤ length n.held → (at : ℕ) → at < n.count → (h g : Held) → Trims h g → (m : Node) → m ≡ with_shard n at g → Keeps n m
keeps-put n le at lt h g t m put = record { fits = fitting_put n le at lt h g t m put; slots_are = slots-put n le at lt g m put }
