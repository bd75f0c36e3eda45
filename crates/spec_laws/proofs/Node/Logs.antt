-- Paper 01, 'Who is turned down', 24: the clauses about a log and its vectors, as facts, and that appending, storing, aligning and
-- promoting keep them. Assumes nothing.
use Prim.Native.Nat.{ℕ, zero, suc, ◌+◌, ◌≤◌, ◌<◌}
use mathlib.Core.Path.{◌≡◌, refl, sym, ap, ◌∙◌, subst}
use mathlib.Core.Bool.{Bool, true, false, cond, beq}
use mathlib.Core.List.{List, [], ◌∷◌, ◌++◌}
use mathlib.Core.Option.{Option, none, some}
use native.Mathlib.Omega.{arith}
use native.Mathlib.Numerals.{add-one}
use lib.Dec.{eqb, leb, ltb}
use lib.ListN.{length}
use lib.IntN.{ℤ, pos, negsuc}
use lib.Ieee.{Float, nan, inf, fin}
use borrow.Author.Tests.{eqb-true, eq-eqb}
use Rattle.spec.specs.Lists.{◌and◌, nth, every, rising}
use Rattle.spec.specs.Nearest.Search.{Vector}
use Rattle.spec.specs.Log.{Op, Entry, End, Log, Vectors, vector_below, play, play_from, ShardReplica, empty_replica, last_offset, push, append, store, store_all, agrees, keep, cut_to, adopted, promote}
use Rattle.spec.specs.Node.WellFormed.{numbered_from, well_formed_op, well_formed_entry, same_int, same_float, same_floats, same_vectors, well_formed_log}
use Rattle.spec.specs.declared.Metric.{Metric}
use Rattle.spec_laws.proofs.Lists.{by-test, not_both, and_true, and_left, and_right}
use Rattle.spec_laws.proofs.Map.Rows.{every_tail, every_cons}
use Rattle.spec_laws.proofs.Log.Numbered.{Numbered, NumberedFrom, numbered-nil, numbered-head, numbered_tail, numbered_cons}
use Rattle.spec_laws.proofs.Log.Play.{InStep, in_step_empty, in_step_push, in_step_adopted}
use Rattle.spec_laws.proofs.Log.Store.{push-numbered, store_cases, store_all_keeps, adopted-numbered}
use Rattle.spec_laws.proofs.Log.Ids.{play-rising}

-- ---- equal tables

bool_same : (s t : Bool) → beq s t ≡ true → s ≡ t
bool_same true true e = refl
bool_same true false e = not_both false e refl
bool_same false true e = not_both false e refl
bool_same false false e = refl

int_same : (a b : ℤ) → same_int a b ≡ true → a ≡ b
int_same (pos a) (pos b) e = ap pos (eqb-true a b e)
int_same (pos a) (negsuc b) e = not_both false e refl
int_same (negsuc a) (pos b) e = not_both false e refl
int_same (negsuc a) (negsuc b) e = ap negsuc (eqb-true a b e)

float_same : (x y : Float) → same_float x y ≡ true → x ≡ y
float_same nan nan e = refl
float_same nan (inf t) e = not_both false e refl
float_same nan (fin t n f) e = not_both false e refl
float_same (inf s) nan e = not_both false e refl
float_same (inf s) (inf t) e = ap inf (bool_same s t e)
float_same (inf s) (fin t n f) e = not_both false e refl
float_same (fin s m e) nan h = not_both false h refl
float_same (fin s m e) (inf t) h = not_both false h refl
float_same (fin s m e) (fin t n f) h =
    let p = bool_same s t (and_left (beq s t) (eqb m n and same_int e f) h) in
    let r = and_right (beq s t) (eqb m n and same_int e f) h in
    let q = eqb-true m n (and_left (eqb m n) (same_int e f) r) in
    let u = int_same e f (and_right (eqb m n) (same_int e f) r) in
    rw (p, q, u)

bool_refl : (s : Bool) → beq s s ≡ true
bool_refl true = refl
bool_refl false = refl

int_refl : (a : ℤ) → same_int a a ≡ true
int_refl (pos a) = eq-eqb a a refl
int_refl (negsuc a) = eq-eqb a a refl

float_refl : (x : Float) → same_float x x ≡ true
float_refl nan = refl
float_refl (inf s) = bool_refl s
float_refl (fin s m e) =
    and_true (beq s s) (eqb m m and same_int e e) (bool_refl s) (and_true (eqb m m) (same_int e e) (eq-eqb m m refl) (int_refl e))

floats_same : (xs ys : List Float) → same_floats xs ys ≡ true → xs ≡ ys
unfolding same_floats
floats_same [] [] e = refl
floats_same [] (y ∷ ys) e = not_both false e refl
floats_same (x ∷ xs) [] e = not_both false e refl
floats_same (x ∷ xs) (y ∷ ys) e =
    let p = float_same x y (and_left (same_float x y) (same_floats xs ys) e) in
    let q = floats_same xs ys (and_right (same_float x y) (same_floats xs ys) e) in
    rw (p, q)

floats_refl : (xs : List Float) → same_floats xs xs ≡ true
unfolding same_floats
floats_refl [] = refl
floats_refl (x ∷ xs) = and_true (same_float x x) (same_floats xs xs) (float_refl x) (floats_refl xs)

vector_of_lem : (v w : Vector) → v.id ≡ w.id → v.components ≡ w.components → v ≡ w
vector_of_lem v w p q =
    ap {B = Vector} (λ (i : ℕ). record { id = i; components = v.components }) p
    ∙ ap {B = Vector} (λ (c : List Float). record { id = w.id; components = c }) q

pub vectors-same : (vs ws : Vectors) → same_vectors vs ws ≡ true → vs ≡ ws
unfolding same_vectors
vectors-same [] [] e = refl
vectors-same [] (w ∷ ws) e = not_both false e refl
vectors-same (v ∷ vs) [] e = not_both false e refl
vectors-same (v ∷ vs) (w ∷ ws) e =
    let c = same_floats v.components w.components in
    let r = and_right (eqb v.id w.id) (c and same_vectors vs ws) e in
    let p = eqb-true v.id w.id (and_left (eqb v.id w.id) (c and same_vectors vs ws) e) in
    let q = floats_same v.components w.components (and_left c (same_vectors vs ws) r) in
    let t = vectors-same vs ws (and_right c (same_vectors vs ws) r) in
    rw (vector_of_lem v w p q, t)

pub vectors_refl : (vs : Vectors) → same_vectors vs vs ≡ true
unfolding same_vectors
vectors_refl [] = refl
vectors_refl (v ∷ vs) =
    and_true (eqb v.id v.id) (same_floats v.components v.components and same_vectors vs vs) (eq-eqb v.id v.id refl)
    (and_true (same_floats v.components v.components) (same_vectors vs vs) (floats_refl v.components) (vectors_refl vs))

-- ---- offsets

numbered_fact : (k : ℕ) (l : Log) → numbered_from (suc k) l ≡ true → NumberedFrom k l
unfolding numbered_from
numbered_fact k [] e = numbered-nil k
numbered_fact k (x ∷ xs) e =
    let p = eqb-true x.offset (suc k) (and_left (eqb x.offset (suc k)) (numbered_from (suc k + 1) xs) e) in
    let r = and_right (eqb x.offset (suc k)) (numbered_from (suc k + 1) xs) e in
    numbered_cons k x xs p (numbered_fact (suc k) xs (subst (λ (o : ℕ). numbered_from o xs ≡ true) (add-one (suc k)) r))

fact_numbered : (k : ℕ) (l : Log) → NumberedFrom k l → numbered_from (suc k) l ≡ true
unfolding numbered_from
fact_numbered k [] h = refl
fact_numbered k (x ∷ xs) h =
    and_true (eqb x.offset (suc k)) (numbered_from (suc k + 1) xs) (eq-eqb x.offset (suc k) (numbered-head k x xs h))
    (subst (λ (o : ℕ). numbered_from o xs ≡ true) (sym (add-one (suc k))) (fact_numbered (suc k) xs (numbered_tail k x xs h)))

-- ---- a well-formed log, as facts

pub record FormedLog (r : ShardReplica) : Type 0 where
  pub numbered : Numbered r.log
  pub entries : every well_formed_entry r.log ≡ true
  pub played : InStep r

pub log-formed : (r : ShardReplica) → well_formed_log r ≡ true → FormedLog r
unfolding well_formed_log
log-formed r e =
    let a = numbered_from 1 r.log in
    let b = every well_formed_entry r.log in
    let c = rising vector_below r.vectors in
    let d = same_vectors r.vectors (play r.log) in
    let f = and_right a (b and c and d) e in
    record {
      numbered = numbered_fact 0 r.log (and_left a (b and c and d) e);
      entries = and_left b (c and d) f;
      played = vectors-same r.vectors (play r.log) (and_right c d (and_right b (c and d) f));
    }

pub formed-log : (r : ShardReplica) → FormedLog r → well_formed_log r ≡ true
unfolding well_formed_log
formed-log r h =
    let a = numbered_from 1 r.log in
    let b = every well_formed_entry r.log in
    let c = rising vector_below r.vectors in
    let d = same_vectors r.vectors (play r.log) in
    and_true a (b and c and d) (fact_numbered 0 r.log h.numbered)
    (and_true b (c and d) h.entries
    (and_true c d
    (subst (λ (v : Vectors). rising vector_below v ≡ true) (sym h.played) (play-rising r.log))
    (subst (λ (v : Vectors). same_vectors r.vectors v ≡ true) h.played (vectors_refl r.vectors))))

-- ---- kept

every_snoc {ℓ} : {A : Type ℓ} (t : A → Bool) (l : List A) (x : A) → every t l ≡ true → t x ≡ true → every t (l ++ (x ∷ [])) ≡ true
unfolding every
every_snoc t [] x h p = rw p
every_snoc t (y ∷ ys) x h p =
    let r = every_tail t y ys h in every_cons t y (ys ++ (x ∷ [])) r.0 (every_snoc t ys x r.1 p)

pub formed-empty : (e : ℕ) (m : Metric) → FormedLog (empty_replica e m)
unfolding every
formed-empty e m = record { numbered = numbered-nil 0; entries = refl; played = in_step_empty e m }

pub formed-push : (r : ShardReplica) (e : Entry) → FormedLog r → e.offset ≡ last_offset r + 1 → well_formed_entry e ≡ true → FormedLog (push r e)
unfolding push
formed-push r e h q p = record {
  numbered = push-numbered r e h.numbered q;
  entries = every_snoc well_formed_entry r.log e h.entries p;
  played = in_step_push r e h.played;
}

pub formed-append : (r : ShardReplica) (op : Op) → FormedLog r → well_formed_op op ≡ true → FormedLog (append r op)
unfolding append
formed-append r op h p = formed-push r (record { epoch = r.epoch; offset = last_offset r + 1; op = op }) h refl p

pub formed-store : (r : ShardReplica) (epoch : ℕ) (e : Entry) → well_formed_entry e ≡ true → FormedLog r → FormedLog (store r epoch e).replica
formed-store r epoch e p h =
    store_cases (λ v. FormedLog v.replica) r epoch e (λ a b. formed-push r e h b p) (λ a b. h) (λ a b. h) (λ a. h)

pub formed_store_all : (r : ShardReplica) (epoch : ℕ) (es : List Entry) → every well_formed_entry es ≡ true → FormedLog r → FormedLog (store_all r epoch es)
unfolding store_all
formed_store_all r epoch [] p h = h
formed_store_all r epoch (e ∷ es) p h =
    let q = every_tail well_formed_entry e es p in
    formed_store_all (store r epoch e).replica epoch es q.1 (formed-store r epoch e q.0 h)

every-keep : (end : ℕ) (t : List End) (l : Log) → every well_formed_entry l ≡ true → every well_formed_entry (keep end t l) ≡ true
unfolding keep every
every-keep end t [] h = h
every-keep end t (e ∷ es) h =
    let r = every_tail well_formed_entry e es h in
    let more = every-keep end t es r.1 in
    by-test (λ (v : Log). every well_formed_entry v ≡ true) (agrees end t e)
    (λ q. every_cons well_formed_entry e (keep end t es) r.0 more) (λ q. refl)

pub formed-adopted : (r : ShardReplica) (epoch end : ℕ) (t : List End) → FormedLog r → FormedLog (adopted r epoch end t)
unfolding adopted cut_to
formed-adopted r epoch end t h = record {
  numbered = adopted-numbered r epoch end t h.numbered;
  entries = by-test (λ (v : ShardReplica). every well_formed_entry v.log ≡ true) (eqb epoch r.epoch) (λ p. h.entries) (λ p. every-keep end t r.log h.entries);
  played = in_step_adopted r epoch end t h.played;
}

pub formed-promote : (r : ShardReplica) (epoch : ℕ) → FormedLog r → FormedLog (promote r epoch)
unfolding promote
formed-promote r epoch h = record { numbered = h.numbered; entries = h.entries; played = h.played }
