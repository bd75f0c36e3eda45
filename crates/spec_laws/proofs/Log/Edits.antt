-- Paper 02, 2.10: the order of two edits. An edit is an operation of a log. Of different ids either may come first, of one id the
-- later alone counts, and the logs differ all the same. Assumes nothing; the computed cases are in crate spec, Cases/Edits.antt,
-- what searches answer is in EditsSearched.antt, the laws met by them in EditsMet.antt.
use Prim.Native.Nat.{ℕ, ◌+◌}
use mathlib.Core.Path.{◌≡◌, refl, sym, ap, ◌∙◌}
use mathlib.Core.Bool.{true, false, cond}
use mathlib.Core.List.{List, [], ◌∷◌, ◌++◌}
use mathlib.Core.Option.{some}
use native.Mathlib.Omega.{arith}
use lib.Dec.{eqb}
use lib.Ieee.{Float}
use lib.ListN.{length, length-append}
use borrow.Author.Tests.{ltb-true, ltb-false, le-ltb, eq-eqb, ne_eqb}
use Rattle.spec.specs.Lists.{nth, filter, rising}
use Rattle.spec.specs.Nearest.Search.{Vector}
use Rattle.spec.specs.Log.{Entry, Log, Op, upsert, delete, Vectors, vector_below, other_id, apply_op, play_from, play, ShardReplica, last_offset, push, append}
use Rattle.spec_laws.proofs.Lists.{some_same, nth-append, nth_last, nth_past}
use Rattle.spec_laws.proofs.Rising.{filter-filter, filter-again, put-put, put_over, put-filter, put_away, filter-put}
use Rattle.spec_laws.proofs.Log.Ids.{by-id, play-rising}
use Rattle.spec_laws.proofs.Log.Play as played
use Rattle.spec_laws.proofs.Log.Play.{InStep}

-- the id of an edit
abbrev pub op_id : Op → ℕ
op_id (upsert id xs) = id
op_id (delete id) = id

-- ---- Ids as keys

strict_id : (a b : Vector) → vector_below a b ≡ true → vector_below b a ≡ false
strict_id a b p = let h = ltb-true a.id b.id p in le-ltb b.id a.id (omega arith)

level-id : (a b : Vector) → vector_below a b ≡ false → vector_below b a ≡ false → a.id ≡ b.id
level-id a b p q = let h = ltb-false a.id b.id p in let g = ltb-false b.id a.id q in omega arith

other_true : (i : ℕ) (v : Vector) → (v.id ≡ i → ⊥) → other_id i v ≡ true
other_true i v n = let e : eqb v.id i ≡ false = ne_eqb v.id i n in rw e

other_false : (i : ℕ) (v : Vector) → v.id ≡ i → other_id i v ≡ false
other_false i v q = let e : eqb v.id i ≡ true = eq-eqb v.id i q in rw e

other_alike : (i : ℕ) (a b : Vector) → vector_below a b ≡ false → vector_below b a ≡ false → other_id i a ≡ other_id i b
other_alike i a b p q = ap (λ (n : ℕ). cond (eqb n i) false true) (level-id a b p q)

abbrev row : ℕ → List Float → Vector
row id xs = record { id = id; components = xs }

-- ---- One step

pub swap_ops : (vs : Vectors) (a b : Op) → rising vector_below vs ≡ true → (op_id a ≡ op_id b → ⊥)
    → apply_op (apply_op vs a) b ≡ apply_op (apply_op vs b) a
unfolding apply_op
swap_ops vs (upsert i xs) (upsert j ys) h n =
    put-put vector_below by-id strict_id (row j ys) (row i xs) vs (λ p q. n (sym (level-id (row j ys) (row i xs) p q)))
swap_ops vs (upsert i xs) (delete j) h n =
    put-filter vector_below by-id strict_id (other_id j) (other_alike j) (row i xs) vs h (other_true j (row i xs) n)
swap_ops vs (delete i) (upsert j ys) h n =
    sym (put-filter vector_below by-id strict_id (other_id i) (other_alike i) (row j ys) vs h (other_true i (row j ys) (λ q. n (sym q))))
swap_ops vs (delete i) (delete j) h n = filter-filter (other_id j) (other_id i) vs

pub later_op : (vs : Vectors) (a b : Op) → rising vector_below vs ≡ true → op_id a ≡ op_id b → apply_op (apply_op vs a) b ≡ apply_op vs b
unfolding apply_op
later_op vs (upsert i xs) (upsert j ys) h q =
    put_over vector_below by-id strict_id (row j ys) (row i xs) vs (le-ltb j i (omega arith)) (le-ltb i j (omega arith))
later_op vs (upsert i xs) (delete j) h q =
    put_away vector_below by-id strict_id (other_id j) (other_alike j) (row i xs) vs (other_false j (row i xs) q)
later_op vs (delete i) (upsert j ys) h q =
    filter-put vector_below by-id strict_id (other_id i) (other_alike i) (row j ys)
    (λ z p. let g = ltb-true j z.id p in other_true i z (λ e. omega arith))
    (λ z p. let g = ltb-true z.id j p in other_true i z (λ e. omega arith)) vs h
later_op vs (delete i) (delete j) h q =
    ap (λ (k : ℕ). filter (other_id j) (filter (other_id k) vs)) q ∙ filter-again (other_id j) vs

-- ---- Two edits at the end of a log

pub play-two : (l : Log) (a b : Entry) → play (l ++ (a ∷ b ∷ [])) ≡ apply_op (apply_op (play l) a.op) b.op
unfolding play_from
play-two l a b = played.play_join l (a ∷ b ∷ [])

-- two stretches of log, one after the other, are played as they are played joined
pub play_join : (l m : Log) → play (l ++ m) ≡ play_from (play l) m
play_join l m = played.play_join l m

-- edits of different ids leave the same vectors in either order, after any log
pub swap_edits : (l : Log) (a b : Entry) → (op_id a.op ≡ op_id b.op → ⊥) → play (l ++ (a ∷ b ∷ [])) ≡ play (l ++ (b ∷ a ∷ []))
swap_edits l a b n = play-two l a b ∙ swap_ops (play l) a.op b.op (play-rising l) n ∙ sym (play-two l b a)

-- of two edits of one id the later alone counts
pub later_counts : (l : Log) (a b : Entry) → op_id a.op ≡ op_id b.op → play (l ++ (a ∷ b ∷ [])) ≡ play (l ++ (b ∷ []))
later_counts l a b q =
    play-two l a b ∙ later_op (play l) a.op b.op (play-rising l) q ∙ sym (played.play_snoc l b)

-- the logs differ by order whenever the edits differ: a log keeps what was written, not only what it comes to
pub same-logs : (l : Log) (a b : Entry) → l ++ (a ∷ b ∷ []) ≡ l ++ (b ∷ a ∷ []) → a ≡ b
unfolding nth
same-logs l a b q =
    some_same (sym (nth_past l (a ∷ b ∷ []) 0) ∙ ap (λ (m : Log). nth m (length l + 0)) q ∙ nth_past l (b ∷ a ∷ []) 0)

pub logs_differ : (l : Log) (a b : Entry) → (a ≡ b → ⊥) → l ++ (a ∷ b ∷ []) ≡ l ++ (b ∷ a ∷ []) → ⊥
logs_differ l a b n q = n (same-logs l a b q)

-- ---- Two edits of the primary: `append` gives each the replica's epoch and the next offset

rises : (r : ShardReplica) → InStep r → rising vector_below r.vectors ≡ true
rises r h = ap (rising vector_below) h ∙ play-rising r.log

pub swap_appends : (r : ShardReplica) (x y : Op) → InStep r → (op_id x ≡ op_id y → ⊥)
    → (append (append r x) y).vectors ≡ (append (append r y) x).vectors
unfolding append push
swap_appends r x y h n = swap_ops r.vectors x y (rises r h) n

pub later_append : (r : ShardReplica) (x y : Op) → InStep r → op_id x ≡ op_id y → (append (append r x) y).vectors ≡ (append r y).vectors
unfolding append push
later_append r x y h q = later_op r.vectors x y (rises r h) q

-- the first of the two stands at its offset, whatever follows
first-at : (r : ShardReplica) (x y : Op)
    → nth (append (append r x) y).log (last_offset r) ≡ some (record { epoch = r.epoch; offset = last_offset r + 1; op = x })
unfolding append push
first-at r x y =
    let e : Entry = record { epoch = r.epoch; offset = last_offset r + 1; op = x } in
    let f : Entry = record { epoch = r.epoch; offset = length (r.log ++ (e ∷ [])) + 1; op = y } in
    let g = length-append r.log (e ∷ []) in
    nth-append (r.log ++ (e ∷ [])) (f ∷ []) (last_offset r) (omega arith) ∙ nth_last r.log e

pub appends_differ : (r : ShardReplica) (x y : Op) → (x ≡ y → ⊥) → (append (append r x) y).log ≡ (append (append r y) x).log → ⊥
appends_differ r x y n q =
    n (ap (λ (e : Entry). e.op) (some_same (sym (first-at r x y) ∙ ap (λ (l : Log). nth l (last_offset r)) q ∙ first-at r y x)))
