-- Parts one behind the other, and how long they are. Assumes nothing.
use Prim.Native.Nat.{ℕ, zero, suc, ◌+◌, ◌-◌, ◌^◌, ◌≤◌, ◌<◌}
use mathlib.Core.Path.{◌≡◌, refl, sym, ap, subst, ◌∙◌}
use mathlib.Core.List.{List, [], ◌∷◌, ◌++◌}
use native.Mathlib.Omega.{arith}
use lib.ListN.{length, take, drop, length-append, length-drop, length-take}
use lib.Seq.{length-sets, sets-eq, take_all, take-take, take-append_seam}
use Rattle.spec.specs.Keys.{Key}
use Rattle.spec_words.specs.Decimal.{decimal}
use Rattle.spec_words.specs.Words.{key_words}
use Rattle.spec_words.proofs.Decimal.{decimal_32}
use Rattle.spec_words.proofs.Lengths.{key-length}
use Rattle.wire_put.proofs.Writes.{sets-append}
use Rattle.map_tables.specs.Names.{view_name, view_key}
use Rattle.map_tables.specs.declared.Name.{Name}
use Rattle.map_tables.specs.declared.ShardKey.{ShardKey}
use Rattle.map_words.specs.Written.{Puts}

pub then : {s t u : List ℕ} {at next last : ℕ} {a b : List ℕ} → Puts s t at a next → Puts t u next b last → Puts s u at (a ++ b) last
then {s} {t} {u} {at} {next} {last} {a} {b} p q = record {
  bytes = q.bytes ∙ rw (p.bytes, p.place) (sym (sets-append s at a b));
  place = omega (arith, p.place, q.place, length-append a b);
  within = omega (arith, q.within, ap length p.bytes, length-sets s at a);
}

-- the same part, said otherwise
pub puts_as : {s t : List ℕ} {at next : ℕ} {a b : List ℕ} → a ≡ b → Puts s t at a next → Puts s t at b next
puts_as {s} {t} {at} {next} e p = subst (λ (l : List ℕ). Puts s t at l next) e p

-- nothing
pub none-put : {s : List ℕ} → Puts s s 0 [] 0
none-put = record { bytes = refl; place = refl; within = omega arith }

pub length-key : (k : Key) → length (key_words k) ≡ length k.collection + (1 + length (decimal k.shard))
unfolding key_words
length-key k = simp length-append (omega arith)

-- the part of a list from a place on, as a slice has it
pub rest_of : (n from : ℕ) (l : List ℕ) → length l ≡ n → take (n - from) (drop from l) ≡ drop from l
rest_of n from l e = take_all (n - from) (drop from l) (omega (arith, length-drop from l))

length_take_most : (k : ℕ) (l : List ℕ) → length (take k l) ≤ k
length_take_most zero l = omega arith
length_take_most (suc k) [] = omega arith
length_take_most (suc k) (x ∷ l) = let h = length_take_most k l in omega arith

-- the first bytes, cut at a name's own length
pub first_of : (n len : ℕ) (l : List ℕ) → n ≡ length (take len l) → take n l ≡ take len l
first_of n len l e =
    sym (take-take n len l (omega (arith, length_take_most len l))) ∙ take_all n (take len l) (omega arith)

-- a text that was put is read back from the buffer's start
pub first-put : {s t text : List ℕ} {next : ℕ} → Puts s t 0 text next → take next t ≡ text
first-put {s} {t} {text} {next} p =
    let h : length text ≤ length s = omega (arith, p.place, p.within) in
    let e : next ≡ length text = omega (arith, p.place) in
    rw (e, p.bytes) (ap (take (length text)) (sets-eq text s 0 (omega arith)) ∙ take-append_seam text (drop (0 + length text) s))

-- ---- how long a name and a key can be

pub name-most : (n : Name) → length n.bytes ≡ 32 → length (view_name n) ≤ 32
name-most n e = omega (arith, length-take n.len n.bytes)

pub key-most : (k : ShardKey) → length k.collection.bytes ≡ 32 → k.shard < 2 ^ 32 → length (key_words (view_key k)) ≤ 43
key-most k e h = key-length (view_key k) (name-most k.collection e) (decimal_32 k.shard h)
