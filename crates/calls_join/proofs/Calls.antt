-- What the calls answer, by the tests that came before. Assumes nothing.
use Prim.Native.Nat.{ℕ, zero, suc, ◌+◌, ◌≤◌, ◌<◌, min}
use mathlib.Core.Path.{◌≡◌, refl, sym, ap, ◌∙◌, subst}
use mathlib.Core.Bool.{true, false}
use mathlib.Core.List.{List, [], ◌∷◌}
use mathlib.Core.Option.{none}
use native.Mathlib.Omega.{arith}
use lib.Dec.{leb}
use lib.ListN.{length, take}
use lib.Seq.{sets}
use borrow.Author.Tests.{le-leb, lt-leb, leb-true}
use Rattle.spec.specs.Lists.{◌and◌, every, rising}
use Rattle.spec.specs.Layout.Format.{bytes_of}
use Rattle.spec_laws.proofs.Lists.{and_left, and_right}
use Rattle.spec_join.specs.Join.{Hit, in_order, apart, shard_below, sound_answer, sound, owned, ordered_hits, all_hits, joined, found, undecodable, outOfOrder, otherShard, no_room, join_answers}
use Rattle.spec_join.specs.Answers.{answers_in, hits_bytes}
use Rattle.spec_join.proofs.Ordered.{ordered-length}
use Rattle.spec_join.proofs.Joins.{joined_length}
use Rattle.calls_join.specs.View.{hits_at, count_at, answer_at, answers_at, Stand}
use Rattle.calls_join.specs.Calls.{room_of, Joins, JoinsFor, Passed, Checks, code_of}
use Rattle.std.specs.Prelude.{Ok, Err}
use Rattle.calls_join.specs.declared.Refusal.{Refusal}
use Rattle.calls_join.specs.declared.Refusal.TheVariants.{Undecodable, NoRoom, OutOfOrder, OtherShard}
use Rattle.calls_join.proofs.Bytes.{whole_in, answers-length}

take_min : (k : ℕ) (l : List Hit) → take (min k (length l)) l ≡ take k l
take_min zero l = let e : min 0 (length l) ≡ 0 = omega arith in ap (λ (n : ℕ). take n l) e
take_min (suc k) [] = let e : min (suc k) 0 ≡ 0 = omega arith in ap (λ (n : ℕ). take n []) e
take_min (suc k) (x ∷ l) =
    let e : min (suc k) (suc (length l)) ≡ suc (min k (length l)) = omega arith in
    ap (λ (n : ℕ). take n (x ∷ l)) e ∙ ap (λ (m : List Hit). x ∷ m) (take_min k l)

-- ---- 28, of the answer at p
module _ (s : List ℕ) (p n : ℕ) (e : n ≡ count_at s p) where
  pub order_wrong : in_order (hits_at s n (p + 6)) ≡ false → sound_answer (answer_at s p) ≡ false
  unfolding ◌and◌
  order_wrong f = rw (sym (subst (λ (m : ℕ). in_order (hits_at s n (p + 6)) ≡ in_order (hits_at s m (p + 6))) e refl) ∙ f)

  pub apart_wrong : in_order (hits_at s n (p + 6)) ≡ true → apart (hits_at s n (p + 6)) ≡ false → sound_answer (answer_at s p) ≡ false
  unfolding ◌and◌
  apart_wrong f g =
      rw (
        sym (subst (λ (m : ℕ). in_order (hits_at s n (p + 6)) ≡ in_order (hits_at s m (p + 6))) e refl) ∙ f,
        sym (subst (λ (m : ℕ). apart (hits_at s n (p + 6)) ≡ apart (hits_at s m (p + 6))) e refl) ∙ g,
      )

  pub answer-sound : in_order (hits_at s n (p + 6)) ≡ true → apart (hits_at s n (p + 6)) ≡ true → sound_answer (answer_at s p) ≡ true
  unfolding ◌and◌
  answer-sound f g =
      rw (
        sym (subst (λ (m : ℕ). in_order (hits_at s n (p + 6)) ≡ in_order (hits_at s m (p + 6))) e refl) ∙ f,
        sym (subst (λ (m : ℕ). apart (hits_at s n (p + 6)) ≡ apart (hits_at s m (p + 6))) e refl) ∙ g,
      )

-- ---- 28, part by part
module _ (s : List ℕ) (n : ℕ) where
  pub sound-many : 16 < n → sound (answers_at s n 0) ≡ false
  unfolding sound ◌and◌
  sound-many h = rw (answers-length s n 0, lt-leb n 16 h)

  pub sound_risen : n ≤ 16 → rising shard_below (answers_at s n 0) ≡ false → sound (answers_at s n 0) ≡ false
  unfolding sound ◌and◌
  sound_risen h e = rw (answers-length s n 0, le-leb n 16 h, e)

  pub sound_each : n ≤ 16 → rising shard_below (answers_at s n 0) ≡ true → sound (answers_at s n 0) ≡ every sound_answer (answers_at s n 0)
  unfolding sound ◌and◌
  sound_each h e = rw (answers-length s n 0, le-leb n 16 h, e)

  pub each_of : sound (answers_at s n 0) ≡ true → every sound_answer (answers_at s n 0) ≡ true
  unfolding sound
  each_of e =
      and_right (rising shard_below (answers_at s n 0)) (every sound_answer (answers_at s n 0))
      (and_right (leb (length (answers_at s n 0)) 16) (rising shard_below (answers_at s n 0) and every sound_answer (answers_at s n 0)) e)

  pub few_of : sound (answers_at s n 0) ≡ true → n ≤ 16
  unfolding sound
  few_of e =
      let h = leb-true (length (answers_at s n 0)) 16
      (and_left (leb (length (answers_at s n 0)) 16) (rising shard_below (answers_at s n 0) and every sound_answer (answers_at s n 0)) e) in
      let l = answers-length s n 0 in
      omega arith

-- ---- the refusals before joining
module _ (shards k : ℕ) (s : List ℕ) where
  pub is_undecodable : answers_in s ≡ none → (room : ℕ) → join_answers shards k room (answers_in s) ≡ undecodable
  unfolding join_answers
  is_undecodable e room = rw e

  module _ (n : ℕ) (st : Stand s n 0) where
    pub is_out_of_order : sound (answers_at s n 0) ≡ false → (room : ℕ) → join_answers shards k room (answers_in s) ≡ outOfOrder
    unfolding join_answers
    is_out_of_order e room = rw (whole_in s n st, e)

    pub is_other_shard : sound (answers_at s n 0) ≡ true → owned shards (answers_at s n 0) ≡ false → (room : ℕ)
        → join_answers shards k room (answers_in s) ≡ otherShard
    unfolding join_answers
    is_other_shard e f room = rw (whole_in s n st, e, f)

  -- ---- joined, or no room
  module _ (n m : ℕ) (p : Passed shards k s n m) where
    size : length (joined k (answers_at s n 0)) ≡ m
    size = joined_length k (answers_at s n 0) ∙ sym p.asked

    pub is-short : (room : ℕ) → room < m → join_answers shards k room (answers_in s) ≡ no_room
    unfolding join_answers
    is-short room h = rw (whole_in s n p.stand, p.sounds, p.owns, size, lt-leb m room h)

    is_found : (room : ℕ) → m ≤ room → join_answers shards k room (answers_in s) ≡ found (joined k (answers_at s n 0))
    unfolding join_answers
    is_found room h = rw (whole_in s n p.stand, p.sounds, p.owns, size, le-leb m room h)

    -- the first m are the first k
    first-is : take m (ordered_hits (all_hits (answers_at s n 0))) ≡ joined k (answers_at s n 0)
    unfolding joined
    first-is =
        ap (λ (j : ℕ). take j (ordered_hits (all_hits (answers_at s n 0)))) (p.asked ∙ ap (min k) (sym (ordered-length (all_hits (answers_at s n 0)))))
        ∙ take_min k (ordered_hits (all_hits (answers_at s n 0)))

    module _ (out out' : List ℕ) (h : m ≤ room_of out) (e : out' ≡ sets out 0 (hits_bytes (take m (ordered_hits (all_hits (answers_at s n 0)))))) where
      pub joins : Joins shards k s out out' (Ok m)
      joins = record {
        answer = rw (is_found (room_of out) h, size) refl;
        bytes = rw (is_found (room_of out) h) (e ∙ ap (λ (l : List Hit). sets out 0 (hits_bytes l)) first-is);
      }

      pub joins_for : (answer answer' : List ℕ) → 8 ≤ length answer → answer' ≡ sets answer 0 (bytes_of 8 m) → JoinsFor shards k s out answer out' answer' 0
      joins_for answer answer' g f = record {
        number = rw (is_found (room_of out) h, le-leb 8 (length answer) g) refl;
        found-bytes = rw (is_found (room_of out) h, le-leb 8 (length answer) g) (e ∙ ap (λ (l : List Hit). sets out 0 (hits_bytes l)) first-is);
        count-bytes = rw (is_found (room_of out) h, le-leb 8 (length answer) g, size) f;
      }

    pub no_count : (out answer : List ℕ) → m ≤ room_of out → length answer < 8 → JoinsFor shards k s out answer out answer 23
    no_count out answer h g = record {
      number = rw (is_found (room_of out) h, lt-leb 8 (length answer) g) refl;
      found-bytes = rw (is_found (room_of out) h, lt-leb 8 (length answer) g) refl;
      count-bytes = rw (is_found (room_of out) h, lt-leb 8 (length answer) g) refl;
    }

  -- ---- refused
  module _ (out : List ℕ) where
    refused_21 : ((room : ℕ) → join_answers shards k room (answers_in s) ≡ undecodable) → Joins shards k s out out (Err Undecodable)
    refused_21 e = record { answer = rw (e (room_of out)) refl; bytes = rw (e (room_of out)) refl }

    refused_28 : ((room : ℕ) → join_answers shards k room (answers_in s) ≡ outOfOrder) → Joins shards k s out out (Err OutOfOrder)
    refused_28 e = record { answer = rw (e (room_of out)) refl; bytes = rw (e (room_of out)) refl }

    refused_29 : ((room : ℕ) → join_answers shards k room (answers_in s) ≡ otherShard) → Joins shards k s out out (Err OtherShard)
    refused_29 e = record { answer = rw (e (room_of out)) refl; bytes = rw (e (room_of out)) refl }

    pub refused_23 : join_answers shards k (room_of out) (answers_in s) ≡ no_room → Joins shards k s out out (Err NoRoom)
    refused_23 e = record { answer = rw e refl; bytes = rw e refl }

    pub refused_before : (why : Refusal) → Checks shards k s (Err why) → Joins shards k s out out (Err why)
    refused_before Undecodable e = refused_21 e
    refused_before NoRoom e = absurd e
    refused_before OutOfOrder e = refused_28 e
    refused_before OtherShard e = refused_29 e

    module _ (answer : List ℕ) where
      refused_for_21 : ((room : ℕ) → join_answers shards k room (answers_in s) ≡ undecodable) → JoinsFor shards k s out answer out answer 21
      refused_for_21 e = record { number = rw (e (room_of out)) refl; found-bytes = rw (e (room_of out)) refl; count-bytes = rw (e (room_of out)) refl }

      refused_for_28 : ((room : ℕ) → join_answers shards k room (answers_in s) ≡ outOfOrder) → JoinsFor shards k s out answer out answer 28
      refused_for_28 e = record { number = rw (e (room_of out)) refl; found-bytes = rw (e (room_of out)) refl; count-bytes = rw (e (room_of out)) refl }

      refused_for_29 : ((room : ℕ) → join_answers shards k room (answers_in s) ≡ otherShard) → JoinsFor shards k s out answer out answer 29
      refused_for_29 e = record { number = rw (e (room_of out)) refl; found-bytes = rw (e (room_of out)) refl; count-bytes = rw (e (room_of out)) refl }

      pub refused_for_23 : join_answers shards k (room_of out) (answers_in s) ≡ no_room → JoinsFor shards k s out answer out answer 23
      refused_for_23 e = record { number = rw e refl; found-bytes = rw e refl; count-bytes = rw e refl }

      pub refused_for_before : (why : Refusal) → Checks shards k s (Err why) → JoinsFor shards k s out answer out answer (code_of why)
      refused_for_before Undecodable e = refused_for_21 e
      refused_for_before NoRoom e = absurd e
      refused_for_before OutOfOrder e = refused_for_28 e
      refused_for_before OtherShard e = refused_for_29 e
