-- The answers of place and replacement, case by case. Assumes nothing.
use Prim.Native.Nat.{ℕ, ◌≤◌, ◌<◌}
use mathlib.Core.Path.{◌≡◌, refl, sym, ap, subst, ◌∙◌}
use mathlib.Core.Bool.{Bool, true, false, cond}
use mathlib.Core.List.{List}
use lib.ListN.{length}
use lib.Dec.{ltb}
use lib.Seq.{sets}
use borrow.Author.Tests.{lt-ltb, le-ltb, lt-leb, le-leb}
use Rattle.spec.specs.Refusals.{Refusal, malformed, number_of}
use Rattle.spec.specs.Map.Place as place
use Rattle.spec.specs.Map.Place.{nobody, replaced_by, not_replaced, Placed, placed_on, not_placed}
use Rattle.spec_laws.proofs.Lists.{not_both}
use Rattle.wire_write.specs.Written.{text_fits, key_given}
use Rattle.map_tables.specs.Names.{view_key}
use Rattle.map_tables.specs.declared.ShardKey.{ShardKey}
use Rattle.map_check.specs.Lent.{well_formed_lent}
use Rattle.map_place.specs.Answers.{place_lent, replacement_lent}
use Rattle.map_place.proofs.Answered.{place_24, replace_24}
use Rattle.image_map.specs.Image.{map_at, map_lent}
use Rattle.calls_parts.specs.Answer.{answer_lent, number_put}
use Rattle.calls_map.specs.Places.{lists_bytes, AnswersLists, AnswersNode, spec_given, Places, Replaces}
use Rattle.calls_map.proofs.Placement.{placed-laid}

-- ---- one node

module _ (s : List ℕ) where
  pub none-short : length s < 8 → AnswersNode nobody s s 23
  none-short h = record { number = sym (ap (λ (b : Bool). cond b 1 23) (lt-leb 8 (length s) h)); bytes = refl }

  pub none_long : 8 ≤ length s → AnswersNode nobody s s 1
  none_long h = record { number = sym (ap (λ (b : Bool). cond b 1 23) (le-leb 8 (length s) h)); bytes = refl }

  -- by what is said of the room
  pub node-put : (n : ℕ) (t : List ℕ) (said b : Bool) → said ≡ b → (said ≡ answer_lent s) × (t ≡ number_put s n)
      → AnswersNode (replaced_by n) s t (cond b 0 23)
  node-put n t said b e p = record { number = ap (λ (x : Bool). cond x 0 23) (sym e ∙ p.0); bytes = p.1 }

  pub node-refused : (why : Refusal) (r : ℕ) → r ≡ number_of why → AnswersNode (not_replaced why) s s r
  node-refused why r e = record { number = e; bytes = refl }

-- ---- lists

module _ (ls : List (List ℕ)) (s : List ℕ) where
  pub lists_short : (k : ℕ) → k ≡ length (lists_bytes ls) → length s < k → AnswersLists (placed_on ls) s s 23
  lists_short k e h =
      let g : ltb (length s) (length (lists_bytes ls)) ≡ true = ap (ltb (length s)) (sym e) ∙ lt-ltb (length s) k h in
      record {
        number = sym (ap (λ (b : Bool). cond b 23 0) g);
        bytes = sym (ap (λ (b : Bool). cond b s (sets s 0 (lists_bytes ls))) g);
      }

  pub lists_long_lem : (t : List ℕ) (k : ℕ) → k ≡ length (lists_bytes ls) → k ≤ length s → t ≡ sets s 0 (lists_bytes ls) → AnswersLists (placed_on ls) s t 0
  lists_long_lem t k e h q =
      let g : ltb (length s) (length (lists_bytes ls)) ≡ false = ap (ltb (length s)) (sym e) ∙ le-ltb (length s) k h in
      record {
        number = sym (ap (λ (b : Bool). cond b 23 0) g);
        bytes = q ∙ sym (ap (λ (b : Bool). cond b s (sets s 0 (lists_bytes ls))) g);
      }

pub lists_refused : (s : List ℕ) (why : Refusal) (r : ℕ) → r ≡ number_of why → AnswersLists (not_placed why) s s r
lists_refused s why r e = record { number = e; bytes = refl }

-- ---- the calls

module _ (m : List ℕ) (shards replication : ℕ) (s : List ℕ) where
  pub place_unlent : map_lent m ≡ false → Places m shards replication s s 24
  place_unlent f = record {
    unlent = λ _. (refl, refl);
    lent = λ e. not_both (map_lent m) e f;
    laid = placed-laid (map_at m) (spec_given shards replication);
  }

  pub place-lent : (x : Placed) (t : List ℕ) (r : ℕ) → map_lent m ≡ true → x ≡ place_lent (map_at m) (spec_given shards replication) → AnswersLists x s t r
      → Places m shards replication s t r
  place-lent x t r e p k = record {
    unlent = λ f. not_both (map_lent m) e f;
    lent = λ _. subst (λ (y : Placed). AnswersLists y s t r) p k;
    laid = placed-laid (map_at m) (spec_given shards replication);
  }

  pub place_malformed : map_lent m ≡ true → well_formed_lent (map_at m) ≡ false → Places m shards replication s s 24
  place_malformed e w = place-lent (not_placed malformed) s 24 e (sym (place_24 (map_at m) (spec_given shards replication) w)) (lists_refused s malformed 24 refl)

module _ (m name : List ℕ) (shard : ℕ) (s : List ℕ) where
  pub replace_unnamed : text_fits 32 name ≡ false → Replaces m name shard s s 21
  replace_unnamed f = record {
    unnamed = λ _. (refl, refl);
    unlent = λ e _. not_both (text_fits 32 name) e f;
    lent = λ e _. not_both (text_fits 32 name) e f;
  }

  module _ (fits : text_fits 32 name ≡ true) where
    pub replace_unlent : map_lent m ≡ false → Replaces m name shard s s 24
    replace_unlent f = record {
      unnamed = λ g. not_both (text_fits 32 name) fits g;
      unlent = λ _ _. (refl, refl);
      lent = λ _ e. not_both (map_lent m) e f;
    }

    pub replace-lent : (k : ShardKey) (x : place.Replaced) (t : List ℕ) (r : ℕ) → map_lent m ≡ true → view_key k ≡ key_given name shard
        → x ≡ replacement_lent (map_at m) k → AnswersNode x s t r → Replaces m name shard s t r
    replace-lent k x t r e v p n = record {
      unnamed = λ g. not_both (text_fits 32 name) fits g;
      unlent = λ _ f. not_both (map_lent m) e f;
      lent = λ _ _. record { key = k; named = v; answer = subst (λ (y : place.Replaced). AnswersNode y s t r) p n };
    }

    pub replace_malformed : (k : ShardKey) → map_lent m ≡ true → view_key k ≡ key_given name shard → well_formed_lent (map_at m) ≡ false
        → Replaces m name shard s s 24
    replace_malformed k e v w = replace-lent k (not_replaced malformed) s 24 e v (sym (replace_24 (map_at m) k w)) (node-refused s malformed 24 refl)
