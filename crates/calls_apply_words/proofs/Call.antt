-- The whole call in words: what is refused before the command is looked at, and what settling comes to. Assumes nothing.
use Prim.Native.Nat.{ℕ}
use mathlib.Core.Path.{◌≡◌, refl, sym, ap, subst, ◌∙◌}
use mathlib.Core.Bool.{Bool, true, false, cond}
use mathlib.Core.List.{List}
use mathlib.Core.Option.{Option, none, some}
use native.Mathlib.Omega.{arith}
use lib.ListN.{length}
use lib.Seq.{sets}
use Rattle.spec.specs.Refusals.{Refusal, undecodable, no_room, malformed, number_of}
use Rattle.spec.specs.Map.Apply.{Applied, apply}
use Rattle.spec.specs.Map.Calls.{refused_with}
use Rattle.spec.specs.Map.Tables.{Answer, refused}
use Rattle.spec.specs.Layout.Request as request
use Rattle.spec.specs.Layout.Request.{decode_request}
use Rattle.spec_laws.proofs.Lists.{not_both}
use Rattle.spec_words.specs.Words.{text_of}
use Rattle.spec_words.specs.Calls.{Worded, said, AppliedInWords, in_words, worded_number}
use Rattle.spec_words.proofs.Calls.{roomy}
use Rattle.map_tables.specs.View.{view_map, view_request}
use Rattle.map_tables.specs.declared.Request.{Request}
use Rattle.map_check.specs.Lent.{well_formed_lent}
use Rattle.map_apply.specs.Calls.{apply_lent}
use Rattle.image_map.specs.Image.{map_at, map_lent}
use Rattle.calls_apply.proofs.Call.{Called, settled_way}
use Rattle.calls_parts.specs.Answer.{answer_lent, number_put}
use Rattle.calls_apply_words.specs.Calls.{told_of, tells, host_number, SaysImage, AppliesInWordsTo}
use Rattle.calls_apply_words.specs.Settled.{said_of, Says, SettlesInWords}

module _ (s bytes x a : List ℕ) where
  abbrev applied : Applied
  applied = apply_lent (map_at s) (decode_request bytes)

  -- ---- refused before the command is looked at: there is no text

  module _ (given : map_lent s ≡ true) (why : Refusal) (is : applied.answer ≡ refused why) (above : tells (number_of why) ≡ false) where
    said-is : (told_of s bytes x).answer ≡ said (refused why)
    unfolding text_of
    said-is =
        let l : length (text_of applied.answer) ≡ 0 = ap (λ (y : Answer). length (text_of y)) is in
        ap (λ (w : AppliedInWords). w.answer) (roomy (view_map (map_at s)) applied (length x) (omega arith)) ∙ ap said is

    refused_says : SaysImage s s bytes x x a a (number_of why)
    refused_says = record {
      number =
          sym (ap (λ (w : Worded). host_number (worded_number w) a) said-is
          ∙ ap (λ (b : Bool). cond b (cond (answer_lent a) (number_of why) (number_of no_room)) (number_of why)) above
          );
      text = sym (ap (λ (b : Bool). cond b (sets x 0 (told_of s bytes x).text) x) above);
      answer = sym (ap (λ (b : Bool). cond b (number_put a (length (told_of s bytes x).text)) a) above);
      applies = λ t. not_both (tells (number_of why)) t above;
      kept = λ _. refl;
      roomy = λ _ e. let f = said-is in let z : ◌≡◌ {A = ℕ} 0 1 = cc in omega arith;
    }

  pub undecoded_way : decode_request bytes ≡ none → AppliesInWordsTo s s bytes x x a a 21
  undecoded_way n = record {
    undecoded = λ _. record { number = refl; map = refl; text = refl; answer = refl };
    unlent = λ q e. let z : ◌≡◌ {A = ℕ} 0 1 = cc in absurd (omega arith);
    lent = λ given. refused_says given undecodable (ap (λ (o : Option request.Request). (apply_lent (map_at s) o).answer) n) refl;
  }

  module _ (q : request.Request) (read : decode_request bytes ≡ some q) where
    -- the definition's call on what was read, by the test of the map
    called : (b : Bool) → well_formed_lent (map_at s) ≡ b → applied ≡ cond b (apply (view_map (map_at s)) q) (refused_with (view_map (map_at s)) malformed)
    called b w = ap (apply_lent (map_at s)) read ∙ ap (λ (y : Bool). cond y (apply (view_map (map_at s)) q) (refused_with (view_map (map_at s)) malformed)) w

    undecoded_not : {P : Type 0} → decode_request bytes ≡ none → P
    undecoded_not n = let z : ◌≡◌ {A = ℕ} 0 1 = cc in absurd (omega arith)

    pub lent_not : map_lent s ≡ false → AppliesInWordsTo s s bytes x x a a 24
    lent_not f = record {
      undecoded = undecoded_not;
      unlent = λ _ _ _. record { number = refl; map = refl; text = refl; answer = refl };
      lent = λ t. not_both (map_lent s) t f;
    }

    pub malformed_way : map_lent s ≡ true → well_formed_lent (map_at s) ≡ false → AppliesInWordsTo s s bytes x x a a 24
    malformed_way given w = record {
      undecoded = undecoded_not;
      unlent = λ _ _ f. not_both (map_lent s) given f;
      lent = λ _. refused_says given malformed (ap (λ (y : Applied). y.answer) (called false w)) refl;
    }

  -- ---- and what settling comes to

  module _ (q : Request) (c : Called s bytes q) (s' x' a' : List ℕ) (r : ℕ) (w : SettlesInWords s s' q x x' a a' r) where
    abbrev read : decode_request bytes ≡ some (view_request q c.loaded.padding)
    read = c.loaded.read

    told_is : said_of s q x c.loaded.padding ≡ told_of s bytes x
    told_is =
        ap (λ (y : Applied). in_words (view_map (map_at s)) y (length x)) (sym (called (view_request q c.loaded.padding) read true c.formed))

    told : Says (told_of s bytes x) x x' a a' r
    told = subst (λ (y : AppliedInWords). Says y x x' a a' r) told_is (w.says c.loaded.padding)

    pub settled_in_words : AppliesInWordsTo s s' bytes x x' a a' r
    settled_in_words = record {
      undecoded = undecoded_not (view_request q c.loaded.padding) read;
      unlent = λ _ _ f. not_both (map_lent s) c.given f;
      lent = λ _. record {
        number = told.number;
        text = told.text;
        answer = told.answer;
        applies = λ t. (settled_way s bytes q c s' r (w.settles t)).lent c.given;
        kept = w.kept;
        roomy = told.roomy;
      };
    }
