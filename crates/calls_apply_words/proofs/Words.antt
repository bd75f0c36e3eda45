-- The ways of a request in words through a map that passed its test: the text does not fit, the request is refused, there is no room for the
-- length, and told. Assumes nothing.
use Prim.Native.Nat.{ℕ, ◌≤◌, ◌<◌}
use mathlib.Core.Path.{◌≡◌, refl, sym, ap, subst, ◌∙◌}
use mathlib.Core.Bool.{Bool, true, false, cond}
use mathlib.Core.List.{List, []}
use native.Mathlib.Omega.{arith}
use lib.ListN.{length}
use lib.Seq.{sets}
use borrow.Author.Tests.{le-leb, lt-leb}
use Rattle.spec.specs.Refusals.{no_room, number_of}
use Rattle.spec.specs.Map.Apply.{Applied, apply}
use Rattle.spec.specs.Map.Calls.{reason_number}
use Rattle.spec_laws.proofs.Lists.{not_both}
use Rattle.spec_words.specs.Words.{text_of}
use Rattle.spec_words.specs.Calls.{Worded, said, short_buffer, AppliedInWords, worded_number}
use Rattle.spec_words.proofs.Calls.{roomy, tight}
use Rattle.map_tables.specs.View.{answer_of, view_map, view_request}
use Rattle.map_tables.specs.declared.Request.{Request}
use Rattle.map_tables.specs.declared.Verdict.{Verdict}
use Rattle.map_words.specs.declared.Text.{Text}
use Rattle.map_words.specs.Written as written
use Rattle.image_map.specs.Image.{map_at}
use Rattle.calls_decide.specs.Decides.{Answers}
use Rattle.calls_apply.specs.Settles.{Settles}
use Rattle.calls_parts.specs.Answer.{answer_lent, number_put}
use Rattle.calls_apply_words.specs.Calls.{tells, host_number, Tells}
use Rattle.calls_apply_words.specs.Settled.{said_of, Says, SettlesInWords}

-- what was told, by the test of it
pub as_told : {x x' a a' : List ℕ} {t : Text} {r b : Bool} → r ≡ b → Tells x x' a a' t r → Tells x x' a a' t b
as_told {x} {x'} {a} {a'} {t} e h = subst (Tells x x' a a' t) e h

-- nothing told: no byte changes
untold : (w : AppliedInWords) (x a : List ℕ) (r : ℕ) → tells r ≡ false → r ≡ host_number (worded_number w.answer) a
    → (108 ≤ length x → w.answer ≡ short_buffer → ⊥) → Says w x x a a r
untold w x a r e n never = record {
  number = n;
  text = sym (ap (λ (b : Bool). cond b (sets x 0 w.text) x) e);
  answer = sym (ap (λ (b : Bool). cond b (number_put a (length w.text)) a) e);
  roomy = never;
}

module _ (s : List ℕ) (q : Request) (x a : List ℕ) (v : Verdict) (t : Text) (answers : Answers s q v) (text : written.Says v t) where
  abbrev applied : List ℕ → Applied
  applied bs = apply (view_map (map_at s)) (view_request q bs)

  text-is : (bs : List ℕ) → text_of (answer_of v) ≡ text_of (applied bs).answer
  text-is bs = ap text_of (answers bs)

  -- ---- 27

  module _ (long : length x < t.len) where
    short-is : (bs : List ℕ) → (said_of s q x bs).answer ≡ short_buffer
    short-is bs =
        ap (λ (w : AppliedInWords). w.answer) (tight (view_map (map_at s)) (applied bs) (length x) (omega (arith, text.length, ap length (text-is bs))))

    pub short_way : SettlesInWords s s q x x a a 27
    short_way = record {
      says = λ bs.
          untold (said_of s q x bs) x a 27 refl (sym (ap (λ (w : Worded). host_number (worded_number w) a) (short-is bs)))
          (λ h _. absurd (let k = text.within in omega arith));
      settles = λ e. not_both (tells 27) e refl;
      kept = λ _. refl;
    }

  -- ---- the text fits

  module _ (fits : t.len ≤ length x) (number : ℕ) (is : number ≡ reason_number (answer_of v)) where
    said-is : (bs : List ℕ) → said_of s q x bs ≡ record { answer = said (applied bs).answer; map = (applied bs).map; text = text_of (applied bs).answer }
    said-is bs = roomy (view_map (map_at s)) (applied bs) (length x) (omega (arith, text.length, ap length (text-is bs)))

    answer-is : (bs : List ℕ) → (said_of s q x bs).answer ≡ said (applied bs).answer
    answer-is bs = ap (λ (w : AppliedInWords). w.answer) (said-is bs)

    never_short : (bs : List ℕ) → (said_of s q x bs).answer ≡ short_buffer → ⊥
    never_short bs e =
        let f = answer-is bs in
        let z : ◌≡◌ {A = ℕ} 0 1 = cc in
        omega arith

    number-told : (bs : List ℕ) → worded_number (said_of s q x bs).answer ≡ number
    number-told bs = ap worded_number (answer-is bs) ∙ ap reason_number (sym (answers bs)) ∙ sym is

    pub refused_way : 16 < number → SettlesInWords s s q x x a a number
    refused_way h =
        let e = lt-leb number 16 h in
        record {
          says = λ bs.
              untold (said_of s q x bs) x a number e
              (sym (ap (λ (k : ℕ). host_number k a) (number-told bs) ∙ ap (λ (b : Bool). cond b (cond (answer_lent a) number (number_of no_room)) number) e))
              (λ _. never_short bs);
          settles = λ f. not_both (tells number) f e;
          kept = λ _. refl;
        }

    module _ (few : number ≤ 16) where
      few-told : tells number ≡ true
      few-told = le-leb number 16 few

      host-is : (bs : List ℕ) (b : Bool) → answer_lent a ≡ b → host_number (worded_number (said_of s q x bs).answer) a ≡ cond b number (number_of no_room)
      host-is bs b e =
          ap (λ (k : ℕ). host_number k a) (number-told bs)
          ∙ ap (λ (c : Bool). cond c (cond (answer_lent a) number (number_of no_room)) number) few-told
          ∙ ap (λ (c : Bool). cond c number (number_of no_room)) e

      -- ---- 23

      pub no_room_way : (x' a' : List ℕ) → Tells x x' a a' t false → SettlesInWords s s q x x' a a' 23
      no_room_way x' a' tell =
          let k = tell.kept refl in
          subst (λ (l : List ℕ). SettlesInWords s s q x l a a' 23) (sym k.0)
          (subst (λ (l : List ℕ). SettlesInWords s s q x x a l 23) (sym k.1) (record {
            says = λ bs. untold (said_of s q x bs) x a 23 refl (sym (host-is bs false (sym tell.room))) (λ _. never_short bs);
            settles = λ e. not_both (tells 23) e refl;
            kept = λ _. refl;
          }))

      -- ---- told, and carried out

      told_as_lem : (s' x' a' : List ℕ) → Tells x x' a a' t true → Settles s s' q number → SettlesInWords s s' q x x' a a' number
      told_as_lem s' x' a' tell settles =
          let put = tell.told refl in
          let w : (bs : List ℕ) → text_of (answer_of v) ≡ (said_of s q x bs).text = λ bs. text-is bs ∙ sym (ap (λ (y : AppliedInWords). y.text) (said-is bs)) in
          record {
            says = λ bs. record {
              number = sym (host-is bs true (sym tell.room));
              text = put.0 ∙ ap (sets x 0) (text.bytes ∙ w bs) ∙ sym (ap (λ (b : Bool). cond b (sets x 0 (said_of s q x bs).text) x) few-told);
              answer = put.1 ∙ ap (number_put a) (text.length ∙ ap length (w bs)) ∙ sym (ap (λ (b : Bool). cond b (number_put a (length (said_of s q x bs).text)) a) few-told);
              roomy = λ _. never_short bs;
            };
            settles = λ _. settles;
            kept = λ f. not_both (tells number) few-told f;
          }

      -- the number that carrying out tells is the verdict's
      pub told_way : (s' x' a' : List ℕ) (r : ℕ) → Tells x x' a a' t true → Settles s s' q r → SettlesInWords s s' q x x' a a' r
      told_way s' x' a' r tell settles =
          let e : number ≡ r = is ∙ ap reason_number (answers [] ∙ sym (settles.settles.answer [])) ∙ sym settles.answer in
          subst (SettlesInWords s s' q x x' a a') e (told_as_lem s' x' a' tell (subst (Settles s s' q) (sym e) settles))
