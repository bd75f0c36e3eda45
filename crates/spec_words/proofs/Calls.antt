-- Apply in words: what 27 leaves, and what the same request gets when it is sent again with room. Assumes nothing.
use Prim.Native.Nat.{ℕ, ◌≤◌, ◌<◌}
use mathlib.Core.Path.{◌≡◌, refl, ap, ◌∙◌}
use mathlib.Core.Bool.{Bool, true, false, cond}
use mathlib.Core.List.{List, []}
use native.Mathlib.Omega.{arith}
use lib.ListN.{length}
use lib.Dec.{leb}
use borrow.Author.Tests.{le-leb, lt-leb}
use Rattle.spec.specs.Map.Tables.{Map}
use Rattle.spec.specs.Map.Apply.{Applied}
use Rattle.spec.specs.Map.Calls.{apply_call}
use Rattle.spec.specs.Layout.Request.{Request}
use Rattle.spec_laws.proofs.Lists.{by-test}
use Rattle.spec_words.specs.Words.{text_of}
use Rattle.spec_words.specs.Calls.{Worded, said, short_buffer, AppliedInWords, in_words, apply_in_words}

-- ---- with room, and without

module _ (m : Map) (a : Applied) (room : ℕ) where
  pub roomy : length (text_of a.answer) ≤ room → in_words m a room ≡ record { answer = said a.answer; map = a.map; text = text_of a.answer }
  unfolding in_words
  roomy h = rw (le-leb (length (text_of a.answer)) room h)

  pub tight : room < length (text_of a.answer) → in_words m a room ≡ record { answer = short_buffer; map = m; text = [] }
  unfolding in_words
  tight h = rw (lt-leb (length (text_of a.answer)) room h)

  said_not_short : said a.answer ≡ short_buffer → ⊥
  said_not_short e = let z : ◌≡◌ {A = ℕ} 0 1 = cc in omega arith

  -- 27 leaves the map, and says nothing
  pub short-is : (in_words m a room).answer ≡ short_buffer → in_words m a room ≡ record { answer = short_buffer; map = m; text = [] }
  unfolding in_words
  short-is =
      by-test (λ (x : AppliedInWords). x.answer ≡ short_buffer → x ≡ record { answer = short_buffer; map = m; text = [] })
      (leb (length (text_of a.answer)) room) (λ _ e. absurd (said_not_short e)) (λ _ _. refl)

-- ---- the call

module _ (m : Map) (r : Request) (room : ℕ) (short : (apply_in_words m r room).answer ≡ short_buffer) where
  -- 27: nothing is remembered
  pub short-keeps : (apply_in_words m r room).map ≡ m
  unfolding apply_in_words
  short-keeps = ap (λ (x : AppliedInWords). x.map) (short-is m (apply_call m r) room short)

  -- sent again: what it would have got, whatever the room
  pub sent-again : (more : ℕ) → apply_in_words (apply_in_words m r room).map r more ≡ apply_in_words m r more
  sent-again more = ap (λ (x : Map). apply_in_words x r more) short-keeps

  -- sent again with room: apply's answer, map and text
  pub again_with_room : (more : ℕ) → length (text_of (apply_call m r).answer) ≤ more
      → apply_in_words (apply_in_words m r room).map r more
      ≡ record { answer = said (apply_call m r).answer; map = (apply_call m r).map; text = text_of (apply_call m r).answer }
  unfolding apply_in_words
  again_with_room more h = sent-again more ∙ roomy m (apply_call m r) more h
