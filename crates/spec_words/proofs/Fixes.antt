-- Paper 02, 2.1: the words of a rejection fix its number and its operands, whatever bytes its name has. Assumes nothing.
use Prim.Native.Nat.{ℕ}
use mathlib.Core.Path.{◌≡◌, sym, ap, ◌∙◌}
use Rattle.spec.specs.Refusals.{Rejection, reason_of}
use Rattle.spec_words.specs.Words.{words}
use Rattle.spec_words.proofs.Read.{read, read_back}

pub words_fix : (a b : Rejection) → words a ≡ words b → a ≡ b
words_fix a b e = sym (read_back a) ∙ ap read e ∙ read_back b

-- 'number and words together fix the reason with its operands'
pub number_and_words_fix : (a b : Rejection) → reason_of a ≡ reason_of b → words a ≡ words b → a ≡ b
number_and_words_fix a b n e = words_fix a b e

-- 'exactly which numbers, if any, can share words': none
pub no_numbers_share : (a b : Rejection) → (reason_of a ≡ reason_of b → ⊥) → words a ≡ words b → ⊥
no_numbers_share a b n e = n (ap reason_of (words_fix a b e))
