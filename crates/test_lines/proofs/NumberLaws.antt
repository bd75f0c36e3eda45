-- The number of an answer tells its word, and with the version its line. Assumes nothing.
use Prim.Native.Nat.{ℕ, ◌≤◌, ◌<◌}
use mathlib.Core.Path.{◌≡◌, refl, sym, ap, ◌∙◌}
use mathlib.Core.Bool.{cond}
use lib.Dec.{eqb, leb}
use borrow.Author.Tests.{ne_eqb, le-leb, lt-leb}
use Rattle.spec.specs.Refusals.{Rejection, older, exists, zero_spec, placement_mismatch, not_alive, no_collection, known_incarnation, not_at_incarnation, no_shard, other_epoch, already_held, removes_primary, not_held, not_in_sync, shrinks_primary, already_in_sync}
use Rattle.spec.specs.Refusals.{Refusal, unknown_shard, not_primary, no_lease, too_few_in_sync, undecodable, outside_domain, no_room, malformed, last_epoch, no_worker}
use Rattle.spec.specs.Map.Tables.{Answer, outcome, refused, applied, rejected}
use Rattle.spec.specs.Map.Calls.{Word, was_applied, was_rejected, was_refused, word_of, reason_number}
use Rattle.test_lines.specs.Words.{word_in, WordFor, LineFor}
use Rattle.test_lines.specs.declared.Word as own
use Rattle.test_lines.specs.declared.Word.TheVariants as word

-- the word by the number
abbrev word_by : ℕ → Word
word_by n = cond (eqb n 0) was_applied (cond (leb n 16) was_rejected was_refused)

rejected_word : (r : Rejection) → word_by (reason_number (outcome (rejected r))) ≡ was_rejected
rejected_word older = refl
rejected_word (exists n) = refl
rejected_word zero_spec = refl
rejected_word placement_mismatch = refl
rejected_word (not_alive n) = refl
rejected_word (no_collection n) = refl
rejected_word (known_incarnation n i) = refl
rejected_word (not_at_incarnation n i) = refl
rejected_word (no_shard k) = refl
rejected_word (other_epoch k o g) = refl
rejected_word (already_held n) = refl
rejected_word removes_primary = refl
rejected_word (not_held n) = refl
rejected_word (not_in_sync n) = refl
rejected_word shrinks_primary = refl
rejected_word (already_in_sync n) = refl

refused-word : (r : Refusal) → word_by (reason_number (refused r)) ≡ was_refused
refused-word unknown_shard = refl
refused-word (not_primary e) = refl
refused-word no_lease = refl
refused-word too_few_in_sync = refl
refused-word undecodable = refl
refused-word outside_domain = refl
refused-word no_room = refl
refused-word malformed = refl
refused-word last_epoch = refl
refused-word no_worker = refl

number_word : (a : Answer) → word_by (reason_number a) ≡ word_of a
number_word (outcome applied) = refl
number_word (outcome (rejected r)) = rejected_word r
number_word (refused r) = refused-word r

-- ---- what the code's tests tell

word_for : (n : ℕ) (w : own.Word) → word_in w ≡ word_by n → WordFor n w
word_for n w e = record { is = λ a q. e ∙ ap word_by q ∙ number_word a }

pub applied_for : (n : ℕ) → n ≡ 0 → WordFor n word.Applied
applied_for n e = word_for n word.Applied (sym (ap word_by e))

pub rejected_for : (n : ℕ) → (n ≡ 0 → ⊥) → n ≤ 16 → WordFor n word.Rejected
rejected_for n e h = word_for n word.Rejected (rw (ne_eqb n 0 e, le-leb n 16 h))

pub refused_for : (n : ℕ) → (n ≡ 0 → ⊥) → 16 < n → WordFor n word.Refused
refused_for n e h = word_for n word.Refused (rw (ne_eqb n 0 e, lt-leb n 16 h))

pub line_for : (index n version : ℕ) (w : own.Word) → WordFor n w → LineFor index n version (record { index = index; word = w; reason = n; version = version })
line_for index n version w h = record {
  is = λ a q v.
      ap (λ (x : Word). record { index = index; word = x; reason = n; version = version }) (h.is a.answer q)
      ∙ ap (λ (k : ℕ). record { index = index; word = word_of a.answer; reason = k; version = version }) q
      ∙ ap (λ (k : ℕ). record { index = index; word = word_of a.answer; reason = reason_number a.answer; version = k }) v;
}
