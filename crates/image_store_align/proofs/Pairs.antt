-- The pairs of an epoch table walked where they stand in a message: what is left of the table answers as the whole does. Assumes nothing.
use Prim.Native.Nat.{ℕ, suc, ◌+◌, ◌-◌, ◌*◌, ◌≤◌, ◌<◌}
use mathlib.Core.Path.{◌≡◌, sym, ap, subst, ◌∙◌}
use mathlib.Core.Bool.{Bool, false}
use mathlib.Core.List.{List, ◌∷◌, map}
use mathlib.Core.Option.{Option, none, some}
use native.Mathlib.Omega.{arith}
use lib.Dec.{eqb}
use lib.ListN.{get_or}
use borrow.Author.Tests.{le-leb, lt-leb}
use Rattle.spec.specs.Lists.{◌and◌}
use Rattle.spec.specs.Log.{End, epoch_at, is_epoch, agrees}
use Rattle.spec.specs.Layout.Format.{◌▸◌, next, value, value_n, number_at}
use Rattle.spec.specs.Layout.Parts.{u64, end_of}
use Rattle.wire_read.specs.declared.Part.{Part}
use Rattle.log_store.specs.Align.{AgreesAt}
use Rattle.log_domain.specs.Parts.{table_in}
use Rattle.image_store.specs.Image.{words}
use Rattle.image_store_check.specs.Test.{offsets_in}
use Rattle.image_store_check.proofs.EntryLaws.{word_in}

-- n pairs from a position on
pairs : List ℕ → (n at : ℕ) → List End
pairs s n at = map end_of (value_n (value (u64 ▸ u64) s) (next (u64 ▸ u64) s) n at)

abbrev pair : List ℕ → ℕ → End
pair s at = record { epoch = number_at 8 s at; end = number_at 8 s (at + 8) }

module _ (s : List ℕ) (p : Part) where
  -- the table without its first i pairs
  pub rest : ℕ → List End
  rest i = pairs s (p.len - i) (p.at + i * 16)

  rest_all : rest 0 ≡ table_in s p
  unfolding rest pairs table_in
  rest_all = let q : p.len - 0 ≡ p.len = omega arith in let z : p.at + 0 * 16 ≡ p.at = omega arith in rw (q, z)

  rest-next : (i : ℕ) → i < p.len → rest i ≡ pair s (p.at + i * 16) ∷ rest (i + 1)
  unfolding rest pairs
  rest-next i h =
      let q : p.len - i ≡ suc (p.len - (i + 1)) = omega arith in
      let z : p.at + i * 16 + 8 + 8 ≡ p.at + (i + 1) * 16 = omega arith in
      ap (λ (n : ℕ). pairs s n (p.at + i * 16)) q ∙ ap (λ (k : ℕ). pair s (p.at + i * 16) ∷ pairs s (p.len - (i + 1)) k) z

  rest-none : (i : ℕ) → p.len ≤ i → (o : ℕ) → epoch_at (rest i) o ≡ none
  unfolding rest pairs epoch_at
  rest-none i h o = let q : p.len - i ≡ 0 = omega arith in rw q

  -- the pairs passed end below the offset
  abbrev pub Passed : (o i : ℕ) → Type 0
  Passed o i = epoch_at (table_in s p) o ≡ epoch_at (rest i) o

  pub passed_none : (o : ℕ) → Passed o 0
  passed_none o = ap (λ (t : List End). epoch_at t o) (sym rest_all)

  module _ (o i : ℕ) (lt : i < p.len) (d : Passed o i) where
    pub passed_on : number_at 8 s (p.at + i * 16 + 8) < o → Passed o (i + 1)
    unfolding epoch_at
    passed_on h = d ∙ ap (λ (t : List End). epoch_at t o) (rest-next i lt) ∙ (rw (lt-leb o (number_at 8 s (p.at + i * 16 + 8)) h))

    pub found : o ≤ number_at 8 s (p.at + i * 16 + 8) → epoch_at (table_in s p) o ≡ some (number_at 8 s (p.at + i * 16))
    unfolding epoch_at
    found h = d ∙ ap (λ (t : List End). epoch_at t o) (rest-next i lt) ∙ (rw (le-leb o (number_at 8 s (p.at + i * 16 + 8)) h))

  pub none_found : (o i : ℕ) → p.len ≤ i → Passed o i → epoch_at (table_in s p) o ≡ none
  none_found o i h d = d ∙ rest-none i h o

-- ---- whether an entry agrees

module _ (end : ℕ) (t : List End) (epoch o : ℕ) where
  pub agrees_past : end < o → AgreesAt end t epoch o false
  unfolding agrees ◌and◌
  agrees_past h op = rw (lt-leb o end h)

  module _ (within : o ≤ end) where
    pub agrees_in : (e : ℕ) → epoch_at t o ≡ some e → AgreesAt end t epoch o (eqb e epoch)
    unfolding agrees ◌and◌
    agrees_in e q op = rw (le-leb o end within) (ap (λ (x : Option ℕ). is_epoch x epoch) (sym q))

    pub agrees-none : epoch_at t o ≡ none → AgreesAt end t epoch o false
    unfolding agrees ◌and◌
    agrees-none q op = rw (le-leb o end within) (ap (λ (x : Option ℕ). is_epoch x epoch) (sym q))

-- .. of the entry at a place, by the numbers that were read there
pub agrees_at : (s : List ℕ) (base offsets i : ℕ) → offsets ≡ base + 8192 → i < 1024 → (end : ℕ) (t : List End) (epoch o : ℕ)
    → epoch ≡ number_at 8 s (base + 8 * i) → o ≡ number_at 8 s (offsets + 8 * i) → (b : Bool) → AgreesAt end t epoch o b
    → AgreesAt end t (get_or (words 8 1024 s base) i 0) (get_or (offsets_in s base) i 0) b
agrees_at s base offsets i e h end t epoch o x y b d =
    subst (λ (j : ℕ). AgreesAt end t (get_or (words 8 1024 s base) i 0) j b) (y ∙ ap (λ (j : ℕ). number_at 8 s (j + 8 * i)) e ∙ sym (word_in s base (base + 8192) i h))
    (subst (λ (j : ℕ). AgreesAt end t j o b) (x ∙ sym (word_in s base base i h)) d)
