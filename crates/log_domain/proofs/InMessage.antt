-- What stands at a place that `wire_read` names: operations, entries one after the other, and that the reader has tested them. Assumes nothing.
use Prim.Native.Nat.{ℕ, suc, ◌+◌, ◌-◌, ◌*◌, ◌≤◌, ◌<◌}
use mathlib.Core.Path.{◌≡◌, refl, sym, ap, subst, ◌∙◌}
use mathlib.Core.Bool.{Bool, true, false, cond}
use mathlib.Core.List.{List, [], ◌∷◌, map}
use lib.ListN.{length, get_or}
use lib.Dec.{eqb}
use native.Mathlib.Omega.{arith}
use borrow.Author.Tests.{eqb-true, eqb-false, leb-true}
use Rattle.spec.specs.Lists.{every}
use Rattle.spec.specs.Node.Wire.{op_in_domain, entry_in_domain}
use Rattle.spec.specs.Layout.Format.{code, ◌▸◌, fits, fits_n, next, value, value_n, number_at, side}
use Rattle.spec.specs.Layout.Parts.{u32, u64, vector_f, op_f, entry_f, op_of, entry_of, WireOp, wire_upsert, WireEntry}
use Rattle.spec_laws.proofs.Lists.{not_both}
use Rattle.spec_laws.proofs.Wire.Tests.{and_left, and_right}
use Rattle.wire_read.specs.Shown.{part, op_shown, entry_shown}
use Rattle.wire_read.specs.declared.Part.{Part}
use Rattle.wire_read.specs.declared.EntryPart.{EntryPart}
use Rattle.wire_read.proofs.Places.{length-value_n, upsert_is, upsert_room, delete_is, first_fits, entry-fits}
use Rattle.wire_read.proofs.Skips.{count_byte}
use Rattle.wire_read.proofs.Items.{word_item, item_fits, items-fit}
use Rattle.log_domain.specs.Parts.{bits_in, op_in, entries_in, OpThere, EntriesThere}

module _ (s : List ℕ) where
  pub bits-length : (v : Part) → length (bits_in s v) ≡ v.len
  unfolding bits_in
  bits-length v = length-value_n (value u32 s) (next u32 s) v.len v.at

  pub bits_item : (v : Part) (i : ℕ) → i < v.len → get_or (bits_in s v) i 0 ≡ number_at 4 s (v.at + i * 4)
  unfolding bits_in
  bits_item v i h = word_item 4 s v.len v.at i h

  pub bits-within : (v : Part) (i : ℕ) → i < v.len → i < length (bits_in s v)
  bits-within v i h = let n = bits-length v in omega arith

  -- ---- an operation at a place

  pub op-there : (at : ℕ) → fits op_f s at ≡ true → OpThere s (op_shown at (op_of (value op_f s at)))
  op-there at e = by (eqb (get_or s at 0) 1) refl
    where
      by : (b : Bool) → eqb (get_or s at 0) 1 ≡ b → OpThere s (op_shown at (op_of (value op_f s at)))
      by true h =
          let one : get_or s at 0 ≡ 1 = eqb-true _ _ h in
          let v : fits vector_f s (at + 1 + 8) ≡ true = and_right _ _ (first_fits 1 (u64 ▸ vector_f) (code 2 ▸ u64) s at e one) in
          let least : 1 ≤ number_at 1 s (at + 1 + 8) = leb-true _ _ (and_left _ _ (and_right _ _ v)) in
          let most : number_at 1 s (at + 1 + 8) ≤ 32 = leb-true _ _ (and_left _ _ (and_right _ _ (and_right _ _ v))) in
          let n = count_byte s (at + 1 + 8) in
          subst (OpThere s) (upsert_is s at one) (omega arith, omega arith, upsert_room s at e one)
      by false h = subst (OpThere s) (delete_is s at (eqb-false _ _ h)) tt

  pub op-is : (at : ℕ) → op_in s (op_shown at (op_of (value op_f s at))) ≡ op_of (value op_f s at)
  unfolding bits_in
  op-is at = by (eqb (get_or s at 0) 1)
    where
      by : (b : Bool)
          → op_in s (op_shown at (op_of (side b (value (u64 ▸ vector_f) s (at + 1)) (value (code 2 ▸ u64) s at))))
          ≡ op_of (side b (value (u64 ▸ vector_f) s (at + 1)) (value (code 2 ▸ u64) s at))
      by true =
          ap (λ (n : ℕ). wire_upsert (number_at 8 s (at + 1)) (value_n (value u32 s) (next u32 s) n (at + 1 + 8 + 1)))
          (length-value_n (value u32 s) (next u32 s) (number_at 1 s (at + 1 + 8)) (at + 1 + 8 + 1))
      by false = refl

  -- ---- entries, one after the other

  -- an entry that was read
  abbrev pub entry_in : EntryPart → WireEntry
  entry_in e = record { epoch = e.epoch.0; offset = e.offset.0; op = op_in s e.op }

  pub entries_start : (p : Part) → EntriesThere s p → EntriesThere s (part p.at (p.len - 0))
  entries_start p h = let e : p.len - 0 ≡ p.len = omega arith in subst (λ (n : ℕ). EntriesThere s (part p.at n)) (sym e) h

  pub entries_all : (p : Part) → entries_in s (part p.at (p.len - 0)) ≡ entries_in s p
  entries_all p = let e : p.len - 0 ≡ p.len = omega arith in ap (λ (n : ℕ). entries_in s (part p.at n)) e

  pub entries_none : (n at i : ℕ) → n ≤ i → entries_in s (part at (n - i)) ≡ []
  unfolding entries_in
  entries_none n at i h =
      let e : n - i ≡ 0 = omega arith in ap (λ (k : ℕ). map entry_of (value_n (value entry_f s) (next entry_f s) k at)) e

  pub domain_end : (n at i : ℕ) → n ≤ i → true ≡ every entry_in_domain (entries_in s (part at (n - i)))
  unfolding every
  domain_end n at i h = sym (ap (every entry_in_domain) (entries_none n at i h))

  module _ (n at i : ℕ) (l : i < n) (h : EntriesThere s (part at (n - i))) where
    more : fits_n (fits entry_f s) (next entry_f s) (suc (n - (i + 1))) at ≡ true
    more =
        let e : n - i ≡ suc (n - (i + 1)) = omega arith in
        subst (λ (k : ℕ). fits_n (fits entry_f s) (next entry_f s) k at ≡ true) e h.1

    pub entries_first : fits entry_f s at ≡ true
    entries_first = item_fits entry_f entry_of s (n - (i + 1)) at more

    module _ (e : EntryPart) (q : e ≡ entry_shown at (entry_of (value entry_f s at)) (next entry_f s at)) where
      pub entry-op : OpThere s e.op
      entry-op =
          subst (λ (z : EntryPart). OpThere s z.op) (sym q) (op-there (at + 8 + 8) (entry-fits s at entries_first))

      pub entries_rest : EntriesThere s (part e.next (n - (i + 1)))
      entries_rest =
          let k : n - (i + 1) ≤ 256 = omega (arith, h.0) in (
            k,
            subst (λ (z : EntryPart). fits_n (fits entry_f s) (next entry_f s) (n - (i + 1)) z.next ≡ true) (sym q)
                (items-fit entry_f entry_of s (n - (i + 1)) at more),
          )

      entry-is : entry_in e ≡ entry_of (value entry_f s at)
      entry-is =
          ap entry_in q
          ∙ ap (λ (o : WireOp). record { epoch = number_at 8 s at; offset = number_at 8 s (at + 8); op = o }) (op-is (at + 8 + 8))

      pub entries_split : entries_in s (part at (n - i)) ≡ entry_in e ∷ entries_in s (part e.next (n - (i + 1)))
      unfolding entries_in
      entries_split =
          let k : n - i ≡ suc (n - (i + 1)) = omega arith in
          ap (λ (m : ℕ). map entry_of (value_n (value entry_f s) (next entry_f s) m at)) k
          ∙ ap (λ (w : WireEntry). w ∷ map entry_of (value_n (value entry_f s) (next entry_f s) (n - (i + 1)) (next entry_f s at))) (sym entry-is)
          ∙ ap (λ (z : EntryPart). entry_in e ∷ map entry_of (value_n (value entry_f s) (next entry_f s) (n - (i + 1)) z.next)) (sym q)

      -- ---- whether all of them lie in the domain

      domain_split : every entry_in_domain (entries_in s (part at (n - i)))
          ≡ cond (op_in_domain (op_in s e.op)) (every entry_in_domain (entries_in s (part e.next (n - (i + 1))))) false
      unfolding every
      domain_split = ap (every entry_in_domain) entries_split

      pub domain_on : op_in_domain (op_in s e.op) ≡ true
          → every entry_in_domain (entries_in s (part at (n - i))) ≡ every entry_in_domain (entries_in s (part e.next (n - (i + 1))))
      domain_on d =
          domain_split ∙ ap (λ (b : Bool). cond b (every entry_in_domain (entries_in s (part e.next (n - (i + 1))))) false) d

      pub domain_stop : op_in_domain (op_in s e.op) ≡ false → every entry_in_domain (entries_in s (part at (n - i))) ≡ false
      domain_stop d =
          domain_split ∙ ap (λ (b : Bool). cond b (every entry_in_domain (entries_in s (part e.next (n - (i + 1))))) false) d

      pub domain_first : every entry_in_domain (entries_in s (part at (n - i))) ≡ true → op_in_domain (op_in s e.op) ≡ true
      domain_first d = both (op_in_domain (op_in s e.op)) refl
        where
          both : (b : Bool) → op_in_domain (op_in s e.op) ≡ b → op_in_domain (op_in s e.op) ≡ true
          both true h = h
          both false h = not_both (every entry_in_domain (entries_in s (part at (n - i)))) d (domain_stop h)

      pub domain_rest : every entry_in_domain (entries_in s (part at (n - i))) ≡ true
          → every entry_in_domain (entries_in s (part e.next (n - (i + 1)))) ≡ true
      domain_rest d = sym (domain_on (domain_first d)) ∙ d
