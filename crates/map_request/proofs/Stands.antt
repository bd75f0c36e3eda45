-- A command that stands at a place of a message: its operands are there within their limits, wire_read's parts show them, and it is within the
-- limits of the map. Assumes nothing.
use Prim.Native.Nat.{ℕ, zero, suc, ◌+◌, ◌≤◌}
use mathlib.Core.Path.{◌≡◌, refl, ap, ◌∙◌}
use mathlib.Core.Bool.{Bool, true, false, cond}
use mathlib.Core.Logic.{inl, inr}
use mathlib.Core.List.{List}
use native.Mathlib.Omega.{arith}
use lib.ListN.{length, get_or}
use lib.Dec.{leb, eqb}
use borrow.Author.Tests.{le-leb, leb-true}
use Rattle.spec.specs.Keys as keys
use Rattle.spec.specs.Lists.{every, ◌and◌}
use Rattle.spec.specs.Map.Tables as tables
use Rattle.spec.specs.Map.WellFormed.{command_fits}
use Rattle.spec.specs.Layout.Format.{Format, Value, code, word, text, ◌▸◌, either, fits, fits_n, next, value, value_n, number_at, side}
use Rattle.spec.specs.Layout.Parts.{u64, u32, name_f, address_f, key_f, placement_f, metric_of, key_of}
use Rattle.spec.specs.Layout.Request as request
use Rattle.spec_laws.proofs.Wire.Tests.{and_left, and_right, and_intro}
use Rattle.spec_laws.proofs.Map.Rows.{every_cons}
use Rattle.wire_read.specs.Shown.{part, key_shown, command_shown}
use Rattle.wire_read.specs.declared.Part.{Part}
use Rattle.wire_read.proofs.Places.{text-length, length-value_n}
use Rattle.wire_read.proofs.Items.{text-bytes}
use Rattle.map_tables.specs.declared.Command.{Command}
use Rattle.map_names.specs.Texts.{Text, key_in}
use Rattle.map_request.specs.Parts.{Lists, Held, list_f, nowhere, named_of, operands_of}
use Rattle.map_request.specs.Read.{command_read}
use Rattle.map_request.proofs.Rows.{list_held}

-- what stands at a place
pub record Stands (s : List ℕ) (at : ℕ) (c : request.Command) : Type 0 where
  pub held : Held s (operands_of (command_shown at c))
  pub back : command_read s (command_shown at c) ≡ c
  pub fits : command_fits c ≡ true

-- ---- parts

no_text : (most : ℕ) (s : List ℕ) → Text most s nowhere
no_text most s = record { short = omega arith; inside = omega arith }

no_lists : (s : List ℕ) → Lists s nowhere
no_lists s = record { few = omega arith; row = refl }

module _ (c : ℕ) (s : List ℕ) (at : ℕ) (e : fits (text c) s at ≡ true) where
  text-short : length (value (text c) s at) ≤ c
  text-short = rw (text-length c s at e) (leb-true _ _ (and_left _ _ (and_right _ _ e)))

  text-held : Text c s (part (at + 1) (length (value (text c) s at)))
  text-held =
      let l : at + 1 + c ≤ length s = leb-true _ _ (and_left _ _ e) in
      let k = text-short in
      record { short = text-short; inside = omega arith }

named-held : (s : List ℕ) (c : Command) (p : Part) (n : ℕ) → Text 32 s p → Held s (named_of c p n)
named-held s c p n h = record { name = h; address = no_text 64 s; placement = no_lists s }

plain-held : (s : List ℕ) (c : Command) → Held s (named_of c nowhere 0)
plain-held s c = named-held s c nowhere 0 (no_text 32 s)

module _ (s : List ℕ) (at : ℕ) (e : fits key_f s at ≡ true) where
  key-held : Text 32 s (key_shown at (key_of (value key_f s at))).name
  key-held = text-held 32 s at (and_left _ _ e)

  key_back : key_in s (key_shown at (key_of (value key_f s at))) ≡ key_of (value key_f s at)
  key_back = ap (λ (n : keys.Name). record { collection = n; shard = value u32 s (at + 1 + 32) }) (text-bytes 32 s at (and_left _ _ e))

  key_fits : leb (length (value name_f s at)) 32 ≡ true
  key_fits = le-leb _ _ (text-short 32 s at (and_left _ _ e))

-- each list of a placement has at most 8 nodes
lists_fit_lem : (s : List ℕ) (n at : ℕ) → fits_n (fits list_f s) (next list_f s) n at ≡ true
    → every (λ (l : List ℕ). leb (length l) 8) (value_n (value list_f s) (next list_f s) n at) ≡ true
unfolding every
lists_fit_lem s zero at e = refl
lists_fit_lem s (suc n) at e =
    every_cons (λ (l : List ℕ). leb (length l) 8) (value list_f s at) (value_n (value list_f s) (next list_f s) n (next list_f s at))
    (le-leb _ _ (list_held s at (and_left _ _ e)).few) (lists_fit_lem s n (next list_f s at) (and_right _ _ e))

-- ---- commands, by the code before them

module _ (s : List ℕ) (at : ℕ) where
  create_stands : fits request.create_f s (at + 1) ≡ true → Stands s at (request.create_of (value request.create_f s (at + 1)))
  unfolding command_fits
  create_stands e =
      let q = at + 1 + 1 + 32 + 4 + 1 + 4 + 4 in
      let v = value request.create_f s (at + 1) in
      let spec : tables.Spec =
      record { dimension = v.1.0; metric = metric_of v.1.1.0; shards = v.1.1.1.0; replication = v.1.1.1.1.0 } in
      let named : fits name_f s (at + 1) ≡ true = and_left _ _ e in
      let placed : fits placement_f s q ≡ true = and_right _ _ (and_right _ _ (and_right _ _ (and_right _ _ (and_right _ _ e)))) in
      let size : length (value placement_f s q) ≡ number_at 1 s q = length-value_n (value list_f s) (next list_f s) (number_at 1 s q) (q + 1) in
      let few : number_at 1 s q ≤ 16 = leb-true _ _ (and_left _ _ (and_right _ _ (and_right _ _ placed))) in
      let row : fits_n (fits list_f s) (next list_f s) (number_at 1 s q) (q + 1) ≡ true = and_right _ _ (and_right _ _ (and_right _ _ placed)) in
      record {
        held = record {
          name = text-held 32 s (at + 1) named;
          address = no_text 64 s;
          placement = record { few = rw size few; row = rw size row };
        };
        back =
            ap (λ (n : keys.Name). request.create n spec (value_n (value list_f s) (next list_f s) (length (value placement_f s q)) (q + 1))) (text-bytes 32 s (at + 1) named)
            ∙ ap (λ (m : ℕ). request.create v.0 spec (value_n (value list_f s) (next list_f s) m (q + 1))) size;
        fits = and_intro (le-leb _ _ (text-short 32 s (at + 1) named)) (lists_fit_lem s (number_at 1 s q) (q + 1) row);
      }

  drop_stands : fits name_f s (at + 1) ≡ true → Stands s at (request.drop_collection (value name_f s (at + 1)))
  unfolding command_fits
  drop_stands e = record {
    held = named-held s _ _ _ (text-held 32 s (at + 1) e);
    back = ap request.drop_collection (text-bytes 32 s (at + 1) e);
    fits = le-leb _ _ (text-short 32 s (at + 1) e);
  }

  register_stands : fits request.register_f s (at + 1) ≡ true → Stands s at (request.command_of (inr (inr (inl (value request.register_f s (at + 1))))))
  unfolding command_fits
  register_stands e =
      let h : fits address_f s (at + 1 + 8) ≡ true = and_left _ _ (and_right _ _ e) in
      record {
        held = record { name = no_text 32 s; address = text-held 64 s (at + 1 + 8) h; placement = no_lists s };
        back =
            ap (λ (a : keys.Name). request.register (value u64 s (at + 1)) a (value u64 s (at + 1 + 8 + 1 + 64))) (text-bytes 64 s (at + 1 + 8) h);
        fits = le-leb _ _ (text-short 64 s (at + 1 + 8) h);
      }

  dead_stands : Stands s at (request.command_of (inr (inr (inr (inl (value (u64 ▸ u64) s (at + 1)))))))
  unfolding command_fits
  dead_stands = record { held = plain-held s _; back = refl; fits = refl }

  -- the commands that name a shard
  module _ (e : fits key_f s (at + 1) ≡ true) where
    abbrev key : keys.Key
    key = key_of (value key_f s (at + 1))

    add_stands : (n i epoch : ℕ) → Stands s at (request.add_replica key n i epoch)
    unfolding command_fits
    add_stands n i epoch = record {
      held = named-held s _ _ _ (key-held s (at + 1) e);
      back = ap (λ (k : keys.Key). request.add_replica k n i epoch) (key_back s (at + 1) e);
      fits = key_fits s (at + 1) e;
    }

    remove_stands : (n epoch : ℕ) → Stands s at (request.remove_replica key n epoch)
    unfolding command_fits
    remove_stands n epoch = record {
      held = named-held s _ _ _ (key-held s (at + 1) e);
      back = ap (λ (k : keys.Key). request.remove_replica k n epoch) (key_back s (at + 1) e);
      fits = key_fits s (at + 1) e;
    }

    promote_stands : (n epoch : ℕ) → Stands s at (request.promote_primary key n epoch)
    unfolding command_fits
    promote_stands n epoch = record {
      held = named-held s _ _ _ (key-held s (at + 1) e);
      back = ap (λ (k : keys.Key). request.promote_primary k n epoch) (key_back s (at + 1) e);
      fits = key_fits s (at + 1) e;
    }

    shrink_stands : (n epoch : ℕ) → Stands s at (request.shrink_in_sync key n epoch)
    unfolding command_fits
    shrink_stands n epoch = record {
      held = named-held s _ _ _ (key-held s (at + 1) e);
      back = ap (λ (k : keys.Key). request.shrink_in_sync k n epoch) (key_back s (at + 1) e);
      fits = key_fits s (at + 1) e;
    }

    expand_stands : (n epoch : ℕ) → Stands s at (request.expand_in_sync key n epoch)
    unfolding command_fits
    expand_stands n epoch = record {
      held = named-held s _ _ _ (key-held s (at + 1) e);
      back = ap (λ (k : keys.Key). request.expand_in_sync k n epoch) (key_back s (at + 1) e);
      fits = key_fits s (at + 1) e;
    }

  bench_stands : Stands s at (request.bench (value request.bench_f s (at + 1)))
  unfolding command_fits
  bench_stands = record {
    held = plain-held s _;
    back = ap (λ (n : ℕ). request.bench (value_n (value (word 1) s) (next (word 1) s) n (at + 1 + 2))) (length-value_n (value (word 1) s) (next (word 1) s) (number_at 2 s (at + 1)) (at + 1 + 2));
    fits = refl;
  }

-- ---- the command at a place

module _ (t : ℕ) (f g : Format) (s : List ℕ) (at : ℕ) (P : Value (either t f g) → Type 0) where
  -- either the code and the first side after it, or the second
  either_case : fits (either t f g) s at ≡ true → (fits f s (at + 1) ≡ true → P (inl (value f s (at + 1)))) → (fits g s at ≡ true → P (inr (value g s at)))
      → P (value (either t f g) s at)
  either_case e first second = by (eqb (get_or s at 0) t) (and_right _ _ e)
    where
      by : (b : Bool) → cond b (fits f s (at + 1)) (fits g s at) ≡ true → P (side b (value f s (at + 1)) (value g s at))
      by true h = first h
      by false h = second h

abbrev from19 : Format
from19 = code 0x19 ▸ request.bench_f

abbrev from18 : Format
from18 = either 0x18 request.ownership_f from19

abbrev from17 : Format
from17 = either 0x17 request.ownership_f from18

abbrev from16 : Format
from16 = either 0x16 request.ownership_f from17

abbrev from15 : Format
from15 = either 0x15 request.ownership_f from16

abbrev from14 : Format
from14 = either 0x14 request.add_f from15

abbrev from13 : Format
from13 = either 0x13 (u64 ▸ u64) from14

abbrev from12 : Format
from12 = either 0x12 request.register_f from13

abbrev from11 : Format
from11 = either 0x11 name_f from12

pub command_stands : (s : List ℕ) (at : ℕ) → fits request.command_f s at ≡ true → Stands s at (request.command_of (value request.command_f s at))
command_stands s at e =
    either_case 0x10 request.create_f from11 s at (λ v. Stands s at (request.command_of v)) e (create_stands s at) (λ e1.
    either_case 0x11 name_f from12 s at (λ v. Stands s at (request.command_of (inr v))) e1 (drop_stands s at) (λ e2.
    either_case 0x12 request.register_f from13 s at (λ v. Stands s at (request.command_of (inr (inr v)))) e2 (register_stands s at) (λ e3.
    either_case 0x13 (u64 ▸ u64) from14 s at (λ v. Stands s at (request.command_of (inr (inr (inr v))))) e3 (λ h. dead_stands s at) (λ e4.
    either_case 0x14 request.add_f from15 s at (λ v. Stands s at (request.command_of (inr (inr (inr (inr v)))))) e4 (λ h. add_stands s at (and_left _ _ h) _ _ _) (λ e5.
    either_case 0x15 request.ownership_f from16 s at (λ v. Stands s at (request.command_of (inr (inr (inr (inr (inr v))))))) e5 (λ h. remove_stands s at (and_left _ _ h) _ _) (λ e6.
    either_case 0x16 request.ownership_f from17 s at (λ v. Stands s at (request.command_of (inr (inr (inr (inr (inr (inr v)))))))) e6 (λ h. promote_stands s at (and_left _ _ h) _ _) (λ e7.
    either_case 0x17 request.ownership_f from18 s at (λ v. Stands s at (request.command_of (inr (inr (inr (inr (inr (inr (inr v))))))))) e7 (λ h. shrink_stands s at (and_left _ _ h) _ _) (λ e8.
    either_case 0x18 request.ownership_f from19 s at (λ v. Stands s at (request.command_of (inr (inr (inr (inr (inr (inr (inr (inr v)))))))))) e8 (λ h. expand_stands s at (and_left _ _ h) _ _) (λ h.
    bench_stands s at)))))))))
