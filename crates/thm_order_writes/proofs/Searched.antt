-- A Search at each of the two nodes of Instance.antt, by its contract: both find object 7 at distance 0, with one row of output. So the
-- premises of `same-searches` are met too. Assumes nothing.
use Prim.Native.Nat.{ℕ}
use mathlib.Core.Path.{◌≡◌, refl, sym, ap, subst, ◌∙◌}
use mathlib.Core.Bool.{Bool, true, false}
use mathlib.Core.List.{List, [], ◌∷◌}
use mathlib.Core.Option.{some}
use lib.Ieee.{fits}
use Rattle.spec.specs.Keys.{Key}
use Rattle.spec.specs.Log.{Log, Vectors}
use Rattle.spec.specs.Layout.Message.{Query, encode_search, decode_search}
use Rattle.spec.specs.Node.Wire.{float_of}
use Rattle.spec.specs.Node.Calls.{search_with}
use Rattle.spec.specs.Node.Refused as refused
use Rattle.spec_laws.proofs.Lists.{not_both, some_same}
use Rattle.spec_run.specs.State.{at}
use Rattle.spec_run.proofs.Cases.Opened.{opened}
use Rattle.node_header.specs.View.{Stores}
use Rattle.node_header.specs.Formed.{lent_node, slots_fit, counts_fit}
use Rattle.node_lent.specs.Lend.{LentStore, slot_of, lent_for, Lends}
use Rattle.node_search.specs.declared.SearchAnswer.TheVariants as S
use Rattle.node_search.specs.declared.NodeSearched.{NodeSearched}
use Rattle.node_search.specs.Searches.{Output, output, turned_down, search_answered, SearchSlot, SearchesAt}
use Rattle.thm_one_node.proofs.Map.{key}
use Rattle.thm_one_node.proofs.Write.{read}
use Rattle.thm_order_writes.proofs.Calls.{header, Reads, view_of, lent}
use Rattle.thm_order_writes.proofs.Instance.{ones, entry, row, sets, after_x-y, after_y-x, reads_after_x_y, reads_after_y_x, slot_zero, searches_met}

abbrev pub asked : Query
asked = record { key = key; epoch = 1; k = 1; bits = ones }

unfoldable pub bytes : List ℕ
bytes = encode_search asked

pub decoded : decode_search bytes ≡ some asked
unfolding opened bytes
decoded = refl

named : SearchSlot (header 2 2) bytes 0
named v d = slot_zero 2 2 ∙ ap (λ (w : Query). slot_of (header 2 2) w.key) (some_same (sym decoded ∙ d))

abbrev pub room : Output
room = output (0 ∷ []) (float_of 0 ∷ [])

abbrev pub filled : Output
filled = output (7 ∷ []) (float_of 0 ∷ [])

abbrev pub said : NodeSearched
said = record { answer = S.Found 1; refused = 0 }

pub formed : (s : Stores) → lent_node s (header 2 2) ≡ true
unfolding opened lent_node slots_fit counts_fit
formed s = rw (s.long 0 2) refl

abbrev pub vectors : Vectors
vectors = row 7 ∷ row 41 ∷ []

does : (t : Key → Bool) (l : Log) → t key ≡ true
    → record { answer = S.Found 1; output = filled; refused = 0; node = read l vectors } ≡ search_answered room 0 (search_with t (read l vectors) 5 1 bytes)
unfolding opened bytes fits
does t l e = rw e refl

pub search : (a : LentStore) (l : Log) → Reads a 2 2 l vectors → SearchesAt (header 2 2) a bytes 5 room filled 0 said
unfolding refused.counted
search a l r = record {
  same = λ s slot w d.
      let z : slot ≡ 0 = w asked decoded ∙ sym (slot_zero 2 2) in
      rw (view_of s a 2 2 l vectors r (subst (λ (i : ℕ). Lends s i a) z d)) (does (lent_for s (header 2 2) a) l (lent 2 2 a r.fits s (formed s)));
  kept = λ e. not_both false e refl;
  counts = refl;
}

pub found_met : (said.answer ≡ said.answer) × (filled ≡ filled) × (said.refused ≡ said.refused)
unfolding at
found_met =
    let no : said.answer ≡ S.Refused 24 → ⊥ = λ e. not_both (turned_down said.answer) (ap turned_down e) refl in
    searches_met 5 bytes room filled filled 0 0 0 said said named named
    (search after_x-y (entry 1 (sets 41) ∷ entry 2 (sets 7) ∷ []) reads_after_x_y)
    (search after_y-x (entry 1 (sets 7) ∷ entry 2 (sets 41) ∷ []) reads_after_y_x) no no
