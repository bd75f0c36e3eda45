-- The Write: what node 1's buffers hold before and after satisfies the contract of `catalogue_write`, which answers 0 with the offset 1. The
-- message is that of `thm_one_node`. Assumes nothing.
use native.Mathlib.Omega.{arith}
use mathlib.Core.Path.{◌≡◌, refl, sym, ap, subst, ◌∙◌}
use mathlib.Core.Bool.{false}
use mathlib.Core.List.{[], ◌∷◌}
use lib.Ieee.{fits}
use Rattle.spec.specs.Keys.{Key}
use Rattle.spec.specs.Node.Held as held
use Rattle.spec.specs.Node.Calls as calls
use Rattle.spec.specs.Node.Refused as refused
use Rattle.spec_laws.proofs.Lists.{not_both}
use Rattle.spec_run.proofs.Cases.Opened.{opened}
use Rattle.log_calls.proofs.FitLaws.{fits-sized, fits-well}
use Rattle.std.specs.Prelude.{Some}
use Rattle.node_header.specs.declared.Node.{Node}
use Rattle.node_header.specs.View.{Stores}
use Rattle.node_header.specs.Answers.{answered_as}
use Rattle.node_lent.specs.Lend.{place_of, lent_for, Whole}
use Rattle.image_node.specs.Lent.{store_put, Puts, StorePuts}
use Rattle.image_node.proofs.Put.{puts-kept}
use Rattle.node_write.specs.declared.WriteAnswer.{WriteAnswer}
use Rattle.node_write.specs.ClientWrites.{write_word, WriteNames, SameWrite, WritesAt}
use Rattle.calls_client.specs.Written.{buffers, WritesImages}
use Rattle.thm_one_node.specs.Images.{stores, room, offset, count}
use Rattle.thm_one_node.proofs.Map.{key}
use Rattle.thm_one_node.proofs.Columns.{before, after, entry, log-after, rows-after, stored, is-put, puts}
use Rattle.thm_one_node.proofs.Write.{asked, bytes, decoded, accepted, vectors}
use Rattle.thm_one_node.proofs.Stored.{log-lent, vectors-lent}
use Rattle.thm_one_node.proofs.WriteImages.{images_written}
use Rattle.thm_two_nodes.specs.Images.{leased, written}
use Rattle.thm_two_nodes.proofs.Headers.{row, kept, leading, leads, read-leased}
use Rattle.thm_two_nodes.proofs.Put.{header-written}
use Rattle.thm_two_nodes.proofs.Nodes.{first, first-empty, first_one, leased_lent_store, lends_leased, first_passes, first_slot, first-slots, one-fits}

-- ---- the call, on the columns that the bytes are read into

abbrev was : Node
was = leads (Some 100) 0 0 0 false

abbrev is : Node
is = leads (Some 100) 1 1 0 false

taken : (s : Stores)
    → record { answer = accepted; node = first (entry ∷ []) vectors (row 0 false) }
    ≡ answered_as write_word (calls.write_with (lent_for s was before) (first [] [] (row 0 false)) 5 1 bytes)
unfolding opened bytes fits
taken s = rw (first_passes s) refl

same : SameWrite was before after 5 1 bytes accepted is
same = λ s t slot w c.
    let z = w asked decoded ∙ first_slot 0 0 false in
    ap (λ (x : held.Node). record { answer = accepted; node = x })
    (first_one t false (log-lent after log-after rows-after t slot z c.after) (vectors-lent after log-after rows-after t slot z c.after))
    ∙ taken s
    ∙ ap (λ (x : held.Node). answered_as write_word (calls.write_with (lent_for s was before) x 5 1 bytes)) (sym (first-empty s))

abbrev pub wrote : WriteAnswer
wrote = record { answer = accepted; node = is; refused = 0 }

key-whole : Whole was is after key
unfolding opened
key-whole e = (fits-sized _ one-fits, fits-well _ one-fits)

whole : (k : Key) → WriteNames bytes k → Whole was is after k
whole k named = subst (Whole was is after) (sym (named asked decoded)) key-whole

writes : WritesAt was before after 5 1 bytes 0 wrote
unfolding refused.counted
writes = record {
  same = same;
  kept = λ e. not_both false e refl;
  slots_are = refl;
  slots = λ e. first-slots;
  whole = λ e. whole;
  count = refl;
}

-- ---- the buffers

store-puts : StorePuts stores stored (kept 0 (leading 0 (row 0 false))) (kept 1 (leading 1 (row 0 false))) after
unfolding store_put
store-puts = record { image = is-put; fits = record { log = puts.fits.log; rows = puts.fits.rows } }

images : Puts leased written stores stored was is after 0
images = puts-kept leased written stores stored was is after 0 header-written (omega arith) store-puts

at_zero : place_of was key ≡ 0
unfolding opened
at_zero = refl

pub writes_images : WritesImages (buffers leased stores room) (buffers written stored offset) count count 5 1 bytes 0
writes_images = images_written leased written was is read-leased lends_leased leased_lent_store at_zero images writes
