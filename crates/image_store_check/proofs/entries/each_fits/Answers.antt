use Rattle.std.proofs.Common.{rules, ◌≡◌, ◌<◌, ℕ, Bool, true, false, refl, sym}
use Rattle.std.proofs.iter.runs.Sources.{ranges}
use Rattle.log_store.specs.Store.{every_below}
use Rattle.log_check.proofs.Fitting.{entries_stop, entries_end}
use Rattle.image_store_check.specs.Test.{entry_fits}
use Rattle.image_store_check.proofs.entries.each_fits.Goals as goal

each_below : (p : ℕ → Bool) (n : ℕ) (r : Bool) → (r ≡ true → (k : ℕ) → k < n → true ≡ p k) → (r ≡ false → (k : ℕ) × (k < n) × (false ≡ p k)) → r ≡ every_below p n
each_below p n true f g = entries_end p n n refl (λ k h. sym (f refl k h))
each_below p n false f g = let w = g refl in entries_stop p n w.0 w.1 (sym w.2)

pub returns : goal.returns
unfolding entry_fits
returns c = each_below (entry_fits c.args.s.now c.args.base) c.args.count _ (search (rules, ranges)) (search (rules, ranges))
