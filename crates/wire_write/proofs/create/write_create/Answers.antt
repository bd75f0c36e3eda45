use Prim.Native.Nat.{ℕ, ◌+◌}
use mathlib.Core.Path.{◌≡◌, sym, ap, ◌∙◌}
use mathlib.Core.Bool.{true}
use native.Mathlib.Omega.{arith}
use Rattle.wire_put.specs.Placed.{lists_fit, lists_long}
use Rattle.wire_write.specs.Written.{text_fits, count_fits}
use Rattle.wire_write.proofs.Writes.{text-short, fits_count, unfit, no_first, no_second}
use Rattle.wire_put.proofs.Placed.{lists_small, long_counts, long_nodes}
use Rattle.wire_write.proofs.Placed.{create_short, create_wrote}
use Rattle.wire_write.proofs.create.write_create.Goals as goal

pub returns-then-not-text_fits : goal.returns-then-not-text_fits
returns-then-not-text_fits c = unfit _ _ _ (no_first _ _ (sym c.text_fits.ensures ∙ c.if-not-text_fits.true))

pub returns-then-not-count_fits : goal.returns-then-not-count_fits
returns-then-not-count_fits c = unfit _ _ _ (no_second _ _ (no_first _ _ (sym c.count_fits.ensures ∙ c.if-not-count_fits.true)))

pub lists_long-requires : goal.lists_long-requires
lists_long-requires c =
    let a = c.args in
    let n : count_fits 0 16 a.n ≡ true = sym c.count_fits.ensures ∙ c.if-not-count_fits.false in
    fits_count 0 16 a.n n

pub returns-then-not-lists_long : goal.returns-then-not-lists_long
returns-then-not-lists_long c =
    unfit _ _ _ (no_second _ _ (no_second _ _ (no_first _ _ (sym c.lists_long.ensures ∙ c.if-not-lists_long.true))))

pub lists_fit-requires : goal.lists_fit-requires
lists_fit-requires c =
    let a = c.args in
    let l : lists_long a.counts.now a.nodes.now a.n ≡ true = sym c.lists_long.ensures ∙ c.if-not-lists_long.false in
    long_counts a.counts.now a.nodes.now a.n l

pub returns-then-not-lists_fit : goal.returns-then-not-lists_fit
returns-then-not-lists_fit c =
    unfit _ _ _ (no_second _ _ (no_second _ _ (no_second _ _ (sym c.lists_fit.ensures ∙ c.if-not-lists_fit.true))))

pub lists_size-lists-requires : goal.lists_size-lists-requires
lists_size-lists-requires c =
    let a = c.args in
    let n : count_fits 0 16 a.n ≡ true = sym c.count_fits.ensures ∙ c.if-not-count_fits.false in
    let l : lists_long a.counts.now a.nodes.now a.n ≡ true = sym c.lists_long.ensures ∙ c.if-not-lists_long.false in
    let f : lists_fit a.counts.now a.n 0 ≡ true = sym c.lists_fit.ensures ∙ c.if-not-lists_fit.false in
    (long_counts a.counts.now a.nodes.now a.n l, fits_count 0 16 a.n n, f)

pub overflow_add-lists : goal.overflow_add-lists
overflow_add-lists c =
    let a = c.args in
    let n : count_fits 0 16 a.n ≡ true = sym c.count_fits.ensures ∙ c.if-not-count_fits.false in
    let f : lists_fit a.counts.now a.n 0 ≡ true = sym c.lists_fit.ensures ∙ c.if-not-lists_fit.false in
    let s = c.lists_size-lists.ensures in
    omega (arith, lists_small a.counts.now a.n 0 f, fits_count 0 16 a.n n)

pub returns-then-out-lists : goal.returns-then-out-lists
returns-then-out-lists c =
    let a = c.args in
    let t : text_fits 32 a.name.now ≡ true = sym c.text_fits.ensures ∙ c.if-not-text_fits.false in
    let n : count_fits 0 16 a.n ≡ true = sym c.count_fits.ensures ∙ c.if-not-count_fits.false in
    let l : lists_long a.counts.now a.nodes.now a.n ≡ true = sym c.lists_long.ensures ∙ c.if-not-lists_long.false in
    let f : lists_fit a.counts.now a.n 0 ≡ true = sym c.lists_fit.ensures ∙ c.if-not-lists_fit.false in
    let s = c.lists_size-lists.ensures in
    create_short _ _ _ _ _ _ _ _ _ _ _ _ t n l f (omega arith)

pub overflow_cast-n : goal.overflow_cast-n
overflow_cast-n c =
    let a = c.args in
    let n : count_fits 0 16 a.n ≡ true = sym c.count_fits.ensures ∙ c.if-not-count_fits.false in
    omega (arith, fits_count 0 16 a.n n)

pub put_create_head-requires : goal.put_create_head-requires
put_create_head-requires c =
    let a = c.args in
    let t : text_fits 32 a.name.now ≡ true = sym c.text_fits.ensures ∙ c.if-not-text_fits.false in
    (omega arith, text-short 32 a.name.now t)

pub put_lists-requires : goal.put_lists-requires
put_lists-requires c =
    let a = c.args in
    let n : count_fits 0 16 a.n ≡ true = sym c.count_fits.ensures ∙ c.if-not-count_fits.false in
    let l : lists_long a.counts.now a.nodes.now a.n ≡ true = sym c.lists_long.ensures ∙ c.if-not-lists_long.false in
    let f : lists_fit a.counts.now a.n 0 ≡ true = sym c.lists_fit.ensures ∙ c.if-not-lists_fit.false in
    let s = c.lists_size-lists.ensures in
    (omega arith, long_counts a.counts.now a.nodes.now a.n l, long_nodes a.counts.now a.nodes.now a.n l, f, fits_count 0 16 a.n n)

pub returns : goal.returns
returns c =
    let a = c.args in
    let t : text_fits 32 a.name.now ≡ true = sym c.text_fits.ensures ∙ c.if-not-text_fits.false in
    let n : count_fits 0 16 a.n ≡ true = sym c.count_fits.ensures ∙ c.if-not-count_fits.false in
    let l : lists_long a.counts.now a.nodes.now a.n ≡ true = sym c.lists_long.ensures ∙ c.if-not-lists_long.false in
    let f : lists_fit a.counts.now a.n 0 ≡ true = sym c.lists_fit.ensures ∙ c.if-not-lists_fit.false in
    let s = c.lists_size-lists.ensures in
    create_wrote _ _ _ _ _ _ _ _ _ _ _ _ t n l f _ _ (ap (λ (m : ℕ). 73 + m) s) (omega arith)
    (c.put_lists.ensures ∙ (rw (c.put_create_head.ensures, c.put_request_head.ensures)))
