-- A store that passed its test (24), as a search over its bytes finds it. Assumes nothing.
use Prim.Native.Nat.{ℕ, suc, ◌+◌, ◌-◌, ◌*◌, ◌≤◌, ◌<◌}
use mathlib.Core.Path.{◌≡◌, sym, ap, subst, ◌∙◌}
use mathlib.Core.Bool.{Bool, true, cond}
use mathlib.Core.List.{List}
use native.Mathlib.Omega.{arith}
use lib.Dec.{eqb, leb}
use lib.Ieee.{Float, nan}
use lib.ListN.{length, get_or, replicate, length-replicate}
use borrow.Author.Tests.{eq-eqb, leb-true}
use Rattle.spec.specs.declared.Metric.{Metric}
use Rattle.spec.specs.Lists.{◌and◌}
use Rattle.spec.specs.Log.{Log, lookup, entry_at, components_at}
use Rattle.spec.specs.Layout.Format.{number_at}
use Rattle.spec.specs.Nearest.Order.{bits_in_domain}
use Rattle.spec.specs.Nearest.Distance.{norm, Bounded}
use Rattle.spec.specs.Nearest.Search.{hits}
use Rattle.spec.specs.Node.Wire.{float_of}
use Rattle.spec_laws.proofs.Lists.{and_left, and_right}
use Rattle.log_store.specs.View.{log_of, op_from}
use Rattle.log_store.specs.View as view
use Rattle.log_store.specs.Table.{vectors_of}
use Rattle.log_store.specs.Store.{Store, Sized, well_formed_store}
use Rattle.log_store.proofs.Columns.{log-at}
use Rattle.log_store.proofs.Bits.{every-at}
use Rattle.log_store.proofs.Facts.{Facts, facts, below_fact}
use Rattle.log_store.proofs.Firsts.{nth-firsts}
use Rattle.log_store.proofs.Rebuilt.{played-log}
use Rattle.log_check.specs.Conditions.{RowsFit}
use Rattle.log_check.proofs.Played.{played-fit}
use Rattle.image_store.specs.Image.{words, keys_in, places_in, patterns, op_at, log_at, rows_at, well_formed_image}
use Rattle.image_store.specs.Image as image
use Rattle.image_store.specs.Read.{codes_in, lengths_in, columns_at, used_at, readable, all_readable}
use Rattle.image_store.proofs.Words.{words-length, words-at}
use Rattle.image_store.proofs.Reading.{bytes-length, used-short}
use Rattle.image_store.proofs.Read.{byte_at, image_log}
use Rattle.image_store.proofs.Test.{store_read, image_test}
use Rattle.float_distance.specs.declared.sums.Kind.{Kind}
use Rattle.float_distance.specs.Halves.{kind_of, element_of}
use Rattle.log_select.specs.Selectable.{Selectable}
use Rattle.log_select.specs.Chosen.{Selected}
use Rattle.log_select.specs.declared.select.Hits.{Hits}
use Rattle.log_search.specs.Column.{rough}
use Rattle.log_search.proofs.Searching.{column_selectable, column_hits}
use Rattle.image_store_search.specs.Column.{offset_of, entry_of, length_of, start_of, vector_in, Named, Filled}
use Rattle.image_store_search.specs.Nearest.{NearestIn}

module _ (s : List ℕ) (base count stored : ℕ) (there : base + 174080 ≤ length s) (well : well_formed_image s base count stored ≡ true) where
  -- columns that no code makes
  abbrev fresh : List Float
  fresh = replicate 32768 (float_of 0)

  whole : length fresh ≡ 32768
  whole = length-replicate 32768 (float_of 0)

  abbrev st : Store
  st = store_read s base count stored fresh whole

  both : all_readable s base count and well_formed_store st ≡ true
  both = image_test s base count stored fresh whole ∙ well

  fact : Facts st
  fact = facts st (and_right (all_readable s base count) (well_formed_store st) both)

  sized : Sized st
  unfolding columns_at
  sized = record {
    epochs = words-length 8 1024 s base;
    offsets = words-length 8 1024 s (base + 8192);
    ids = words-length 8 1024 s (base + 16384);
    codes = bytes-length s (base + 24576) (omega arith);
    lengths = bytes-length s (base + 25600) (omega arith);
    keys = words-length 8 1024 s (base + 157696);
    places = words-length 8 1024 s (base + 165888);
  }

  log_is : log_of st.columns count ≡ log_at s base count
  log_is =
      image_log s base count stored fresh (keys_in s base) (places_in s base) whole (and_left (all_readable s base count) (well_formed_store st) both)
      (and_right (all_readable s base count) (well_formed_store st) both)

  -- ---- its rows

  numbered : (i : ℕ) → i < count → get_or (words 8 1024 s (base + 8192)) i 0 ≡ i + 1
  unfolding columns_at view.entry_of
  numbered i h = let r = fact.numbered i (view.entry_of st.columns i) (log-at st.columns count i h) in omega arith

  fit : RowsFit (words 8 1024 s (base + 16384)) (codes_in s base) (keys_in s base) (places_in s base) count stored
  unfolding columns_at
  fit =
      let few = fact.stored in
      played-fit (words 8 1024 s (base + 8192)) (words 8 1024 s (base + 16384)) (codes_in s base) (keys_in s base) (places_in s base) count stored
      (omega (arith, words-length 8 1024 s (base + 157696))) (omega (arith, words-length 8 1024 s (base + 165888))) numbered
      (fact.rows ∙ played-log st.columns count)

  module _ (i : ℕ) (h : i < stored) where
    place_is : get_or (places_in s base) i 0 ≡ offset_of s base i
    place_is = words-at 8 1024 s (base + 165888) i (let few = fact.stored in omega arith)

    from : 1 ≤ offset_of s base i
    from = subst (λ (x : ℕ). 1 ≤ x) place_is (fit i h).names.starts

    upto : offset_of s base i ≤ count
    upto = subst (λ (x : ℕ). x ≤ count) place_is (fit i h).names.ends

    low : entry_of s base i < 1024
    low = let a = from in let b = upto in let c = fact.count in omega arith

    code_is : get_or s (base + 24576 + entry_of s base i) 0 ≡ 1
    code_is =
        sym (byte_at s base (base + 24576) (entry_of s base i) low)
        ∙ ap (λ (x : ℕ). get_or (codes_in s base) (x - 1) 0) (sym place_is) ∙ (fit i h).names.upsert

    short : length_of s base i ≤ 32
    unfolding columns_at
    short =
        let a = from in
        let b = upto in
        let e = entry_of s base i in
        let c = fact.codes e (omega arith) in
        subst (λ (x : ℕ). x ≤ 32) (byte_at s base (base + 25600) e low)
        (leb-true (get_or (lengths_in s base) e 0) 32
        (sym (ap (λ (b : Bool). cond b (leb (get_or (lengths_in s base) e 0) 32) (eqb (get_or (codes_in s base) e 0) 2))
        (eq-eqb (get_or (codes_in s base) e 0) 1 (byte_at s base (base + 24576) e low ∙ code_is))) ∙ c))

    -- its vector is what a lookup finds
    vector-is : lookup (log_at s base count) (get_or (places_in s base) i 0) ≡ vector_in s base i
    unfolding lookup entry_at log_at image.entry_at op_at op_from
    vector-is =
        let a = from in
        let b = upto in
        let e = entry_of s base i in
        let q : offset_of s base i ≡ suc e = omega arith in
        ap (lookup (log_at s base count)) (place_is ∙ q)
        ∙ ap components_at (nth-firsts (image.entry_at s base) count e (omega arith))
        ∙ rw code_is

    domain : (j : ℕ) → j < length_of s base i → bits_in_domain (number_at 4 s (start_of s base i + 4 * j)) ≡ true
    unfolding all_readable
    domain j k =
        let a = from in
        let b = upto in
        let e = entry_of s base i in
        let len = byte_at s base (base + 25600) e low in
        let u : length_of s base i ≡ used_at s base e =
        sym len ∙ used-short (get_or (codes_in s base) e 0) (get_or (lengths_in s base) e 0) (byte_at s base (base + 24576) e low ∙ code_is)
        (subst (λ (x : ℕ). x ≤ 32) (sym len) short) in
        let w = words-length 4 (used_at s base e) s (start_of s base i) in
        ap bits_in_domain (sym (words-at 4 (used_at s base e) s (start_of s base i) j (omega arith)))
        ∙ every-at bits_in_domain (patterns s base e (used_at s base e)) j 0
        (below_fact (readable s base) count (and_left (all_readable s base count) (well_formed_store st) both) e (omega arith)) (omega arith)

  pub named : Named s base stored
  named = record {
    stands = there;
    few = fact.stored;
    starts = from;
    ends = λ i h. let a = upto i h in let b = fact.count in omega arith;
    short = short;
    inside = λ i j h. domain i h j;
  }

  -- ---- the search

  module _ (m : Metric) (q : List Float) (asked : Bounded q) (qnorm : Float) (own : qnorm ≡ norm q) (xs : List Float) (long : length xs ≡ 1024)
      (filled : Filled s base m q qnorm xs stored) (kind : Kind) (isKind : kind ≡ kind_of m) where
    elements : (i : ℕ) → i < stored → get_or xs i nan ≡ rough m q (lookup (log_of st.columns count) (get_or (places_in s base) i 0))
    elements i h =
        filled i h ∙ ap (λ (n : Float). element_of m q n (vector_in s base i)) own
        ∙ ap (rough m q) (sym (ap (λ (l : Log). lookup l (get_or (places_in s base) i 0)) log_is ∙ vector-is i h))

    room : stored ≤ length xs
    room = let f = fact.stored in omega arith

    pub bytes_selectable : (ids : List ℕ) → ids ≡ keys_in s base → Selectable kind ids xs stored
    bytes_selectable ids e =
        subst (λ (z : List ℕ). Selectable kind z xs stored) (sym e) (column_selectable st fact sized m q asked xs room elements kind isKind)

    pub bytes_nearest : (k : ℕ) (r : Hits) (ids : List ℕ) → ids ≡ keys_in s base → Selected kind ids xs stored k r → NearestIn s base count stored m q k r
    bytes_nearest k r ids e d =
        let c = subst (λ (z : List ℕ). Selected kind z xs stored k r) e d in
        record {
          long = c.long;
          most = c.most;
          first =
              c.first ∙ column_hits st fact sized m q asked xs room elements kind isKind k
              ∙ ap (λ (l : Log). hits m q (vectors_of l (rows_at s base stored)) k) log_is;
        }
