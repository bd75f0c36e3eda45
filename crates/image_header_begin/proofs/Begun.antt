-- The header with a shard put in: its rows are those that were there with the new one among them, and it is written back so. Assumes nothing.
use Prim.Native.Nat.{ℕ, zero, suc, ◌+◌, ◌*◌, ◌≤◌, ◌<◌}
use mathlib.Core.Path.{◌≡◌, refl, sym, ap, subst, ◌∙◌}
use mathlib.Core.Bool.{false}
use mathlib.Core.List.{List, [], ◌∷◌, ◌++◌}
use lib.ListN.{length, take, drop, replicate}
use native.Mathlib.Omega.{arith}
use native.Mathlib.Nat.{mul-suc}
use Rattle.spec.specs.Lists.{lead}
use Rattle.spec.specs.Keys.{Key}
use Rattle.spec.specs.Layout.Format.{Bytes, number_at}
use Rattle.spec.specs.declared.Metric.{Metric}
use Rattle.node_shard.specs.declared.Held.{Held}
use Rattle.node_shard.specs.View.{insert_at}
use Rattle.map_tables.specs.Names.{view_key}
use Rattle.map_tables.specs.declared.ShardKey.{ShardKey}
use Rattle.map_tables.proofs.Tables.{place-most}
use Rattle.node_header.specs.declared.HeldRow.{HeldRow}
use Rattle.node_header.specs.declared.Node.{Node}
use Rattle.node_header.specs.View.{used}
use Rattle.node_header.specs.Grow.{lowest_free, below_key, Inserts}
use Rattle.node_header.proofs.Grow.{inserts}
use Rattle.image_parts.specs.Shape.{items, word}
use Rattle.image_header_row.specs.Rows.{held_row_at}
use Rattle.image_header.specs.Image.{node_at}
use Rattle.image_header.specs.Becomes.{HeaderWrites}
use Rattle.image_header_check.specs.Rows.{Counts}
use Rattle.image_header_check.proofs.Rows.{held_long, counted}
use Rattle.image_header_put.proofs.Back.{rows, used-rows, kept_past}
use Rattle.image_header_set.specs.Row.{RowBecomes}
use Rattle.image_header_set.proofs.Parts.{value_before, drop_past}
use Rattle.image_header_set.proofs.SetLaws.{back_over}
use Rattle.image_header_begin.specs.Begun.{row_at, Opened, begun_held, begun_set, Begun}
use Rattle.image_header_begin.proofs.RowLaws.{row_before}

-- ---- one item more among n

module _ {A : Type 0} (get put : ℕ → A) (w : ℕ) where
  items_up : (n at : ℕ) → ((j : ℕ) → j < n → put (at + w * (j + 1)) ≡ get (at + w * j)) → items n put w (at + w) ≡ items n get w at
  items_up zero at law = refl
  items_up (suc n) at law =
      let a : at + w * (0 + 1) ≡ at + w = omega arith in
      let b : at + w * 0 ≡ at = omega arith in
      let here : put (at + w) ≡ get at = rw (a, b) at (law 0 (omega arith)) in
      rw (
        here,
        items_up n (at + w)
            (λ j lt.
            let c : at + w * (suc j + 1) ≡ at + w + w * (j + 1) = omega (arith, mul-suc w (j + 1)) in
            let d : at + w * suc j ≡ at + w + w * j = omega (arith, mul-suc w j) in
            rw (c, d) at (law (suc j) (omega arith))),
      )

  items_in : (n i at : ℕ) (x : A) → i ≤ n → ((j : ℕ) → j < i → put (at + w * j) ≡ get (at + w * j)) → put (at + w * i) ≡ x
      → ((j : ℕ) → i ≤ j → j < n → put (at + w * (j + 1)) ≡ get (at + w * j)) → items (suc n) put w at ≡ insert_at (items n get w at) i x
  items_in n zero at x le low here high =
      let b : at + w * 0 ≡ at = omega arith in
      let first : put at ≡ x = rw b at here in
      rw (first, items_up n at (λ j lt. high j (omega arith) lt))
  items_in zero (suc i) at x le low here high = absurd (omega arith)
  items_in (suc n) (suc i) at x le low here high =
      let b : at + w * 0 ≡ at = omega arith in
      let first : put at ≡ get at = rw b at (low 0 (omega arith)) in
      let e : at + w * suc i ≡ at + w + w * i = omega (arith, mul-suc w i) in
      rw (first)
      (ap (λ (l : List A). get at ∷ l)
      (items_in n i (at + w) x (omega arith)
      (λ j lt. let d : at + w * suc j ≡ at + w + w * j = omega (arith, mul-suc w j) in rw d at (low (suc j) (omega arith)))
      (rw e at here)
      (λ j ge lt.
      let c : at + w * (suc j + 1) ≡ at + w + w * (j + 1) = omega (arith, mul-suc w (j + 1)) in
      let d : at + w * suc j ≡ at + w + w * j = omega (arith, mul-suc w j) in
      rw (c, d) at (high (suc j) (omega arith) (omega arith)))))

-- ---- the header

pub place-few : (s : List ℕ) (count : ℕ) → Counts s count → (k : Key) (at : ℕ) → at ≡ lead (below_key k) (take count (node_at s).held) → at ≤ count
place-few s count counts k at is =
    let e = held_long s in
    let f = counts.1 in
    let p = place-most (node_at s).held count (omega arith) (below_key k) in
    omega arith

module _ (s t m : List ℕ) (count : ℕ) (counts : Counts s count) (few : count < 8) (key : ShardKey) (slot at epoch : ℕ) (metric : Metric)
    (slot_is : slot ≡ lowest_free (take count (node_at s).held)) (at-is : at ≡ lead (below_key (view_key key)) (take count (node_at s).held))
    (gap : Opened s t at count) (row : RowBecomes t m (48 + 1280 * at) (begun_set (held_row_at t (48 + 1280 * at)) key slot epoch metric)) where
  abbrev held : Held
  held = begun_held (held_row_at t (48 + 1280 * at)).held epoch metric

  abbrev new : HeldRow
  new = record { key = key; slot = slot; stored = 0; held = held }

  count-is : (node_at s).count ≡ count
  count-is = counted s ∙ counts.2

  inside : (node_at s).count ≤ length (node_at s).held
  inside = let e = held_long s in let c = count-is in omega arith

  at-most : at ≤ count
  at-most = place-few s count counts (view_key key) at at-is

  front : (k p : ℕ) → p + k ≤ 48 → number_at k m p ≡ number_at k t p
  front k p h = value_before m t (48 + 1280 * at) row.outside.front (word k) p (omega arith)

  pub counts-after : Counts m (count + 1)
  counts-after =
      let a = row.outside.long in
      let b = gap.long in
      let c = counts.0 in
      (omega arith, omega arith, front 8 24 (omega arith) ∙ gap.shards)

  rows-after : rows m (count + 1) ≡ insert_at (rows s count) at new
  rows-after =
      let e : count + 1 ≡ suc count = omega arith in
      let le = at-most in
      let o = row.outside in
      ap (λ (c : ℕ). items c (held_row_at m) 1280 48) e
      ∙ items_in (held_row_at s) (held_row_at m) 1280 count at 48 new le
      (λ j lt. row_before t m (48 + 1280 * at) o.front (48 + 1280 * j) (omega arith) ∙ gap.below j lt)
      row.row
      (λ j ge lt.
      kept_past m t (48 + 1280 * (j + 1)) (drop_past m t (48 + 1280 * at + 1280) (48 + 1280 * (j + 1)) (omega arith) o.back) ∙ gap.above j ge lt)

  used-before : used (node_at s) ≡ rows s count
  used-before = used-rows s count counts 0 0

  used-after : used (node_at m) ≡ rows m (count + 1)
  used-after = used-rows m (count + 1) counts-after 0 0

  abbrev made : Node
  made = record {
    id = (node_at s).id;
    incarnation = (node_at s).incarnation;
    expiry = (node_at s).expiry;
    version = (node_at s).version;
    held = (node_at m).held;
    count = (node_at s).count + 1;
  }

  made-is : made ≡ node_at m
  unfolding node_at
  made-is =
      rw (
        front 8 0 (omega arith),
        gap.id,
        front 8 8 (omega arith),
        gap.incarnation,
        front 8 16 (omega arith),
        gap.version,
        front 4 36 (omega arith),
        gap.code,
        front 8 40 (omega arith),
        gap.end,
        counts-after.2,
        counts.2,
      )

  put_in : Inserts (node_at s) key held (node_at m)
  put_in =
      let c = count-is in
      let n : (node_at m).count ≡ (node_at s).count + 1 = counted m ∙ counts-after.2 ∙ ap (λ (i : ℕ). i + 1) (sym c) in
      subst (Inserts (node_at s) key held) made-is
      (inserts (node_at s) inside key held (omega arith) slot at (node_at m).held
      (slot_is ∙ ap (λ (i : ℕ). lowest_free (take i (node_at s).held)) (sym c))
      (at-is ∙ ap (λ (i : ℕ). lead (below_key (view_key key)) (take i (node_at s).held)) (sym c))
      (ap (λ (i : ℕ). take i (node_at m).held) (sym n) ∙ used-after ∙ rows-after ∙ ap (λ (l : List HeldRow). insert_at l at new) (sym used-before)))

  pub begun : (u : List ℕ) → Bytes m → HeaderWrites m u (node_at m) → Begun s u key epoch metric
  begun u bytes w = record {
    fresh = begun_held held 0 metric;
    held = held;
    node = node_at m;
    begins = record { last = refl; same = λ k. refl };
    realigns = record { last = refl; same = λ k l₀ l v₀ v. refl };
    inserts = put_in;
    writes =
        back_over s m u (count + 1) counts-after bytes counts.0 (row.outside.long ∙ gap.long)
        (let le = at-most in drop_past m t (48 + 1280 * at + 1280) (48 + 1280 * (count + 1)) (omega arith) row.outside.back ∙ gap.past) w;
  }
