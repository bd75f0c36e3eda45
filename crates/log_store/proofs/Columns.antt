-- Laws of the columns read as a log: the entry at an offset, and its components. Assumes nothing.
use Prim.Native.Nat.{ℕ, zero, suc, ◌+◌, ◌*◌, ◌-◌, ◌/◌, ◌≤◌, ◌<◌}
use mathlib.Core.Path.{◌≡◌, sym, ap, ◌∙◌}
use mathlib.Core.List.{List, []}
use mathlib.Core.Option.{some}
use mathlib.Core.Logic.{⊎_elim}
use native.Mathlib.Nat.{eq-zero-or-pos}
use native.Mathlib.Omega.{arith}
use borrow.Author.Tests.{eq-eqb, ne_eqb}
use lib.Ieee.{Float}
use lib.ListN.{length, get_or, take, drop, drop_of_length-le, get_or-eq_default, length-drop}
use lib.Seq.{take-nil, take_all}
use Rattle.spec.specs.Lists.{nth}
use Rattle.spec.specs.Log.{Log, entry_at, components, components_at, lookup}
use Rattle.log_store.specs.View.{Columns, columns, stretch, op_of, entry_of, log_of, LookedUp}
use Rattle.log_store.proofs.Firsts.{firsts-length, nth-firsts, nth_firsts_past}

pub log-length : (c : Columns) (n : ℕ) → length (log_of c n) ≡ n
unfolding log_of
log-length c n = firsts-length (entry_of c) n

pub log-at : (c : Columns) (n i : ℕ) → i < n → nth (log_of c n) i ≡ some (entry_of c i)
unfolding log_of
log-at c n i h = nth-firsts (entry_of c) n i h

-- the lookup of an offset past the log, and of none
pub look_past : (c : Columns) (n o : ℕ) → n < o → lookup (log_of c n) o ≡ []
unfolding lookup entry_at log_of
look_past c n zero h = absurd (omega arith)
look_past c n (suc i) h = ap components_at (nth_firsts_past (entry_of c) n i (omega arith))

pub look_zero : (l : Log) (o : ℕ) → o ≡ 0 → lookup l o ≡ []
unfolding lookup entry_at
look_zero l o e = rw e

-- the lookup of an offset that the log has
pub look_at : (c : Columns) (n o i : ℕ) → o ≡ i + 1 → i < n → lookup (log_of c n) o ≡ components (op_of c i)
unfolding lookup entry_at entry_of
look_at c n o i e h =
    let p : o ≡ suc i = omega arith in
    ap (lookup (log_of c n)) p ∙ ap components_at (log-at c n i h)

pub op_deleted : (c : Columns) (i : ℕ) → (get_or c.codes i 0 ≡ 1 → ⊥) → components (op_of c i) ≡ []
unfolding op_of
op_deleted c i n = rw (ne_eqb (get_or c.codes i 0) 1 n)

pub op_set : (c : Columns) (i : ℕ) → get_or c.codes i 0 ≡ 1 → components (op_of c i) ≡ stretch c i
unfolding op_of
op_set c i e = rw (eq-eqb (get_or c.codes i 0) 1 e)

-- a lookup by the two columns that it reads, and the floats
module _ (cs ls : List ℕ) (fs : List Float) (n o : ℕ) where
  pub looked_zero : o ≡ 0 → LookedUp cs ls fs n o []
  looked_zero h es os is = sym (look_zero (log_of (columns es os is cs ls fs) n) o h)

  module _ (pos : o ≡ 0 → ⊥) where
    up : o ≡ o - 1 + 1
    up = let p : 0 < o = ⊎_elim (λ (e : o ≡ 0). absurd (pos e)) (λ h. h) (eq-zero-or-pos o) in omega arith

    pub looked_past : n ≤ o - 1 → LookedUp cs ls fs n o []
    looked_past h es os is = let e = up in sym (look_past (columns es os is cs ls fs) n o (omega arith))

    pub looked_deleted : o - 1 < n → (get_or cs (o - 1) 0 ≡ 1 → ⊥) → LookedUp cs ls fs n o []
    looked_deleted h d es os is =
        sym (look_at (columns es os is cs ls fs) n o (o - 1) up h ∙ op_deleted (columns es os is cs ls fs) (o - 1) d)

    -- no code stands there
    pub looked_over : o - 1 < n → length cs ≤ o - 1 → LookedUp cs ls fs n o []
    looked_over h p =
        looked_deleted h
        (λ e. let d = get_or-eq_default cs 0 {n = o - 1} p in let z : ◌≡◌ {A = ℕ} 0 1 = cc in omega arith)

    pub looked_set : o - 1 < n → get_or cs (o - 1) 0 ≡ 1 → (r : List Float) → r ≡ take (get_or ls (o - 1) 0) (drop ((o - 1) * 32) fs)
        → LookedUp cs ls fs n o r
    unfolding stretch
    looked_set h d r q es os is =
        q ∙ sym (look_at (columns es os is cs ls fs) n o (o - 1) up h ∙ op_set (columns es os is cs ls fs) (o - 1) d)

    -- an Upsert: its length, or its floats, are missing; they are cut short; they are whole
    module _ (h : o - 1 < n) (d : get_or cs (o - 1) 0 ≡ 1) where
      pub looked_short : length ls ≤ o - 1 → LookedUp cs ls fs n o []
      looked_short p =
          looked_set h d []
          (ap (λ (k : ℕ). take k (drop ((o - 1) * 32) fs)) (sym (get_or-eq_default ls 0 {n = o - 1} p)))

      pub looked_out : length fs / 32 < o - 1 → LookedUp cs ls fs n o []
      looked_out p =
          looked_set h d []
          (sym (ap (take (get_or ls (o - 1) 0)) (drop_of_length-le fs {i = (o - 1) * 32} (omega arith)) ∙ take-nil (get_or ls (o - 1) 0)))

      module _ (w : ℕ) (e : w ≡ get_or ls (o - 1) 0) where
        pub looked_rest : length fs < (o - 1) * 32 + w
            → LookedUp cs ls fs n o (take (length fs - (o - 1) * 32) (drop ((o - 1) * 32) fs))
        looked_rest p =
            looked_set h d (take (length fs - (o - 1) * 32) (drop ((o - 1) * 32) fs))
            (take_all (length fs - (o - 1) * 32) (drop ((o - 1) * 32) fs) (rw (length-drop ((o - 1) * 32) fs) (omega arith))
            ∙ sym (take_all w (drop ((o - 1) * 32) fs) (rw (length-drop ((o - 1) * 32) fs) (omega arith)))
            ∙ ap (λ (k : ℕ). take k (drop ((o - 1) * 32) fs)) e)

        pub looked_whole : LookedUp cs ls fs n o (take ((o - 1) * 32 + w - (o - 1) * 32) (drop ((o - 1) * 32) fs))
        looked_whole =
            looked_set h d (take ((o - 1) * 32 + w - (o - 1) * 32) (drop ((o - 1) * 32) fs))
            (ap (λ (k : ℕ). take k (drop ((o - 1) * 32) fs)) (let q : (o - 1) * 32 + w - (o - 1) * 32 ≡ w = omega arith in q ∙ e))
