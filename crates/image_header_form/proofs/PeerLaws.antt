-- Rows of peers put in place one after another, of any list of 32 rows. Assumes nothing.
use Prim.Native.Nat.{ℕ, zero, suc, ◌+◌, ◌-◌, ◌*◌, ◌≤◌, ◌<◌}
use mathlib.Core.Path.{◌≡◌, refl, sym, ap, subst, ◌∙◌}
use mathlib.Core.Bool.{Bool, true, false}
use mathlib.Core.List.{List, [], ◌∷◌, ◌++◌, map}
use borrow.Author.Tests.{le-ltb}
use lib.Dec.{ltb}
use lib.ListN.{length, get_or, take, drop, replicate, length-map, length-replicate}
use lib.Seq.{sets, get_or-take, length-take-le, drop_at, drop-drop}
use native.Mathlib.Omega.{arith}
use Rattle.spec.specs.Lists.{◌and◌}
use Rattle.spec.specs.Layout.Format.{concat_map}
use Rattle.spec.specs.Node.Client.{wait_row}
use Rattle.spec.specs.declared.Peer.{Peer}
use Rattle.image_parts.specs.Shape.{encode, Stored}
use Rattle.image_parts.specs.Canon.{padded}
use Rattle.image_parts.proofs.Canon.{length-padded}
use Rattle.image_parts.proofs.Images.{put_step, put-end, stored-all}
use Rattle.image_header_row.specs.Rows.{no_peer, peer_f, peer_of, peer_value, peer_at, peer_bytes, peers_at, peers_bytes}
use Rattle.image_header_check.proofs.Rows.{peers_long, peer-row}
use Rattle.image_header_form.proofs.Bytes.{drop-on, value_past, drop-after}

-- ---- rows one after another

module _ (s : List ℕ) (at : ℕ) (l : List Peer) where
  -- the first i are there, and behind them all is as it was
  abbrev pub Done : List ℕ → ℕ → Type 0
  Done out i =
      (length out ≡ length s)
      × (sets out (at + 32 * i) (concat_map peer_bytes (drop i l)) ≡ sets s at (concat_map peer_bytes l))
      × (drop (at + 32 * i) out ≡ drop (at + 32 * i) s)

  pub done-start : Done s 0
  done-start = let q : at + 32 * 0 ≡ at = omega arith in (refl, rw q, refl)

  -- a row that is still to come is read as before
  pub still : (out : List ℕ) (i : ℕ) → Done out i → peer_at out (at + 32 * i) ≡ peer_at s (at + 32 * i)
  unfolding peer_at
  still out i d = ap peer_of (value_past peer_f out s (at + 32 * i) d.2)

  pub done-step : (out m : List ℕ) (i : ℕ) → at + 1024 ≤ length s → i < 32 → length l ≡ 32 → Done out i → length m ≡ length out
      → (x : Peer) → x ≡ get_or l i no_peer → Stored out m (at + 32 * i) (peer_bytes x) 32 → Done m (i + 1)
  done-step out m i room lt long d len x e k =
      let q : at + 32 * (i + 1) ≡ at + 32 * i + 32 = omega arith in
      let n = d.0 in
      let h : i < length l = omega arith in
      let g : at + 32 * i + 32 ≤ length out = omega arith in
      let put = subst (λ (y : Peer). Stored out m (at + 32 * i) (peer_bytes y) 32) e k in (
        len ∙ d.0,
        put_step peer_bytes 32 l no_peer out m i (at + 32 * i) (at + 32 * (i + 1)) h q put ∙ d.1,
        rw q (drop-after k g ∙ drop-on out s (at + 32 * i) 32 d.2),
      )

-- ---- a list at the start of an array

module _ {A : Type 0} (d : A) where
  get_d_first : (l r : List A) (i : ℕ) → i < length l → get_or (l ++ r) i d ≡ get_or l i d
  get_d_first [] r i h = absurd (omega arith)
  get_d_first (x ∷ l) r zero h = refl
  get_d_first (x ∷ l) r (suc i) h = get_d_first l r i (omega arith)

  get_d_same : (n i : ℕ) → get_or (replicate n d) i d ≡ d
  get_d_same zero zero = refl
  get_d_same zero (suc i) = refl
  get_d_same (suc n) zero = refl
  get_d_same (suc n) (suc i) = get_d_same n i

  pub padded-first : (limit : ℕ) (l : List A) (i : ℕ) → i < length l → get_or (padded limit d l) i d ≡ get_or l i d
  unfolding padded
  padded-first limit l i h = get_d_first l (replicate (limit - length l) d) i h

get_d_map : {A B : Type 0} (f : A → B) (l : List A) (i : ℕ) (d : A) (e : B) → i < length l → get_or (map f l) i e ≡ f (get_or l i d)
get_d_map f [] i d e h = absurd (omega arith)
get_d_map f (x ∷ l) zero d e h = refl
get_d_map f (x ∷ l) (suc i) d e h = get_d_map f l i d e (omega arith)

-- ---- the rows past those in use

-- 32 rows that say nothing
abbrev pub clear : List Peer
clear = replicate 32 no_peer

drop-same : (m n : ℕ) (x : Peer) → drop n (replicate m x) ≡ replicate (m - n) x
drop-same m zero x = let q : m - 0 ≡ m = omega arith in rw q
drop-same zero (suc n) x = let q : 0 - suc n ≡ 0 = omega arith in rw q
drop-same (suc m) (suc n) x = let q : suc m - suc n ≡ m - n = omega arith in rw q (drop-same m n x)

-- what lies past the first n of a list at the start of an array
pub clear_tail : (l : List Peer) (n : ℕ) → length l ≡ n → drop n (padded 32 no_peer l) ≡ drop n clear
unfolding padded
clear_tail l n e = drop_at l (replicate (32 - length l) no_peer) n e ∙ ap (λ (k : ℕ). replicate (32 - k) no_peer) e ∙ sym (drop-same 32 n no_peer)

pub clear_step : (out m : List ℕ) (at i : ℕ) → i < 32 → (x : Peer) → x ≡ no_peer → Stored out m (at + 32 * i) (peer_bytes x) 32
    → sets m (at + 32 * (i + 1)) (concat_map peer_bytes (drop (i + 1) clear)) ≡ sets out (at + 32 * i) (concat_map peer_bytes (drop i clear))
clear_step out m at i lt x e k =
    let q : at + 32 * (i + 1) ≡ at + 32 * i + 32 = omega arith in
    let n : length clear ≡ 32 = length-replicate 32 no_peer in
    let h : i < length clear = omega arith in
    let put = subst (λ (y : Peer). Stored out m (at + 32 * i) (peer_bytes y) 32) (e ∙ sym (get_d_same no_peer 32 i)) k in
    put_step peer_bytes 32 clear no_peer out m i (at + 32 * i) (at + 32 * (i + 1)) h q put

module _ (s : List ℕ) (at : ℕ) (l : List Peer) where
  -- all are there
  pub done_end : (o out : List ℕ) (k i : ℕ) → i ≡ 32 → k ≤ i → length l ≡ 32 → Done s at l o k → drop k l ≡ drop k clear
      → sets out (at + 32 * i) (concat_map peer_bytes (drop i clear)) ≡ sets o (at + 32 * k) (concat_map peer_bytes (drop k clear))
      → Stored s out at (peers_bytes l) 1024
  unfolding peers_bytes peer_bytes
  done_end o out k i z le long d tail e =
      let n : i ≡ length l = omega arith in
      let q : k + (i - k) ≡ i = omega arith in
      let r : drop i l ≡ drop i clear = rw q at (sym (drop-drop (i - k) k l) ∙ ap (drop (i - k)) tail ∙ drop-drop (i - k) k clear) in
      stored-all (encode peer_f) peer_value 32 32 l (λ x. refl) long
      (put-end peer_bytes l s out (at + 32 * i) i at n
      (ap (λ (x : List Peer). sets out (at + 32 * i) (concat_map peer_bytes x)) r ∙ e
      ∙ ap (λ (x : List Peer). sets o (at + 32 * k) (concat_map peer_bytes x)) (sym tail) ∙ d.1))

-- ---- the rows in use, changed

module _ (s : List ℕ) (at count : ℕ) (few : count ≤ 32) where
  abbrev rows : List Peer
  rows = take count (peers_at s at)

  rows_long : length rows ≡ count
  rows_long = let n = peers_long s at in length-take-le count (peers_at s at) (omega arith)

  module _ (f : Peer → Peer) where
    changed_long : length (map f rows) ≡ count
    changed_long = length-map rows f ∙ rows_long

    pub waited_long : length (padded 32 no_peer (map f rows)) ≡ 32
    waited_long = let n = changed_long in length-padded 32 no_peer (map f rows) (omega arith)

    pub waited-row : (i : ℕ) → i < count → f (peer_at s (at + 32 * i)) ≡ get_or (padded 32 no_peer (map f rows)) i no_peer
    waited-row i h =
        let n = rows_long in
        let m = changed_long in
        sym (padded-first no_peer 32 (map f rows) i (omega arith) ∙ get_d_map f rows i no_peer no_peer (omega arith)
        ∙ ap f (get_or-take count (peers_at s at) i no_peer h ∙ peer-row s at i no_peer (omega arith)))

    pub waited_tail : drop count (padded 32 no_peer (map f rows)) ≡ drop count clear
    waited_tail = clear_tail (map f rows) count changed_long

and_none : (a b : Bool) → b ≡ false → a and b ≡ false
unfolding ◌and◌
and_none true b e = e
and_none false b e = refl

-- a wait for offset 0 leaves every row as it is
wait_none : (clock timeout : ℕ) (p : Peer) → wait_row 0 clock timeout p ≡ p
unfolding wait_row
wait_none clock timeout p = rw (and_none p.member (ltb p.acked.0 0) (le-ltb p.acked.0 0 (omega arith)))

pub waits-none : (clock timeout : ℕ) (l : List Peer) → map (wait_row 0 clock timeout) l ≡ l
waits-none clock timeout [] = refl
waits-none clock timeout (p ∷ l) = ap (λ (x : Peer). x ∷ map (wait_row 0 clock timeout) l) (wait_none clock timeout p) ∙ ap (λ (r : List Peer). p ∷ r) (waits-none clock timeout l)
