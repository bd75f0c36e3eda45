-- Laws of a map shown, one for each way out. Assumes nothing.
use Prim.Native.Nat.{ℕ, ◌≤◌, ◌<◌}
use mathlib.Core.Path.{◌≡◌, refl, sym, ap, ◌∙◌}
use mathlib.Core.Bool.{Bool, true, false}
use mathlib.Core.List.{List, []}
use lib.ListN.{length, take}
use native.Mathlib.Omega.{arith}
use Rattle.spec.specs.Lists.{any}
use Rattle.spec.specs.Layout.Format.{number_at}
use Rattle.spec_laws.proofs.Lists.{not_both}
use Rattle.map_check.specs.Lent.{well_formed_lent}
use Rattle.node_header.specs.declared.Node.{Node}
use Rattle.node_header.specs.View.{Stores}
use Rattle.node_header.specs.Formed.{formed_node, lent_node}
use Rattle.node_header.proofs.Formed.{formed-lent}
use Rattle.node_show.specs.declared.NodeShown.{NodeShown}
use Rattle.node_show.specs.declared.ShownAnswer.TheVariants as S
use Rattle.node_show.specs.Shows.{view_starts, ShowsMap}
use Rattle.node_show.proofs.Shown.{shown_malformed, shown_older, shown-dead, shown-taken}
use Rattle.image_show.proofs.MapRows.{version_is, dead-is}
use Rattle.node_show_row.specs.Rows.{dead_at}
use Rattle.node_hear.specs.Hears.{HearsMap}
use Rattle.node_hear.proofs.Hears.{map-formed, map_malformed}
use Rattle.calls_parts.specs.Answer.{answer_lent, number_put}
use Rattle.image_header.specs.declared.Lent.{Lent}
use Rattle.image_header.specs.Image.{header_lent, node_at, lent_header}
use Rattle.image_header.specs.Becomes.{HeaderWrites}
use Rattle.image_map.specs.Image.{map_lent, nodes_at, map_at}
use Rattle.calls_header.specs.Fresh.{fresh_node}
use Rattle.calls_header.specs.Waits.{RowsPut}
use Rattle.calls_header.specs.Shows.{worker_bytes, ShowPut, Shows}
use Rattle.calls_header.proofs.Asked.{asked-called}
use Rattle.calls_header.proofs.Waits.{no_answer, all-put, shown_as_lem}
use Rattle.calls_header.proofs.Calls.{lent_both, map_read, shows_image}
use Rattle.calls_show.specs.Shown.{no_starts, Quietly, ShowsAt, TakesAt}
use Rattle.calls_show.proofs.FreshLaws.{over}

-- ---- what is put

-- a refusal leaves every buffer as it was
abbrev pub refused : ℕ → Node → NodeShown
refused k n = record { answer = S.Refused k; starts = []; count = 0; node = n }

pub refused-put : (s p a : List ℕ) (n : Node) (k : ℕ) → ShowPut s s p p a a (refused k n) k
refused-put s p a n k = shown_as_lem s p a (refused k n) (S.Refused k) refl refl (λ d. not_both false d refl)

-- no worker starts
module _ (s p a : List ℕ) (n : Node) where
  shown-none : {t q b : List ℕ} {r : ℕ} → RowsPut worker_bytes 54 0 s t p q a b [] n r → ShowPut s t p q a b (no_starts n) r
  unfolding view_starts
  shown-none w = shown_as_lem s p a (no_starts n) S.Shown refl w.buffers (λ d. w.becomes)

module _ (s a b : List ℕ) (n : Node) (put : b ≡ number_put a 0) where
  pub none-short : answer_lent a ≡ false → Quietly s s a b n 23
  none-short e p = shown-none s p a n (no_answer worker_bytes 54 0 s p a [] n (omega arith) b 0 put e)

  pub none-put : answer_lent a ≡ true → (t : List ℕ) → HeaderWrites s t n → Quietly s t a b n 0
  none-put e t w p = shown-none s p a n (all-put worker_bytes 54 0 s p a [] n (omega arith) b 0 put e w.image w.becomes refl refl)

-- ---- the call

module _ (s m : List ℕ) (lent : header_lent s ≡ true) (known : map_lent m ≡ true) where
  heard : (t p q a b : List ℕ) (fresh r : ℕ) (after : NodeShown) → HearsMap (node_at s) (map_at m) fresh after → ShowPut s t p q a b after r
      → Shows s t m p q a b fresh r
  heard t p q a b fresh r after call put =
      asked-called refl (lent_both _ _ lent ∙ known)
      (shows_image m (record { found = true; map = map_at m }) (map_read m known) s (record { found = true; node = node_at s }) (rw lent) refl refl
      t p q a b fresh r after call put)

  pub map_bad : well_formed_lent (map_at m) ≡ false → (p a : List ℕ) (fresh : ℕ) → Shows s s m p p a a fresh 24
  map_bad w p a fresh =
      heard s p p a a fresh 24 (refused 24 (node_at s)) (map_malformed (node_at s) (map_at m) fresh w []) (refused-put s p a (node_at s) 24)

  module _ (well : well_formed_lent (map_at m) ≡ true) where
    pub header_bad : formed_node (node_at s) ≡ false → (p a : List ℕ) (fresh : ℕ) → Shows s s m p p a a fresh 24
    header_bad f p a fresh =
        heard s p p a a fresh 24 (refused 24 (node_at s))
        (map-formed (node_at s) (map_at m) fresh well _ (shown_malformed (node_at s) (map_at m) fresh [] (λ st. sym f ∙ formed-lent (node_at s) st) f))
        (refused-put s p a (node_at s) 24)

    pub both_good : (t p q a b : List ℕ) (fresh r : ℕ) → ShowsAt s t m p q a b fresh r → Shows s t m p q a b fresh r
    both_good t p q a b fresh r w =
        heard t p q a b fresh r w.after (map-formed (node_at s) (map_at m) fresh well w.after w.call) w.put

-- ---- past the tests

pub read-node : (s : List ℕ) (l : Lent) → l ≡ lent_header s → header_lent s ≡ true → l.node ≡ node_at s
read-node s l e lent = ap (λ (x : Lent). x.node) e ∙ (rw lent)

module _ (s m : List ℕ) (fresh : ℕ) (formed : formed_node (node_at s) ≡ true) where
  well : (st : Stores) → true ≡ lent_node st (node_at s)
  well st = sym formed ∙ formed-lent (node_at s) st

  known_is : (node_at s).version ≡ number_at 8 s 16
  unfolding node_at
  known_is = refl

  id-is : (node_at s).id.0 ≡ number_at 8 s 0
  unfolding node_at
  id-is = refl

  own_is : (node_at s).incarnation ≡ number_at 8 s 8
  unfolding node_at
  own_is = refl

  pub hear_older : number_at 8 m 0 < number_at 8 s 16 → (t p a b : List ℕ) (r : ℕ) → Quietly s t a b (node_at s) r → ShowsAt s t m p p a b fresh r
  hear_older h t p a b r q = record {
    after = no_starts (node_at s);
    call = shown_older (node_at s) (map_at m) fresh [] well (let v = version_is m in let k = known_is in omega arith);
    put = q p;
  }

  module _ (h : number_at 8 s 16 ≤ number_at 8 m 0) (id own : ℕ) (i : id ≡ number_at 8 s 0) (o : own ≡ number_at 8 s 8) (d : Bool)
      (is : d ≡ any (dead_at id own) (take (nodes_at m).count (nodes_at m).items)) where
    newer : (node_at s).version ≤ (map_at m).version
    newer = let v = version_is m in let k = known_is in omega arith

    dead : d ≡ any (dead_at (node_at s).id.0 (node_at s).incarnation) (take (map_at m).nodes.count (map_at m).nodes.items)
    dead =
        dead-is m (node_at s).id.0 (node_at s).incarnation d
        (is
        ∙ ap (λ (x : ℕ). any (dead_at x own) (take (nodes_at m).count (nodes_at m).items)) (i ∙ sym id-is)
        ∙ ap (λ (x : ℕ). any (dead_at (node_at s).id.0 x) (take (nodes_at m).count (nodes_at m).items)) (o ∙ sym own_is))

    pub hear_dead : d ≡ true → (t p a b : List ℕ) (r : ℕ) → Quietly s t a b (fresh_node (number_at 8 s 0) fresh) r → ShowsAt s t m p p a b fresh r
    hear_dead e t p a b r q = record {
      after = no_starts (fresh_node (number_at 8 s 0) fresh);
      call = shown-dead (node_at s) (map_at m) fresh [] well formed newer d dead e (fresh_node (number_at 8 s 0) fresh) (over (node_at s) (number_at 8 s 0) fresh id-is);
      put = q p;
    }

    pub hear_taken : d ≡ false → (t p q a b : List ℕ) (r : ℕ) → TakesAt s t m p q a b r → ShowsAt s t m p q a b fresh r
    hear_taken e t p q a b r w = record {
      after = w.after;
      call = shown-taken (node_at s) (map_at m) fresh well formed newer d dead e w.after w.call;
      put = w.put;
    }
