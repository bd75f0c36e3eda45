-- What a wait in place is of the image, one law for each way out. Assumes nothing.
use Prim.Native.Nat.{ℕ, ◌+◌, ◌*◌, ◌≤◌, ◌<◌}
use mathlib.Core.Bool.{Bool, true, false, not}
use mathlib.Core.Path.{◌≡◌, refl, sym, ap, subst, ◌∙◌}
use mathlib.Core.List.{List, [], map}
use lib.Dec.{leb, ltb}
use lib.ListN.{length, take, get_or}
use borrow.Author.Tests.{leb-true}
use native.Mathlib.Omega.{arith}
use Rattle.spec.specs.Lists.{◌or◌, lead, every, collect}
use Rattle.spec.specs.Limits.{max_time, max_replicas, max_name}
use Rattle.spec.specs.Keys.{Key}
use Rattle.spec.specs.Layout.Format.{number_at}
use Rattle.spec.specs.Node.Shards.{leads_at}
use Rattle.spec.specs.Node.Client.{to_shrink, wait_row, node_of, has_acked}
use Rattle.spec.specs.declared.Role.{Role}
use Rattle.spec.specs.declared.Peer.{Peer}
use Rattle.spec_laws.proofs.Lists.{and_left, not_both}
use Rattle.spec_laws.proofs.Wire.Tests.{false_not_true}
use Rattle.node_shard.specs.declared.Held.{Held}
use Rattle.node_shard.specs.declared.Nodes.{Nodes}
use Rattle.node_shard.specs.declared.WaitAnswer.{WaitAnswer}
use Rattle.node_shard.specs.declared.WaitAnswer.TheVariants as W
use Rattle.node_shard.specs.Formed.{formed_held}
use Rattle.node_shard.specs.Answers.{WaitsHeld}
use Rattle.node_shard.proofs.Formed.{formed-few}
use Rattle.node_waits.proofs.Wait.{waits_not, waits-done, waits-on}
use Rattle.node_header.specs.declared.NodeWaited.{NodeWaited}
use Rattle.node_header.specs.View.{used, other_key, no_held_row, with_shard}
use Rattle.node_header.specs.Formed.{formed_node}
use Rattle.node_header.specs.Arrays.{Trims}
use Rattle.node_header.specs.Answers.{WaitsNode, WaitsIn}
use Rattle.node_header.proofs.Lists.{by_case}
use Rattle.node_header.proofs.Formed.{formed-lent, shard-formed}
use Rattle.node_header.proofs.Arrays.{keeps-all, keeps-put}
use Rattle.node_header.proofs.Calls.{wait_malformed, wait_formed, wait_absent, wait_done}
use Rattle.image_header_row.specs.Rows.{peers_at, role_at, held_row_at}
use Rattle.image_header.specs.declared.Lent.{Lent}
use Rattle.image_header.specs.Image.{header_lent, node_at, lent_header}
use Rattle.calls_header.proofs.Asked.{first_fails, second_fails}
use Rattle.calls_header.specs.Waits.{left, id_bytes, RowsPut, WaitPut, WaitsImage, unread_wait}
use Rattle.calls_header.proofs.Waits.{waited_as}
use Rattle.calls_header.proofs.Calls.{waits_image}
use Rattle.calls_parts.specs.Answer.{number_put}
use Rattle.wire_write.specs.Written.{key_given, text_fits}
use Rattle.image_header_check.specs.Rows.{Counts}
use Rattle.image_header_check.proofs.Rows.{counted, held_long, row_at, count-is, last-is, peers-is, peers_long}
use Rattle.image_header_form.proofs.FrontLaws.{role_is, epoch-is}
use Rattle.spec.specs.Node.Calls.{late_time}
use Rattle.calls_wait.specs.Waited.{waited_held, waited_node, WaitsAt}
use Rattle.calls_wait.proofs.BackLaws.{changed-taken}

holders-few : (h : Held) → formed_held h ≡ true → h.holders ≤ 8
unfolding formed_held
holders-few h e = leb-true h.holders max_replicas (and_left (leb h.holders max_replicas) _ e)

trimmed : (h : Held) → formed_held h ≡ true → Trims h h
trimmed h e = record { count = formed-few h e; holders = holders-few h e; seen = λ k l v. refl }

trimmed_waited : (h : Held) (now timeout : ℕ) → formed_held h ≡ true → Trims (waited_held h now timeout) (waited_held h now timeout)
trimmed_waited h now timeout e = record { count = formed-few h e; holders = holders-few h e; seen = λ k l v. refl }

unfoldable none : Nodes
none = record { items = []; count = 0 }

module _ (s : List ℕ) (lent : header_lent s ≡ true) (name : List ℕ) (shard : ℕ) (k : Key) (key : k ≡ key_given name shard) (p a : List ℕ)
    (epoch offset now timeout : ℕ) (early : ltb max_time now ≡ false) (short : ltb max_time timeout ≡ false) where
  abbrev read : Lent
  read = record { found = true; node = node_at s }

  is_read_lem : read ≡ lent_header s
  is_read_lem = rw lent

  abbrev Image : (t q b : List ℕ) → ℕ → Type 0
  Image t q b r = WaitsImage s t p q a b name shard epoch offset now timeout r

  same_image : {t u q r b d : List ℕ} {x y : ℕ} → x ≡ y → t ≡ u → q ≡ r → b ≡ d → Image t q b x → Image u r d y
  same_image {t} {u} {q} {r} {b} {d} {x} {y} e f g h i =
      subst (λ (j : ℕ). Image u r d j) e (subst (λ (l : List ℕ). Image u r l x) h (subst (λ (l : List ℕ). Image u l b x) g (subst (λ (l : List ℕ). Image l q b x) f i)))

  -- a refusal: no byte changes
  refused : (r : ℕ) → WaitsNode (node_at s) k epoch offset now timeout (record { answer = W.Refused r; shrink = none; node = node_at s }) → Image s p a r
  unfolding none
  refused r call =
      waits_image s read is_read_lem refl name shard k key s p p a a epoch offset now timeout r (record { answer = W.Refused r; shrink = none; node = node_at s })
      call (keeps-all (node_at s))
      (waited_as s p a (record { answer = W.Refused r; shrink = none; node = node_at s }) (W.Refused r) refl refl (λ d. not_both false d refl))

  pub wait_bad : formed_node (node_at s) ≡ false → Image s p a 24
  unfolding none
  wait_bad bad = refused 24 (wait_malformed (node_at s) k epoch offset now timeout none refl early short (λ st. sym bad ∙ formed-lent (node_at s) st))

  module _ (formed : formed_node (node_at s) ≡ true) (count : ℕ) (counts : Counts s count) (at : ℕ)
      (is : at ≡ lead (other_key k) (take count (node_at s).held)) where
    same_count : count ≡ (node_at s).count
    same_count = sym (counted s ∙ counts.2)

    le : (node_at s).count ≤ length (node_at s).held
    le = let l = held_long s in let c = same_count in let f = counts.1 in omega arith

    is_here : at ≡ lead (other_key k) (used (node_at s))
    is_here = is ∙ ap (λ (j : ℕ). lead (other_key k) (take j (node_at s).held)) same_count

    well : (r : NodeWaited) → WaitsIn (node_at s) k epoch offset now timeout r → WaitsNode (node_at s) k epoch offset now timeout r
    well r e = wait_formed (node_at s) k epoch offset now timeout early short (λ st. sym formed ∙ formed-lent (node_at s) st) r e

    pub wait_none : count ≤ at → Image s p a 17
    unfolding none
    wait_none h =
        let c = same_count in
        refused 17 (well (record { answer = W.Refused 17; shrink = none; node = node_at s }) (wait_absent (node_at s) k epoch offset now timeout le at is_here (omega arith) none refl))

    module _ (lt : at < count) where
      abbrev place : ℕ
      place = 48 + 1280 * at

      abbrev held : Held
      held = (get_or (node_at s).held at no_held_row).held

      in_use_lem : at < (node_at s).count
      in_use_lem = let c = same_count in omega arith

      held-is : held ≡ (held_row_at s place).held
      held-is = ap (λ x. x.held) (row_at s count counts at no_held_row lt)

      held-formed : formed_held held ≡ true
      held-formed = shard-formed (node_at s) formed le at in_use_lem no_held_row

      pub few : number_at 8 s (place + 88) ≤ 32
      few =
          let f = formed-few held held-formed in
          let c : held.count ≡ number_at 8 s (place + 88) = ap (λ (x : Held). x.count) held-is ∙ count-is s place in
          omega arith

      -- 18: the own epoch beside it
      pub wait_other : (role : Role) → role ≡ role_at s (place + 108) → leads_at role epoch ≡ false → (own : ℕ) → own ≡ number_at 8 s (place + 64)
          → (b : List ℕ) → b ≡ number_put a own → Image s p b 18
      wait_other role r nay own o b put =
          let e : held.role ≡ role = ap (λ (x : Held). x.role) held-is ∙ role_is s place ∙ sym r in
          let x : NodeWaited = record { answer = W.NotPrimary held.epoch.0; shrink = none; node = with_shard (node_at s) at held } in
          let w : held.epoch.0 ≡ own = ap (λ (x : Held). x.epoch.0) held-is ∙ epoch-is s place ∙ sym o in
          let waits = waits_not held epoch offset now timeout (ap (λ (y : Role). leads_at y epoch) e ∙ nay) none (unfold none in refl) in
          waits_image s read is_read_lem refl name shard k key s p p a b epoch offset now timeout 18 x
          (well x (wait_done (node_at s) k epoch offset now timeout le at is_here in_use_lem (record { answer = W.NotPrimary held.epoch.0; shrink = none; held = held }) waits held (trimmed held held-formed) (with_shard (node_at s) at held) refl))
          (keeps-put (node_at s) le at in_use_lem held held (trimmed held held-formed) (with_shard (node_at s) at held) refl)
          (waited_as s p a x (W.NotPrimary own) (ap W.NotPrimary w) (ap (λ (y : List ℕ). left 18 s p y) put) (λ d. not_both false d refl))

      module _ (role : Role) (r : role ≡ role_at s (place + 108)) (leads : leads_at role epoch ≡ true) (n last : ℕ) (n-is : n ≡ number_at 8 s (place + 88))
          (l-is : last ≡ number_at 8 s (place + 72)) (late : Nodes)
          (late_is : take late.count late.items ≡ collect (to_shrink last now timeout) node_of (take n (peers_at s (place + 256)))) where
        role_here : leads_at held.role epoch ≡ true
        role_here = ap (λ (y : Role). leads_at y epoch) (ap (λ (x : Held). x.role) held-is ∙ role_is s place ∙ sym r) ∙ leads

        n_here : n ≡ held.count
        n_here = n-is ∙ sym (ap (λ (x : Held). x.count) held-is ∙ count-is s place)

        l_here : last ≡ held.last
        l_here = l-is ∙ sym (ap (λ (x : Held). x.last) held-is ∙ last-is s place)

        rows_here : peers_at s (place + 256) ≡ held.peers
        rows_here = sym (ap (λ (x : Held). x.peers) held-is ∙ peers-is s place)

        used_here : take n (peers_at s (place + 256)) ≡ take held.count held.peers
        used_here = ap (λ (j : ℕ). take j (peers_at s (place + 256))) n_here ∙ ap (λ (l : List Peer). take held.count l) rows_here

        late_here : take late.count late.items ≡ collect (to_shrink held.last now timeout) node_of (take held.count held.peers)
        late_here = late_is ∙ ap (λ (l : List Peer). collect (to_shrink last now timeout) node_of l) used_here ∙ ap (λ (j : ℕ). collect (to_shrink j now timeout) node_of (take held.count held.peers)) l_here

        long_here : length held.peers ≡ 32
        long_here = ap (λ (l : List Peer). length l) (sym rows_here) ∙ peers_long s (place + 256)

        taken_here : take held.count (waited_held held now timeout).peers ≡ map (wait_row held.last now timeout) (take held.count held.peers)
        taken_here = changed-taken (get_or (node_at s).held at no_held_row) now timeout (formed-few held held-formed) long_here

        ended : (w : WaitAnswer) → WaitsHeld held epoch offset now timeout (record { answer = w; shrink = late; held = waited_held held now timeout }) → (t q b : List ℕ) (y : ℕ)
            → WaitPut s t p q a b (record { answer = w; shrink = late; node = waited_node (node_at s) at now timeout }) y → Image t q b y
        ended w h t q b y put =
            waits_image s read is_read_lem refl name shard k key t p q a b epoch offset now timeout y (record { answer = w; shrink = late; node = waited_node (node_at s) at now timeout })
            (well (record { answer = w; shrink = late; node = waited_node (node_at s) at now timeout })
            (wait_done (node_at s) k epoch offset now timeout le at is_here in_use_lem (record { answer = w; shrink = late; held = waited_held held now timeout }) h (waited_held held now timeout)
            (trimmed_waited held now timeout held-formed) (waited_node (node_at s) at now timeout) refl))
            (keeps-put (node_at s) le at in_use_lem (waited_held held now timeout) (waited_held held now timeout) (trimmed_waited held now timeout held-formed) (waited_node (node_at s) at now timeout) refl)
            put

        pub wait_over : every (has_acked offset) (take n (peers_at s (place + 256))) ≡ true → (t q b : List ℕ) (y : ℕ)
            → RowsPut id_bytes 8 0 s t p q a b (take late.count late.items) (waited_node (node_at s) at now timeout) y → Image t q b y
        wait_over all t q b y put =
            ended W.Done (waits-done held epoch offset now timeout role_here late late_here (waited_held held now timeout).peers taken_here (ap (λ (l : List Peer). every (has_acked offset) l) (sym used_here) ∙ all)) t q b y
            (waited_as s p a (record { answer = W.Done; shrink = late; node = waited_node (node_at s) at now timeout }) W.Done refl put.buffers (λ d. put.becomes))

        pub wait_still : every (has_acked offset) (take n (peers_at s (place + 256))) ≡ false → (t q b : List ℕ) (y : ℕ)
            → RowsPut id_bytes 8 1 s t p q a b (take late.count late.items) (waited_node (node_at s) at now timeout) y → Image t q b y
        wait_still some t q b y put =
            ended W.Waiting (waits-on held epoch offset now timeout role_here late late_here (waited_held held now timeout).peers taken_here (ap (λ (l : List Peer). every (has_acked offset) l) (sym used_here) ∙ some)) t q b y
            (waited_as s p a (record { answer = W.Waiting; shrink = late; node = waited_node (node_at s) at now timeout }) W.Waiting refl put.buffers (λ d. put.becomes))

      -- the wait at the shard is the wait
      pub wait_at : (t q b : List ℕ) (y : ℕ) → WaitsAt s t p q a b at epoch offset now timeout y → Image t q b y
      wait_at t q b y w =
          by_case (leads_at (role_at s (place + 108)) epoch)
          (λ e. by_case (every (has_acked offset) (take (number_at 8 s (place + 88)) (peers_at s (place + 256))))
          (λ f. wait_over (role_at s (place + 108)) refl e (number_at 8 s (place + 88)) (number_at 8 s (place + 72)) refl refl w.late (w.shrinks e) f t q b y (w.over e f))
          (λ f. wait_still (role_at s (place + 108)) refl e (number_at 8 s (place + 88)) (number_at 8 s (place + 72)) refl refl w.late (w.shrinks e) f t q b y (w.still e f)))
          (λ e.
          let o = w.other e in
          same_image (sym o.0) (sym o.1) (sym o.2) refl
          (wait_other (role_at s (place + 108)) refl e (number_at 8 s (place + 64)) refl b o.3))

-- ---- the times

module _ (name : List ℕ) (now timeout : ℕ) (u : unread_wait name now timeout ≡ false) where
  pub wait_early : ltb max_time now ≡ false
  wait_early = first_fails (late_time now) (late_time timeout) (second_fails (not (text_fits max_name name)) (late_time now or late_time timeout) u)

  pub wait_short : ltb max_time timeout ≡ false
  wait_short = second_fails (late_time now) (late_time timeout) (second_fails (not (text_fits max_name name)) (late_time now or late_time timeout) u)

-- ---- the wait at a shard, its ways out

module _ (s t p q a b : List ℕ) (at epoch offset clock timeout r : ℕ) where
  abbrev spot : ℕ
  spot = 48 + 1280 * at

  module _ (role : Role) (is : role ≡ role_at s (spot + 108)) (leads : leads_at role epoch ≡ true) (n last : ℕ) (n-is : n ≡ number_at 8 s (spot + 88))
      (l-is : last ≡ number_at 8 s (spot + 72)) (late : Nodes)
      (late_is : take late.count late.items ≡ collect (to_shrink last clock timeout) node_of (take n (peers_at s (spot + 256)))) where
    is-leader : leads_at (role_at s (spot + 108)) epoch ≡ true
    is-leader = ap (λ (y : Role). leads_at y epoch) (sym is) ∙ leads

    late_so : take late.count late.items ≡ collect (to_shrink (number_at 8 s (spot + 72)) clock timeout) node_of (take (number_at 8 s (spot + 88)) (peers_at s (spot + 256)))
    late_so = late_is ∙ ap (λ (j : ℕ). collect (to_shrink j clock timeout) node_of (take n (peers_at s (spot + 256)))) l-is ∙ ap (λ (j : ℕ). collect (to_shrink (number_at 8 s (spot + 72)) clock timeout) node_of (take j (peers_at s (spot + 256)))) n-is

    acked_so : (c : Bool) → every (has_acked offset) (take n (peers_at s (spot + 256))) ≡ c → every (has_acked offset) (take (number_at 8 s (spot + 88)) (peers_at s (spot + 256))) ≡ c
    acked_so c e = ap (λ (j : ℕ). every (has_acked offset) (take j (peers_at s (spot + 256)))) (sym n-is) ∙ e

    pub at_over : every (has_acked offset) (take n (peers_at s (spot + 256))) ≡ true
        → RowsPut id_bytes 8 0 s t p q a b (take late.count late.items) (waited_node (node_at s) at clock timeout) r → WaitsAt s t p q a b at epoch offset clock timeout r
    at_over f put = record {
      late = late;
      other = λ e. absurd (false_not_true (sym e ∙ is-leader));
      shrinks = λ e. late_so;
      over = λ e g. put;
      still = λ e g. absurd (false_not_true (sym g ∙ acked_so true f));
    }

    pub at-still : every (has_acked offset) (take n (peers_at s (spot + 256))) ≡ false
        → RowsPut id_bytes 8 1 s t p q a b (take late.count late.items) (waited_node (node_at s) at clock timeout) r → WaitsAt s t p q a b at epoch offset clock timeout r
    at-still f put = record {
      late = late;
      other = λ e. absurd (false_not_true (sym e ∙ is-leader));
      shrinks = λ e. late_so;
      over = λ e g. absurd (false_not_true (sym (acked_so false f) ∙ g));
      still = λ e g. put;
    }

pub at_other : (s p a : List ℕ) (at epoch offset clock timeout : ℕ) (role : Role) → role ≡ role_at s (48 + 1280 * at + 108) → leads_at role epoch ≡ false
    → (own : ℕ) → own ≡ number_at 8 s (48 + 1280 * at + 64) → (b : List ℕ) → b ≡ number_put a own → WaitsAt s s p p a b at epoch offset clock timeout 18
at_other s p a at epoch offset clock timeout role is nay own o b put =
    let e : leads_at (role_at s (48 + 1280 * at + 108)) epoch ≡ false = ap (λ (y : Role). leads_at y epoch) (sym is) ∙ nay in
    record {
      late = none;
      other = λ f. (refl, refl, refl, put ∙ ap (number_put a) o);
      shrinks = λ f. absurd (false_not_true (sym e ∙ f));
      over = λ f g. absurd (false_not_true (sym e ∙ f));
      still = λ f g. absurd (false_not_true (sym e ∙ f));
    }
