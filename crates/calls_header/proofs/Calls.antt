-- What a call on the header that was read is of the image. Assumes nothing.
use Prim.Native.Nat.{ℕ, ◌≤◌}
use mathlib.Core.Bool.{Bool, true, false}
use mathlib.Core.Path.{◌≡◌, refl, sym, ap, ◌∙◌, subst}
use mathlib.Core.List.{List}
use lib.Dec.{eqb, leb}
use lib.ListN.{length}
use borrow.Author.Tests.{leb-true}
use Rattle.spec.specs.Lists.{◌and◌, every}
use Rattle.spec.specs.Node.Held as held
use Rattle.spec.specs.Node.WellFormed.{well_formed_header}
use Rattle.spec.specs.Keys.{Key}
use mathlib.Core.Option.{Option, none, some}
use Rattle.spec.specs.Layout.Message as message
use Rattle.spec.specs.Node.Ack.{bad_reply}
use Rattle.node_shard.specs.declared.AckAnswer.{AckAnswer}
use Rattle.node_shard.specs.declared.OutcomeAnswer.{OutcomeAnswer}
use Rattle.node_shard.specs.declared.Reply.{Reply}
use Rattle.node_shard.specs.declared.Sent.{Sent}
use Rattle.node_shard.specs.Acks.{reply_of}
use Rattle.node_header.specs.declared.Node.{Node}
use Rattle.node_header.specs.declared.GrantAnswer.{GrantAnswer}
use Rattle.node_header.specs.declared.NodeGranted.{NodeGranted}
use Rattle.node_header.specs.declared.Proposal.{Proposal}
use Rattle.node_header.specs.declared.NodeSettled.{NodeSettled}
use Rattle.node_header.specs.declared.NodeWaited.{NodeWaited}
use Rattle.node_header.specs.declared.NodeAcked.{NodeAcked}
use Rattle.node_header.specs.Answers.{Answered, GrantsNode, OutcomesNode, WaitAnswered, WaitsNode}
use Rattle.node_header.specs.Formed.{formed_node}
use Rattle.node_header.specs.Slots.{Keeps}
use Rattle.node_header.proofs.Lists.{by_case}
use Rattle.std.specs.declared.option.Option as option
use Rattle.std.specs.Prelude.{None, Some}
use Rattle.node_hear.specs.Hears.{heard_of, HearsMap, HearsReply}
use Rattle.spec_laws.proofs.Lists.{and_left}
use Rattle.node_show.specs.declared.NodeShown.{NodeShown}
use Rattle.node_show.specs.Shows.{ShownAnswered}
use Rattle.map_tables.specs.declared.ShardMap.{ShardMap}
use Rattle.image_map.specs.declared.Lent as map
use Rattle.image_map.specs.Image.{map_lent, map_at, lent_map}
use Rattle.image_header.specs.declared.Lent.{Lent}
use Rattle.image_header.specs.Image.{header_lent, node_at, lent_header}
use Rattle.image_header.specs.Becomes.{table_fits}
use Rattle.image_header.proofs.Counts.{formed-written}
use Rattle.wire_write.specs.Written.{key_given}
use Rattle.image_header.proofs.Image.{lent_long}
use Rattle.calls_header.specs.Asked.{image_after, Becomes}
use Rattle.calls_header.specs.Grants.{grant_number, is_granted, granted, GrantsImage}
use Rattle.calls_header.specs.Acks.{sent_at, no_reply, ack_number, is_acked, acked, AcksImage}
use Rattle.calls_header.specs.Outcomes.{proposal_at, outcome_number, is_settled, settled, OutcomesImage}
use Rattle.calls_header.specs.Waits.{Left, is_waited, wait_writes, WaitPut, waited, WaitsImage}
use Rattle.calls_header.specs.Shows.{is_shown, show_writes, ShowPut, shown_after, ShowsImage}
use Rattle.calls_header.proofs.Leaves.{leaves-slots, leaves-shown, shown-formed}
use Rattle.calls_header.proofs.Kept.{formed-put, formed-left, wait_left_lem, show_left_lem}
use Rattle.calls_header.proofs.Stays.{stays_of, unwritten, grant_stays, wait_stays, ack_stays, outcome_stays, shown_stays, wait_unwritten, show_unwritten}

module _ (s : List ℕ) (l : Lent) (read : l ≡ lent_header s) where
  pub as_lent : (b : Bool) → l.found ≡ b → header_lent s ≡ b
  as_lent b e = ap (λ (x : Lent). x.found) (sym read) ∙ e

  lent-node : header_lent s ≡ true → (lent_header s).node ≡ node_at s
  lent-node e = rw e

  module _ (found : l.found ≡ true) where
    -- what holds of the header that was read holds of what the bytes are read as
    on-lent : (P : Node → Type 0) → P l.node → P (node_at s)
    on-lent P = subst P (ap (λ (x : Lent). x.node) read ∙ lent-node (as_lent true found))

    pub grants_image : (t : List ℕ) (i sent lease r : ℕ) (after : NodeGranted)
        → GrantsNode l.node i sent lease after → Keeps l.node after.node
        → (x : GrantAnswer) → after.answer ≡ x → r ≡ grant_number x → t ≡ image_after (is_granted x) s after.node
        → (is_granted x ≡ true → Becomes s t after.node) → GrantsImage s t i sent lease r
    grants_image t i sent lease r after call keeps x e a b g =
        let on = on-lent (λ n. GrantsNode n i sent lease after) call in
        let stay = on-lent (λ n. Keeps n after.node) keeps in
        let put = b ∙ ap (λ (y : GrantAnswer). image_after (is_granted y) s after.node) (sym e) in
        record {
          after = after;
          call = on;
          keeps = stay;
          answer = a ∙ ap grant_number (sym e);
          image = put;
          leaves = λ d.
              leaves-slots s t (as_lent true found) after.node (g (ap is_granted (sym e) ∙ d)) (λ st. (granted s i sent lease st).after)
              (λ st. ap (λ (w : Answered GrantAnswer). w.node) (on st)) stay;
          stays = λ d.
              stays_of s t (unwritten s t after.node (is_granted after.answer) put d) (λ st. (granted s i sent lease st).after)
              (λ st. grant_stays s st i sent lease (ap (λ (w : Answered GrantAnswer). is_granted w.answer) (sym (on st)) ∙ d));
          formed = by_case (is_granted after.answer)
              (λ d. formed-put s t _ after.node (g (ap is_granted (sym e) ∙ d) (lent_long s (as_lent true found))) stay (λ st. ap (λ (w : Answered GrantAnswer). w.node) (on st)))
              (λ d. formed-left s t _ (unwritten s t after.node (is_granted after.answer) put d));
        }

    module _ (name : List ℕ) (shard : ℕ) (k : Key) (key : k ≡ key_given name shard) where
      pub settles_image : (t : List ℕ) (epoch peer command applied r : ℕ) (w : Proposal) → w ≡ proposal_at command → (after : NodeSettled)
          → OutcomesNode l.node k epoch peer w (eqb applied 1) after → Keeps l.node after.node
          → (x : OutcomeAnswer) → after.answer ≡ x → r ≡ outcome_number x → t ≡ image_after (is_settled x) s after.node
          → (is_settled x ≡ true → Becomes s t after.node) → OutcomesImage s t name shard epoch peer command applied r
      settles_image t epoch peer command applied r w what after call keeps x e a b g =
          let on = subst (λ v. OutcomesNode (node_at s) v epoch peer (proposal_at command) (eqb applied 1) after) key
          (subst (λ v. OutcomesNode (node_at s) k epoch peer v (eqb applied 1) after) what
          (on-lent (λ n. OutcomesNode n k epoch peer w (eqb applied 1) after) call)) in
          let stay = on-lent (λ n. Keeps n after.node) keeps in
          let put = b ∙ ap (λ (y : OutcomeAnswer). image_after (is_settled y) s after.node) (sym e) in
          record {
            after = after;
            call = on;
            keeps = stay;
            answer = a ∙ ap outcome_number (sym e);
            image = put;
            leaves = λ d.
                leaves-slots s t (as_lent true found) after.node (g (ap is_settled (sym e) ∙ d))
                (λ st. (settled s name shard epoch peer command applied st).after) (λ st. ap (λ (w : Answered OutcomeAnswer). w.node) (on st)) stay;
            stays = λ d.
                stays_of s t (unwritten s t after.node (is_settled after.answer) put d) (λ st. (settled s name shard epoch peer command applied st).after)
                (λ st. outcome_stays s st name shard epoch peer command applied (ap (λ (w : Answered OutcomeAnswer). is_settled w.answer) (sym (on st)) ∙ d));
            formed = by_case (is_settled after.answer)
                (λ d. formed-put s t _ after.node (g (ap is_settled (sym e) ∙ d) (lent_long s (as_lent true found))) stay (λ st. ap (λ (w : Answered OutcomeAnswer). w.node) (on st)))
                (λ d. formed-left s t _ (unwritten s t after.node (is_settled after.answer) put d));
          }

      pub acks_image : (t reply : List ℕ) (epoch peer step r : ℕ) (w : Sent) → w ≡ sent_at step → (after : NodeAcked)
          → HearsReply l.node k epoch peer w reply after → Keeps l.node after.node
          → (x : AckAnswer) → after.answer ≡ x → r ≡ ack_number x → t ≡ image_after (is_acked x) s after.node
          → (is_acked x ≡ true → Becomes s t after.node) → AcksImage s t name reply shard epoch peer step r
      acks_image t reply epoch peer step r w sent after call keeps x e a b g =
          let on = subst (λ v. HearsReply (node_at s) v epoch peer (sent_at step) reply after) key
          (subst (λ v. HearsReply (node_at s) k epoch peer v reply after) sent
          (on-lent (λ n. HearsReply n k epoch peer w reply after) call)) in
          let stay = on-lent (λ n. Keeps n after.node) keeps in
          let put = b ∙ ap (λ (y : AckAnswer). image_after (is_acked y) s after.node) (sym e) in
          record {
            after = after;
            call = on;
            keeps = stay;
            answer = a ∙ ap ack_number (sym e);
            image = put;
            leaves = λ d.
                leaves-slots s t (as_lent true found) after.node (g (ap is_acked (sym e) ∙ d))
                (λ st. (acked s name reply shard epoch peer step st).after) (λ st. ap (λ (w : Answered AckAnswer). w.node) (on st)) stay;
            stays = λ d.
                stays_of s t (unwritten s t after.node (is_acked after.answer) put d) (λ st. (acked s name reply shard epoch peer step st).after)
                (λ st. ack_stays s st name shard epoch reply peer step (ap (λ (w : Answered AckAnswer). is_acked w.answer) (sym (on st)) ∙ d));
            formed = by_case (is_acked after.answer)
                (λ d. formed-put s t _ after.node (g (ap is_acked (sym e) ∙ d) (lent_long s (as_lent true found))) stay (λ st. ap (λ (w : Answered AckAnswer). w.node) (on st)))
                (λ d. formed-left s t _ (unwritten s t after.node (is_acked after.answer) put d));
          }

      pub waits_image : (t p q a b : List ℕ) (epoch offset now timeout r : ℕ) (after : NodeWaited)
          → WaitsNode l.node k epoch offset now timeout after → Keeps l.node after.node
          → WaitPut s t p q a b after r → WaitsImage s t p q a b name shard epoch offset now timeout r
      waits_image t p q a b epoch offset now timeout r after call keeps e =
          let on = subst (λ v. WaitsNode (node_at s) v epoch offset now timeout after) key
          (on-lent (λ n. WaitsNode n k epoch offset now timeout after) call) in
          let stay = on-lent (λ n. Keeps n after.node) keeps in
          record {
            after = after;
            call = on;
            keeps = stay;
            buffers = e.buffers;
            leaves = λ d.
                leaves-slots s t (as_lent true found) after.node (e.becomes d)
                (λ st. (waited s name shard epoch offset now timeout st).after) (λ st. ap (λ (w : WaitAnswered). w.node) (on st)) stay;
            stays = λ d.
                stays_of s t (ap (λ (x : Left). x.header) e.buffers ∙ wait_unwritten after.answer s p a _ after.node d)
                (λ st. (waited s name shard epoch offset now timeout st).after)
                (λ st. wait_stays s st name shard epoch offset now timeout (ap (λ (w : WaitAnswered). is_waited w.answer) (sym (on st)) ∙ d));
            formed = by_case (wait_writes p a after)
                (λ d. formed-put s t _ after.node (e.becomes d (lent_long s (as_lent true found))) stay (λ st. ap (λ (w : WaitAnswered). w.node) (on st)))
                (λ d. formed-left s t _ (ap (λ (x : Left). x.header) e.buffers ∙ wait_left_lem after.answer s p a _ after.node d));
          }

-- ---- the map that was read

module _ (m : List ℕ) (l : map.Lent) (read : l ≡ lent_map m) where
  pub as_map : (b : Bool) → l.found ≡ b → map_lent m ≡ b
  as_map b e = ap (λ (x : map.Lent). x.found) (sym read) ∙ e

  lent_map_lem : map_lent m ≡ true → (lent_map m).map ≡ map_at m
  lent_map_lem e = rw e

  on-map : (P : ShardMap → Type 0) → l.found ≡ true → P l.map → P (map_at m)
  on-map P e = subst P (ap (λ (x : map.Lent). x.map) read ∙ lent_map_lem (as_map true e))

  pub shows_image : (s : List ℕ) (h : Lent) → h ≡ lent_header s → h.found ≡ true → l.found ≡ true
      → (t p q a b : List ℕ) (fresh r : ℕ) (after : NodeShown)
      → HearsMap h.node l.map fresh after → ShowPut s t p q a b after r → ShowsImage s t m p q a b fresh r
  shows_image s h is-lent found known t p q a b fresh r after call e =
      let on = on-map (λ k. HearsMap (node_at s) k fresh after) known (on-lent s h is-lent found (λ n. HearsMap n l.map fresh after) call) in
      record {
        after = after;
        call = on;
        buffers = e.buffers;
        leaves = λ d.
            let formed = shown-formed (node_at s) (map_at m) fresh after on (and_left (is_shown after.answer) _ d) in
            leaves-shown s t (as_lent s h is-lent true found) after.node (e.becomes d) (shown_after s m fresh)
            (λ st. ap (λ (w : ShownAnswered). w.node) (on.same st)) (on.slots_are formed);
        stays = λ d.
            stays_of s t (ap (λ (x : Left). x.header) e.buffers ∙ show_unwritten after.answer s p a _ after.node d)
            (shown_after s m fresh)
            (λ st. shown_stays s st m fresh (ap (λ (w : ShownAnswered). is_shown w.answer) (sym (on.same st)) ∙ d));
        formed = by_case (show_writes p a after)
            (λ d f st c w v.
            let is = ap (λ (x : ShownAnswered). x.node) (on.same st) in
            formed-written st c s t after.node (e.becomes d (lent_long s (as_lent s h is-lent true found))) (on.slots f)
            (ap well_formed_header is ∙ w) (ap (λ (x : held.Node). every table_fits x.held) is ∙ v))
            (λ d f st c w v.
            ap (λ (u : List ℕ). formed_node (node_at u))
            (ap (λ (x : Left). x.header) e.buffers ∙ show_left_lem after.answer s p a _ after.node d) ∙ f);
      }

-- the map that a lent image is read as
module _ (m : List ℕ) (lent : map_lent m ≡ true) where
  pub map_long : 26536 ≤ length m
  unfolding map_lent
  map_long = leb-true 26536 (length m) (and_left (leb 26536 (length m)) _ lent)

  pub map_read : record { found = true; map = map_at m } ≡ lent_map m
  map_read = rw lent

pub lent-first : (a b : Bool) → a ≡ false → (a and b) ≡ false
unfolding ◌and◌
lent-first a b e = rw e

pub lent_both : (a b : Bool) → a ≡ true → (a and b) ≡ b
unfolding ◌and◌
lent_both a b e = rw e

-- ---- a reply, as it was heard

abbrev heard_none : option.Option Reply → Bool
heard_none None = true
heard_none (Some a) = bad_reply (reply_of a)

none-heard : (o : Option message.Reply) → no_reply o ≡ heard_none (heard_of o)
none-heard none = refl
none-heard (some (message.reply_stored n)) = refl
none-heard (some (message.reply_gap n)) = refl
none-heard (some (message.reply_stale n)) = refl
none-heard (some (message.reply_adopted n)) = refl

module _ (o : Option message.Reply) where
  pub reply-none : heard_of o ≡ None → true ≡ no_reply o
  reply-none e = sym (none-heard o ∙ ap heard_none e)

  pub reply_some : (a : Reply) → heard_of o ≡ Some a → bad_reply (reply_of a) ≡ no_reply o
  reply_some a e = sym (none-heard o ∙ ap heard_none e)
