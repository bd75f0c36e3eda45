-- Laws of a primary's messages over the images, one for each way out. Assumes nothing.
use Prim.Native.Nat.{ℕ}
use mathlib.Core.Path.{◌≡◌, refl, sym, ap, subst, ◌∙◌}
use mathlib.Core.Bool.{Bool, true, false}
use mathlib.Core.List.{List}
use mathlib.Core.Option.{Option, none, some}
use Rattle.spec.specs.Keys.{Key}
use Rattle.spec.specs.Layout.Format.{Bytes}
use Rattle.spec.specs.Node.Backup.{BackupAnswer}
use Rattle.spec_laws.proofs.Lists.{not_both, none_some, some_same}
use Rattle.node_header.specs.declared.Node.{Node}
use Rattle.node_header.specs.Slots.{slots_of}
use Rattle.image_header.specs.Image.{node_at}
use Rattle.node_lent.specs.Lend.{LentStore, place_of}
use Rattle.image_node.specs.declared.Picked.{Picked}
use Rattle.image_node.specs.Lent.{lends_state, holds_key, lent_store_in, Picks, Puts}
use Rattle.image_node.specs.State.{StateAfter}
use Rattle.node_replicate.specs.declared.PeerAnswer.{PeerAnswer}
use Rattle.node_replicate.specs.Peers.{turned_down}
use Rattle.calls_peer_out.specs.Ends.{Buffers, buffers, ended_with, Finished}
use Rattle.calls_peer.specs.PeerCalls.{Deed, AtShard, Serves}

-- ---- at the shard of a key

module _ (Call : Node → (a b : LentStore) → List ℕ → PeerAnswer → Type 0) (does : Deed) (m h s t : List ℕ) (k : Key) (x : LentStore) (l : Picked) (d : Picks h s k x l) where
  pub unlent : l.found ≡ false → AtShard Call does k m (buffers h s t) (buffers h s t) 24
  unlent f = record {
    unlent = λ e. (refl, refl);
    lent = λ e. not_both (lends_state h s k) e (sym d.found ∙ f);
  }

  module _ (f : l.found ≡ true) (y : LentStore) (a : PeerAnswer) (called : Call l.node x y m a) where
    lends : lends_state h s k ≡ true
    lends = sym d.found ∙ f

    called_at : Call (node_at h) (lent_store_in s (node_at h) k) y m a
    called_at =
        subst (λ (n : Node). Call n (lent_store_in s (node_at h) k) y m a) (d.read lends)
        (subst (λ (z : LentStore). Call l.node z y m a) (d.lent_store lends) called)

    -- what the call's own promises say of the images that it left
    abbrev pub StateLaw : Buffers → Type 0
    StateLaw c = lends_state h s k ≡ true → (holds_key (node_at h) k ≡ true → Bytes s) → turned_down a.answer ≡ false
        → Call (node_at h) (lent_store_in s (node_at h) k) y m a → Puts h c.header s c.stores (node_at h) a.node y (place_of (node_at h) k)
        → StateAfter BackupAnswer (does m) h s c.header c.stores k (slots_of a.node)

    pub at-shard : (c : Buffers) (r : ℕ) → Finished (buffers h s t) c l.node l.at y a r → StateLaw c → AtShard Call does k m (buffers h s t) c r
    at-shard c r q state = record {
      unlent = λ e. not_both (lends_state h s k) lends e;
      lent = λ e. record {
        after = a;
        columns = y;
        called = called_at;
        ends = q.ends
            ∙ ap (λ (n : Node). ended_with (buffers h s t) n l.at y a) (d.read lends)
            ∙ ap (λ (i : ℕ). ended_with (buffers h s t) (node_at h) i y a) (d.at lends);
        state = λ f z.
            state lends (d.bytes lends) f called_at
            (subst (λ (i : ℕ). Puts h c.header s c.stores (node_at h) a.node y i) (d.at lends)
            (subst (λ (n : Node). Puts h c.header s c.stores n a.node y l.at) (d.read lends) (q.puts f z)));
      };
    }

-- ---- a message

module _ {A : Type 0} (read : Option A) (fine : A → Bool) (key : A → Key) (Call : Node → (a b : LentStore) → List ℕ → PeerAnswer → Type 0)
    (does : Deed) (m : List ℕ) (b : Buffers) where
  pub unread : read ≡ none → Serves A read fine key Call does m b b 21
  unread e = record {
    undecoded = λ i. (refl, refl);
    outside = λ v i z. none_some (sym e ∙ i);
    inside = λ v i z. none_some (sym e ∙ i);
  }

  module _ (v : A) (is : read ≡ some v) (f : Bool) (told : f ≡ fine v) where
    same : (w : A) → read ≡ some w → f ≡ fine w
    same w i = told ∙ ap fine (some_same (sym is ∙ i))

    pub outside : f ≡ false → Serves A read fine key Call does m b b 22
    outside e = record {
      undecoded = λ i. none_some (sym i ∙ is);
      outside = λ w i z. (refl, refl);
      inside = λ w i z. not_both (fine w) z (sym (same w i) ∙ e);
    }

    pub inside : f ≡ true → (k : Key) → k ≡ key v → (c : Buffers) (r : ℕ) → AtShard Call does k m b c r → Serves A read fine key Call does m b c r
    inside e k named c r d = record {
      undecoded = λ i. none_some (sym i ∙ is);
      outside = λ w i z. not_both (fine w) (sym (same w i) ∙ e) z;
      inside = λ w i z. subst (λ (j : Key). AtShard Call does j m b c r) (named ∙ ap key (some_same (sym is ∙ i))) d;
    }
