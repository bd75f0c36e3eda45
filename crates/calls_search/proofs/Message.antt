-- A Search at the shard of a key, and of a message. Assumes nothing.
use Prim.Native.Nat.{ℕ, ◌≤◌}
use mathlib.Core.Path.{◌≡◌, refl}
use mathlib.Core.Bool.{Bool, true}
use mathlib.Core.List.{List}
use lib.Ieee.{Float}
use lib.ListN.{take}
use Rattle.spec.specs.Keys.{Key}
use Rattle.spec.specs.Limits.{max_time}
use Rattle.spec.specs.Node.Refused.{counted}
use Rattle.spec_laws.proofs.Lists.{not_both}
use Rattle.wire_read.specs.declared.SearchPart.{SearchPart}
use Rattle.log_arrive.specs.Parts.{bits_in}
use Rattle.map_names.specs.Texts.{key_in}
use Rattle.image_header.specs.Image.{node_at}
use Rattle.node_lent.specs.declared.Lent.TheVariants as L
use Rattle.image_node.specs.Lent.{lent_store_in}
use Rattle.node_search.specs.declared.SearchAnswer.TheVariants as S
use Rattle.node_search.specs.Query.{ReadsQuery}
use Rattle.node_search.specs.Searches.{turned_down, IsSearch}
use Rattle.node_search.proofs.Held.{named_malformed, named-absent}
use Rattle.node_search.proofs.Searches.{message-named, search_done}
use Rattle.calls_client_out.specs.Found.{SearchEnded, ended, hits_lent, fresh_hits}
use Rattle.calls_client.specs.Searched.{SearchesShard}
use Rattle.image_node_check.specs.Find.{FindsIn, AbsentIn, FoundIn}
use Rattle.calls_search.specs.Served.{NamedServed, SearchesKey}

-- ---- at the shard of a key

module _ (h s : List ℕ) (key : Key) (clock epoch k : ℕ) (q : List Float) (o a : List ℕ) where
  pub key_malformed : FindsIn h s key L.Malformed → SearchesKey h s key clock epoch k q o a (ended 24 o a)
  key_malformed f = record {
    unlent = λ e. refl;
    lent = λ e. record {
      left = fresh_hits (hits_lent o);
      told = S.Refused 24;
      call = named_malformed (node_at h) (lent_store_in s (node_at h) key) key clock epoch k q (fresh_hits (hits_lent o)) L.Malformed (f e) refl;
      is = refl;
    };
  }

  pub key-absent : AbsentIn h s key → SearchesKey h s key clock epoch k q o a (ended 17 o a)
  key-absent f = record {
    unlent = λ e. not_both _ f.lends e;
    lent = λ e. record {
      left = fresh_hits (hits_lent o);
      told = S.Refused 17;
      call = named-absent (node_at h) (lent_store_in s (node_at h) key) key clock epoch k q (fresh_hits (hits_lent o)) L.Absent f.absent refl;
      is = refl;
    };
  }

  pub key-held : (at : ℕ) → FoundIn h s key at → (e : SearchEnded) → NamedServed (node_at h) (lent_store_in s (node_at h) key) key clock epoch k q o a e
      → SearchesKey h s key clock epoch k q o a e
  key-held at f e t = record { unlent = λ z. not_both _ f.lends z; lent = λ z. t }

-- ---- of a message

pub message_served : (h s : List ℕ) (clock : ℕ) (m o a : List ℕ) → clock ≤ max_time → (p : SearchPart) (i : IsSearch m p) (b : Bool) (column : List Float)
    → ReadsQuery (bits_in m p.vector) b p.vector.len column → b ≡ true → (key : Key) → key ≡ key_in m p.key → (e : SearchEnded)
    → SearchesKey h s key clock p.epoch.0 p.k (take p.vector.len column) o a e → SearchesShard h s key clock m o a e
message_served h s clock m o a early p i b column reads inside key named e d = record {
  unlent = d.unlent;
  lent = λ z.
      let t = d.lent z in
      let lent_store = lent_store_in s (node_at h) key in
      let r = t.told in
      let c = counted 0 (turned_down r) in
      record {
        left = t.left;
        told = record { answer = r; refused = c };
        call =
            search_done (node_at h) lent_store m clock (fresh_hits (hits_lent o)) t.left 0 r c refl p i
            (message-named (node_at h) lent_store m clock (fresh_hits (hits_lent o)) early p i b column reads inside key named t.left r t.call);
        is = t.is;
      };
}
