-- Laws of a Search over the images, one for each way out. Assumes nothing.
use Prim.Native.Nat.{ℕ, ◌≤◌, ◌<◌}
use mathlib.Core.Path.{◌≡◌, refl, sym, ap, subst, ◌∙◌}
use mathlib.Core.Bool.{Bool, true, false}
use mathlib.Core.List.{List}
use mathlib.Core.Option.{none, some}
use lib.ListN.{length}
use borrow.Author.Tests.{le-leb, lt-leb}
use Rattle.spec.specs.Lists.{◌and◌}
use Rattle.spec.specs.Keys.{Key}
use Rattle.spec.specs.Layout.Message.{Query, decode_search}
use Rattle.spec.specs.Node.Wire.{patterns_in_domain}
use Rattle.spec.specs.Node.Calls.{late_time}
use Rattle.spec_laws.proofs.Lists.{not_both, none_some}
use Rattle.wire_read.specs.declared.SearchPart.{SearchPart}
use Rattle.wire_read.proofs.Decoded.{search_decoded}
use Rattle.log_arrive.specs.Parts.{bits_in}
use Rattle.log_arrive.proofs.Messages.{search_bits}
use Rattle.map_names.specs.Texts.{key_in}
use Rattle.node_header.specs.declared.Node.{Node}
use Rattle.image_header.specs.Image.{node_at}
use Rattle.node_lent.specs.Lend.{LentStore}
use Rattle.image_node.specs.Lent.{lends_state, Picks}
use Rattle.image_node.specs.declared.Picked.{Picked}
use Rattle.node_search.specs.Searches.{IsSearch}
use Rattle.node_search.proofs.Named.{search_key}
use Rattle.calls_client_out.specs.Found.{SearchEnded, ended, SearchServed}
use Rattle.calls_client.specs.Searched.{lends_call, SearchesShard, SearchesQuery, SearchesBytes}

-- ---- the count that is lent

pub lends_short : (c h s : List ℕ) (k : Key) → length c < 4 → lends_call c h s k ≡ false
unfolding ◌and◌
lends_short c h s k e = rw (lt-leb 4 (length c) e) refl

pub lends_long : (c h s : List ℕ) (k : Key) → 4 ≤ length c → lends_call c h s k ≡ lends_state h s k
unfolding ◌and◌
lends_long c h s k e = rw (le-leb 4 (length c) e) refl

-- ---- at the shard of a key

module _ (h s : List ℕ) (k : Key) (b : LentStore) (l : Picked) (d : Picks h s k b l) (clock : ℕ) (m o a : List ℕ) where
  pub shard-lent : l.found ≡ true → (e : SearchEnded) → SearchServed l.node b m clock o a e → SearchesShard h s k clock m o a e
  shard-lent f e t =
      let z = sym d.found ∙ f in
      record {
        unlent = λ y. not_both _ z y;
        lent = λ y. subst (λ (x : LentStore). SearchServed (node_at h) x m clock o a e) (d.lent_store z) (subst (λ (n : Node). SearchServed n b m clock o a e) (d.read z) t);
      }

-- ---- a message

module _ (h s c : List ℕ) (clock : ℕ) (m o a : List ℕ) where
  pub bytes-late : late_time clock ≡ true → SearchesBytes h s c clock m o a (ended 21 o a)
  bytes-late e = record { late = λ z. refl; undecoded = λ z. refl; query = λ z v q. not_both _ e z }

  module _ (early : late_time clock ≡ false) where
    pub bytes-undecoded : decode_search m ≡ none → SearchesBytes h s c clock m o a (ended 21 o a)
    bytes-undecoded e = record { late = λ z. refl; undecoded = λ z. refl; query = λ z v q. none_some (sym e ∙ q) }

    module _ (p : SearchPart) (i : IsSearch m p) where
      abbrev Query_of : SearchEnded → Type 0
      Query_of e = (v : Query) → decode_search m ≡ some v → SearchesQuery h s c clock m o a v e

      by-query : (e : SearchEnded) → Query_of e → SearchesBytes h s c clock m o a e
      by-query e f = record {
        late = λ z. not_both _ z early;
        undecoded = λ z. none_some (sym z ∙ (search_decoded m p i).decoded);
        query = λ z v q. f v q;
      }

      module _ (t : Bool) (tested : t ≡ patterns_in_domain (bits_in m p.vector)) where
        tells : (v : Query) → decode_search m ≡ some v → t ≡ patterns_in_domain v.bits
        tells v q = tested ∙ ap patterns_in_domain (search_bits m p i v q)

        pub bytes_outside : t ≡ false → SearchesBytes h s c clock m o a (ended 22 o a)
        bytes_outside e = by-query (ended 22 o a) (λ v q.
            let no = sym (tells v q) ∙ e in
            record { outside = λ z. refl; unlent = λ z y. not_both _ z no; lent = λ z y. not_both _ z no })

        module _ (inside : t ≡ true) where
          pub bytes_uncounted : length c < 4 → SearchesBytes h s c clock m o a (ended 24 o a)
          bytes_uncounted e = by-query (ended 24 o a) (λ v q.
              let yes = sym (tells v q) ∙ inside in
              record {
                outside = λ z. not_both _ yes z;
                unlent = λ z y. refl;
                lent = λ z y. not_both _ y (lends_short c h s v.key e);
              })

          pub bytes-named : 4 ≤ length c → (k : Key) → k ≡ key_in m p.key → (e : SearchEnded) → SearchesShard h s k clock m o a e
              → SearchesBytes h s c clock m o a e
          bytes-named long k named e d = by-query e (λ v q.
              let yes = sym (tells v q) ∙ inside in
              let same : k ≡ v.key = named ∙ search_key m p i v q in
              let g = subst (λ (x : Key). SearchesShard h s x clock m o a e) same d in
              let is = lends_long c h s v.key long in
              record {
                outside = λ z. not_both _ yes z;
                unlent = λ z y. g.unlent (sym is ∙ y);
                lent = λ z y. g.lent (sym is ∙ y);
              })
