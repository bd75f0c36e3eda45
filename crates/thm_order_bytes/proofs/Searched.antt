-- `catalogue_search` on the images of the two nodes of Instance.antt, by its contract: both find object 7 at distance 0, with room for one
-- neighbour. So the premises of `same-searches` are met too. Assumes nothing.
use Prim.Native.Nat.{ℕ}
use mathlib.Core.Path.{◌≡◌, refl, sym, subst, ◌∙◌}
use mathlib.Core.Bool.{true, false}
use mathlib.Core.List.{List, [], ◌∷◌}
use native.Mathlib.Omega.{arith}
use lib.ListN.{replicate}
use Rattle.spec.specs.Log.{Log}
use Rattle.spec.specs.Layout.Message.{Query}
use Rattle.spec.specs.Node.Wire.{patterns_in_domain}
use Rattle.spec_laws.proofs.Lists.{none_some, some_same, not_both}
use Rattle.spec_run.proofs.Cases.Opened.{opened}
use Rattle.log_store.specs.View as view
use Rattle.node_header.specs.declared.Node.{Node}
use Rattle.image_parts.specs.Shape as shape
use Rattle.image_header_row.specs.Rows as rows
use Rattle.image_header.specs.Image as image
use Rattle.image_header.specs.Image.{node_at, header_lent}
use Rattle.node_lent.specs.Lend.{LentStore}
use Rattle.image_node.specs.Lent.{lent_store_in}
use Rattle.calls_parts.specs.Answer.{number_put}
use Rattle.node_search.specs.Searches.{SearchesAt}
use Rattle.calls_client_out.specs.Count.{count_put}
use Rattle.calls_client_out.specs.Hits.{hits_bytes}
use Rattle.calls_client_out.specs.Found.{SearchEnded, ended, fresh_hits, SearchServed}
use Rattle.calls_client.specs.Searched.{lends_call, SearchesQuery, SearchesImages}
use Rattle.calls_client.proofs.Searched.{lends_long}
use Rattle.thm_one_node.specs.Images.{header, room, offset, count}
use Rattle.thm_one_node.proofs.Map.{key}
use Rattle.thm_order_writes.proofs.Instance.{entry, sets}
use Rattle.thm_order_writes.proofs.Searched as value
use Rattle.thm_order_writes.proofs.Searched.{asked, bytes, decoded, filled, said, vectors}
use Rattle.thm_order_bytes.proofs.Calls.{node, Heads, Stored, lends, reads, lent_store_in_lem}
use Rattle.thm_order_bytes.proofs.Instance.{head, stores_x-y, stores_y-x, stored_x_y, stored_y_x, searches_met}

read-two : node_at (head 2 2) ≡ node 2 2
unfolding header node_at shape.rows_at rows.held_row_at
read-two = refl

lent_two : header_lent (head 2 2) ≡ true
unfolding opened header header_lent image.codes_listed image.shard_codes
lent_two = refl

heads_two : Heads (head 2 2) 2 2
heads_two = record { read = read-two; lent = lent_two; formed = value.formed }

-- room for one neighbour: its id in 8 bytes, its distance in 4
abbrev hits : List ℕ
hits = replicate 12 0

abbrev seven : List ℕ
seven = 7 ∷ replicate 11 0

inside : patterns_in_domain asked.bits ≡ true
unfolding opened
inside = refl

abbrev found : SearchEnded
found = ended 0 seven offset

module _ (s : List ℕ) (l : Log) (d : Stored s 2 2 l vectors) where
  abbrev h : List ℕ
  h = head 2 2

  call : SearchesAt (node_at h) (lent_store_in s (node_at h) key) bytes 5 (fresh_hits 1) filled 0 said
  unfolding fresh_hits
  call =
      subst (λ (n : Node). SearchesAt n (lent_store_in s n key) bytes 5 value.room filled 0 said) (sym read-two)
      (subst (λ (a : LentStore). SearchesAt (node 2 2) a bytes 5 value.room filled 0 said) (sym (lent_store_in_lem h s 2 2 l vectors heads_two d))
      (value.search _ l (reads h s 2 2 l vectors heads_two d)))

  served : SearchServed (node_at h) (lent_store_in s (node_at h) key) bytes 5 hits room found
  unfolding opened number_put hits_bytes view.firsts
  served = record { left = filled; told = said; call = call; is = refl }

  long : lends_call count h s key ≡ true
  long = lends_long count h s key (omega arith) ∙ lends h s 2 2 l vectors heads_two d

  query : SearchesQuery h s count 5 bytes hits room asked found
  query = record {
    outside = λ z. not_both (patterns_in_domain asked.bits) inside z;
    unlent = λ z y. not_both (lends_call count h s key) long y;
    lent = λ z y. served;
  }

  pub searches : SearchesImages h s count 5 bytes hits room count seven offset 0
  unfolding opened count_put
  searches = record {
    ends = record {
      late = λ e. not_both false e refl;
      undecoded = λ e. none_some (sym e ∙ decoded);
      query = λ e v q. subst (λ (z : Query). SearchesQuery h s count 5 bytes hits room z found) (some_same (sym decoded ∙ q)) query;
    };
    count = refl;
  }

pub found_met : (◌≡◌ {A = ℕ} 0 0) × (seven ≡ seven) × (offset ≡ offset) × (count ≡ count)
found_met =
    searches_met 5 bytes hits room count count seven offset count seven offset 0 0
    (searches stores_x-y (entry 1 (sets 41) ∷ entry 2 (sets 7) ∷ []) stored_x_y) (searches stores_y-x (entry 1 (sets 7) ∷ entry 2 (sets 41) ∷ []) stored_y_x)
