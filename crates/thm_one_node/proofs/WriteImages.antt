-- The Write, of the buffers: what they hold before and after satisfies the contract of `catalogue_write`, which answers 0 with the offset 1.
-- Said of any two headers that hold the shard in the slot 0, the second with the entry. Assumes nothing.
use Prim.Native.Nat.{ℕ}
use native.Mathlib.Omega.{arith}
use mathlib.Core.Path.{◌≡◌, refl, sym, ap, subst, ◌∙◌}
use mathlib.Core.Bool.{true, false}
use mathlib.Core.List.{List, [], ◌∷◌}
use Rattle.spec.specs.Layout.Message as message
use Rattle.spec.specs.Node.Wire.{op_in_domain}
use Rattle.spec_laws.proofs.Lists.{none_some, some_same, not_both}
use Rattle.spec_run.proofs.Cases.Opened.{opened}
use Rattle.std.specs.Prelude.{Some}
use Rattle.node_header.specs.declared.Node.{Node}
use Rattle.node_header.specs.View.{view_node}
use Rattle.image_header_row.specs.Rows as rows
use Rattle.image_header_row.specs.Tidy as tidy
use Rattle.image_parts.specs.Canon as canon
use Rattle.image_header.specs.Image.{node_at, header_put}
use Rattle.image_header.specs.Becomes.{HeaderWrites}
use Rattle.image_header.proofs.Becomes.{writes_long}
use Rattle.image_header.proofs.Image.{lent_long}
use Rattle.log_store.specs.Table as table
use Rattle.node_lent.specs.Lend.{place_of}
use Rattle.image_node.specs.declared.Picked.{Picked}
use Rattle.image_node.specs.Lent.{lent_store_in, lends_state, Picks, Puts}
use Rattle.image_node.specs.State.{stores_in, state_at}
use Rattle.image_node.proofs.Put.{puts-kept}
use Rattle.calls_parts.specs.Answer.{number_put}
use Rattle.node_write.specs.declared.WriteAnswer.{WriteAnswer}
use Rattle.node_write.specs.ClientWrites.{WritesAt}
use Rattle.calls_client_out.specs.Count.{count_put}
use Rattle.calls_client_out.specs.Ends.{ended, WriteEnded, WriteFinished}
use Rattle.calls_client_out.proofs.Ends.{told-accepted}
use Rattle.calls_client.specs.Searched.{lends_call}
use Rattle.calls_client.specs.Written.{buffers, WritesShard, WritesRead, WritesImages}
use Rattle.calls_client.proofs.Searched.{lends_long}
use Rattle.calls_client.proofs.Written.{shard-lent}
use Rattle.thm_one_node.specs.Images.{header, stores, leased, written, room, offset, count}
use Rattle.thm_one_node.proofs.Map.{key}
use Rattle.thm_one_node.proofs.Headers.{leads, read-leased, read-written, lent-leased}
use Rattle.thm_one_node.proofs.Fits.{node-fits}
use Rattle.thm_one_node.proofs.Columns.{stores-bytes, entry, before, after, stored, puts, store-read, lends}
use Rattle.thm_one_node.proofs.Write.{asked, bytes, decoded, names, accepted, read, vectors, wrote, writes}
use Rattle.thm_one_node.proofs.Stored.{log-stored, rows-stored}

offset-put : offset ≡ number_put room 1
unfolding number_put
offset-put = refl

inside : op_in_domain asked.op ≡ true
unfolding opened
inside = refl

-- ---- a header h of the node n, which the Write leaves as h' of p

module _ (h h' : List ℕ) (n p : Node) (is_read : node_at h ≡ n) (lends-it : lends_state h stores key ≡ true) (lent_store : lent_store_in stores n key ≡ before)
    (at_zero : place_of n key ≡ 0) (images : Puts h h' stores stored n p after 0) where
  abbrev told : WriteAnswer
  told = record { answer = accepted; node = p; refused = 0 }

  abbrev picked : Picked
  picked = record { found = true; at = 0; node = n }

  picks : Picks h stores key before picked
  picks = record {
    found = sym lends-it;
    read = λ e. sym is_read;
    at = λ e. sym at_zero ∙ ap (λ (m : Node). place_of m key) (sym is_read);
    lent_store = λ e. sym lent_store ∙ ap (λ (m : Node). lent_store_in stores m key) (sym is_read);
    bytes = λ e f. stores-bytes;
  }

  abbrev left : WriteEnded
  left = ended 0 (buffers h' stored offset)

  finished : WriteFinished (buffers h stores room) n 0 after told left
  finished = record {
    is = told-accepted h stores room n 0 after told 1 refl refl h' stored offset images offset-put;
    puts = λ e z. images;
  }

  module _ (call : WritesAt n before after 5 1 bytes 0 told) where
    on-shard : WritesShard (buffers h stores room) key 5 1 bytes left
    on-shard = shard-lent h stores room key before picked picks 5 1 bytes refl after told call names left finished

    long : lends_call count h stores key ≡ lends_state h stores key
    long = lends_long count h stores key (omega arith)

    served : WritesRead (buffers h stores room) count 5 1 bytes asked left
    served = record {
      outside = λ z. not_both (op_in_domain asked.op) inside z;
      unlent = λ z y. on-shard.unlent (sym long ∙ y);
      lent = λ z y. on-shard.lent lends-it;
    }

    pub images_written : WritesImages (buffers h stores room) (buffers h' stored offset) count count 5 1 bytes 0
    unfolding opened count_put
    images_written = record {
      ends = record {
        late = λ e. not_both false e refl;
        undecoded = λ e. none_some (sym e ∙ decoded);
        read = λ e v q.
            subst (λ (v : message.Write). WritesRead (buffers h stores room) count 5 1 bytes v left) (some_same (sym decoded ∙ q)) served;
      };
      count = refl;
    }

-- ---- those of node 1 alone

put_written : written ≡ header_put leased (leads (Some 100) 1 1)
unfolding header header_put rows.held_row_bytes tidy.tidy_held_row tidy.tidy_held canon.padded
put_written = refl

pub header-written : HeaderWrites leased written (leads (Some 100) 1 1)
header-written =
    writes_long leased (leads (Some 100) 1 1) written (lent_long leased lent-leased)
    (node-fits (Some 100) 1 1 (omega arith) (omega arith) (omega arith)) put_written

first-place : place_of (leads (Some 100) 0 0) key ≡ 0
unfolding opened
first-place = refl

pub writes_images : WritesImages (buffers leased stores room) (buffers written stored offset) count count 5 1 bytes 0
writes_images =
    images_written leased written (leads (Some 100) 0 0) (leads (Some 100) 1 1) read-leased lends store-read first-place
    (puts-kept leased written stores stored (leads (Some 100) 0 0) (leads (Some 100) 1 1) after 0 header-written (omega arith) puts) writes

-- ---- what the images are then read as

stored-read : view_node (stores_in stored) (leads (Some 100) 1 1) ≡ read (entry ∷ []) vectors
unfolding opened stores_in table.vectors_of table.vector_of
stored-read = rw (log-stored, rows-stored) refl

pub state_written : state_at written stored ≡ read (entry ∷ []) vectors
state_written = ap (λ (n : Node). view_node (stores_in stored) n) read-written ∙ stored-read
