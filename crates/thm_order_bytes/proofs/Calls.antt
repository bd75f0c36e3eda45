-- `catalogue_write` at node 1, which leads its one shard alone, on images of the code's own sizes: its contract is met where the columns that it
-- leaves are computed, and the images after are again such images. No byte of the stores is walked. Assumes nothing.
use Prim.Native.Nat.{ℕ, ◌≤◌, ◌<◌, min}
use mathlib.Core.Path.{◌≡◌, refl, sym, ap, ◌∙◌, subst}
use mathlib.Core.Bool.{Bool, true, false}
use mathlib.Core.List.{List}
use mathlib.Core.Option.{some}
use native.Mathlib.Omega.{arith}
use lib.ListN.{length, take, drop}
use borrow.Author.Tests.{le-leb}
use Rattle.spec.specs.Lists.{◌and◌}
use Rattle.spec.specs.Keys.{Key}
use Rattle.spec.specs.Log.{Entry, Log, Vectors, components}
use Rattle.spec.specs.Layout.Format.{Bytes, All}
use Rattle.spec.specs.Layout.Message as message
use Rattle.spec.specs.Layout.Parts.{WireOp}
use Rattle.spec.specs.Node.Calls.{write_with}
use Rattle.spec.specs.Node.Wire.{op_in_domain}
use Rattle.spec_laws.proofs.Lists.{and_true, and_left, and_right, none_some, some_same, not_both}
use Rattle.spec_run.proofs.Cases.Opened.{opened}
use Rattle.log_store.specs.View.{log_of}
use Rattle.log_store.specs.Table.{vectors_of}
use Rattle.log_store.specs.Store.{well_formed_store}
use Rattle.log_calls.proofs.FitLaws.{fits-sized, fits-well}
use Rattle.std.specs.Prelude.{Some}
use Rattle.node_header.specs.declared.Node.{Node}
use Rattle.node_header.specs.View.{Stores}
use Rattle.node_header.specs.Formed.{lent_node}
use Rattle.node_header.specs.Answers.{answered_as}
use Rattle.image_header.specs.Image.{node_at, header_lent}
use Rattle.image_header.specs.Becomes.{HeaderWrites}
use Rattle.image_store.specs.Image.{log_at, rows_at, well_formed_image}
use Rattle.image_store.specs.Read.{all_readable}
use Rattle.image_store.proofs.Read.{image_log}
use Rattle.image_store.proofs.Test.{image_test}
use Rattle.node_lent.specs.Lend.{LentStore, store_of, held_row_store, place_of, lent_at, lent_for}
use Rattle.image_node.specs.declared.Picked.{Picked}
use Rattle.image_node.specs.Lent.{no_lent_store, lent_store_at, lent_store_in, lends_state, store_put, Writable, StoreFits, Picks, Puts}
use Rattle.image_node.specs.State.{stores_in}
use Rattle.image_node.proofs.Pick.{floats-whole}
use Rattle.image_node.proofs.Put.{puts-kept}
use Rattle.image_node.proofs.Back.{put-log, put-rows}
use Rattle.image_node.proofs.Again.{read_listed, put-again}
use Rattle.image_node.proofs.State.{images_lent, images_test}
use Rattle.calls_parts.specs.Answer.{number_put}
use Rattle.node_write.specs.declared.WriteAnswer.{WriteAnswer}
use Rattle.node_write.specs.declared.WriteReply.TheVariants as C
use Rattle.node_write.specs.ClientWrites.{write_word, WriteNames, WritesAt}
use Rattle.calls_client_out.specs.Count.{count_put}
use Rattle.calls_client_out.specs.Ends.{ended, WriteEnded, WriteFinished}
use Rattle.calls_client_out.proofs.Ends.{told-accepted}
use Rattle.calls_client.specs.Searched.{lends_call}
use Rattle.calls_client.specs.Written.{buffers, WritesShard, WritesRead, WritesImages}
use Rattle.calls_client.proofs.Searched.{lends_long}
use Rattle.calls_client.proofs.Written.{shard-lent}
use Rattle.thm_one_node.specs.Images.{room, count}
use Rattle.thm_one_node.proofs.Map.{key}
use Rattle.thm_one_node.proofs.Headers.{kept, leads}
use Rattle.thm_one_node.proofs.Write.{read}
use Rattle.thm_order_writes.proofs.Calls as value
use Rattle.thm_order_writes.proofs.Calls.{asks, Reads}
use Rattle.thm_order_bytes.proofs.Written.{put_long, put-bytes}

-- the header of node 1 with a lease until 100
abbrev pub node : (stored last : ℕ) → Node
node stored last = leads (Some 100) stored last

-- a header's image with so many rows and entries
pub record Heads (h : List ℕ) (stored last : ℕ) : Type 0 where
  pub read : node_at h ≡ node stored last
  pub lent : header_lent h ≡ true
  pub formed : (z : Stores) → lent_node z (node stored last) ≡ true

-- stores whose slot 0 holds such a log and table
pub record Stored (s : List ℕ) (stored last : ℕ) (l : Log) (v : Vectors) : Type 0 where
  pub long : length s ≡ 1392640
  pub bytes : Bytes s
  pub image : well_formed_image s 0 last stored ≡ true
  pub log : log_at s 0 last ≡ l
  pub vectors : vectors_of (log_at s 0 last) (rows_at s 0 stored) ≡ v

-- ---- images that lend the shard

module _ (h s : List ℕ) (stored last : ℕ) (l : Log) (v : Vectors) (n : Heads h stored last) (d : Stored s stored last l v) where
  there : 1392640 ≤ length s
  there = omega (arith, d.long)

  abbrev a : LentStore
  a = lent_store_at s (kept stored last)

  both : (all_readable s 0 last and well_formed_store (store_of a (kept stored last))) ≡ true
  unfolding lent_store_at
  both = image_test s 0 last stored no_lent_store.columns.floats floats-whole ∙ d.image

  well : well_formed_store (store_of a (kept stored last)) ≡ true
  well = and_right (all_readable s 0 last) _ both

  pub lent_store_in_lem : lent_store_in s (node stored last) key ≡ a
  unfolding opened
  lent_store_in_lem = refl

  shard_image : (z : Stores) → images_lent z h s key ≡ true
  unfolding opened
  shard_image z =
      and_true (header_lent h) _ n.lent
      (and_true _ _ (le-leb 1392640 (length s) there)
      (rw n.read (and_true (lent_node z (node stored last)) _ (n.formed z) d.image)))

  tests : (z : Stores) → (lends_state h s key and lent_for z (node_at h) (lent_store_in s (node_at h) key) key) ≡ true
  tests z = images_test z h s key ∙ shard_image z

  pub lends : lends_state h s key ≡ true
  lends = and_left (lends_state h s key) _ (tests (stores_in s))

  fits : held_row_store a (kept stored last) ≡ true
  unfolding opened lent_for lent_at
  fits =
      let t : lent_for (stores_in s) (node stored last) (lent_store_in s (node stored last) key) key ≡ true =
      subst (λ (p : Node). lent_for (stores_in s) p (lent_store_in s p key) key ≡ true) n.read (and_right (lends_state h s key) _ (tests (stores_in s))) in
      and_right (lent_node (stores_in s) (node stored last)) _ t

  log-read : log_of a.columns last ≡ log_at s 0 last
  unfolding lent_store_at
  log-read = image_log s 0 last stored no_lent_store.columns.floats a.keys a.places floats-whole (and_left (all_readable s 0 last) _ both) well

  pub reads : Reads a stored last l v
  unfolding held_row_store lent_store_at
  reads = record {
    log = log-read ∙ d.log;
    vectors = ap (λ (z : Log). vectors_of z (rows_at s 0 stored)) log-read ∙ d.vectors;
    fits = fits;
  }

  -- ---- a Write of an edit on them, which leaves the columns b

  module _ (m : List ℕ) (op : WireOp) (decoded : message.decode_write m ≡ some (asks op)) (inside : op_in_domain op ≡ true) (h' : List ℕ) (stored' last' : ℕ)
      (b : LentStore) (l' : Log) (v' : Vectors) (after : Reads b stored' last' l' v') (fit : StoreFits (kept stored' last') b)
      (heads : HeaderWrites h h' (node stored' last')) (answer : List ℕ) (put : answer ≡ number_put room last')
      (taken : (t : Key → Bool) → t key ≡ true
      → record { answer = C.Accepted (record { 0 = last' }); node = read l' v' } ≡ answered_as write_word (write_with t (read l v) 5 1 m)) where
    abbrev said : WriteAnswer
    said = record { answer = C.Accepted (record { 0 = last' }); node = node stored' last'; refused = 0 }

    call : WritesAt (node stored last) a b 5 1 m 0 said
    call = value.call m op decoded stored last stored' last' a b l l' v v' reads after n.formed taken

    abbrev s' : List ℕ
    s' = store_put s (kept stored last) (kept stored' last') b

    names : WriteNames m key
    names w e = ap (λ (z : message.Write). z.key) (some_same (sym decoded ∙ e))

    abbrev picked : Picked
    picked = record { found = true; at = 0; node = node stored last }

    first-place : 0 ≡ place_of (node stored last) key
    unfolding opened
    first-place = refl

    picks : Picks h s key a picked
    picks = record {
      found = sym lends;
      read = λ e. sym n.read;
      at = λ e. first-place ∙ ap (λ (p : Node). place_of p key) (sym n.read);
      lent_store = λ e. sym lent_store_in_lem ∙ ap (λ (p : Node). lent_store_in s p key) (sym n.read);
      bytes = λ e f. d.bytes;
    }

    images : Puts h h' s s' (node stored last) (node stored' last') b 0
    images = puts-kept h h' s s' (node stored last) (node stored' last') b 0 heads (omega arith) (record { image = refl; fits = fit })

    abbrev left : WriteEnded
    left = ended 0 (buffers h' s' answer)

    finished : WriteFinished (buffers h s room) (node stored last) 0 b said left
    finished = record {
      is = told-accepted h s room (node stored last) 0 b said last' refl refl h' s' answer images put;
      puts = λ e z. images;
    }

    on-shard : WritesShard (buffers h s room) key 5 1 m left
    on-shard = shard-lent h s room key a picked picks 5 1 m refl b said call names left finished

    long : lends_call count h s key ≡ lends_state h s key
    long = lends_long count h s key (omega arith)

    served : WritesRead (buffers h s room) count 5 1 m (asks op) left
    served = record {
      outside = λ z. not_both (op_in_domain op) inside z;
      unlent = λ z y. on-shard.unlent (sym long ∙ y);
      lent = λ z y. on-shard.lent lends;
    }

    pub writes : WritesImages (buffers h s room) (buffers h' s' answer) count count 5 1 m 0
    unfolding opened count_put
    writes = record {
      ends = record {
        late = λ e. not_both false e refl;
        undecoded = λ e. none_some (sym e ∙ decoded);
        read = λ e w q. subst (λ (z : message.Write). WritesRead (buffers h s room) count 5 1 m z left) (some_same (sym decoded ∙ q)) served;
      };
      count = refl;
    }

    -- ---- what it left is read again

    writable : Writable (kept stored last) (kept stored' last') b
    writable = record { slot = omega arith; sized = fits-sized _ after.fits; well = fits-well _ after.fits }

    module _ (same : log_at s 0 (min last last') ≡ take (min last last') (log_of b.columns last'))
        (short : All (λ (e : Entry). length (components e.op) < 256) (drop (min last last') (log_of b.columns last'))) where
      log-put : log_at s' 0 last' ≡ log_of b.columns last'
      log-put = put-log s (kept stored last) (kept stored' last') b there writable fit same

      pub stores-after : Stored s' stored' last' l' v'
      stores-after = record {
        long = put_long s (kept stored last) (kept stored' last') b ∙ d.long;
        bytes = put-bytes s (kept stored last) (kept stored' last') b d.bytes short;
        image = put-again s (kept stored last) (kept stored' last') b there writable fit same (read_listed s (kept stored last) well);
        log = log-put ∙ after.log;
        vectors =
            ap (λ (z : Log). vectors_of z (rows_at s' 0 stored')) log-put
            ∙ ap (vectors_of (log_of b.columns last')) (put-rows s (kept stored last) (kept stored' last') b there writable fit)
            ∙ after.vectors;
      }
