-- The whole request of 10, and what its writer answers. Assumes nothing.
use Prim.Native.Nat.{ℕ, ◌+◌, ◌*◌, ◌%◌, ◌≤◌, ◌<◌}
use mathlib.Core.Path.{◌≡◌, refl, sym, ap, ◌∙◌}
use mathlib.Core.Bool.{Bool, true}
use mathlib.Core.List.{List, [], ◌∷◌, ◌++◌, append_assoc}
use lib.ListN.{length, length-append}
use lib.Seq.{sets}
use native.Mathlib.Omega.{arith}
use Rattle.spec.specs.Lists.{◌and◌}
use Rattle.spec.specs.Layout.Format.{text, bytes_of, encode}
use Rattle.spec.specs.Layout.Parts.{metric_code}
use Rattle.spec.specs.Layout.Request.{create_f, encode_request}
use Rattle.spec.specs.declared.Metric.{Metric}
use Rattle.spec_laws.proofs.Wire.Tests.{and_intro}
use Rattle.wire_put.specs.Placed.{lists_fit, lists_size, lists_long, lists_given, lists_bytes, create_given, create_head}
use Rattle.wire_write.specs.Requests.{request_given}
use Rattle.wire_put.specs.Fields.{request_head}
use Rattle.wire_write.specs.Written.{Written, text_fits, count_fits}
use Rattle.std.specs.Prelude.{Ok, Err}
use Rattle.wire_write.specs.declared.Unwritten.TheVariants.{Short}
use Rattle.wire_write.proofs.Requests.{request_bytes, request-length, request-put}
use Rattle.wire_write.proofs.Writes.{sets_then, text-short, fits_count, short, wrote}
use Rattle.wire_put.proofs.Placed.{head-length, lists_length, given-length, long_nodes}

-- ---- the whole

module _ (cs ns name : List ℕ) (d : ℕ) (m : Metric) (s r n : ℕ) where
  abbrev pub create_bytes : List ℕ
  create_bytes = encode create_f (name, (d, (metric_code m, (s, (r, lists_given cs ns n 0)))))

  whole : n ≤ 16 → create_head name d m s r n ++ lists_bytes cs ns n 0 ≡ create_bytes
  whole h =
      let k : n ≡ length (lists_given cs ns n 0) % 256 = let g = given-length cs ns n 0 in omega arith in
      append_assoc (encode (text 32) name) (bytes_of 4 d ++ (metric_code m ∷ (bytes_of 4 s ++ (bytes_of 4 r ++ (n ∷ []))))) (lists_bytes cs ns n 0)
      ∙ ap (λ (x : ℕ). encode (text 32) name ++ (bytes_of 4 d ++ (metric_code m ∷ (bytes_of 4 s ++ (bytes_of 4 r ++ (x ∷ lists_bytes cs ns n 0)))))) k

  pub create_put : (l : List ℕ) → length name ≤ 32 → n ≤ 16
      → sets (sets l 26 (create_head name d m s r n)) 73 (lists_bytes cs ns n 0) ≡ sets l 26 create_bytes
  create_put l h k =
      sets_then l 26 73 (create_head name d m s r n) (lists_bytes cs ns n 0) (omega (arith, head-length name d m s r n h))
      ∙ ap (sets l 26) (whole k)

  pub create_length : length name ≤ 32 → n ≤ 16 → lists_fit cs n 0 ≡ true → 8 * n ≤ length ns → length create_bytes ≡ 47 + lists_size cs n 0
  create_length h k e b =
      ap length (sym (whole k))
      ∙ length-append (create_head name d m s r n) (lists_bytes cs ns n 0)
      ∙ omega (arith, head-length name d m s r n h, lists_length cs ns n 0 e (omega arith))

  pub create_bytes_lem : (i c q : ℕ) → encode_request (request_given i c q (create_given cs ns name d m s r n)) ≡ request_bytes i c q 0x10 create_bytes
  unfolding encode_request
  create_bytes_lem i c q = refl

-- ---- what the writer answers

module _ (i c q : ℕ) (cs ns name : List ℕ) (d : ℕ) (m : Metric) (s r n : ℕ) (out : List ℕ) where
  abbrev pub create_fits : Bool
  create_fits = text_fits 32 name and (count_fits 0 16 n and (lists_long cs ns n and lists_fit cs n 0))

  abbrev pub created_bytes : List ℕ
  created_bytes = encode_request (request_given i c q (create_given cs ns name d m s r n))

  module _ (t : text_fits 32 name ≡ true) (f : count_fits 0 16 n ≡ true) (l : lists_long cs ns n ≡ true) (e : lists_fit cs n 0 ≡ true) where
    created-fits : create_fits ≡ true
    created-fits = and_intro t (and_intro f (and_intro l e))

    created-length : length created_bytes ≡ 73 + lists_size cs n 0
    created-length =
        ap length (create_bytes_lem cs ns name d m s r n i c q)
        ∙ request-length i c q 0x10 (create_bytes cs ns name d m s r n)
        ∙ omega (arith, create_length cs ns name d m s r n (text-short 32 name t) (fits_count 0 16 n f) e (long_nodes cs ns n l))

    pub create_short : length out < 73 + lists_size cs n 0 → Written create_fits created_bytes out out (Err Short)
    create_short h = short created_bytes out create_fits created-fits (omega (arith, created-length))

    pub create_wrote : (k : ℕ) (after : List ℕ) → k ≡ 73 + lists_size cs n 0 → k ≤ length out
        → after ≡ sets (sets (sets out 0 (request_head i c q 0x10)) 26 (create_head name d m s r n)) 73 (lists_bytes cs ns n 0)
        → Written create_fits created_bytes out after (Ok k)
    create_wrote k after g h a =
        wrote created_bytes out create_fits k after created-fits (g ∙ sym created-length) (omega (arith, created-length))
        (a
        ∙ create_put cs ns name d m s r n (sets out 0 (request_head i c q 0x10)) (text-short 32 name t) (fits_count 0 16 n f)
        ∙ request-put i c q 0x10 (create_bytes cs ns name d m s r n) out
        ∙ ap (sets out 0) (sym (create_bytes_lem cs ns name d m s r n i c q)))
