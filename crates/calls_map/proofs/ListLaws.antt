-- Lists of nodes as bytes: how long they are, and the steps of the loops over them. Assumes nothing.
use Prim.Native.Nat.{ℕ, ◌+◌, ◌*◌, ◌<◌}
use mathlib.Core.Path.{◌≡◌, refl, ap, ◌∙◌}
use mathlib.Core.List.{List, [], ◌∷◌, ◌++◌, map}
use lib.ListN.{length, get_or, take, drop, length-append, length-map}
use lib.Seq.{drop-cons, drop-length, get_or-take}
use native.Mathlib.Omega.{arith}
use native.Mathlib.Numerals.{add-one}
use Rattle.spec.specs.Layout.Format.{bytes_of, concat_map}
use Rattle.spec.specs.declared.DataNodeId.{DataNodeId}
use Rattle.spec_laws.proofs.Wire.Bytes.{length-bytes}
use Rattle.map_tables.specs.View.{view_list}
use Rattle.map_tables.specs.declared.NodeList.{NodeList}
use Rattle.map_tables.specs.declared.Placement.{Placement}
use Rattle.image_parts.specs.Shape.{in_use}
use Rattle.image_parts.proofs.Images.{length-used}
use Rattle.calls_map.specs.Places.{list_bytes, lists_bytes}

-- the list that stands for a place past the array's end
abbrev pub past_list : NodeList
past_list = record { nodes = []; count = 0 }

abbrev pub row_bytes : NodeList → List ℕ
row_bytes l = list_bytes (view_list l)

abbrev pub rows_of : Placement → List NodeList
rows_of p = take p.count p.lists

pub rows-bytes : (ls : List NodeList) → lists_bytes (map view_list ls) ≡ concat_map row_bytes ls
rows-bytes [] = refl
rows-bytes (l ∷ ls) = ap (λ (x : List ℕ). row_bytes l ++ x) (rows-bytes ls)

pub length_ids : (ns : List ℕ) → length (list_bytes ns) ≡ 8 * length ns
length_ids [] = refl
length_ids (n ∷ ns) = length-append (bytes_of 8 n) (list_bytes ns) ∙ (rw (length-bytes 8 n, length_ids ns) (omega arith))

pub list_long : (l : NodeList) → length l.nodes ≡ 8 → length (row_bytes l) ≡ 8 * in_use 8 l.count
list_long l e =
    length_ids (view_list l)
    ∙ ap (λ (k : ℕ). 8 * k) (length-map (take l.count l.nodes) (λ (n : DataNodeId). n.0) ∙ length-used 8 l.count l.nodes e)

-- one list more is counted
pub size_step : (xs : List NodeList) (n i : ℕ) → i < n → i < length (take n xs)
    → length (concat_map row_bytes (drop i (take n xs)))
    ≡ length (row_bytes (get_or xs i past_list)) + length (concat_map row_bytes (drop (i + 1) (take n xs)))
size_step xs n i h k =
    let z : drop i (take n xs) ≡ get_or (take n xs) i past_list ∷ drop (i + 1) (take n xs) = rw add-one (drop-cons (take n xs) i past_list k) in
    let g : get_or (take n xs) i past_list ≡ get_or xs i past_list = get_or-take n xs i past_list h in
    ap (λ (l : List NodeList). length (concat_map row_bytes l)) z
    ∙ length-append (row_bytes (get_or (take n xs) i past_list)) (concat_map row_bytes (drop (i + 1) (take n xs)))
    ∙ ap (λ (x : NodeList). length (row_bytes x) + length (concat_map row_bytes (drop (i + 1) (take n xs)))) g

pub size-end : (xs : List NodeList) (i : ℕ) → i ≡ length xs → length (concat_map row_bytes (drop i xs)) ≡ 0
size-end xs i e = ap (λ (j : ℕ). length (concat_map row_bytes (drop j xs))) e ∙ (rw drop-length)
