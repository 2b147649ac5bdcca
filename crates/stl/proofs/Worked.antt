-- Worked values of (i), in one table with one theorem, by computation. Assumes nothing.
use mathlib.Core.Path.{◌≡◌, refl}
use mathlib.Core.Bool.{cond}
use mathlib.Core.List.{List, [], ◌∷◌, ◌++◌, map}
use Prim.Native.Nat.{ℕ}
use lib.IntN.{ℤ, pos, negsuc, nat_abs}
use lib.ListN.{take, set, replicate}
use lib.Ieee.{binary32, of_bits, of_fields, odd, to_bits, is_nan, round, units, size, span, climb}
use Rattle.lists.specs.Bytes.{field}
use Rattle.paper.specs.declared.Wrote.{Wrote}
use Rattle.paper.specs.File.{bad_triangle, first_bad, limits}
use Rattle.facets.specs.Steps.{float_of, in_bounds, nat_of, scaled, is_image, word_of}
use Rattle.facets.specs.Facets.{corner_of, corner_bytes, facet_bytes, corner_at, facet_at, corner_stands, facet_stands, corner_words, facet_words}
use Rattle.stl.specs.declared.Loaded.{Loaded}
use Rattle.stl.specs.Stl.{vertex_corner, vertex_within, triangle_bytes, triangle_within}
use Rattle.stl.specs.Stl.{header, stl_bytes, first_outside, stl_write_verdict, stl_wrote}
use Rattle.stl.specs.Stl.{stl_count, stl_facet, nine_at, stl_words, first_untaken, stl_read_verdict, stl_loaded}

data Case : Type 0 where
  -- the bits of a coordinate's float
  gives : ℕ → Case
  -- the coordinate that 32 bits stand for, if any
  stands : ℕ → Case
  -- the answer of a writer: number, place and bytes
  writes : ℕ → ℕ → List ℤ → List ℕ → ℕ → Case
  -- the bytes of a file
  bytes : ℕ → List ℤ → List ℕ → Case
  -- the answer of a reader with so much room: number, place and facets
  reads : List ℕ → ℕ → Case
  -- the integers that it reads
  rereads : List ℕ → Case

wrote_list : Wrote → List ℕ
wrote_list r = r.number ∷ r.place ∷ r.bytes ∷ []

loaded_list : Loaded → List ℕ
loaded_list r = r.number ∷ r.place ∷ r.facets ∷ []

outcome : Case → List ℕ
unfolding wrote_list loaded_list to_bits of_bits of_fields odd is_nan round units size span climb field bad_triangle first_bad limits float_of
    in_bounds nat_of scaled is_image word_of corner_of corner_bytes facet_bytes corner_at facet_at corner_stands facet_stands corner_words facet_words
    vertex_corner vertex_within triangle_bytes triangle_within header stl_bytes first_outside stl_write_verdict stl_wrote stl_count stl_facet nine_at
    stl_words first_untaken stl_read_verdict stl_loaded
outcome (gives n) = to_bits binary32 (float_of n) ∷ []
outcome (stands b) = cond (is_image (of_bits binary32 b)) (nat_abs (word_of (of_bits binary32 b)) ∷ []) []
outcome (writes nv nt vs ts room) = wrote_list (stl_wrote nv nt vs ts room)
outcome (bytes nt vs ts) = stl_bytes nt vs ts
outcome (reads bs room) = loaded_list (stl_loaded bs room)
outcome (rereads bs) = map nat_abs (stl_words bs)

record Row : Type 0 where
  pub case : Case
  pub is : List ℕ

table_row : Case → List ℕ → Row
table_row c l = record { case = c; is = l }

-- the sheet of the listing in document 01, with a fourth vertex at (x, 4,128,768, 0)
vertices : ℤ → List ℤ
vertices x =
    (pos 0 ∷ pos 49152 ∷ pos 0 ∷ pos 0 ∷ pos 1 ∷ pos 0 ∷ pos 49152 ∷ pos 0 ∷ pos 2 ∷ pos 0 ∷ pos 0 ∷ pos 49152 ∷ [])
    ++ pos 3 ∷ x ∷ pos 4128768 ∷ pos 0 ∷ []

triangle : List ℕ
triangle = 1 ∷ 2 ∷ 0 ∷ []

-- its file: corners (0, 0.75, 0), (0.75, 0, 0), (0, 0, 0.75)
facet : List ℕ
facet =
    replicate 12 0
    ++ 0 ∷ 0 ∷ 0 ∷ 0 ∷ 0 ∷ 0 ∷ 64 ∷ 63 ∷ 0 ∷ 0 ∷ 0 ∷ 0 ∷ 0 ∷ 0 ∷ 64 ∷ 63 ∷ replicate 8 0
    ++ replicate 8 0
    ++ 0 ∷ 0 ∷ 64 ∷ 63 ∷ 0 ∷ 0 ∷ []

file : List ℕ
file = replicate 80 0 ++ 1 ∷ 0 ∷ 0 ∷ 0 ∷ facet

two : List ℕ
two = replicate 80 0 ++ 2 ∷ 0 ∷ 0 ∷ 0 ∷ facet ++ facet

table : List Row
unfolding vertices triangle facet file two table_row
table =
    -- 0.75, 63, one unit below, one unit, none
    table_row (gives 49152) (1061158912 ∷ [])
    ∷ table_row (gives 4128768) (1115422720 ∷ [])
    ∷ table_row (gives 4128767) (1115422716 ∷ [])
    ∷ table_row (gives 1) (931135488 ∷ [])
    ∷ table_row (gives 0) (0 ∷ [])
    -- and back; minus zero, -0.75, not a number, infinity, 63 and one unit, the float after 63, half a unit
    ∷ table_row (stands 1061158912) (49152 ∷ [])
    ∷ table_row (stands 1115422720) (4128768 ∷ [])
    ∷ table_row (stands 1115422716) (4128767 ∷ [])
    ∷ table_row (stands 931135488) (1 ∷ [])
    ∷ table_row (stands 0) (0 ∷ [])
    ∷ table_row (stands 2147483648) []
    ∷ table_row (stands 3208642560) []
    ∷ table_row (stands 2143289344) []
    ∷ table_row (stands 2139095040) []
    ∷ table_row (stands 1115422724) []
    ∷ table_row (stands 1115422721) []
    ∷ table_row (stands 922746880) []
    -- writing: the listing's sheet, and a vertex outside that no triangle names
    ∷ table_row (writes 3 1 (vertices (pos 0)) triangle 134) (0 ∷ 0 ∷ 134 ∷ [])
    ∷ table_row (writes 4 1 (vertices (negsuc 0)) triangle 134) (0 ∷ 0 ∷ 134 ∷ [])
    ∷ table_row (writes 4 0 [] [] 84) (9 ∷ 0 ∷ 0 ∷ [])
    ∷ table_row (writes 0 0 [] [] 84) (0 ∷ 0 ∷ 84 ∷ [])
    ∷ table_row (bytes 1 (vertices (pos 0)) triangle) file
    -- 9, 15, 25, 8 in this order
    ∷ table_row (writes 3 1 (vertices (pos 0)) triangle 133) (8 ∷ 0 ∷ 0 ∷ [])
    ∷ table_row (writes 4 2 (vertices (pos 4128768)) (triangle ++ 0 ∷ 3 ∷ 1 ∷ []) 184) (0 ∷ 0 ∷ 184 ∷ [])
    ∷ table_row (writes 4 2 (vertices (pos 4128769)) (triangle ++ 0 ∷ 3 ∷ 1 ∷ []) 0) (25 ∷ 1 ∷ 0 ∷ [])
    ∷ table_row (writes 4 2 (vertices (negsuc 0)) (triangle ++ 0 ∷ 1 ∷ 3 ∷ []) 0) (25 ∷ 1 ∷ 0 ∷ [])
    ∷ table_row (writes 4 2 (vertices (negsuc 0)) (3 ∷ 1 ∷ 0 ∷ 0 ∷ 1 ∷ 4 ∷ []) 0) (15 ∷ 1 ∷ 0 ∷ [])
    ∷ table_row (writes 3 2 (vertices (pos 0)) (triangle ++ 0 ∷ 1 ∷ 3 ∷ []) 0) (15 ∷ 1 ∷ 0 ∷ [])
    ∷ table_row (writes 5 1 (vertices (pos 0)) (1 ∷ 9 ∷ 0 ∷ []) 0) (9 ∷ 0 ∷ 0 ∷ [])
    ∷ table_row (writes 3 2 (vertices (pos 0)) (1 ∷ 9 ∷ 0 ∷ []) 0) (9 ∷ 0 ∷ 0 ∷ [])
    -- reading, in the sheet's order; header, normal and attribute are ignored
    ∷ table_row (rereads file) (0 ∷ 49152 ∷ 0 ∷ 0 ∷ 0 ∷ 49152 ∷ 49152 ∷ 0 ∷ 0 ∷ [])
    ∷ table_row (reads file 9) (0 ∷ 0 ∷ 1 ∷ [])
    ∷ table_row (reads (set (set (set file 79 255) 84 7) 133 1) 9) (0 ∷ 0 ∷ 1 ∷ [])
    ∷ table_row (reads (replicate 84 0) 0) (0 ∷ 0 ∷ 0 ∷ [])
    -- 14, 25, 7 in this order
    ∷ table_row (reads file 8) (7 ∷ 0 ∷ 0 ∷ [])
    ∷ table_row (reads two 18) (0 ∷ 0 ∷ 2 ∷ [])
    ∷ table_row (reads (set two 161 128) 0) (25 ∷ 1 ∷ 0 ∷ [])
    ∷ table_row (reads (set file 99 128) 0) (25 ∷ 0 ∷ 0 ∷ [])
    ∷ table_row (reads (set (set file 80 2) 99 128) 0) (14 ∷ 0 ∷ 0 ∷ [])
    ∷ table_row (reads (take 133 file) 9) (14 ∷ 0 ∷ 0 ∷ [])
    ∷ table_row (reads (file ++ 0 ∷ []) 9) (14 ∷ 0 ∷ 0 ∷ [])
    ∷ table_row (reads (replicate 83 0) 9) (14 ∷ 0 ∷ 0 ∷ [])
    ∷ table_row (reads [] 9) (14 ∷ 0 ∷ 0 ∷ [])
    ∷ []

worked : map (λ r. outcome r.case) table ≡ map (λ r. r.is) table
unfolding outcome table vertices triangle facet file two table_row
worked = refl
