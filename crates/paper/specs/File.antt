-- Document 01, "Sheet file": its bytes, writing and reading. Assumes nothing.
use Rattle.std.specs.Prelude.{◌≡◌, Bool, cond, ◌&&◌, List, [], ◌∷◌, ◌++◌, map, ℕ, ◌+◌, ◌-◌, ◌*◌, ℤ, pos, negsuc, leb, eqb, length, get_or, take}
use Rattle.lists.specs.Lists.{range, any, each, first}
use Rattle.lists.specs.Bytes.{le, signed, field}
use Rattle.paper.specs.declared.Sizes.{Sizes}
use Rattle.paper.specs.declared.Verdict.{Verdict}
use Rattle.paper.specs.declared.Wrote.{Wrote}
use Rattle.paper.specs.declared.Got.{Got}
use Rattle.paper.specs.Lattice.{axes}
use Rattle.paper.specs.Sheet.{record_length, file_record_length}
use Rattle.paper.specs.Tests.{Test, test, test_at, judge}
use Rattle.paper.specs.Room.{vertex_room, triangle_room, room_tests, output_after}

-- a signed 32-bit number as bits, and bits as one
unfoldable pub bits32 : ℤ → ℕ
bits32 (pos n) = n
bits32 (negsuc n) = 4294967295 - n

abbrev pub signed32 : ℕ → ℤ
signed32 n = signed 2147483648 n

-- what a file holds: V vertex records of four numbers, T triangles of three, and the sizes
pub record Content : Type 0 where
  pub sizes : Sizes
  pub vertices : ℕ
  pub triangles : ℕ
  pub vertex_words : List ℤ
  pub triangle_words : List ℕ

-- the numbers of the first V records of a slice, as a file has them, and of its first T triangles
abbrev pub file_words : ℕ → List ℤ → List ℤ
file_words nv vs = take (record_length * nv) vs

abbrev pub file_indices : ℕ → List ℕ → List ℕ
file_indices nt ts = take (3 * nt) ts

-- the counts and sizes, with these numbers of two slices
abbrev pub content_of : Sizes → ℕ → ℕ → List ℤ → List ℕ → Content
content_of z nv nt vs ts =
    record { sizes = z; vertices = nv; triangles = nt; vertex_words = file_words nv vs; triangle_words = file_indices nt ts }

-- "V vertex records of 16 bytes, T triangles of 12 bytes, then a 24-byte trailer"
abbrev pub trailer_at : ℕ → ℕ → ℕ
trailer_at nv nt = 16 * nv + 12 * nt

unfoldable pub file_length : ℕ → ℕ → ℕ
file_length nv nt = trailer_at nv nt + 24

-- "distance to the vertices (16V + 12T), V, distance to the triangles (12T), T, as four u32; then nx, ny, nz and the mark
-- 21,331 as four u16"
unfoldable pub trailer_bytes : Sizes → ℕ → ℕ → List ℕ
trailer_bytes z nv nt =
    le 4 (trailer_at nv nt)
    ++ le 4 nv
    ++ le 4 (12 * nt)
    ++ le 4 nt
    ++ le 2 z.nx
    ++ le 2 z.ny
    ++ le 2 z.nz
    ++ le 2 21331

-- the whole file, "Little-endian", "Nothing precedes the vertices."
unfoldable pub file_bytes : Content → List ℕ
file_bytes c =
    each (λ w. le 4 (bits32 w)) c.vertex_words
    ++ each (le 4) c.triangle_words
    ++ trailer_bytes c.sizes c.vertices c.triangles

-- 15: "a triangle index is not below V"
unfoldable pub bad_triangle : ℕ → List ℕ → ℕ → Bool
bad_triangle nv ts i = any (λ j. leb nv (get_or ts (3 * i + j) 0)) (range 0 3)

-- the first such triangle of T, or T
unfoldable pub first_bad : ℕ → ℕ → List ℕ → ℕ
first_bad nv nt ts = first (bad_triangle nv ts) nt (range 0 nt)

abbrev pub index_test : ℕ → ℕ → List ℕ → Test
index_test nv nt ts = test_at 15 (first_bad nv nt ts) (eqb (first_bad nv nt ts) nt)

-- "V is at most 2,000,000 and T at most 4,000,000."
unfoldable pub limits : ℕ → ℕ → Bool
limits nv nt = leb nv 2000000 && leb nt 4000000

-- 9: "a count given to the writer exceeds its slice's room, or V's or T's limit"
abbrev pub count_test : ℕ → ℕ → List ℤ → List ℕ → Test
count_test nv nt vs ts = test 9 (leb nv (vertex_room vs) && leb nt (triangle_room ts) && limits nv nt)

-- "Writing: 1, 9, 15, 8."; 8: "the lent bytes are too few for the file", room being their number
unfoldable pub write_verdict : Sizes → ℕ → ℕ → List ℤ → List ℕ → ℕ → Verdict
write_verdict z nv nt vs ts room =
    judge
    (test 1 (axes z)
    ∷ count_test nv nt vs ts
    ∷ index_test nv nt ts
    ∷ test 8 (leb (file_length nv nt) room)
    ∷ [])

-- "Writing returns the bytes written, or 0."
unfoldable pub wrote : Sizes → ℕ → ℕ → List ℤ → List ℕ → ℕ → Wrote
wrote z nv nt vs ts room =
    let v = write_verdict z nv nt vs ts room in
    record { number = v.number; place = v.place; bytes = cond (eqb v.number 0) (file_length nv nt) 0 }

-- what a writer leaves in the lent bytes
abbrev pub bytes_after : Sizes → ℕ → ℕ → List ℤ → List ℕ → List ℕ → List ℕ
bytes_after z nv nt vs ts before =
    output_after (write_verdict z nv nt vs ts (length before)).number (file_bytes (content_of z nv nt vs ts)) before

-- the contract of a writer: its answer, and the bytes it leaves
pub record Writes (z : Sizes) (nv nt : ℕ) (vs : List ℤ) (ts : List ℕ) (before : List ℕ) (r : Wrote) (after : List ℕ) : Type 0 where
  pub answer : r ≡ wrote z nv nt vs ts (length before)
  pub left : after ≡ bytes_after z nv nt vs ts before

-- a trailer "that points back from its own first byte": its k-byte number at a place
unfoldable pub trailer : ℕ → List ℕ → ℕ → ℕ
trailer k bs at = field k bs (length bs - 24 + at)

unfoldable pub file_v : List ℕ → ℕ
file_v bs = trailer 4 bs 4

unfoldable pub file_t : List ℕ → ℕ
file_t bs = trailer 4 bs 12

unfoldable pub file_sizes : List ℕ → Sizes
file_sizes bs = record { nx = trailer 2 bs 16; ny = trailer 2 bs 18; nz = trailer 2 bs 20 }

-- the numbers of the records, and of the triangles
unfoldable pub file_vertices : List ℕ → List ℤ
file_vertices bs = map (λ i. signed32 (field 4 bs (4 * i))) (range 0 (file_record_length * file_v bs))

unfoldable pub file_triangles : List ℕ → List ℕ
file_triangles bs = map (λ i. field 4 bs (16 * file_v bs + 4 * i)) (range 0 (3 * file_t bs))

-- 14: "V or T is above its limit, or a distance or the file's length is not what V and T give"
unfoldable pub laid_out : List ℕ → Bool
laid_out bs =
    limits (file_v bs) (file_t bs)
    && eqb (trailer 4 bs 0) (trailer_at (file_v bs) (file_t bs))
    && eqb (trailer 4 bs 8) (12 * file_t bs)
    && eqb (length bs) (file_length (file_v bs) (file_t bs))

-- "then 11, 12, 1, 14, 15 on the file"
unfoldable pub file_tests : List ℕ → List Test
file_tests bs =
    test 11 (leb 24 (length bs))
    ∷ test 12 (eqb (trailer 2 bs 22) 21331)
    ∷ test 1 (axes (file_sizes bs))
    ∷ test 14 (laid_out bs)
    ∷ index_test (file_v bs) (file_t bs) (file_triangles bs)
    ∷ []

-- "Reading: 11, 12, 1, 14, 15, 6, 7.": vs and ts are the lent slices
unfoldable pub read_verdict : List ℕ → List ℤ → List ℕ → Verdict
read_verdict bs vs ts =
    judge (file_tests bs ++ room_tests (file_v bs) (file_t bs) (vertex_room vs) (triangle_room ts))

-- "Reading returns V, T and the sizes on success, zeros otherwise."
unfoldable pub got : List ℕ → List ℤ → List ℕ → Got
got bs vs ts =
    let v = read_verdict bs vs ts in
    cond (eqb v.number 0)
    (record { number = 0; place = 0; vertices = file_v bs; triangles = file_t bs; sizes = file_sizes bs })
    (record { number = v.number; place = v.place; vertices = 0; triangles = 0; sizes = record { nx = 0; ny = 0; nz = 0 } })

-- what a reader leaves in the two lent slices
abbrev pub vertices_after : List ℕ → List ℤ → List ℕ → List ℤ
vertices_after bs vs ts = output_after (read_verdict bs vs ts).number (file_vertices bs) vs

abbrev pub triangles_after : List ℕ → List ℤ → List ℕ → List ℕ
triangles_after bs vs ts = output_after (read_verdict bs vs ts).number (file_triangles bs) ts

-- the contract of a reader: its answer, and what it leaves
pub record Reads (bs : List ℕ) (vs : List ℤ) (ts : List ℕ) (r : Got) (vs' : List ℤ) (ts' : List ℕ) : Type 0 where
  pub answer : r ≡ got bs vs ts
  pub vertices : vs' ≡ vertices_after bs vs ts
  pub triangles : ts' ≡ triangles_after bs vs ts
