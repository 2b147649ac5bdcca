-- Calls of document 01's definitions, and what each gives as a list of numbers: what the tables of worked sheets are made of. Where a
-- call names no rule of rounding, it is nearest. Assumes nothing.
use mathlib.Core.Bool.{xor}
use mathlib.Core.List.{List, [], ◌∷◌, ◌++◌, map}
use Prim.Native.Nat.{ℕ, ◌+◌, ◌-◌, ◌*◌, ◌/◌}
use lib.IntN.{ℤ, pos, negsuc, nat_abs}
use lib.Dec.{eqb}
use lib.ListN.{length, get_or, set, replicate}
use Rattle.lists.specs.Lists.{range, keep}
use Rattle.lists.specs.Bytes.{signed, field}
use Rattle.lists.specs.Reach.{grow, rounds, reached}
use Rattle.paper.specs.declared.Sizes.{Sizes}
use Rattle.paper.specs.declared.Start.{Start}
use Rattle.paper.specs.declared.Start.TheVariants.{Lowest, Cube}
use Rattle.paper.specs.declared.Rule.{Rule}
use Rattle.paper.specs.declared.Rule.TheVariants.{Nearest}
use Rattle.paper.specs.declared.Built.{Built}
use Rattle.paper.specs.declared.Verdict.{Verdict}
use Rattle.paper.specs.declared.Wrote.{Wrote}
use Rattle.paper.specs.declared.Got.{Got}
use Rattle.paper.specs.Lattice.{Lattice, lattice, place, axis, axes, samples, air, sample_no, sample_at, value_at, air_at}
use Rattle.paper.specs.Lattice.{cubes, cube_no, cube_at, corner, mixed, mixed_at, fill, is_fill, fill_at, in_lattice, free}
use Rattle.paper.specs.Lattice.{visitable, crossed, faces, step_over, steps, visited, lowest, inner, inside, may_start}
use Rattle.paper.specs.Tables.{tets, rows, tet_edges, kinds, low, joins, kind_of}
use Rattle.paper.specs.Sheet.{Sheet, edge_no, anchor_of, ends_of, first_end, second_end, split, cube_edges, vertex_edges}
use Rattle.paper.specs.Sheet.{rounded, crossing, coordinate, record_at, vertex_record, weight, row_of, row_at, tet_edge, tri_edges}
use Rattle.paper.specs.Sheet.{triangles_at, cube_triangles, numbered, sheet_by, sheet_of, vertex_words, triangle_words}
use Rattle.paper.specs.Room.{Work, work, Lengths, lengths, roomy, room_tests, front_after, output_after}
use Rattle.paper.specs.Build.{Lent, lent, start_of, shape_tests, start_tests, sample_tests, build_number, built, lent_after}
use Rattle.paper.specs.File.{Content, content_of, bits32, signed32, file_length, trailer_bytes, file_bytes, bad_triangle}
use Rattle.paper.specs.File.{first_bad, limits, write_verdict, wrote, trailer, file_v, file_t, file_sizes, file_vertices}
use Rattle.paper.specs.File.{file_triangles, laid_out, file_tests, read_verdict, got, bytes_after, vertices_after, triangles_after}
use Rattle.paper.specs.Check.{same_sizes, same_triangle, turned, record_of, edge_of, bad_record, corner_of}
use Rattle.paper.specs.Check.{triangle_of, bad_naming, complete, sheet_tests, checked, checked_after}

pub data Case : Type 0 where
  -- the number and the counts of a build, with room for so many vertices and triangles
  builds : ℕ → ℕ → Lattice → Start → Case
  -- the number of the start cube
  starts_at : Lattice → Start → Case
  -- the numbers of the vertices and of the triangles, under a rule
  lists : Rule → Lattice → Start → Case
  -- the file's length, and its trailer's numbers, under a rule
  files : Rule → Lattice → Case
  -- the check of the lattice's own file, but with these triangles
  checks : Lattice → List ℕ → Case
  -- the check of a file with these vertices and triangles, of these sizes
  checks_file : Lattice → Sizes → List ℤ → List ℕ → Case
  -- the check of these bytes
  checks_bytes : Lattice → List ℕ → Case
  -- the check from one start of the file that is built from another
  checks_from : Lattice → Start → Start → Case
  -- the check under one rule of the file that is made under another
  checks_under : Rule → Rule → Lattice → Case
  -- its number, and then what each work slice holds
  check_leaves : Lattice → List ℕ → Work → Case
  -- the same of a file with these vertices and triangles, of these sizes
  check_file_leaves : Lattice → Sizes → List ℤ → List ℕ → Work → Case
  -- t, under a rule
  crosses : Rule → ℤ → ℤ → Case
  -- the number of a build, and then what each lent slice holds
  leaves : Lattice → Start → Lent → Case
  -- the numbers up to 30 after which work room is cleared
  clears : Case
  -- 1 where so many vertices and triangles are within the limits of a file
  limited : ℕ → ℕ → Case
  -- the answer of a writer: number, place and bytes
  writes : Sizes → ℕ → ℕ → List ℤ → List ℕ → ℕ → Case
  -- what a writer leaves in the lent bytes
  write_leaves : Sizes → ℕ → ℕ → List ℤ → List ℕ → List ℕ → Case
  -- the bytes of a file
  bytes : Content → Case
  -- the answer of a reader: number, place, counts and sizes
  reads : List ℕ → List ℤ → List ℕ → Case
  -- its answer to the file of a content, with slices of these lengths
  reads_file : Content → ℕ → ℕ → Case
  -- what a reader leaves in the lent slices, signed numbers folded
  read_leaves : List ℕ → List ℤ → List ℕ → Case
  -- a signed number read from bits, folded: twice n for n, one more than twice n for −1 − n
  signs : ℕ → Case
  -- the numbers that it reads from the lattice's own file
  rereads : Lattice → Case

abbrev pub sizes : ℕ → ℕ → ℕ → Sizes
sizes nx ny nz = record { nx = nx; ny = ny; nz = nz }

abbrev pub lat : ℕ → ℕ → ℕ → List ℤ → Lattice
lat nx ny nz s = lattice (sizes nx ny nz) s

abbrev pub at : ℕ → ℕ → ℕ → Start
at x y z = Cube (place x y z)

abbrev room : ℕ → ℕ → Lent
room nv nt = lent (replicate (4 * nv) (pos 0)) (replicate (3 * nt) 0) (work (replicate 45 0) (replicate 45 0) (replicate 672 0))

-- the lengths of work room that is enough for the lattices below
abbrev enough : Lengths
enough = record { words = 45; waiting = 45; slots = 672 }

abbrev answer : Built → List ℕ
answer b = b.number ∷ b.vertices ∷ b.triangles ∷ b.cubes ∷ []

abbrev listed : Sheet → List ℕ
listed S = map nat_abs (vertex_words S) ++ triangle_words S

abbrev file : Lattice → Sheet → ℕ → List ℕ → List ℕ
file L S nt ts = file_bytes (content_of L.size (length S.edges) nt (vertex_words S) ts)

abbrev filed : List ℕ → List ℕ
filed bs =
    let p = length bs - 24 in
    length bs ∷ field 4 bs p ∷ field 4 bs (p + 4) ∷ field 4 bs (p + 8) ∷ field 4 bs (p + 12)
    ∷ field 2 bs (p + 16) ∷ field 2 bs (p + 18) ∷ field 2 bs (p + 20) ∷ field 2 bs (p + 22) ∷ []

abbrev says : Verdict → List ℕ
says v = v.number ∷ v.place ∷ []

abbrev pub works : Work → List ℕ
works w = w.words ++ w.waiting ++ w.slots

abbrev check_left : Lattice → List ℕ → Work → List ℕ
check_left L bs w = (checked Nearest L Lowest bs (lengths w)).number ∷ works (checked_after Nearest L Lowest bs w)

abbrev pub numbers : Lent → List ℕ
numbers l = map nat_abs l.vertices ++ l.triangles ++ works l.work

abbrev written : Wrote → List ℕ
written w = w.number ∷ w.place ∷ w.bytes ∷ []

abbrev read : Got → List ℕ
read g =
    g.number ∷ g.place ∷ g.vertices ∷ g.triangles ∷ g.sizes.nx ∷ g.sizes.ny ∷ g.sizes.nz ∷ []

abbrev folded : ℤ → ℕ
folded (pos n) = 2 * n
folded (negsuc n) = 2 * n + 1

third : ℕ → ℕ
third n = n / 3

fourth : ℕ → ℕ
fourth n = n / 4

unfoldable pub outcome : Case → List ℕ
unfolding third fourth grow rounds reached axis axes samples air sample_no sample_at value_at air_at cubes cube_no cube_at corner
    mixed mixed_at is_fill fill_at in_lattice free visitable crossed faces step_over steps visited lowest inner inside may_start
    tets rows tet_edges kinds low joins kind_of edge_no anchor_of ends_of first_end second_end split cube_edges vertex_edges rounded
    crossing coordinate record_at vertex_record row_of row_at tet_edge tri_edges triangles_at cube_triangles numbered sheet_by sheet_of
    vertex_words triangle_words xor roomy shape_tests start_tests sample_tests room_tests build_number built front_after output_after
    lent_after field bits32 signed file_length trailer_bytes file_bytes bad_triangle first_bad limits write_verdict wrote trailer
    file_v file_t file_sizes file_vertices file_triangles laid_out file_tests read_verdict got same_sizes same_triangle turned
    record_of edge_of bad_record corner_of triangle_of bad_naming complete sheet_tests checked checked_after
outcome (builds nv nt L s) = answer (built L s (room nv nt))
outcome (starts_at L s) = start_of L s ∷ []
outcome (lists rule L s) = listed (sheet_of rule L (start_of L s))
outcome (files rule L) = let S = sheet_of rule L (start_of L Lowest) in filed (file L S (length S.triangles) (triangle_words S))
outcome (checks L ts) = says (checked Nearest L Lowest (file L (sheet_of Nearest L (start_of L Lowest)) (third (length ts)) ts) enough)
outcome (checks_file L z vs ts) =
    says (checked Nearest L Lowest (file_bytes (content_of z (fourth (length vs)) (third (length ts)) vs ts)) enough)
outcome (checks_bytes L bs) = says (checked Nearest L Lowest bs enough)
outcome (checks_from L s t) =
    let S = sheet_of Nearest L (start_of L t) in
    says (checked Nearest L s (file L S (length S.triangles) (triangle_words S)) enough)
outcome (checks_under r q L) =
    let S = sheet_of q L (start_of L Lowest) in
    says (checked r L Lowest (file L S (length S.triangles) (triangle_words S)) enough)
outcome (check_leaves L bs w) = check_left L bs w
outcome (check_file_leaves L z vs ts w) = check_left L (file_bytes (content_of z (fourth (length vs)) (third (length ts)) vs ts)) w
outcome (crosses rule p q) = crossing rule p q ∷ []
outcome (leaves L s l) = build_number L s l ∷ numbers (lent_after L s l)
outcome clears = keep (λ n. eqb (get_or (front_after n 1 (5 ∷ 5 ∷ [])) 0 0) 0) (range 0 31)
outcome (limited nv nt) = weight (limits nv nt) 1 ∷ []
outcome (writes z nv nt vs ts room) = written (wrote z nv nt vs ts room)
outcome (write_leaves z nv nt vs ts before) = bytes_after z nv nt vs ts before
outcome (bytes c) = file_bytes c
outcome (reads bs vs ts) = read (got bs vs ts)
outcome (reads_file c nv nt) = read (got (file_bytes c) (replicate nv (pos 0)) (replicate nt 0))
outcome (read_leaves bs vs ts) = map folded (vertices_after bs vs ts) ++ triangles_after bs vs ts
outcome (signs n) = folded (signed32 n) ∷ []
outcome (rereads L) =
    let S = sheet_of Nearest L (start_of L Lowest) in
    let bs = file L S (length S.triangles) (triangle_words S) in
    map nat_abs (file_vertices bs) ++ file_triangles bs

-- a row of a table: a call, and what it gives
pub record Row : Type 0 where
  pub case : Case
  pub is : List ℕ

abbrev pub table_row : Case → List ℕ → Row
table_row c l = record { case = c; is = l }

-- −1, solid, and 1, air
abbrev pub o : ℤ
o = negsuc 0

abbrev pub a : ℤ
a = pos 1

abbrev pub first_air : Lattice
first_air = lat 2 2 2 (pos 3 ∷ o ∷ o ∷ o ∷ o ∷ o ∷ o ∷ o ∷ [])

abbrev pub rtn_air : Lattice
rtn_air = lat 2 2 2 (o ∷ o ∷ o ∷ a ∷ o ∷ o ∷ o ∷ o ∷ [])

abbrev pub middle_air : Lattice
middle_air = lat 3 3 3 (replicate 13 o ++ a ∷ replicate 13 o)

abbrev pub two_air : Lattice
two_air = lat 5 2 2 (a ∷ o ∷ o ∷ o ∷ a ∷ replicate 15 o)

abbrev pub zero_solid : Lattice
zero_solid = lat 2 2 2 (pos 0 ∷ a ∷ replicate 6 (pos 0))

abbrev pub steep : Lattice
steep = lat 2 2 2 (a ∷ replicate 7 (negsuc 1))

abbrev pub far_air : Lattice
far_air = lat 2 2 2 (o ∷ o ∷ o ∷ o ∷ o ∷ a ∷ o ∷ a ∷ [])

-- with zero-solid and rtn-air, these two use every row
abbrev pub five_air : Lattice
five_air = lat 2 2 2 (a ∷ o ∷ a ∷ o ∷ a ∷ a ∷ a ∷ o ∷ [])

abbrev pub split_air : Lattice
split_air = lat 2 2 2 (a ∷ a ∷ o ∷ a ∷ a ∷ o ∷ o ∷ a ∷ [])

-- only (2, 0, 0), (0, 3, 1) and (2, 3, 2) air, in three pieces; (1, 3, 1) is −3
abbrev pub uneven : Lattice
uneven = lat 3 4 3 (o ∷ o ∷ a ∷ replicate 18 o ++ a ∷ negsuc 2 ∷ replicate 12 o ++ a ∷ [])

-- 4×4×4, only sample i air
abbrev pub one_air : ℕ → Lattice
one_air i = lat 4 4 4 (set (replicate 64 o) i a)

-- 6×4×4, only (0, 0, 0) and (4, 2, 2) air
abbrev pub tray : Lattice
tray = lat 6 4 4 (a ∷ replicate 63 o ++ a ∷ replicate 31 o)

-- the fill
abbrev pub f : ℤ
f = fill

-- only (1, 1, 1) air, (0, 0, 0) fill
abbrev pub corner_fill : Lattice
corner_fill = lat 3 3 3 (f ∷ replicate 12 o ++ a ∷ replicate 13 o)

-- only (1, 1, 0) air, (0, 0, 0) and (2, 2, 0) fill: the cubes (1, 0, 0) and (0, 1, 0) share an edge and no face
abbrev pub parted : Lattice
parted = lat 3 3 2 (f ∷ o ∷ o ∷ o ∷ a ∷ o ∷ o ∷ o ∷ f ∷ replicate 9 o)

-- a cube with the fill at one corner and air at another
abbrev pub filled : ℕ → ℕ → Lattice
filled i j = lat 2 2 2 (set (set (replicate 8 o) i f) j a)

-- slices of these lengths, full of 5, 6 and 7; and with output full of 9 and 8
abbrev pub full : ℕ → ℕ → ℕ → Work
full cw wl es = work (replicate cw 5) (replicate wl 6) (replicate es 7)

abbrev pub used : ℕ → ℕ → ℕ → ℕ → ℕ → Lent
used vs ts cw wl es = lent (replicate vs (pos 9)) (replicate ts 8) (full cw wl es)

-- full 2 2 57, cleared as 2×2×2 samples need
abbrev pub clear_front : List ℕ
clear_front = 0 ∷ 5 ∷ 0 ∷ 6 ∷ replicate 56 0 ++ 7 ∷ []

-- the vertex records of first-air
abbrev pub three_records : List ℤ
three_records =
    pos 0 ∷ pos 49152 ∷ pos 0 ∷ pos 0 ∷ pos 1 ∷ pos 0 ∷ pos 49152 ∷ pos 0 ∷ pos 2 ∷ pos 0 ∷ pos 0 ∷ pos 49152 ∷ []

-- a record of both signs; the bytes of it, one triangle of zeros, and the sizes 2, 3, 64
abbrev pub small_record : List ℤ
small_record = negsuc 1 ∷ pos 258 ∷ pos 0 ∷ negsuc 2147483647 ∷ []

abbrev pub small_file : List ℕ
small_file =
    254 ∷ 255 ∷ 255 ∷ 255 ∷ 2 ∷ 1 ∷ 0 ∷ 0 ∷ 0 ∷ 0 ∷ 0 ∷ 0 ∷ 0 ∷ 0 ∷ 0 ∷ 128
    ∷ replicate 12 0
    ++ 28 ∷ 0 ∷ 0 ∷ 0 ∷ 1 ∷ 0 ∷ 0 ∷ 0 ∷ 12 ∷ 0 ∷ 0 ∷ 0 ∷ 1 ∷ 0 ∷ 0 ∷ 0 ∷ 2 ∷ 0 ∷ 3 ∷ 0 ∷ 64 ∷ 0 ∷ 83 ∷ 83 ∷ []
