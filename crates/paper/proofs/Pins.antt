-- Further rows, which the sheets marked P leave open: each refuses a single change of a definition that the others let pass. One table
-- with one theorem, by computation. Assumes nothing.
use mathlib.Core.Path.{◌≡◌, refl}
use mathlib.Core.List.{List, [], ◌∷◌, ◌++◌, map}
use Prim.Native.Nat.{ℕ}
use lib.IntN.{pos, negsuc}
use lib.ListN.{set, replicate, take, drop}
use Rattle.paper.specs.declared.Sizes.{Sizes}
use Rattle.paper.specs.declared.Start.TheVariants.{Unnamed, Lowest}
use Rattle.paper.specs.declared.Rule.TheVariants.{Down, Nearest}
use Rattle.paper.specs.File.{content_of}
use Rattle.paper.proofs.Cases.{Case, builds, starts_at, lists, checks, checks_file, checks_bytes, checks_from}
use Rattle.paper.proofs.Cases.{checks_under, crosses, check_leaves, check_file_leaves, leaves, clears, limited, writes}
use Rattle.paper.proofs.Cases.{write_leaves, bytes, reads, reads_file, read_leaves, signs, rereads, Row, table_row, outcome}
use Rattle.paper.proofs.Cases.{sizes, lat, at, works, numbers, o, a, first_air, rtn_air, middle_air, two_air}
use Rattle.paper.proofs.Cases.{zero_solid, steep, far_air, five_air, split_air, uneven, one_air, tray, corner_fill}
use Rattle.paper.proofs.Cases.{parted, filled, full, clear_front, used, three_records, small_record, small_file}

-- the check, for first-air, of a file of these sizes with these vertices, none below 0, and triangles
abbrev checks_first : Sizes → List ℕ → List ℕ → Case
checks_first z vs ts = checks_file first_air z (map pos vs) ts

table : List Row
table =
    table_row (checks first_air (2 ∷ 0 ∷ 1 ∷ [])) (0 ∷ 0 ∷ [])
    ∷ table_row (checks first_air (1 ∷ 0 ∷ 2 ∷ [])) (18 ∷ 0 ∷ [])
    ∷ table_row (checks first_air (1 ∷ 2 ∷ 0 ∷ 1 ∷ 2 ∷ 0 ∷ [])) (18 ∷ 1 ∷ [])
    ∷ table_row (checks first_air []) (19 ∷ 0 ∷ [])
    -- every row and kind; 0 beside 1; a crossing that is no whole number of units; three axes that differ
    ∷ table_row (lists Nearest rtn_air Lowest)
    (6 ∷ 32768 ∷ 32768 ∷ 32768 ∷ 8 ∷ 65536 ∷ 32768 ∷ 0 ∷ 10 ∷ 65536 ∷ 32768 ∷ 32768
    ∷ 14 ∷ 32768 ∷ 65536 ∷ 0 ∷ 18 ∷ 32768 ∷ 65536 ∷ 32768 ∷ 23 ∷ 65536 ∷ 65536 ∷ 32768
    ∷ 3 ∷ 1 ∷ 0 ∷ 3 ∷ 0 ∷ 4 ∷ 1 ∷ 2 ∷ 0 ∷ 0 ∷ 2 ∷ 4 ∷ 4 ∷ 2 ∷ 5 ∷ [])
    ∷ table_row (lists Nearest zero_solid Lowest)
    (0 ∷ 0 ∷ 0 ∷ 0 ∷ 4 ∷ 0 ∷ 0 ∷ 65536 ∷ 5 ∷ 0 ∷ 65536 ∷ 0 ∷ 8 ∷ 65536 ∷ 65536 ∷ 0 ∷ 9 ∷ 65536 ∷ 0 ∷ 65536
    ∷ 0 ∷ 1 ∷ 2 ∷ 2 ∷ 1 ∷ 3 ∷ 3 ∷ 1 ∷ 4 ∷ [])
    ∷ table_row (lists Nearest steep Lowest) (0 ∷ 21845 ∷ 0 ∷ 0 ∷ 1 ∷ 0 ∷ 21845 ∷ 0 ∷ 2 ∷ 0 ∷ 0 ∷ 21845 ∷ 1 ∷ 2 ∷ 0 ∷ [])
    ∷ table_row (lists Nearest far_air Lowest)
    (9 ∷ 65536 ∷ 0 ∷ 32768 ∷ 10 ∷ 65536 ∷ 32768 ∷ 32768 ∷ 23 ∷ 65536 ∷ 65536 ∷ 32768
    ∷ 28 ∷ 32768 ∷ 0 ∷ 65536 ∷ 33 ∷ 32768 ∷ 32768 ∷ 65536 ∷ 42 ∷ 32768 ∷ 65536 ∷ 65536
    ∷ 0 ∷ 3 ∷ 1 ∷ 3 ∷ 4 ∷ 1 ∷ 1 ∷ 4 ∷ 5 ∷ 1 ∷ 5 ∷ 2 ∷ [])
    ∷ table_row (lists Nearest five_air Lowest)
    (0 ∷ 32768 ∷ 0 ∷ 0 ∷ 4 ∷ 32768 ∷ 0 ∷ 32768 ∷ 5 ∷ 32768 ∷ 32768 ∷ 0 ∷ 6 ∷ 32768 ∷ 32768 ∷ 32768
    ∷ 9 ∷ 65536 ∷ 0 ∷ 32768 ∷ 10 ∷ 65536 ∷ 32768 ∷ 32768 ∷ 14 ∷ 32768 ∷ 65536 ∷ 0
    ∷ 18 ∷ 32768 ∷ 65536 ∷ 32768 ∷ 36 ∷ 65536 ∷ 32768 ∷ 65536 ∷ 42 ∷ 32768 ∷ 65536 ∷ 65536
    ∷ 1 ∷ 0 ∷ 2 ∷ 6 ∷ 3 ∷ 1 ∷ 6 ∷ 1 ∷ 2 ∷ 6 ∷ 7 ∷ 3 ∷ 5 ∷ 4 ∷ 1 ∷ 5 ∷ 1 ∷ 3 ∷ 3 ∷ 7 ∷ 5 ∷ 5 ∷ 7 ∷ 9 ∷ 5 ∷ 9 ∷ 8 ∷ [])
    ∷ table_row (lists Nearest split_air Lowest)
    (1 ∷ 0 ∷ 32768 ∷ 0 ∷ 3 ∷ 0 ∷ 32768 ∷ 32768 ∷ 5 ∷ 32768 ∷ 32768 ∷ 0 ∷ 9 ∷ 65536 ∷ 0 ∷ 32768
    ∷ 10 ∷ 65536 ∷ 32768 ∷ 32768 ∷ 14 ∷ 32768 ∷ 65536 ∷ 0 ∷ 18 ∷ 32768 ∷ 65536 ∷ 32768 ∷ 28 ∷ 32768 ∷ 0 ∷ 65536
    ∷ 29 ∷ 0 ∷ 32768 ∷ 65536 ∷ 36 ∷ 65536 ∷ 32768 ∷ 65536 ∷ 42 ∷ 32768 ∷ 65536 ∷ 65536
    ∷ 0 ∷ 1 ∷ 2 ∷ 5 ∷ 2 ∷ 1 ∷ 5 ∷ 1 ∷ 8 ∷ 5 ∷ 8 ∷ 6 ∷ 3 ∷ 4 ∷ 7 ∷ 4 ∷ 6 ∷ 8 ∷ 4 ∷ 8 ∷ 7 ∷ 6 ∷ 4 ∷ 9 ∷ 6 ∷ 9 ∷ 10 ∷ [])
    ∷ table_row (lists Nearest uneven Lowest)
    (7 ∷ 98304 ∷ 0 ∷ 0 ∷ 11 ∷ 98304 ∷ 0 ∷ 32768 ∷ 12 ∷ 98304 ∷ 32768 ∷ 0
    ∷ 15 ∷ 131072 ∷ 32768 ∷ 0 ∷ 16 ∷ 131072 ∷ 0 ∷ 32768
    ∷ 0 ∷ 1 ∷ 2 ∷ 2 ∷ 1 ∷ 3 ∷ 3 ∷ 1 ∷ 4 ∷ [])
    ∷ table_row (lists Nearest uneven (at 0 2 1))
    (65 ∷ 0 ∷ 196608 ∷ 32768 ∷ 67 ∷ 32768 ∷ 196608 ∷ 32768 ∷ 127 ∷ 0 ∷ 163840 ∷ 65536 ∷ 129 ∷ 0 ∷ 163840 ∷ 98304
    ∷ 131 ∷ 32768 ∷ 163840 ∷ 65536 ∷ 147 ∷ 16384 ∷ 196608 ∷ 65536 ∷ 149 ∷ 0 ∷ 196608 ∷ 98304
    ∷ 1 ∷ 2 ∷ 0 ∷ 1 ∷ 4 ∷ 2 ∷ 1 ∷ 5 ∷ 4 ∷ 2 ∷ 4 ∷ 3 ∷ 5 ∷ 3 ∷ 4 ∷ 5 ∷ 6 ∷ 3 ∷ [])
    ∷ table_row (lists Nearest uneven (at 1 2 1))
    (163 ∷ 131072 ∷ 196608 ∷ 98304 ∷ 225 ∷ 131072 ∷ 163840 ∷ 131072 ∷ 238 ∷ 98304 ∷ 196608 ∷ 131072 ∷ 0 ∷ 1 ∷ 2 ∷ [])
    -- document 02 (vi): the same under document 01's rule, and each rule's file under both
    ∷ table_row (lists Down steep Lowest) (0 ∷ 21846 ∷ 0 ∷ 0 ∷ 1 ∷ 0 ∷ 21846 ∷ 0 ∷ 2 ∷ 0 ∷ 0 ∷ 21846 ∷ 1 ∷ 2 ∷ 0 ∷ [])
    ∷ table_row (checks_under Down Down steep) (0 ∷ 0 ∷ [])
    ∷ table_row (checks_under Nearest Nearest steep) (0 ∷ 0 ∷ [])
    ∷ table_row (checks_under Nearest Down steep) (17 ∷ 0 ∷ [])
    ∷ table_row (checks_under Down Nearest steep) (17 ∷ 0 ∷ [])
    ∷ table_row (leaves steep Lowest (used 12 3 1 1 56))
    (0 ∷ 0 ∷ 21845 ∷ 0 ∷ 0 ∷ 1 ∷ 0 ∷ 21845 ∷ 0 ∷ 2 ∷ 0 ∷ 0 ∷ 21845 ∷ 1 ∷ 2 ∷ 0 ∷ replicate 58 0)
    -- t under nearest, where it differs from document 01's and where it does not
    ∷ table_row (crosses Nearest (pos 0) (pos 1)) (0 ∷ [])
    ∷ table_row (crosses Nearest (negsuc 1) (pos 1)) (43691 ∷ [])
    ∷ table_row (crosses Nearest (negsuc 2) (pos 2)) (39322 ∷ [])
    ∷ table_row (crosses Nearest (negsuc 0) (pos 5)) (10923 ∷ [])
    ∷ table_row (crosses Nearest (negsuc 0) (pos 2)) (21845 ∷ [])
    ∷ table_row (crosses Nearest (negsuc 32766) (pos 1)) (65534 ∷ [])
    ∷ table_row (crosses Nearest (negsuc 0) (pos 32767)) (2 ∷ [])
    ∷ table_row (crosses Down (negsuc 2) (pos 2)) (39321 ∷ [])
    ∷ table_row (crosses Down (negsuc 0) (pos 5)) (10922 ∷ [])
    ∷ table_row (crosses Down (negsuc 0) (pos 2)) (21845 ∷ [])
    ∷ table_row (crosses Down (negsuc 32766) (pos 1)) (65534 ∷ [])
    -- a tie, which no 16-bit values have, goes to the solid end
    ∷ table_row (crosses Nearest (negsuc 0) (pos 131071)) (0 ∷ [])
    -- steps: across a mixed face, and not across a face all solid or all air between crossed cubes
    ∷ table_row (builds 100 100 (lat 3 3 2 (o ∷ a ∷ replicate 16 o)) Lowest) (0 ∷ 6 ∷ 4 ∷ 2 ∷ [])
    ∷ table_row (builds 100 100 (lat 3 2 2 (a ∷ o ∷ a ∷ replicate 9 o)) Lowest) (0 ∷ 3 ∷ 1 ∷ 1 ∷ [])
    ∷ table_row (builds 100 100 (lat 3 2 2 (o ∷ a ∷ o ∷ o ∷ a ∷ o ∷ o ∷ a ∷ o ∷ o ∷ a ∷ o ∷ [])) Lowest) (0 ∷ 9 ∷ 8 ∷ 1 ∷ [])
    ∷ table_row (builds 100 100 (lat 2 2 2 (replicate 8 a)) Lowest) (5 ∷ 0 ∷ 0 ∷ 0 ∷ [])
    -- document 02 (iii): a start that holds the fill, starts beside it, and two pieces that fill parts
    ∷ table_row (builds 100 100 corner_fill (at 0 0 0)) (5 ∷ 0 ∷ 0 ∷ 0 ∷ [])
    ∷ table_row (builds 100 100 corner_fill (at 1 0 0)) (0 ∷ 14 ∷ 23 ∷ 7 ∷ [])
    ∷ table_row (builds 100 100 corner_fill Lowest) (0 ∷ 14 ∷ 23 ∷ 7 ∷ [])
    ∷ table_row (builds 100 100 parted (at 1 0 0)) (0 ∷ 5 ∷ 3 ∷ 1 ∷ [])
    ∷ table_row (builds 100 100 parted (at 0 1 0)) (0 ∷ 5 ∷ 3 ∷ 1 ∷ [])
    ∷ table_row (lists Nearest parted (at 1 0 0))
    (8 ∷ 65536 ∷ 32768 ∷ 0 ∷ 10 ∷ 65536 ∷ 32768 ∷ 32768 ∷ 12 ∷ 98304 ∷ 32768 ∷ 0
    ∷ 28 ∷ 98304 ∷ 65536 ∷ 0 ∷ 30 ∷ 65536 ∷ 65536 ∷ 32768
    ∷ 0 ∷ 2 ∷ 1 ∷ 3 ∷ 1 ∷ 2 ∷ 3 ∷ 4 ∷ 1 ∷ [])
    ∷ table_row (lists Nearest parted (at 0 1 0))
    (21 ∷ 32768 ∷ 65536 ∷ 0 ∷ 25 ∷ 32768 ∷ 65536 ∷ 32768 ∷ 26 ∷ 32768 ∷ 98304 ∷ 0
    ∷ 29 ∷ 65536 ∷ 98304 ∷ 0 ∷ 30 ∷ 65536 ∷ 65536 ∷ 32768
    ∷ 0 ∷ 1 ∷ 2 ∷ 2 ∷ 1 ∷ 3 ∷ 3 ∷ 1 ∷ 4 ∷ [])
    -- the fill at each corner of a cube; −32767 is none
    ∷ table_row (builds 9 9 (filled 0 7) Lowest) (5 ∷ 0 ∷ 0 ∷ 0 ∷ [])
    ∷ table_row (builds 9 9 (filled 1 7) Lowest) (5 ∷ 0 ∷ 0 ∷ 0 ∷ [])
    ∷ table_row (builds 9 9 (filled 2 7) Lowest) (5 ∷ 0 ∷ 0 ∷ 0 ∷ [])
    ∷ table_row (builds 9 9 (filled 3 7) Lowest) (5 ∷ 0 ∷ 0 ∷ 0 ∷ [])
    ∷ table_row (builds 9 9 (filled 4 7) Lowest) (5 ∷ 0 ∷ 0 ∷ 0 ∷ [])
    ∷ table_row (builds 9 9 (filled 5 7) Lowest) (5 ∷ 0 ∷ 0 ∷ 0 ∷ [])
    ∷ table_row (builds 9 9 (filled 6 7) Lowest) (5 ∷ 0 ∷ 0 ∷ 0 ∷ [])
    ∷ table_row (builds 9 9 (filled 7 0) Lowest) (5 ∷ 0 ∷ 0 ∷ 0 ∷ [])
    ∷ table_row (builds 9 9 (lat 2 2 2 (a ∷ replicate 7 (negsuc 32766))) Lowest) (0 ∷ 3 ∷ 1 ∷ 1 ∷ [])
    -- document 02 (iv), where no start is named: (1, 1, 1) is air, and the cube there has no face in the bounds
    ∷ table_row (starts_at (one_air 21) Unnamed) (13 ∷ [])
    ∷ table_row (starts_at (one_air 21) Lowest) (0 ∷ [])
    ∷ table_row (builds 100 100 (one_air 21) Unnamed) (0 ∷ 14 ∷ 24 ∷ 8 ∷ [])
    -- each crossed cube has a face in the bounds, on some axis at the low or at the high end
    ∷ table_row (builds 100 100 middle_air Unnamed) (5 ∷ 0 ∷ 0 ∷ 0 ∷ [])
    ∷ table_row (builds 100 100 middle_air Lowest) (0 ∷ 14 ∷ 24 ∷ 8 ∷ [])
    ∷ table_row (builds 100 100 (one_air 0) Unnamed) (5 ∷ 0 ∷ 0 ∷ 0 ∷ [])
    ∷ table_row (builds 100 100 (one_air 0) Lowest) (0 ∷ 3 ∷ 1 ∷ 1 ∷ [])
    ∷ table_row (builds 100 100 (one_air 20) Unnamed) (5 ∷ 0 ∷ 0 ∷ 0 ∷ [])
    ∷ table_row (builds 100 100 (one_air 23) Unnamed) (5 ∷ 0 ∷ 0 ∷ 0 ∷ [])
    ∷ table_row (builds 100 100 (one_air 17) Unnamed) (5 ∷ 0 ∷ 0 ∷ 0 ∷ [])
    ∷ table_row (builds 100 100 (one_air 29) Unnamed) (5 ∷ 0 ∷ 0 ∷ 0 ∷ [])
    ∷ table_row (builds 100 100 (one_air 5) Unnamed) (5 ∷ 0 ∷ 0 ∷ 0 ∷ [])
    ∷ table_row (builds 100 100 (one_air 53) Unnamed) (5 ∷ 0 ∷ 0 ∷ 0 ∷ [])
    -- a piece at the tray's corner and one inside
    ∷ table_row (starts_at tray Unnamed) (23 ∷ [])
    ∷ table_row (builds 100 100 tray Lowest) (0 ∷ 3 ∷ 1 ∷ 1 ∷ [])
    ∷ table_row (checks_from tray Unnamed Lowest) (17 ∷ 0 ∷ [])
    ∷ table_row (checks_from middle_air Unnamed Lowest) (5 ∷ 0 ∷ [])
    ∷ table_row (leaves first_air Unnamed (used 12 3 1 1 56)) (5 ∷ numbers (used 12 3 1 1 56))
    -- room to the last vertex and triangle, and 6 before 7
    ∷ table_row (builds 14 24 middle_air Lowest) (0 ∷ 14 ∷ 24 ∷ 8 ∷ [])
    ∷ table_row (builds 13 23 middle_air Lowest) (6 ∷ 14 ∷ 24 ∷ 8 ∷ [])
    -- axes and counts
    ∷ table_row (builds 9 9 (lat 2 2 1 []) Lowest) (1 ∷ 0 ∷ 0 ∷ 0 ∷ [])
    ∷ table_row (builds 9 9 (lat 2 1 2 []) Lowest) (1 ∷ 0 ∷ 0 ∷ 0 ∷ [])
    ∷ table_row (builds 9 9 (lat 1 2 2 []) Lowest) (1 ∷ 0 ∷ 0 ∷ 0 ∷ [])
    ∷ table_row (builds 9 9 (lat 2 2 65 []) Lowest) (1 ∷ 0 ∷ 0 ∷ 0 ∷ [])
    ∷ table_row (builds 9 9 (lat 2 65 2 []) Lowest) (1 ∷ 0 ∷ 0 ∷ 0 ∷ [])
    ∷ table_row (builds 9 9 (lat 65 2 2 []) Lowest) (1 ∷ 0 ∷ 0 ∷ 0 ∷ [])
    ∷ table_row (builds 9 9 (lat 64 64 64 []) Lowest) (2 ∷ 0 ∷ 0 ∷ 0 ∷ [])
    ∷ table_row (builds 9 9 (lat 2 2 2 (replicate 7 a)) Lowest) (2 ∷ 0 ∷ 0 ∷ 0 ∷ [])
    ∷ table_row (builds 9 9 (lat 2 2 2 (replicate 9 a)) Lowest) (2 ∷ 0 ∷ 0 ∷ 0 ∷ [])
    -- what is left in the lent slices, 2 before 3 and 3 before 4
    ∷ table_row (leaves first_air Lowest (used 13 4 2 2 57))
    (0 ∷ 0 ∷ 49152 ∷ 0 ∷ 0 ∷ 1 ∷ 0 ∷ 49152 ∷ 0 ∷ 2 ∷ 0 ∷ 0 ∷ 49152 ∷ 9 ∷ 1 ∷ 2 ∷ 0 ∷ 8 ∷ 0 ∷ 5 ∷ 0 ∷ 6 ∷ replicate 56 0 ++ 7 ∷ [])
    ∷ table_row (leaves first_air Lowest (used 11 4 2 2 57)) (6 ∷ replicate 11 9 ++ replicate 4 8 ++ 0 ∷ 5 ∷ 0 ∷ 6 ∷ replicate 56 0 ++ 7 ∷ [])
    ∷ table_row (leaves first_air Lowest (used 12 2 2 2 57)) (7 ∷ replicate 12 9 ++ replicate 2 8 ++ 0 ∷ 5 ∷ 0 ∷ 6 ∷ replicate 56 0 ++ 7 ∷ [])
    ∷ table_row (leaves (lat 2 2 2 (replicate 7 a)) Lowest (used 12 3 0 0 0)) (2 ∷ numbers (used 12 3 0 0 0))
    ∷ table_row (leaves first_air (at 1 0 0) (used 12 3 0 1 56)) (3 ∷ numbers (used 12 3 0 1 56))
    ∷ table_row (leaves first_air (at 1 0 0) (used 12 3 1 0 56)) (3 ∷ numbers (used 12 3 1 0 56))
    ∷ table_row (leaves first_air (at 1 0 0) (used 12 3 1 1 55)) (3 ∷ numbers (used 12 3 1 1 55))
    ∷ table_row (leaves first_air (at 1 0 0) (used 12 3 1 1 56)) (4 ∷ numbers (used 12 3 1 1 56))
    ∷ table_row (leaves (filled 1 7) (at 0 0 0) (used 12 3 1 1 56)) (5 ∷ numbers (used 12 3 1 1 56))
    ∷ table_row clears (0 ∷ 6 ∷ 7 ∷ 17 ∷ 18 ∷ 19 ∷ [])
    -- writing
    ∷ table_row (writes (sizes 64 64 64) 3 1 (replicate 12 (pos 0)) (1 ∷ 2 ∷ 0 ∷ []) 84) (0 ∷ 0 ∷ 84 ∷ [])
    ∷ table_row (writes (sizes 2 2 2) 3 1 (replicate 12 (pos 0)) (1 ∷ 2 ∷ 0 ∷ []) 83) (8 ∷ 0 ∷ 0 ∷ [])
    ∷ table_row (writes (sizes 2 2 65) 3 1 (replicate 12 (pos 0)) (1 ∷ 2 ∷ 0 ∷ []) 84) (1 ∷ 0 ∷ 0 ∷ [])
    ∷ table_row (writes (sizes 1 2 2) 3 1 (replicate 12 (pos 0)) (1 ∷ 2 ∷ 0 ∷ []) 84) (1 ∷ 0 ∷ 0 ∷ [])
    ∷ table_row (writes (sizes 2 2 2) 4 1 (replicate 12 (pos 0)) (1 ∷ 3 ∷ 0 ∷ []) 0) (9 ∷ 0 ∷ 0 ∷ [])
    ∷ table_row (writes (sizes 2 2 2) 3 2 (replicate 12 (pos 0)) (1 ∷ 3 ∷ 0 ∷ []) 0) (9 ∷ 0 ∷ 0 ∷ [])
    ∷ table_row (writes (sizes 2 2 2) 3 2 (replicate 12 (pos 0)) (1 ∷ 2 ∷ 0 ∷ 0 ∷ 1 ∷ 3 ∷ []) 0) (15 ∷ 1 ∷ 0 ∷ [])
    ∷ table_row (limited 2000000 4000000) (1 ∷ [])
    ∷ table_row (limited 2000001 4000000) (0 ∷ [])
    ∷ table_row (limited 2000000 4000001) (0 ∷ [])
    -- bytes, and reading
    ∷ table_row (bytes (content_of (sizes 2 3 64) 1 1 small_record (0 ∷ 4294967295 ∷ 65536 ∷ [])))
    (254 ∷ 255 ∷ 255 ∷ 255 ∷ 2 ∷ 1 ∷ 0 ∷ 0 ∷ 0 ∷ 0 ∷ 0 ∷ 0 ∷ 0 ∷ 0 ∷ 0 ∷ 128
    ∷ 0 ∷ 0 ∷ 0 ∷ 0 ∷ 255 ∷ 255 ∷ 255 ∷ 255 ∷ 0 ∷ 0 ∷ 1 ∷ 0
    ∷ 28 ∷ 0 ∷ 0 ∷ 0 ∷ 1 ∷ 0 ∷ 0 ∷ 0 ∷ 12 ∷ 0 ∷ 0 ∷ 0 ∷ 1 ∷ 0 ∷ 0 ∷ 0 ∷ 2 ∷ 0 ∷ 3 ∷ 0 ∷ 64 ∷ 0 ∷ 83 ∷ 83 ∷ [])
    ∷ table_row (rereads first_air) (0 ∷ 49152 ∷ 0 ∷ 0 ∷ 1 ∷ 0 ∷ 49152 ∷ 0 ∷ 2 ∷ 0 ∷ 0 ∷ 49152 ∷ 1 ∷ 2 ∷ 0 ∷ [])
    ∷ table_row (reads small_file (replicate 4 (pos 0)) (replicate 3 0)) (0 ∷ 0 ∷ 1 ∷ 1 ∷ 2 ∷ 3 ∷ 64 ∷ [])
    ∷ table_row (reads small_file (replicate 3 (pos 0)) (replicate 3 0)) (6 ∷ 0 ∷ 0 ∷ 0 ∷ 0 ∷ 0 ∷ 0 ∷ [])
    ∷ table_row (reads small_file (replicate 4 (pos 0)) (replicate 2 0)) (7 ∷ 0 ∷ 0 ∷ 0 ∷ 0 ∷ 0 ∷ 0 ∷ [])
    ∷ table_row (reads (drop 1 small_file) (replicate 4 (pos 0)) (replicate 3 0)) (14 ∷ 0 ∷ 0 ∷ 0 ∷ 0 ∷ 0 ∷ 0 ∷ [])
    ∷ table_row (reads (drop 29 small_file) (replicate 4 (pos 0)) (replicate 3 0)) (11 ∷ 0 ∷ 0 ∷ 0 ∷ 0 ∷ 0 ∷ 0 ∷ [])
    ∷ table_row (reads (take 51 small_file) (replicate 4 (pos 0)) (replicate 3 0)) (12 ∷ 0 ∷ 0 ∷ 0 ∷ 0 ∷ 0 ∷ 0 ∷ [])
    ∷ table_row (reads small_file (replicate 3 (pos 0)) (replicate 2 0)) (6 ∷ 0 ∷ 0 ∷ 0 ∷ 0 ∷ 0 ∷ 0 ∷ [])
    ∷ table_row (reads (set small_file 28 29) (replicate 4 (pos 0)) (replicate 3 0)) (14 ∷ 0 ∷ 0 ∷ 0 ∷ 0 ∷ 0 ∷ 0 ∷ [])
    ∷ table_row (reads (set small_file 36 13) (replicate 4 (pos 0)) (replicate 3 0)) (14 ∷ 0 ∷ 0 ∷ 0 ∷ 0 ∷ 0 ∷ 0 ∷ [])
    ∷ table_row (reads (drop 1 (set small_file 48 65)) (replicate 4 (pos 0)) (replicate 3 0)) (1 ∷ 0 ∷ 0 ∷ 0 ∷ 0 ∷ 0 ∷ 0 ∷ [])
    ∷ table_row (reads_file (content_of (sizes 2 3 64) 1 2 (replicate 4 (pos 7)) (0 ∷ 0 ∷ 0 ∷ 0 ∷ 1 ∷ 0 ∷ [])) 0 0)
    (15 ∷ 1 ∷ 0 ∷ 0 ∷ 0 ∷ 0 ∷ 0 ∷ [])
    ∷ table_row (signs 2147483647) (4294967294 ∷ [])
    ∷ table_row (signs 2147483648) (4294967295 ∷ [])
    ∷ table_row (signs 4294967295) (1 ∷ [])
    -- checking: records in another order; sizes, positions, edges and indices that are wrong
    ∷ table_row (checks_first (sizes 2 2 2) (2 ∷ 0 ∷ 0 ∷ 49152 ∷ 0 ∷ 49152 ∷ 0 ∷ 0 ∷ 1 ∷ 0 ∷ 49152 ∷ 0 ∷ []) (1 ∷ 2 ∷ 0 ∷ [])) (0 ∷ 0 ∷ [])
    ∷ table_row (checks_first (sizes 2 2 2) (1 ∷ 0 ∷ 49152 ∷ 0 ∷ 0 ∷ 49152 ∷ 0 ∷ 0 ∷ 2 ∷ 0 ∷ 0 ∷ 49152 ∷ []) (0 ∷ 2 ∷ 1 ∷ [])) (0 ∷ 0 ∷ [])
    ∷ table_row (checks_first (sizes 2 2 2) (1 ∷ 0 ∷ 49152 ∷ 0 ∷ 0 ∷ 49152 ∷ 0 ∷ 0 ∷ 2 ∷ 0 ∷ 0 ∷ 49152 ∷ []) (1 ∷ 2 ∷ 0 ∷ [])) (18 ∷ 0 ∷ [])
    ∷ table_row (checks rtn_air (0 ∷ 4 ∷ 3 ∷ 1 ∷ 2 ∷ 0 ∷ 0 ∷ 2 ∷ 4 ∷ 4 ∷ 2 ∷ 5 ∷ 3 ∷ 1 ∷ 0 ∷ [])) (0 ∷ 0 ∷ [])
    ∷ table_row (checks_first (sizes 2 2 3) (2 ∷ 0 ∷ 0 ∷ 49152 ∷ 0 ∷ 49152 ∷ 0 ∷ 0 ∷ 1 ∷ 0 ∷ 49152 ∷ 0 ∷ []) (1 ∷ 2 ∷ 0 ∷ [])) (16 ∷ 0 ∷ [])
    ∷ table_row (checks_first (sizes 2 2 2) (0 ∷ 49152 ∷ 0 ∷ 0 ∷ 1 ∷ 0 ∷ 49152 ∷ 0 ∷ 2 ∷ 0 ∷ 0 ∷ 49153 ∷ []) (1 ∷ 2 ∷ 0 ∷ [])) (17 ∷ 2 ∷ [])
    ∷ table_row (checks_first (sizes 2 2 2) (0 ∷ 49152 ∷ 0 ∷ 0 ∷ 1 ∷ 0 ∷ 49152 ∷ 0 ∷ 1 ∷ 0 ∷ 49152 ∷ 0 ∷ []) (1 ∷ 2 ∷ 0 ∷ [])) (17 ∷ 2 ∷ [])
    ∷ table_row (checks_first (sizes 2 2 2) (0 ∷ 49152 ∷ 0 ∷ 0 ∷ 1 ∷ 0 ∷ 49152 ∷ 0 ∷ 3 ∷ 0 ∷ 0 ∷ 49152 ∷ []) (1 ∷ 2 ∷ 0 ∷ [])) (17 ∷ 2 ∷ [])
    ∷ table_row (checks_first (sizes 2 2 2) (0 ∷ 49152 ∷ 0 ∷ 0 ∷ 1 ∷ 0 ∷ 49152 ∷ 0 ∷ []) []) (19 ∷ 0 ∷ [])
    ∷ table_row (checks_first (sizes 2 2 2) (0 ∷ 49152 ∷ 0 ∷ 0 ∷ 1 ∷ 0 ∷ 49152 ∷ 0 ∷ []) (0 ∷ 1 ∷ 2 ∷ [])) (15 ∷ 0 ∷ [])
    -- the order of its tests
    ∷ table_row (checks_bytes (lat 2 2 2 (replicate 8 o)) []) (5 ∷ 0 ∷ [])
    ∷ table_row (checks_bytes first_air (drop 29 small_file)) (11 ∷ 0 ∷ [])
    ∷ table_row (checks_bytes first_air (take 51 small_file)) (12 ∷ 0 ∷ [])
    ∷ table_row (checks_bytes first_air (drop 1 small_file)) (14 ∷ 0 ∷ [])
    ∷ table_row (checks_bytes first_air small_file) (16 ∷ 0 ∷ [])
    -- what these leave open, and single changes of the definitions that only these rows refuse
    ∷ table_row (lists Nearest (lat 2 3 3 (replicate 8 o ++ a ∷ replicate 9 o)) Lowest)
    (16 ∷ 0 ∷ 65536 ∷ 32768 ∷ 17 ∷ 0 ∷ 98304 ∷ 32768 ∷ 18 ∷ 32768 ∷ 65536 ∷ 32768
    ∷ 20 ∷ 32768 ∷ 98304 ∷ 32768 ∷ 43 ∷ 0 ∷ 32768 ∷ 65536 ∷ 45 ∷ 0 ∷ 32768 ∷ 98304 ∷ 47 ∷ 32768 ∷ 32768 ∷ 65536
    ∷ 56 ∷ 32768 ∷ 65536 ∷ 65536 ∷ 57 ∷ 0 ∷ 98304 ∷ 65536 ∷ 58 ∷ 0 ∷ 65536 ∷ 98304
    ∷ 2 ∷ 4 ∷ 0 ∷ 2 ∷ 6 ∷ 4 ∷ 2 ∷ 7 ∷ 6 ∷ 1 ∷ 2 ∷ 0 ∷ 3 ∷ 2 ∷ 1 ∷ 1 ∷ 8 ∷ 3
    ∷ 3 ∷ 7 ∷ 2 ∷ 3 ∷ 8 ∷ 7 ∷ 4 ∷ 6 ∷ 5 ∷ 7 ∷ 5 ∷ 6 ∷ 7 ∷ 9 ∷ 5 ∷ 8 ∷ 9 ∷ 7 ∷ [])
    ∷ table_row (builds 100 100 (lat 3 2 2 (o ∷ o ∷ a ∷ replicate 9 o)) Lowest) (0 ∷ 5 ∷ 3 ∷ 1 ∷ [])
    ∷ table_row (writes (sizes 1 2 2) 4 1 (replicate 12 (pos 0)) (1 ∷ 2 ∷ 0 ∷ []) 84) (1 ∷ 0 ∷ 0 ∷ [])
    ∷ table_row (writes (sizes 2 2 2) 3 1 (replicate 12 (pos 0)) (3 ∷ 2 ∷ 0 ∷ []) 84) (15 ∷ 0 ∷ 0 ∷ [])
    ∷ table_row (reads (set small_file 34 1) (replicate 4 (pos 0)) (replicate 3 0)) (14 ∷ 0 ∷ 0 ∷ 0 ∷ 0 ∷ 0 ∷ 0 ∷ [])
    ∷ table_row (reads (set small_file 35 1) (replicate 4 (pos 0)) (replicate 3 0)) (14 ∷ 0 ∷ 0 ∷ 0 ∷ 0 ∷ 0 ∷ 0 ∷ [])
    ∷ table_row (reads (set small_file 42 1) (replicate 4 (pos 0)) (replicate 3 0)) (14 ∷ 0 ∷ 0 ∷ 0 ∷ 0 ∷ 0 ∷ 0 ∷ [])
    ∷ table_row (reads (set small_file 45 1) (replicate 4 (pos 0)) (replicate 3 0)) (1 ∷ 0 ∷ 0 ∷ 0 ∷ 0 ∷ 0 ∷ 0 ∷ [])
    ∷ table_row (reads (0 ∷ small_file) (replicate 4 (pos 0)) (replicate 3 0)) (14 ∷ 0 ∷ 0 ∷ 0 ∷ 0 ∷ 0 ∷ 0 ∷ [])
    ∷ table_row (reads (replicate 16 0 ++ 2 ∷ 0 ∷ 3 ∷ 0 ∷ 64 ∷ 0 ∷ 83 ∷ 83 ∷ []) [] []) (0 ∷ 0 ∷ 0 ∷ 0 ∷ 2 ∷ 3 ∷ 64 ∷ [])
    ∷ table_row (checks_file first_air (sizes 3 2 2) [] []) (16 ∷ 0 ∷ [])
    ∷ table_row (checks_file first_air (sizes 2 3 2) [] []) (16 ∷ 0 ∷ [])
    ∷ table_row (builds 100 100 (lat 2 2 3 (a ∷ replicate 7 o ++ a ∷ replicate 3 o)) Lowest) (0 ∷ 3 ∷ 1 ∷ 1 ∷ [])
    ∷ table_row (builds 100 100 first_air (at 0 1 0)) (4 ∷ 0 ∷ 0 ∷ 0 ∷ [])
    ∷ table_row (builds 100 100 first_air (at 0 0 1)) (4 ∷ 0 ∷ 0 ∷ 0 ∷ [])
    ∷ table_row (checks_first (sizes 2 2 2) (0 ∷ 49153 ∷ 0 ∷ 0 ∷ []) []) (17 ∷ 0 ∷ [])
    -- a check from a named start
    ∷ table_row (checks_from two_air (at 3 0 0) (at 3 0 0)) (0 ∷ 0 ∷ [])
    ∷ table_row (checks_from two_air (at 3 0 0) (at 0 0 0)) (17 ∷ 0 ∷ [])
    ∷ table_row (checks_from two_air (at 1 0 0) (at 0 0 0)) (5 ∷ 0 ∷ [])
    ∷ table_row (checks_from two_air (at 4 0 0) (at 0 0 0)) (4 ∷ 0 ∷ [])
    ∷ table_row (checks_from corner_fill (at 1 0 0) Lowest) (0 ∷ 0 ∷ [])
    ∷ table_row (checks_from corner_fill (at 0 0 0) (at 1 0 0)) (5 ∷ 0 ∷ [])
    ∷ table_row (checks_from parted (at 1 0 0) (at 0 1 0)) (17 ∷ 0 ∷ [])
    -- what a check leaves: work room as it was before 17, and cleared from there on
    ∷ table_row (check_leaves first_air (drop 29 small_file) (full 2 2 57)) (11 ∷ works (full 2 2 57))
    ∷ table_row (check_leaves first_air small_file (full 2 2 57)) (16 ∷ works (full 2 2 57))
    ∷ table_row (check_leaves first_air small_file (full 0 2 57)) (3 ∷ works (full 0 2 57))
    ∷ table_row (check_file_leaves first_air (sizes 2 2 2) three_records (1 ∷ 2 ∷ 0 ∷ []) (full 2 2 57)) (0 ∷ clear_front)
    ∷ table_row (check_file_leaves first_air (sizes 2 2 2) (pos 1 ∷ drop 1 three_records) (1 ∷ 2 ∷ 0 ∷ []) (full 2 2 57)) (17 ∷ clear_front)
    ∷ table_row (check_file_leaves first_air (sizes 2 2 2) three_records (1 ∷ 0 ∷ 2 ∷ []) (full 2 2 57)) (18 ∷ clear_front)
    ∷ table_row (check_file_leaves first_air (sizes 2 2 2) three_records [] (full 2 2 57)) (19 ∷ clear_front)
    -- what a writer leaves in longer bytes, of longer slices, and what it leaves where it refuses
    ∷ table_row (write_leaves (sizes 2 3 64) 1 1 (small_record ++ replicate 4 (pos 7)) (replicate 6 0) (replicate 54 9))
    (small_file ++ 9 ∷ 9 ∷ [])
    ∷ table_row (write_leaves (sizes 2 3 64) 1 1 small_record (replicate 3 0) (replicate 51 9)) (replicate 51 9)
    -- what a reader leaves in longer slices, signs kept, and what it leaves where it refuses
    ∷ table_row (read_leaves small_file (replicate 5 (pos 9)) (replicate 4 8)) (3 ∷ 516 ∷ 0 ∷ 4294967295 ∷ 18 ∷ 0 ∷ 0 ∷ 0 ∷ 8 ∷ [])
    ∷ table_row (read_leaves small_file (replicate 5 (pos 9)) (replicate 2 8)) (18 ∷ 18 ∷ 18 ∷ 18 ∷ 18 ∷ 8 ∷ 8 ∷ [])
    -- single numbers of a file: an index that only its fourth byte shows, and a bad first corner behind a good triangle
    ∷ table_row (reads (set small_file 19 1) (replicate 4 (pos 0)) (replicate 3 0)) (15 ∷ 0 ∷ 0 ∷ 0 ∷ 0 ∷ 0 ∷ 0 ∷ [])
    ∷ table_row (writes (sizes 2 2 2) 3 2 (replicate 12 (pos 0)) (0 ∷ 1 ∷ 2 ∷ 3 ∷ 0 ∷ 0 ∷ []) 108) (15 ∷ 1 ∷ 0 ∷ [])
    ∷ []

pinned : map (λ r. outcome r.case) table ≡ map (λ r. r.is) table
unfolding outcome table
pinned = refl
