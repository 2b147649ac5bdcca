-- Document 02 (v), searches worked by hand: what each answers and leaves, in one table with one theorem, by computation. Assumes nothing.
use mathlib.Core.Path.{◌≡◌, refl, ◌∙◌}
use mathlib.Core.Bool.{cond}
use mathlib.Core.List.{List, [], ◌∷◌, ◌++◌, map}
use Prim.Native.Nat.{ℕ, ◌-◌, ◌*◌}
use lib.IntN.{pos}
use lib.ListN.{length, drop, replicate}
use Rattle.lists.specs.Lists.{range, is_in}
use Rattle.lists.specs.Reach.{grow, rounds, reached}
use Rattle.lists.proofs.Every.{map_same}
use Rattle.paper.specs.Lattice.{Lattice, axis, axes, samples, air, sample_no, value_at, air_at, cubes, cube_no, cube_at, corner, mixed}
use Rattle.paper.specs.Lattice.{mixed_at, is_fill, fill_at, in_lattice, free, visitable, crossed, faces, step_over, steps, visited}
use Rattle.paper.specs.Tests.{judge}
use Rattle.paper.specs.Room.{work, lengths, roomy, front_after, work_after, output_after}
use Rattle.paper.specs.Build.{shape_tests}
use Rattle.paper.proofs.Cases.{lat, corner_fill, parted, filled}
use Rattle.tray.specs.Pieces.{begins, scanned, plain_scan, Lent, lent}
use Rattle.tray.specs.Pieces.{piece_tests, find_number, found_at, found_in, as_building, lent_after}

-- a lattice whose samples of these numbers are air, the others solid
airs : ℕ → ℕ → ℕ → List ℕ → Lattice
airs nx ny nz l = lat nx ny nz (map (λ n. cond (is_in l n) (pos 1) (pos 0)) (range 0 (nx * (ny * nz))))

-- a list and work slices of these lengths, which hold 7
sevens : ℕ → ℕ → ℕ → ℕ → Lent
sevens list words waiting slots = lent (replicate list 7) (work (replicate words 7) (replicate waiting 7) (replicate slots 7))

-- a call, and what it gives: number and count; the list; the cube words, the waiting list and the last two slots
record Row : Type 0 where
  given : Lattice
  room : Lent
  answer : List ℕ
  list : List ℕ
  work : List ℕ

record Outcome : Type 0 where
  answer : List ℕ
  list : List ℕ
  work : List ℕ

outcome : Row → Outcome
outcome r =
    let found = found_in r.given r.room in
    let l = lent_after r.given r.room in
    let w = l.work in
    record {
      answer = found.number ∷ found.pieces ∷ [];
      list = l.list;
      work = w.words ++ (w.waiting ++ drop (length w.slots - 2) w.slots);
    }

-- the same by what a plain scan lists, which is then computed once
by : List ℕ → Row → Outcome
by scan r =
    let l = r.room in
    let n = (judge (shape_tests r.given (lengths l.work) ++ piece_tests (length scan) (length l.list))).number in
    let found = found_at n (length scan) in
    let w = work_after (as_building n) r.given.size l.work in
    record {
      answer = found.number ∷ found.pieces ∷ [];
      list = output_after n scan l.list;
      work = w.words ++ (w.waiting ++ drop (length w.slots - 2) w.slots);
    }

abbrev scanning : Row → Outcome
scanning r = by (plain_scan r.given) r

same : (r : Row) → outcome r ≡ scanning r
unfolding outcome by find_number found_in lent_after
same r = refl

is : Row → Outcome
is r = record { answer = r.answer; list = r.list; work = r.work }

-- 5x2x2, only (0,0,0) and (4,0,0) air
two : Lattice
two = airs 5 2 2 (0 ∷ 4 ∷ [])

-- 5x3x2, only (3,0,0) and (0,2,0) air: the lower cube is in the later block
later : Lattice
later = airs 5 3 2 (3 ∷ 10 ∷ [])

table_row : Lattice → Lent → List ℕ → List ℕ → List ℕ → Row
table_row L l a ls w = record { given = L; room = l; answer = a; list = ls; work = w }

table : List Row
unfolding airs sevens two later table_row
table =
    table_row two (sevens 3 4 5 141) (0 ∷ 2 ∷ []) (0 ∷ 3 ∷ 7 ∷ []) (0 ∷ 0 ∷ 0 ∷ 0 ∷ 0 ∷ 0 ∷ 0 ∷ 0 ∷ 7 ∷ 0 ∷ 7 ∷ [])
    ∷ table_row two (sevens 2 4 4 140) (0 ∷ 2 ∷ []) (0 ∷ 3 ∷ []) (0 ∷ 0 ∷ 0 ∷ 0 ∷ 0 ∷ 0 ∷ 0 ∷ 0 ∷ 0 ∷ 0 ∷ [])
    ∷ table_row two (sevens 1 5 4 141) (20 ∷ 2 ∷ []) (7 ∷ []) (0 ∷ 0 ∷ 0 ∷ 0 ∷ 7 ∷ 0 ∷ 0 ∷ 0 ∷ 0 ∷ 0 ∷ 7 ∷ [])
    ∷ table_row two (sevens 3 3 4 140) (3 ∷ 0 ∷ []) (7 ∷ 7 ∷ 7 ∷ []) (7 ∷ 7 ∷ 7 ∷ 7 ∷ 7 ∷ 7 ∷ 7 ∷ 7 ∷ 7 ∷ [])
    ∷ table_row two (sevens 3 4 4 139) (3 ∷ 0 ∷ []) (7 ∷ 7 ∷ 7 ∷ []) (7 ∷ 7 ∷ 7 ∷ 7 ∷ 7 ∷ 7 ∷ 7 ∷ 7 ∷ 7 ∷ 7 ∷ [])
    ∷ table_row (airs 2 2 2 []) (sevens 1 1 1 56) (5 ∷ 0 ∷ []) (7 ∷ []) (7 ∷ 7 ∷ 7 ∷ 7 ∷ [])
    ∷ table_row (airs 2 2 2 (range 0 8)) (sevens 0 1 1 56) (5 ∷ 0 ∷ []) [] (7 ∷ 7 ∷ 7 ∷ 7 ∷ [])
    ∷ table_row (lat 2 2 2 (replicate 9 (pos 0))) (sevens 0 0 1 2) (2 ∷ 0 ∷ []) [] (7 ∷ 7 ∷ 7 ∷ [])
    ∷ table_row (lat 2 1 2 (replicate 9 (pos 0))) (sevens 0 0 1 2) (1 ∷ 0 ∷ []) [] (7 ∷ 7 ∷ 7 ∷ [])
    ∷ table_row (airs 2 2 2 (3 ∷ [])) (sevens 0 1 1 56) (20 ∷ 1 ∷ []) [] (0 ∷ 0 ∷ 0 ∷ 0 ∷ [])
    ∷ table_row later (sevens 2 8 8 210) (0 ∷ 2 ∷ []) (2 ∷ 4 ∷ []) (replicate 18 0)
    ∷ table_row (airs 6 4 4 (0 ∷ 64 ∷ [])) (sevens 2 45 45 672) (0 ∷ 2 ∷ []) (0 ∷ 23 ∷ []) (replicate 92 0)
    ∷ table_row (airs 5 5 5 (31 ∷ 93 ∷ [])) (sevens 2 64 64 875) (0 ∷ 2 ∷ []) (0 ∷ 42 ∷ []) (replicate 130 0)
    ∷ table_row (airs 5 5 5 (31 ∷ 62 ∷ 93 ∷ [])) (sevens 1 64 64 875) (0 ∷ 1 ∷ []) (0 ∷ []) (replicate 130 0)
    ∷ table_row parted (sevens 3 4 4 126) (0 ∷ 2 ∷ []) (1 ∷ 2 ∷ 7 ∷ []) (replicate 10 0)
    ∷ table_row parted (sevens 1 4 4 126) (20 ∷ 2 ∷ []) (7 ∷ []) (replicate 10 0)
    ∷ table_row corner_fill (sevens 1 8 8 189) (0 ∷ 1 ∷ []) (1 ∷ []) (replicate 18 0)
    ∷ table_row (filled 0 7) (sevens 1 1 1 56) (5 ∷ 0 ∷ []) (7 ∷ []) (7 ∷ 7 ∷ 7 ∷ 7 ∷ [])
    ∷ table_row (airs 4 4 4 (21 ∷ 42 ∷ [])) (sevens 2 27 27 448) (0 ∷ 1 ∷ []) (0 ∷ 7 ∷ []) (replicate 56 0)
    ∷ []

computed : map scanning table ≡ map is table
unfolding grow rounds reached axis axes samples air sample_no value_at air_at cubes cube_no cube_at corner mixed mixed_at is_fill fill_at in_lattice
    free visitable crossed faces step_over steps visited roomy front_after output_after shape_tests begins scanned plain_scan piece_tests
    by is table
computed = refl

worked : map outcome table ≡ map is table
worked = map_same outcome scanning same table ∙ computed
