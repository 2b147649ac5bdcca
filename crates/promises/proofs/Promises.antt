-- What is promised. The contracts of the entry points are `Builds`, `Writes`, `Reads` and `Checks` (paper/specs), and for document 02 those
-- that its sections name: each function is proved to meet its own, to be safe and to end, whatever it is given. Here stand the three
-- demands and the round trips that follow from these contracts; each body is the theorem. What has to be believed are the definitions that
-- the statements name. Assumes nothing.
use mathlib.Core.Path.{◌≡◌, ap, ◌∙◌}
use mathlib.Core.Logic.{◌⊎◌}
use mathlib.Core.List.{List}
use mathlib.Core.Bool.{true, false, ◌&&◌}
use Prim.Native.Nat.{ℕ, ◌+◌, ◌*◌, ◌<◌, ◌≤◌}
use lib.IntN.{ℤ, pos, negsuc, neg_ℤ, ◌-ℤ◌, nat_abs}
use lib.Signed.{mag, lt_z}
use lib.Dec.{T}
use lib.ListN.{length, get_or, take}
use lib.Ieee.{Float, nan, binary32, of_bits, to_bits, sub, lt}
use Rattle.std.specs.Prelude.{Result}
use Rattle.lists.specs.Lists.{range, each, all, over, count, is_in}
use Rattle.paper.specs.declared.Sizes.{Sizes}
use Rattle.paper.specs.declared.Place.{Place}
use Rattle.paper.specs.declared.Start.{Start}
use Rattle.paper.specs.declared.Start.TheVariants.{Unnamed, Lowest, Cube}
use Rattle.paper.specs.declared.Rule.{Rule}
use Rattle.paper.specs.declared.Rule.TheVariants.{Down, Nearest}
use Rattle.paper.specs.declared.Refusal.{Refusal}
use Rattle.paper.specs.declared.BuildError.{BuildError}
use Rattle.paper.specs.declared.SheetCounts.{SheetCounts}
use Rattle.paper.specs.declared.Contents.{Contents}
use Rattle.paper.specs.Refused.{verdict_told, built_told, wrote_told, got_told}
use Rattle.paper.specs.declared.Built.{Built}
use Rattle.paper.specs.declared.Wrote.{Wrote}
use Rattle.paper.specs.declared.Got.{Got}
use Rattle.paper.specs.declared.Verdict.{Verdict}
use Rattle.paper.specs.Lattice.{Lattice, air, fill_at, no_fill, cubes, cube_at, corner, crossed, visited, in_lattice, faces, inside}
use Rattle.paper.specs.Within.{Sized, CubeIn}
use Rattle.paper.specs.Sheet.{crossing, sheet_of, vertex_words, triangle_words}
use Rattle.paper.specs.Tests.{judge, verdict}
use Rattle.paper.specs.Room.{Work, Lengths, lengths, vertex_room, triangle_room}
use Rattle.paper.specs.Build.{Lent, start_of, build_rule, sheet_from, shape_tests, sample_tests, Builds}
use Rattle.paper.specs.File.{file_words, file_indices, Writes, Reads}
use Rattle.paper.specs.Check.{checked, Checks}
use Rattle.codec.specs.Words.{Words, Bytes}
use Rattle.sheetfile.specs.Trips.{Returned}
use Rattle.acceptance.specs.Holding.{Acceptable, Exactly, EachOnce}
use Rattle.pairing.specs.Pairing.{Demand3, Demand3By, file_edges, file_corners}
use Rattle.pairing.specs.Visitable.{outer}
use Rattle.facets.specs.Steps.{float_of, is_image}
use Rattle.stl.specs.declared.Loaded.{Loaded}
use Rattle.stl.specs.Told.{loaded_told}
use Rattle.stl.specs.Stl.{nine_of, StlWrites, stl_facet, StlReads}
use Rattle.stl.proofs.Promises.{Exactly as CornerOf, Returned as StlReturned}
use Rattle.stl.proofs.Promises as stl
use Rattle.tray.specs.declared.Found.{Found}
use Rattle.tray.specs.declared.FindError.{FindError}
use Rattle.tray.specs.Told.{found_told}
use Rattle.tray.specs.Pieces.{lowest_cubes, plain_scan, Lent as ListLent, Finds}
use Rattle.tray.proofs.Scanning as scanning
use Rattle.tray.proofs.Demand as searches
use Rattle.blocks.specs.Blocks.{in_block, OneSided}
use Rattle.blocks.proofs.Alike as blocks
use Rattle.greys.specs.declared.Level.{Level}
use Rattle.greys.specs.Level.{level_of}
use Rattle.greys.specs.Sample.{none}
use Rattle.greys.specs.Convert.{samples_of, Converts}
use Rattle.greys.proofs.Promises.{Singles, Exactly as SampleOf}
use Rattle.greys.proofs.Promises as floats
use Rattle.paper.proofs.Crossing.{WithinHalf}
use Rattle.paper.proofs.Crossing as rounding
use Rattle.paper.proofs.Agreement as agree
use Rattle.paper.proofs.Told as told
use Rattle.paper.proofs.Passing.{sample_tests_law}
use Rattle.paper.proofs.Fill as filling
use Rattle.paper.proofs.Starts.{inside_joined}
use Rattle.paper.proofs.Cases.{parted}
use Rattle.paper.proofs.Parted.{Sharing, sharing}
use Rattle.promises.specs.Starting.{Fit, LowestFit, OldBuilds, OldChecks}
use Rattle.promises.proofs.Starting as starting
use Rattle.sheetfile.proofs.RoundTrips as trips
use Rattle.acceptance.proofs.Exact as exact
use Rattle.acceptance.proofs.Built as made
use Rattle.pairing.proofs.Demand as pairs

-- ── 1. "Each call .. gives the refusal that document 01 numbers for it, and only then." ──

-- the answer and every lent slice are settled: any two outcomes agree
pub one_build : {L : Lattice} {s : Start} {before : Lent} {r r' : Built} {after after' : Lent}
    → Builds L s before r after → Builds L s before r' after' → (r ≡ r') × (after ≡ after')
one_build = agree.builds_agree

pub one_write : {z : Sizes} {nv nt : ℕ} {vs : List ℤ} {ts before : List ℕ} {r r' : Wrote} {after after' : List ℕ}
    → Writes z nv nt vs ts before r after → Writes z nv nt vs ts before r' after' → (r ≡ r') × (after ≡ after')
one_write = agree.writes_agree

pub one_read : {bs : List ℕ} {vs : List ℤ} {ts : List ℕ} {r r' : Got} {us us' : List ℤ} {ss ss' : List ℕ}
    → Reads bs vs ts r us ss → Reads bs vs ts r' us' ss' → (r ≡ r') × (us ≡ us') × (ss ≡ ss')
one_read = agree.reads_agree

pub one_check : {rule : Rule} {L : Lattice} {s : Start} {bs : List ℕ} {before : Work} {r r' : Verdict} {after after' : Work}
    → Checks rule L s bs before r after → Checks rule L s bs before r' after' → (r ≡ r') × (after ≡ after')
one_check = agree.checks_agree

-- and as the `Result` that each call of the library's crates answers: where its contract allows one outcome, it allows one `Result`
pub one_build_result : {L : Lattice} {s : Start} {before : Lent} {r r' : Result SheetCounts BuildError} {after after' : Lent}
    → Builds L s before (built_told r) after → Builds L s before (built_told r') after' → (r ≡ r') × (after ≡ after')
one_build_result = told.build_results

pub one_write_result : {z : Sizes} {nv nt : ℕ} {vs : List ℤ} {ts before : List ℕ} {r r' : Result ℕ Refusal} {after after' : List ℕ}
    → Writes z nv nt vs ts before (wrote_told r) after → Writes z nv nt vs ts before (wrote_told r') after'
    → (r ≡ r') × (after ≡ after')
one_write_result = told.write_results

pub one_read_result : {bs : List ℕ} {vs : List ℤ} {ts : List ℕ} {r r' : Result Contents Refusal} {us us' : List ℤ} {ss ss' : List ℕ}
    → Reads bs vs ts (got_told r) us ss → Reads bs vs ts (got_told r') us' ss' → (r ≡ r') × (us ≡ us') × (ss ≡ ss')
one_read_result = told.read_results

pub one_check_result : {rule : Rule} {L : Lattice} {s : Start} {bs : List ℕ} {before : Work} {r r' : Result (Unit {0}) Refusal} {after after' : Work}
    → Checks rule L s bs before (verdict_told r) after → Checks rule L s bs before (verdict_told r') after'
    → (r ≡ r') × (after ≡ after')
one_check_result = told.check_results

-- A sheet is that of a rule of rounding, document 02 (vi). What is said of sheets and files is said and proved once, of either rule
-- (`rule`); a build follows one of them (`build_rule`), and a check is told which.

-- ── 2. "A sheet is exactly the one that document 01 builds"; "files are written and read back without loss" ──

-- a build that answers 0 leaves the sheet's records and triangles at the front of what it was lent, and counts them
pub sheet_built : {L : Lattice} {s : Start} {before : Lent} {r : Built} {after : Lent} → Builds L s before r after → r.number ≡ 0
    → let S = sheet_from L s in
    (r.vertices ≡ length S.edges)
    × (r.triangles ≡ length S.triangles)
    × (r.cubes ≡ S.visits)
    × (after.vertices ≡ over (vertex_words S) before.vertices)
    × (after.triangles ≡ over (triangle_words S) before.triangles)
sheet_built b e = let m = made.made b e in (m.vertices, m.triangles, m.cubes, m.vertex_words_law, m.triangle_words_law)

-- what was written, read with room, gives the sizes, the counts, every record and every triangle back
pub written_read : {z : Sizes} {nv nt : ℕ} {vs us us' : List ℤ} {ts ss ss' before after : List ℕ} {r : Wrote} {g : Got}
    → Words vs → Writes z nv nt vs ts before r after → r.number ≡ 0 → Reads (take r.bytes after) us ss g us' ss'
    → nv ≤ vertex_room us → nt ≤ triangle_room ss → Returned z nv nt (file_words nv vs) (file_indices nt ts) us ss g us' ss'
written_read v w e r a b = trips.read_of_written w v e r a b

-- what was read, written with room, gives every byte back
pub read_written : {bs : List ℕ} {vs vs' : List ℤ} {ts ts' before after : List ℕ} {g : Got} {r : Wrote}
    → Bytes bs → Reads bs vs ts g vs' ts' → g.number ≡ 0 → Writes g.sizes g.vertices g.triangles vs' ts' before r after
    → length bs ≤ length before → (r ≡ record { number = 0; place = 0; bytes = length bs }) × (after ≡ over bs before)
read_written = trips.write_of_read

-- ── 3. "accepts exactly when the file holds demand 2's vertices and triangles .. each once", and directed edges pair up ──

module _ (rule : Rule) (L : Lattice) (s : Start) (bs : List ℕ) (n : Lengths) where
  -- a check answers 0 exactly when sizes, start, work room and layout pass and the file holds the sheet
  pub accepted_exactly : Exactly rule L s bs n
  accepted_exactly = exact.accepted_exactly rule L s bs n

  -- then each vertex and each triangle of the sheet is in the file once, and nothing else is
  pub accepted_once : Acceptable rule L s bs n → EachOnce rule L (start_of L s) bs
  accepted_once = exact.accepted_once rule L s bs n

  -- "a directed triangle edge occurs once. Its reverse occurs once too, except .."; "Each side-changing tetrahedron edge of a visited cube
  -- carries exactly one vertex.": of every file that is accepted. "Outer face" is read as document 02 (iii) has it (`apart` in `Demand3`)
  pub accepted_pairs : checked rule L s bs n ≡ verdict 0 0 → Demand3 L (start_of L s) (file_edges bs) (file_corners bs)
  accepted_pairs = pairs.file rule L s bs n

-- and of every sheet
pub sheet_pairs : (rule : Rule) (L : Lattice) (s : Start) (n : Lengths) → (judge (sample_tests L s n)).number ≡ 0
    → let S = sheet_of rule L (start_of L s) in Demand3 L (start_of L s) S.edges S.triangles
sheet_pairs = pairs.sheet

-- the sheet of a rule, written, is accepted under that rule
pub sheet_accepted : (rule : Rule) (L : Lattice) (s : Start) (n : Lengths) → (judge (sample_tests L s n)).number ≡ 0
    → (old : List ℤ) (old' bytes bytes' : List ℕ) (w : Wrote)
    → let S = sheet_of rule L (start_of L s) in
    Writes L.size (length S.edges) (length S.triangles) (over (vertex_words S) old) (over (triangle_words S) old') bytes w bytes'
    → w.number ≡ 0 → (checked rule L s (take w.bytes bytes') n).number ≡ 0
sheet_accepted = made.sheet_accepted

-- so what is built and written is accepted under the rule that a build follows
pub built_accepted : {L : Lattice} {s : Start} {before : Lent} {r : Built} {after : Lent} {bytes bytes' : List ℕ} {w : Wrote}
    → Builds L s before r after → r.number ≡ 0
    → Writes L.size r.vertices r.triangles after.vertices after.triangles bytes w bytes' → w.number ≡ 0
    → (n : Lengths) → (judge (sample_tests L s n)).number ≡ 0 → (checked build_rule L s (take w.bytes bytes') n).number ≡ 0
built_accepted = made.built_accepted

-- ── document 02 (iii): "−32768 is no sample" ──

-- "Demands 2 and 3 read 'outer face' as any cube face that is not shared by two visitable cubes": where no sample is the fill, these are
-- the outer faces of the lattice, and what was promised before holds as it was: of every sheet, and of every file that is accepted
pub sheet_pairs_outer : (rule : Rule) (L : Lattice) (s : Start) (n : Lengths) → (judge (sample_tests L s n)).number ≡ 0 → T (no_fill L)
    → let S = sheet_of rule L (start_of L s) in Demand3By (outer L.size) L (start_of L s) S.edges S.triangles
sheet_pairs_outer = pairs.sheet_outer

pub accepted_pairs_outer : (rule : Rule) (L : Lattice) (s : Start) (bs : List ℕ) (n : Lengths)
    → checked rule L s bs n ≡ verdict 0 0 → T (no_fill L) → Demand3By (outer L.size) L (start_of L s) (file_edges bs) (file_corners bs)
accepted_pairs_outer = pairs.file_outer

-- "a cube with such a corner counts as not crossed and is never visited": from a start that passes its tests
pub fill_unvisited : (L : Lattice) (s : Start) (n : Lengths) → (judge (sample_tests L s n)).number ≡ 0
    → (k : ℕ) → T (is_in (visited L (start_of L s)) k) → (c : ℕ) → c < 8 → fill_at L (corner (cube_at L.size k) c) ≡ false
fill_unvisited L s n e = let t = sample_tests_law L s n e in filling.visited_free L (start_of L s) t.start t.crosses

-- "Refusals: 5 for a start that holds the fill.": of a cube of the lattice, where 1 to 3 pass
module _ (L : Lattice) (p : Place) (h : CubeIn L.size p) (c : ℕ) (l : c < 8) (f : T (fill_at L (corner p c))) where
  pub fill_build : {before : Lent} {r : Built} {after : Lent} → Builds L (Cube p) before r after
      → (judge (shape_tests L (lengths before.work))).number ≡ 0 → r.number ≡ 5
  fill_build {before} b e = ap (λ (r : Built). r.number) (b.answer ∙ filling.fill_built L p h c l f before e)

  pub fill_check : (n : Lengths) → (judge (shape_tests L n)).number ≡ 0
      → (rule : Rule) (bs : List ℕ) → checked rule L (Cube p) bs n ≡ verdict 5 0
  fill_check = filling.fill_checked L p h c l f

-- "Pieces parted by fill may share a lattice edge; each has its own vertex there.": these two do
pub pieces_share : (rule : Rule) → (L : Lattice) × (j : ℕ) × (k : ℕ) × (e : ℕ) × Sharing rule L j k e
pieces_share rule = (parted, 1, 2, 30, sharing rule)

-- ── document 02 (iv): "A better start where none is named" ──

module _ (L : Lattice) where
  -- "the lowest crossed cube with none of its six faces in the lattice's bounds": the start that is found is crossed and inside, and no
  -- lower cube is both
  pub start_found : (n : Lengths) → (judge (sample_tests L Unnamed n)).number ≡ 0 → LowestFit L (start_of L Unnamed)
  start_found = starting.start_found L

  -- "5 where no such cube exists", and only there: where 1 to 3 pass
  module _ (n : Lengths) (e : (judge (shape_tests L n)).number ≡ 0) where
    pub start_refused : ((k : ℕ) → Fit L k → ⊥) → judge (sample_tests L Unnamed n) ≡ verdict 5 0
    start_refused = starting.no_start L n e

    pub start_there : (k : ℕ) → Fit L k → judge (sample_tests L Unnamed n) ≡ verdict 0 0
    start_there = starting.some_start L n e

  -- those that "now ask for the old one by name" are given what document 01 gave where none was named, and nothing else
  pub lowest_builds : {before : Lent} {r : Built} {after : Lent} → Builds L Lowest before r after → OldBuilds L before r after
  lowest_builds = starting.old_builds L

  pub builds_lowest : {before : Lent} {r : Built} {after : Lent} → OldBuilds L before r after → Builds L Lowest before r after
  builds_lowest = starting.builds_old L

  pub lowest_checks : {rule : Rule} {bs : List ℕ} {before : Work} {r : Verdict} {after : Work}
      → Checks rule L Lowest bs before r after → OldChecks rule L bs before r after
  lowest_checks = starting.old_checks L

  pub checks_lowest : {rule : Rule} {bs : List ℕ} {before : Work} {r : Verdict} {after : Work}
      → OldChecks rule L bs before r after → Checks rule L Lowest bs before r after
  checks_lowest = starting.checks_old L

-- "none of its six faces in the lattice's bounds": beyond each of them is a cube of the lattice
pub inside_faces : (z : Sizes) (p : Place) → inside z p ≡ all (λ f. f.there && in_lattice z f.beyond) (faces p)
inside_faces = inside_joined

-- ── document 02 (vi): "Nearest instead of down" ──

-- of a solid sample p and an air sample q, each of 16 bits: −p and q − p are `nat_abs (neg_ℤ p)` and `nat_abs (q -ℤ p)`
module _ (p q : ℤ) (solid : air p ≡ false) (airy : air q ≡ true) where
  -- "It is then within half a unit of the exact crossing": |2·t·(q − p) − 2·65,536·(−p)| is at most q − p
  pub within_half : WithinHalf (65536 * nat_abs (neg_ℤ p)) (nat_abs (q -ℤ p)) (crossing Nearest p q)
  within_half = rounding.within_half p q solid airy

  -- "and still short of the air end", by either rule
  pub at_most_65534 : (rule : Rule) → mag p < 32768 → crossing rule p q ≤ 65534
  at_most_65534 = rounding.at_most_65534 p q solid airy

  -- "ties towards the solid end": no 16-bit samples have one
  pub no_ties : mag p < 32768 → mag q < 32768 → (t : ℕ)
      → 2 * (t * nat_abs (q -ℤ p)) + nat_abs (q -ℤ p) ≡ 2 * (65536 * nat_abs (neg_ℤ p)) → ⊥
  no_ties = rounding.no_ties p q solid airy

  -- so the nearest unit is the only one within half a unit
  pub nearest_only : mag p < 32768 → mag q < 32768 → (t : ℕ)
      → WithinHalf (65536 * nat_abs (neg_ℤ p)) (nat_abs (q -ℤ p)) t → t ≡ crossing Nearest p q
  nearest_only = rounding.nearest_only p q solid airy

  -- where the two rules differ, nearest is one unit more
  pub one_unit : (crossing Nearest p q ≡ crossing Down p q) ⊎ (crossing Nearest p q ≡ crossing Down p q + 1)
  one_unit = rounding.one_unit p q solid airy

-- ── document 02 (i): binary STL; the contracts are `StlWrites` and `StlReads` (stl/specs) ──

-- the answer and every lent slice are settled
pub one_stl_write : {nv nt : ℕ} {vs : List ℤ} {ts before : List ℕ} {r r' : Wrote} {after after' : List ℕ}
    → StlWrites nv nt vs ts before r after → StlWrites nv nt vs ts before r' after' → (r ≡ r') × (after ≡ after')
one_stl_write = stl.stl_writes_agree

pub one_stl_read : {bs : List ℕ} {before after after' : List ℤ} {r r' : Loaded}
    → StlReads bs before r after → StlReads bs before r' after' → (r ≡ r') × (after ≡ after')
one_stl_read = stl.stl_reads_agree

pub one_stl_write_result : {nv nt : ℕ} {vs : List ℤ} {ts before : List ℕ} {r r' : Result ℕ Refusal} {after after' : List ℕ}
    → StlWrites nv nt vs ts before (wrote_told r) after → StlWrites nv nt vs ts before (wrote_told r') after'
    → (r ≡ r') × (after ≡ after')
one_stl_write_result = stl.stl_write_results

pub one_stl_read_result : {bs : List ℕ} {before after after' : List ℤ} {r r' : Result ℕ Refusal}
    → StlReads bs before (loaded_told r) after → StlReads bs before (loaded_told r') after' → (r ≡ r') × (after ≡ after')
one_stl_read_result = stl.stl_read_results

module _ {nv nt : ℕ} {vs : List ℤ} {ts before after : List ℕ} {r : Wrote}
    (w : StlWrites nv nt vs ts before r after) (e : r.number ≡ 0) where
  -- "nothing may be rounded": each float of each facet is exactly its coordinate / 65,536
  pub stl_exact : (i : ℕ) → i < nt
      → let f = stl_facet (take r.bytes after) i in
      CornerOf f.a vs (get_or ts (3 * i) 0) × CornerOf f.b vs (get_or ts (3 * i + 1) 0) × CornerOf f.c vs (get_or ts (3 * i + 2) 0)
  stl_exact = stl.written_exact w e

  -- "A reader takes them back to the same integers in the sheet's corner order"
  pub stl_written_read : {us us' : List ℤ} {g : Loaded} → StlReads (take r.bytes after) us g us' → 9 * nt ≤ length us
      → StlReturned nt (each (nine_of vs ts) (range 0 nt)) us g us'
  stl_written_read = stl.read_of_written w e

-- "a float that no such coordinate gives (minus zero too)": 32 bits are taken exactly where they are those of a coordinate's float
pub stl_taken : (b : ℕ) → b < 4294967296 → is_image (of_bits binary32 b) ≡ true → (n : ℕ) × (n ≤ 4128768) × (b ≡ to_bits binary32 (float_of n))
stl_taken = stl.taken_bits

pub stl_takes : (b n : ℕ) → n ≤ 4128768 → b ≡ to_bits binary32 (float_of n) → is_image (of_bits binary32 b) ≡ true
stl_takes = stl.bits_taken

-- ── document 02 (v): "Every piece on the tray"; the contract is `Finds` (pieces/specs) ──

-- the answer, the list and every work slice are settled
pub one_search : {L : Lattice} {before : ListLent} {r r' : Found} {after after' : ListLent}
    → Finds L before r after → Finds L before r' after' → (r ≡ r') × (after ≡ after')
one_search = searches.finds_agree

pub one_search_result : {L : Lattice} {before : ListLent} {r r' : Result ℕ FindError} {after after' : ListLent}
    → Finds L before (found_told r) after → Finds L before (found_told r') after' → (r ≡ r') × (after ≡ after')
one_search_result = searches.find_results

module _ {L : Lattice} {before : ListLent} {r : Found} {after : ListLent} (f : Finds L before r after) where
  -- "the lowest cube of each separate piece, by rising number, written to a lent list of u32", and how many they are
  pub pieces_listed : r.number ≡ 0 → (after.list ≡ over (lowest_cubes L) before.list) × (r.pieces ≡ length (lowest_cubes L))
  pieces_listed = searches.listed f

  -- "5 for no piece": no cube is crossed
  pub pieces_none : r.number ≡ 5 → (k : ℕ) → k < cubes L.size → crossed L k ≡ false
  pieces_none = searches.none_crossed f

  -- "20 for more pieces than the list holds", and how many they are
  pub pieces_many : r.number ≡ 20 → (r.pieces ≡ length (lowest_cubes L)) × (length before.list < length (lowest_cubes L))
  pieces_many = searches.too_many f

  -- "the list untouched"
  pub pieces_refused : (r.number ≡ 0 → ⊥) → after.list ≡ before.list
  pieces_refused = searches.untouched f

module _ (L : Lattice) (s : Sized L.size) where
  -- "The list equals a plain scan's."
  pub pieces_scan : plain_scan L ≡ lowest_cubes L
  pieces_scan = scanning.scan_lowest L s

  -- each listed cube is crossed, and the lowest of its piece
  pub pieces_lowest : (c : ℕ) → T (is_in (plain_scan L) c)
      → T (crossed L c) × (c < cubes L.size) × ((j : ℕ) → T (is_in (visited L c) j) → c ≤ j)
  pieces_lowest = scanning.listed_lowest L s

  -- every crossed cube lies in exactly one listed piece
  pub pieces_once : (k : ℕ) → k < cubes L.size → T (crossed L k) → count (λ c. is_in (visited L c) k) (plain_scan L) ≡ 1
  pieces_once = scanning.one_piece L s

  -- no cube of a listed piece holds the fill
  pub pieces_free : (c : ℕ) → T (is_in (plain_scan L) c) → (k : ℕ) → T (is_in (visited L c) k) → (i : ℕ) → i < 8
      → fill_at L (corner (cube_at L.size k) i) ≡ false
  pieces_free c t = let w = scanning.listed_lowest L s c t in filling.visited_free L c w.1 w.0

  -- "a block whose samples are all on one side is passed over": no cube of it is crossed
  pub block_passed : (b : Place) (n : ℕ) → OneSided L b n → (k : ℕ) → k < cubes L.size → T (in_block b n (cube_at L.size k))
      → crossed L k ≡ false
  block_passed = blocks.one_side_none L s

-- ── document 02 (vii): volumes in f32; the contract is `Converts` (floats/specs) ──

-- the answer and the lent slice are settled
pub one_convert : {l : Level} {n : ℕ} {vs : List Float} {before after after' : List ℤ} {r r' : Verdict}
    → Converts l n vs before r after → Converts l n vs before r' after' → (r ≡ r') × (after ≡ after')
one_convert = floats.converts_agree

pub one_convert_result : {l : Level} {n : ℕ} {vs : List Float} {before after after' : List ℤ} {r r' : Result (Unit {0}) Refusal}
    → Converts l n vs before (verdict_told r) after → Converts l n vs before (verdict_told r') after' → (r ≡ r') × (after ≡ after')
one_convert_result = floats.convert_results

module _ {l : Level} {n : ℕ} {vs : List Float} {before after : List ℤ} {r : Verdict} (c : Converts l n vs before r after) where
  -- a refusal writes nothing
  pub refused_as_was : (r.number ≡ 0 → ⊥) → after ≡ before
  refused_as_was = floats.refused_as_was c

  module _ (e : r.number ≡ 0) where
    -- "Samples go to a lent i16 slice": one for each voxel, and nothing else
    pub converted : after ≡ samples_of l n vs
    converted = floats.all_samples c e

    -- "so no voxel changes side": a sample is above 0 exactly when its voxel is below the level, and exactly when d is above 0
    pub converted_side : Singles l vs → (i : ℕ) → i < length vs → lt_z (pos 0) (get_or after i (pos 0)) ≡ lt (get_or vs i nan) (level_of l)
    converted_side = floats.above_exactly c e

    pub converted_above : (i : ℕ) → i < length vs
        → lt_z (pos 0) (get_or after i (pos 0)) ≡ lt none (sub binary32 (level_of l) (get_or vs i nan))
    converted_above = floats.above_difference c e

    -- "d times a power of two .., cut towards zero and held to ±32,767; where d is above 0 the sample is at least 1": d is a number
    pub converted_exactly : (i : ℕ) → i < length vs → SampleOf (sub binary32 (level_of l) (get_or vs i nan)) n (get_or after i (pos 0))
    converted_exactly = floats.each_exactly c e

    -- "none is the fill of (iii)"
    pub converted_no_fill : (i : ℕ) → i < length vs → get_or after i (pos 0) ≡ negsuc 32767 → ⊥
    converted_no_fill = floats.no_fill_law c e
