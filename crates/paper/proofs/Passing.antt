-- What the numbers and the passing of document 01's tests say: 1 to 5 of the samples, 6 and 7 of the room, 11 to 15 of a file, 16 to 19
-- of a file against the sheet. Assumes nothing.
use mathlib.Core.Path.{◌≡◌, refl, sym, ap, ◌∙◌}
use mathlib.Core.Bool.{Bool, true, false, cond}
use mathlib.Core.List.{List, ◌++◌}
use Prim.Native.Nat.{ℕ, ◌≤◌, ◌<◌}
use native.Mathlib.Omega.{arith}
use lib.Dec.{T}
use lib.ListN.{length}
use borrow.Author.Tests.{leb-true, le-leb}
use Rattle.lists.specs.Lists.{cleared}
use Rattle.lists.proofs.Member.{eq_to_t}
use Rattle.paper.specs.declared.Start.{Start}
use Rattle.paper.specs.declared.Start.TheVariants.{Unnamed, Lowest, Cube}
use Rattle.paper.specs.declared.Sizes.{Sizes}
use Rattle.paper.specs.declared.Rule.{Rule}
use Rattle.paper.specs.Lattice.{Lattice, cubes, crossed, may_start}
use Rattle.paper.specs.Sheet.{Sheet, vertex_record, sheet_of}
use Rattle.paper.specs.Within.{Sized}
use Rattle.paper.specs.Tests.{Test, verdict, judge}
use Rattle.paper.specs.Room.{Work, work, Lengths, lengths, needed, needed_slots, vertex_room}
use Rattle.paper.specs.Room.{triangle_room, room_tests, clears, front_after, clean, work_after}
use Rattle.paper.specs.Build.{Lent, start_of, sheet_from, named, starts, shape_tests, start_tests}
use Rattle.paper.specs.Build.{sample_tests, build_number, counts, counted, uncounted, built}
use Rattle.paper.specs.File.{bad_triangle, file_v, file_t, file_triangles, file_tests}
use Rattle.paper.specs.Check.{sheet_tests, checked}
use Rattle.paper.proofs.Tested.{indices_passed, Compared, compared}
use Rattle.paper.proofs.Numbers.{cube_lt}
use Rattle.paper.proofs.Visits.{in_lattice_law}
use Rattle.paper.proofs.Starts.{lowest_lt, lowest_passes, may_crossed}
use Rattle.paper.proofs.Listing.{parts}
use Rattle.paper.proofs.Judged.{Numbered, Passed, numbered_both, passed_both, judge_all, judge_among, judge_placeless, sized}

-- ── 1 to 5 ──

-- the sizes, and a start in the lattice that is crossed
pub record Started (L : Lattice) (s : Start) : Type 0 where
  pub sizes : Sized L.size
  pub start : start_of L s < cubes L.size
  pub crosses : T (crossed L (start_of L s))

starting : (L : Lattice) (s : Start) → named L.size s ≡ true → starts L s ≡ true → start_of L s < cubes L.size
starting L Unnamed t h = lowest_lt L.size (may_start L) h
starting L Lowest t h = lowest_lt L.size (crossed L) h
starting L (Cube p) t h = cube_lt L.size p (in_lattice_law L.size p (eq_to_t t))

crossing : (L : Lattice) (s : Start) → named L.size s ≡ true → starts L s ≡ true → T (crossed L (start_of L s))
crossing L Unnamed t h =
    may_crossed L (start_of L Unnamed) (lowest_passes L.size (may_start L) (lowest_lt L.size (may_start L) h))
crossing L Lowest t h = lowest_passes L.size (crossed L) (lowest_lt L.size (crossed L) h)
crossing L (Cube p) t h = eq_to_t h

pub shape_numbered : (L : Lattice) (m : Lengths) → Numbered (shape_tests L m)
unfolding shape_tests
shape_numbered L m = (omega arith, (omega arith, (omega arith, tt)))

module _ (L : Lattice) (s : Start) (m : Lengths) where
  pub sample_numbered : Numbered (sample_tests L s m)
  unfolding sample_tests shape_tests start_tests
  sample_numbered = (omega arith, (omega arith, (omega arith, (omega arith, (omega arith, tt)))))

  pub sample_passed : Passed (sample_tests L s m) → Started L s
  unfolding sample_tests shape_tests start_tests
  sample_passed p =
      let n = p.1.1.1.0 in
      let k = p.1.1.1.1.0 in
      record { sizes = sized L.size p.0; start = starting L s n k; crosses = crossing L s n k }

  pub sample_tests_law : (judge (sample_tests L s m)).number ≡ 0 → Started L s
  sample_tests_law z = sample_passed (judge_all (sample_tests L s m) sample_numbered z)

  -- they have no place, and where one fails nothing is counted or cleared
  pub sample_answer : (n : ℕ) → n ≡ (judge (sample_tests L s m)).number → verdict n 0 ≡ judge (sample_tests L s m)
  unfolding sample_tests shape_tests start_tests
  sample_answer n f = λ k. verdict (f k) (sym (judge_placeless (sample_tests L s m) (refl, (refl, (refl, (refl, (refl, tt)))))) k)

  module _ (h : (judge (sample_tests L s m)).number ≡ 0 → ⊥) where
    pub sample_counts : counts (judge (sample_tests L s m)).number ≡ false
    unfolding sample_tests shape_tests start_tests
    sample_counts =
        judge_among (λ n. counts n ≡ false) (sample_tests L s m) (refl, (refl, (refl, (refl, (refl, tt))))) (λ z. absurd (h z))

    pub sample_keeps : clears (judge (sample_tests L s m)).number ≡ false
    unfolding sample_tests shape_tests start_tests
    sample_keeps =
        judge_among (λ n. clears n ≡ false) (sample_tests L s m) (refl, (refl, (refl, (refl, (refl, tt))))) (λ z. absurd (h z))

-- ── 6 and 7 ──

module _ (nv nt vertices triangles : ℕ) where
  pub room_numbered : Numbered (room_tests nv nt vertices triangles)
  unfolding room_tests
  room_numbered = (omega arith, (omega arith, tt))

  pub room_passed : Passed (room_tests nv nt vertices triangles) → (nv ≤ vertices) × (nt ≤ triangles)
  unfolding room_tests
  room_passed p = (leb-true nv vertices p.0, leb-true nt triangles p.1.0)

  pub room_tests_law : (judge (room_tests nv nt vertices triangles)).number ≡ 0 → (nv ≤ vertices) × (nt ≤ triangles)
  room_tests_law e = room_passed (judge_all (room_tests nv nt vertices triangles) room_numbered e)

  pub room_enough : nv ≤ vertices → nt ≤ triangles → judge (room_tests nv nt vertices triangles) ≡ verdict 0 0
  unfolding room_tests
  room_enough a b = rw (le-leb nv vertices a, le-leb nt triangles b)

  -- whether they are passed or not, the sheet is counted and the work room cleared
  pub room_counts : counts (judge (room_tests nv nt vertices triangles)).number ≡ true
  unfolding room_tests
  room_counts = judge_among (λ n. counts n ≡ true) (room_tests nv nt vertices triangles) (refl, (refl, tt)) (λ z. refl)

  pub room_clears : clears (judge (room_tests nv nt vertices triangles)).number ≡ true
  unfolding room_tests
  room_clears = judge_among (λ n. clears n ≡ true) (room_tests nv nt vertices triangles) (refl, (refl, tt)) (λ z. refl)

-- ── a build ──

module _ (L : Lattice) (s : Start) (l : Lent) where
  abbrev S : Sheet
  S = sheet_from L s

  abbrev first_tests : List Test
  first_tests = sample_tests L s (lengths l.work)

  abbrev late_tests : List Test
  late_tests = room_tests (length S.edges) (length S.triangles) (vertex_room l.vertices) (triangle_room l.triangles)

  pub built_number : (built L s l).number ≡ build_number L s l
  unfolding built
  built_number = go (counts (build_number L s l))
    where
      go : (b : Bool) → (cond b (counted (build_number L s l) S) (uncounted (build_number L s l))).number ≡ build_number L s l
      go true = refl
      go false = refl

  -- at a number, by whether it counts
  pub built_at : (n : ℕ) (b : Bool) → build_number L s l ≡ n → counts n ≡ b → built L s l ≡ cond b (counted n S) (uncounted n)
  unfolding built
  built_at n b e c =
      ap (λ (k : ℕ). cond (counts k) (counted k S) (uncounted k)) e ∙ ap (λ (b : Bool). cond b (counted n S) (uncounted n)) c

  pub built_zero : (built L s l).number ≡ 0 → built L s l ≡ counted 0 S
  built_zero e = built_at 0 true (sym built_number ∙ e) refl

  -- a sheet that is built has room
  pub built_fits : (built L s l).number ≡ 0
      → (length S.edges ≤ vertex_room l.vertices) × (length S.triangles ≤ triangle_room l.triangles)
  unfolding build_number
  built_fits e =
      let f = length S.edges in
      let g = length S.triangles in
      let v = vertex_room l.vertices in
      let t = triangle_room l.triangles in
      room_passed f g v t
      (passed_both first_tests late_tests
      (judge_all (first_tests ++ late_tests)
      (numbered_both first_tests late_tests (sample_numbered L s (lengths l.work)) (room_numbered f g v t))
      (sym built_number ∙ e))).1

-- an answer knows only how much room there is
pub built_same : (L : Lattice) (s : Start) (l m : Lent) → vertex_room l.vertices ≡ vertex_room m.vertices
    → triangle_room l.triangles ≡ triangle_room m.triangles → lengths l.work ≡ lengths m.work
    → (built L s l ≡ built L s m) × (build_number L s l ≡ build_number L s m)
unfolding built build_number
built_same L s l m v t w =
    let S = sheet_from L s in
    let n : 𝕀 → ℕ =
    λ i. (judge (sample_tests L s (w i) ++ room_tests (length S.edges) (length S.triangles) (v i) (t i))).number in
    ((λ i. cond (counts (n i)) (counted (n i) S) (uncounted (n i))), (λ i. n i))

-- ── work room ──

module _ (number : ℕ) where
  front_kept : clears number ≡ false → (n : ℕ) (old : List ℕ) → front_after number n old ≡ old
  unfolding front_after
  front_kept e n old = ap (λ (b : Bool). cond b (cleared n old) old) e

  front_cleared : clears number ≡ true → (n : ℕ) (old : List ℕ) → front_after number n old ≡ cleared n old
  unfolding front_after
  front_cleared e n old = ap (λ (b : Bool). cond b (cleared n old) old) e

  pub work_kept : (z : Sizes) (w : Work) → clears number ≡ false → work_after number z w ≡ w
  work_kept z w e =
      λ k. work (front_kept e (needed z) w.words k) (front_kept e (needed z) w.waiting k) (front_kept e (needed_slots z) w.slots k)

  pub work_cleared : (z : Sizes) (w : Work) → clears number ≡ true → work_after number z w ≡ clean z w
  work_cleared z w e =
      λ k. work
      (front_cleared e (needed z) w.words k)
      (front_cleared e (needed z) w.waiting k)
      (front_cleared e (needed_slots z) w.slots k)

-- ── 11 to 19 ──

pub file_numbered : (bs : List ℕ) → Numbered (file_tests bs)
unfolding file_tests
file_numbered bs = (omega arith, (omega arith, (omega arith, (omega arith, (omega arith, tt)))))

pub file_keeps : (bs : List ℕ) → ((judge (file_tests bs)).number ≡ 0 → ⊥) → clears (judge (file_tests bs)).number ≡ false
unfolding file_tests
file_keeps bs h = judge_among (λ n. clears n ≡ false) (file_tests bs) (refl, (refl, (refl, (refl, (refl, tt))))) (λ z. absurd (h z))

pub sheet_numbered : (z : Sizes) (S : Sheet) (bs : List ℕ) → Numbered (sheet_tests z S bs)
unfolding sheet_tests
sheet_numbered z S bs = (omega arith, (omega arith, (omega arith, (omega arith, tt))))

-- a file that is accepted passes them all
pub all_passed : (rule : Rule) (L : Lattice) (s : Start) (bs : List ℕ) (m : Lengths) → (checked rule L s bs m).number ≡ 0
    → Passed (sample_tests L s m) × Passed (file_tests bs) × Passed (sheet_tests L.size (sheet_of rule L (start_of L s)) bs)
unfolding checked
all_passed rule L s bs m n =
    let a = sample_tests L s m in
    let b = file_tests bs in
    let S = sheet_of rule L (start_of L s) in
    let c = sheet_tests L.size S bs in
    let k = numbered_both (a ++ b) c (numbered_both a b (sample_numbered L s m) (file_numbered bs)) (sheet_numbered L.size S bs) in
    let x = passed_both (a ++ b) c (judge_all (a ++ b ++ c) k n) in
    let y = passed_both a b x.0 in
    (y.0, y.1, x.1)

pub record Accepted (rule : Rule) (L : Lattice) (s : Start) (bs : List ℕ) : Type 0 where
  pub started : Started L s
  pub indices : (i : ℕ) → i < file_t bs → bad_triangle (file_v bs) (file_triangles bs) i ≡ false
  pub compared : Compared L.size (vertex_record rule L) (sheet_of rule L (start_of L s)) bs

pub accepted : (rule : Rule) (L : Lattice) (s : Start) (bs : List ℕ) (m : Lengths) → (checked rule L s bs m).number ≡ 0
    → Accepted rule L s bs
accepted rule L s bs m n =
    let p = all_passed rule L s bs m n in
    let k = start_of L s in
    record {
      started = sample_passed L s m p.0;
      indices = indices_passed bs p.1;
      compared = compared L.size (vertex_record rule L) (sheet_of rule L k) bs (parts rule L k).records p.2;
    }
