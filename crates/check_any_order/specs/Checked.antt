-- What the parts of a check leave and answer. Assumes nothing.
use Rattle.std.specs.Prelude.{◌≡◌, ◌&&◌, List, [], ◌∷◌, ℕ, eqb, drop}
use Rattle.lists.specs.Lists.{Beyond}
use Rattle.paper.specs.declared.Verdict.{Verdict}
use Rattle.paper.specs.declared.Rule.{Rule}
use Rattle.paper.specs.Lattice.{Lattice, cubes}
use Rattle.paper.specs.Room.{Work, needed, needed_slots}
use Rattle.paper.specs.Within.{Full}
use Rattle.paper.specs.Tests.{Test, test, test_at, verdict, judge}
use Rattle.paper.specs.Sheet.{sheet_of}
use Rattle.paper.specs.File.{file_v, file_t, file_vertices, file_triangles}
use Rattle.paper.specs.Check.{sheet_tests}
use Rattle.layout.specs.Laid.{LaidOut}
use Rattle.spread.specs.Flooded.{Stands}
use Rattle.tally.specs.declared.Counts.{Counts}
use Rattle.check_records.specs.Records.{AllCross, first_bad_in as first_bad_record}
use Rattle.check_triangles.specs.Triples.{Small, Sure, first_bad_in as first_bad_triple}

-- tests 17 to 19 under a rule, by the words of the visited cubes, the waiting list, the slots and the sheet's counts
unfoldable pub found_tests : Rule → Lattice → List ℕ → Counts → Work → List Test
found_tests rule L bs n w =
    let nv = file_v bs in
    let nt = file_t bs in
    let vs = file_vertices bs in
    let i = first_bad_record rule L vs w.slots nv in
    let j = first_bad_triple L.size w.words vs (file_triangles bs) w.waiting nt in
    test_at 17 i (eqb i nv) ∷ test_at 18 j (eqb j nt) ∷ test 19 (eqb nv n.vertices && eqb nt n.triangles) ∷ []

-- what comparing answers, and that it leaves the rest of the two slices that it writes
pub record Compared (rule : Rule) (L : Lattice) (bs : List ℕ) (n : Counts) (before : Work) (r : Verdict) (after : Work) : Type 0 where
  pub answer : r ≡ judge (found_tests rule L bs n before)
  pub waiting : Beyond (needed L.size) before.waiting after.waiting
  pub slots : Beyond (needed_slots L.size) before.slots after.slots

-- what is asked for comparing: a lattice, a file and work slices as a measured sheet leaves them, with an empty waiting list
pub record Comparable (L : Lattice) (bs : List ℕ) (w : Work) : Type 0 where
  pub full : Full L
  pub laid : LaidOut bs
  pub crossing : AllCross L w.slots
  pub small : Small (cubes L.size) w.waiting
  pub sure : Sure L.size w.words

-- tests 17 to 19 under a rule
unfoldable pub last_tests : Rule → Lattice → ℕ → List ℕ → List Test
last_tests rule L start bs = drop 1 (sheet_tests L.size (sheet_of rule L start) bs)

-- r is what they answer, of any start from which these are the visited cubes
pub record Answers (rule : Rule) (L : Lattice) (rows vis bs : List ℕ) (r : Verdict) : Type 0 where
  pub is : (k : ℕ) → Stands L k rows vis → r ≡ judge (last_tests rule L k bs)

-- the file passes them
abbrev pub Accepts : Rule → Lattice → List ℕ → List ℕ → List ℕ → Type 0
Accepts rule L rows vis bs = Answers rule L rows vis bs (verdict 0 0)
