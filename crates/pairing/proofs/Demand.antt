-- Demand 3 of each sheet and of each file that a checker accepts, under either rule of rounding. Assumes nothing.
use mathlib.Core.Path.{◌≡◌, ap}
use mathlib.Core.List.{List}
use Prim.Native.Nat.{ℕ, ◌<◌}
use lib.IntN.{pos, nat_abs}
use lib.Dec.{T}
use Rattle.paper.specs.declared.Start.{Start}
use Rattle.paper.specs.declared.Verdict.{Verdict}
use Rattle.paper.specs.declared.Rule.{Rule}
use Rattle.paper.specs.Lattice.{Lattice, no_fill}
use Rattle.paper.specs.Sheet.{Sheet, sheet_of}
use Rattle.paper.specs.Tests.{judge, verdict}
use Rattle.paper.specs.Room.{Lengths}
use Rattle.paper.specs.Build.{start_of, sample_tests}
use Rattle.paper.specs.File.{file_v, file_vertices}
use Rattle.paper.specs.Check.{edge_of, checked}
use Rattle.paper.proofs.Passing.{Started, sample_tests_law, Accepted, accepted}
use Rattle.paper.proofs.Visits.{crossed_visitable}
use Rattle.pairing.specs.Pairing.{times, apart, Paired, Demand3, Demand3By, file_edges, file_corners}
use Rattle.pairing.specs.Visitable.{outer}
use Rattle.pairing.proofs.Sheets.{by_edge_law, apart_is, by_edge_outer}
use Rattle.pairing.proofs.Built
use Rattle.pairing.proofs.Files

-- a lattice and a start that pass tests 1 to 5
module _ (rule : Rule) (L : Lattice) (s : Start) (t : Started L s) where
  abbrev S : Sheet
  S = sheet_of rule L (start_of L s)

  paired : Paired (apart L) S.by_edge
  paired = by_edge_law L t.sizes (start_of L s) t.start rule (crossed_visitable L (start_of L s) t.crosses)

  paired_outer : T (no_fill L) → Paired (outer L.size) S.by_edge
  paired_outer f = by_edge_outer L t.sizes (start_of L s) t.start f rule

module _ (rule : Rule) (L : Lattice) (s : Start) (n : Lengths) (e : (judge (sample_tests L s n)).number ≡ 0) where
  started : Started L s
  started = sample_tests_law L s n e

  -- the directed edges of the sheet, by lattice edges
  pub sheet_by_edge : Paired (apart L) (sheet_of rule L (start_of L s)).by_edge
  sheet_by_edge = paired rule L s started

  -- its vertices, and its directed edges by vertex numbers
  pub sheet : Demand3 L (start_of L s) (sheet_of rule L (start_of L s)).edges (sheet_of rule L (start_of L s)).triangles
  sheet = Built.demand rule L started.sizes (start_of L s) started.start (apart L) (paired rule L s started)

  -- where no sample is the fill, an outer face is one of the lattice, as in document 01
  pub sheet_apart : T (no_fill L) → (e f : ℕ) → 0 < times (sheet_of rule L (start_of L s)).by_edge e f → apart L e f ≡ outer L.size e f
  sheet_apart f = apart_is L started.sizes (start_of L s) started.start f rule

  pub sheet_outer : T (no_fill L)
      → Demand3By (outer L.size) L (start_of L s) (sheet_of rule L (start_of L s)).edges (sheet_of rule L (start_of L s)).triangles
  sheet_outer f = Built.demand rule L started.sizes (start_of L s) started.start (outer L.size) (paired_outer rule L s started f)

-- a file that is accepted
module _ (rule : Rule) (L : Lattice) (s : Start) (bs : List ℕ) (n : Lengths) (e : checked rule L s bs n ≡ verdict 0 0) where
  accepts : Accepted rule L s bs
  accepts = accepted rule L s bs n (ap (λ (v : Verdict). v.number) e)

  -- its own records and triangles, in its own order
  pub file : Demand3 L (start_of L s) (file_edges bs) (file_corners bs)
  file = Files.demand rule L s bs accepts (apart L) (paired rule L s accepts.started)

  pub file_outer : T (no_fill L) → Demand3By (outer L.size) L (start_of L s) (file_edges bs) (file_corners bs)
  file_outer f = Files.demand rule L s bs accepts (outer L.size) (paired_outer rule L s accepts.started f)

  -- no record's edge is below 0, so that `file_edges` are the records' edges as they stand
  pub file_edges_law : (i : ℕ) → i < file_v bs → edge_of (file_vertices bs) i ≡ pos (nat_abs (edge_of (file_vertices bs) i))
  file_edges_law = Files.no_sign rule L s bs accepts
