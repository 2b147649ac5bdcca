-- Answers and refusals as the documents number them. Assumes nothing.
use Rattle.std.specs.Prelude.{ℕ, Result, Ok, Err}
use Rattle.paper.specs.declared.Refusal.{Refusal}
use Rattle.paper.specs.declared.Refusal.TheVariants.{Axes, SampleCount, WorkRoom, NoCube, NotCrossed, TriangleRoom as NoTriangleRoom, VertexRoom as NoVertexRoom}
use Rattle.paper.specs.declared.Refusal.TheVariants.{ByteRoom, CountLimit, ShortFile, Mark, Layout, Index, OtherSizes, Record, Triangle, Absent, Grey, LevelOrder, Coordinate, Scale}
use Rattle.paper.specs.declared.SheetCounts.{SheetCounts}
use Rattle.paper.specs.declared.BuildError.{BuildError}
use Rattle.paper.specs.declared.BuildError.TheVariants.{Refused, VertexRoom, TriangleRoom}
use Rattle.paper.specs.declared.Contents.{Contents}
use Rattle.paper.specs.declared.Verdict.{Verdict}
use Rattle.paper.specs.declared.Built.{Built}
use Rattle.paper.specs.declared.Wrote.{Wrote}
use Rattle.paper.specs.declared.Got.{Got}
use Rattle.paper.specs.Tests.{verdict}

-- the number of a refusal, and its place: "Refusal numbers", with those that document 02 adds
abbrev pub verdict_of : Refusal → Verdict
verdict_of Axes = verdict 1 0
verdict_of SampleCount = verdict 2 0
verdict_of WorkRoom = verdict 3 0
verdict_of NoCube = verdict 4 0
verdict_of NotCrossed = verdict 5 0
verdict_of NoVertexRoom = verdict 6 0
verdict_of NoTriangleRoom = verdict 7 0
verdict_of ByteRoom = verdict 8 0
verdict_of CountLimit = verdict 9 0
verdict_of ShortFile = verdict 11 0
verdict_of Mark = verdict 12 0
verdict_of Layout = verdict 14 0
verdict_of (Index i) = verdict 15 i
verdict_of OtherSizes = verdict 16 0
verdict_of (Record i) = verdict 17 i
verdict_of (Triangle i) = verdict 18 i
verdict_of Absent = verdict 19 0
verdict_of (Grey i) = verdict 21 i
verdict_of LevelOrder = verdict 22 0
verdict_of (Coordinate i) = verdict 25 i
verdict_of Scale = verdict 26 0

-- the answer of a test, of a check and of a conversion: "Success is 0."
abbrev pub verdict_told : Result (Unit {0}) Refusal → Verdict
verdict_told (Ok _) = verdict 0 0
verdict_told (Err e) = verdict_of e

-- the answer of a build
abbrev pub built_with : ℕ → SheetCounts → Built
built_with n c = record { number = n; vertices = c.vertices; triangles = c.triangles; cubes = c.cubes }

abbrev pub built_told : Result SheetCounts BuildError → Built
built_told (Ok c) = built_with 0 c
built_told (Err (Refused e)) = record { number = (verdict_of e).number; vertices = 0; triangles = 0; cubes = 0 }
built_told (Err (VertexRoom c)) = built_with 6 c
built_told (Err (TriangleRoom c)) = built_with 7 c

-- the answer of a writer
abbrev pub wrote_told : Result ℕ Refusal → Wrote
wrote_told (Ok n) = record { number = 0; place = 0; bytes = n }
wrote_told (Err e) = record { number = (verdict_of e).number; place = (verdict_of e).place; bytes = 0 }

-- the answer of a reader
abbrev pub got_told : Result Contents Refusal → Got
got_told (Ok c) = record { number = 0; place = 0; vertices = c.vertices; triangles = c.triangles; sizes = c.sizes }
got_told (Err e) =
    record {
      number = (verdict_of e).number;
      place = (verdict_of e).place;
      vertices = 0;
      triangles = 0;
      sizes = record { nx = 0; ny = 0; nz = 0 };
    }
