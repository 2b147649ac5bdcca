-- Each triangle before i is fresh in its turn, and the bits are those after i. Assumes nothing.
use mathlib.Core.Path.{◌≡◌}
use mathlib.Core.Bool.{false}
use mathlib.Core.List.{List}
use Prim.Native.Nat.{ℕ, ◌<◌}
use lib.IntN.{ℤ}
use Rattle.std.specs.Prelude.{Option, IfSome}
use Rattle.paper.specs.declared.Sizes.{Sizes}
use Rattle.paper.specs.Lattice.{cubes}
use Rattle.paper.specs.File.{file_vertices, file_triangles}
use Rattle.check_triangles.specs.declared.Spot.{Spot}
use Rattle.check_triangles.specs.Words.{words_by}
use Rattle.check_triangles.specs.Triples.{Based, Small, seen_after, bad_in}
use Rattle.check_triangles.proofs.first_bad.Given as goal

-- i triangles are looked at: each was fresh in its turn, their bits are 1, and last is the spot of the one before
pub record Going (z : Sizes) (words : List ℕ) (vs : List ℤ) (ts seen₀ seen : List ℕ) (last : Option Spot) (i : ℕ) : Type 0 where
  pub bits : seen ≡ seen_after z words vs ts seen₀ i
  pub good : (k : ℕ) → k < i → bad_in z words vs ts seen₀ k ≡ false
  pub small : Small (cubes z) seen
  pub based : IfSome last (Based z words)

abbrev pub invariant-loop-i : goal.invariant-loop-i
invariant-loop-i l =
    let w = l.rows in
    let bs = l.file.bytes.now in
    Going w.sizes (words_by w.sizes w.sides.now w.cubes.now) (file_vertices bs) (file_triangles bs) l.initial.seen l.seen l.last l.i
