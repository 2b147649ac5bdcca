-- The search from c on finds what the search from the start finds. Assumes nothing.
use mathlib.Core.Path.{◌≡◌}
use Rattle.tetra.specs.Cut.{tri_of}
use Rattle.check_triangles.specs.Triples.{place_from}
use Rattle.check_triangles.proofs.place_from.Given as goal

abbrev pub invariant-loop-c : goal.invariant-loop-c
invariant-loop-c l =
    let z = l.cut.sizes in place_from z l.base l.m (tri_of l.t) l.from ≡ place_from z l.base l.m (tri_of l.t) l.c
