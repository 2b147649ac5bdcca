-- The loop's invariant: the facets of the triangles passed are stored. Assumes nothing.
use Rattle.std.proofs.Common.{◌≡◌}
use Rattle.std.proofs.lemmas.List.Edits.{sets}
use Rattle.lists.specs.Lists.{range, each}
use Rattle.stl.specs.Stl.{triangle_bytes}
use Rattle.stl_writer.proofs.Triangles.put_facets.Given as goal

abbrev pub invariant-loop-i : goal.invariant-loop-i
invariant-loop-i l = l.bytes ≡ sets l.initial.bytes 84 (each (triangle_bytes l.self.vertices.now l.self.triangles.now) (range 0 l.i))
