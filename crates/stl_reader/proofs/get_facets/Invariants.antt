-- The loop's invariant: the integers of the facets passed are stored. Assumes nothing.
use Rattle.std.proofs.Common.{◌≡◌}
use Rattle.std.proofs.lemmas.List.Edits.{sets}
use Rattle.lists.specs.Lists.{range, each}
use Rattle.stl.specs.Stl.{nine_at}
use Rattle.stl_reader.proofs.get_facets.Given as goal

abbrev pub invariant-loop-i : goal.invariant-loop-i
invariant-loop-i l = l.out ≡ sets l.initial.out 0 (each (nine_at l.bytes) (range 0 l.i))
