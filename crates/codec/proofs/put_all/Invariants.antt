-- The loop's invariant of `codec::put_all`: the bytes of the numbers passed are stored, and nothing else.
use Rattle.std.proofs.Common.{◌≡◌, take}
use Rattle.std.proofs.lemmas.List.Edits.{sets}
use Rattle.lists.specs.Lists.{each}
use Rattle.codec.proofs.put_all.Given as goal

abbrev pub invariant-loop-i : goal.invariant-loop-i
invariant-loop-i g l = l.out ≡ sets l.initial.out l.at (each g.T.Number.bytes (take l.i l.v))
