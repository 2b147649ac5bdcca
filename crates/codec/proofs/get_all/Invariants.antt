-- The loop's invariant of `codec::get_all`: the numbers passed are stored, and nothing else.
use Rattle.std.proofs.Common.{◌≡◌, map}
use Rattle.std.proofs.lemmas.List.Edits.{sets}
use Rattle.lists.specs.Lists.{range}
use Rattle.codec.proofs.Runs.{word_at}
use Rattle.codec.proofs.get_all.Given as goal

abbrev pub invariant-loop-i : goal.invariant-loop-i
invariant-loop-i g l = l.v ≡ sets l.initial.v 0 (map (word_at g.T.Number.of g.T.Number.SIZE l.s l.at) (range 0 l.i))
