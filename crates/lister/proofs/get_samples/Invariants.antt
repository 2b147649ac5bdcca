-- The loop's invariant of `lister::get_samples`: the samples passed are stored, and nothing else.
use Rattle.std.proofs.Common.{◌≡◌, map}
use Rattle.std.proofs.lemmas.List.Edits.{sets}
use Rattle.lists.specs.Lists.{range}
use Rattle.lists.specs.Bytes.{signed}
use Rattle.codec.proofs.Runs.{word_at}
use Rattle.lister.proofs.get_samples.Given as goal

abbrev pub invariant-loop-i : goal.invariant-loop-i
invariant-loop-i l = l.samples ≡ sets l.initial.samples 0 (map (word_at (signed 32768) 2 l.input 6) (range 0 l.i))
