-- `floats::put_samples` meets its contract. The loop's invariant: the samples of the voxels passed are stored, the rest is as it was.
-- Assumes nothing.
use mathlib.Core.Path.{◌≡◌}
use mathlib.Core.List.{◌++◌, map}
use lib.ListN.{take, drop}
use Rattle.greys.specs.Sample.{sample_of}
use Rattle.floats.proofs.put_samples.Given as goal

abbrev pub invariant-loop-i : goal.invariant-loop-i
invariant-loop-i l = l.samples ≡ map (sample_of l.level l.scale) (take l.i l.voxels) ++ drop l.i l.initial.samples
