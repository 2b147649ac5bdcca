-- `voxels::level_of` meets its contract, the halves. Assumes nothing.
use mathlib.Core.Path.{sym, ap}
use lib.Ieee.{of_bits, of_fields, odd}
use Rattle.greys.specs.Level.{level_of}
use Rattle.voxels.proofs.level_of.Goals as goal

pub returns-in-Halfway : goal.returns-in-Halfway
unfolding level_of of_bits of_fields odd
returns-in-Halfway c = sym (ap level_of c.in-Halfway.is)
