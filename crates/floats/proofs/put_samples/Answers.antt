-- `floats::put_samples` meets its contract. The loop's invariant: the samples of the voxels passed are stored, the rest is as it was.
-- Assumes nothing.
use mathlib.Core.Path.{◌∙◌}
use native.Mathlib.Omega.{arith}
use native.Mathlib.Numerals.{add-one}
use mir.Syntax.{w16}
use mir.Facts.{to_z-of_z}
use lib.Ieee.{nan}
use Rattle.greys.specs.Sample.{sample_of}
use Rattle.greys.proofs.Converting.{store_more}
use Rattle.floats.proofs.put_samples.Goals as goal

pub loop-i-preserved : goal.loop-i-preserved
loop-i-preserved c =
    let a = c.args in
    let l = c.loop-i in
    let r = to_z-of_z {w = w16} {z = c.sample_of.result} (record { sfits = c.sample_of.type_inv }) ∙ c.sample_of.ensures in
    rw (r, l.invariant, add-one l.i) (store_more (sample_of a.level a.scale) nan l.i a.voxels.now a.samples.now (omega arith) (omega arith))
