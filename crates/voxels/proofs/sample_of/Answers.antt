-- `voxels::sample_of` meets its contract, by the side of the difference. Assumes nothing.
use mathlib.Core.Path.{ap, ◌∙◌}
use Prim.Native.Nat.{ℕ, max}
use native.Mathlib.Omega.{arith}
use lib.IntN.{pos, neg_ℤ}
use lib.Ieee.{binary32, of_bits, of_fields, odd}
use lib.Ieee.Fits.{sub-fits}
use Rattle.greys.specs.Sample.{cut_of, sample_of}
use Rattle.greys.proofs.Ints.{above_back, below_back}
use Rattle.greys.proofs.Bounds.{difference_bounded}
use Rattle.voxels.proofs.sample_of.Goals as goal

pub steps-size-requires : goal.steps-size-requires
steps-size-requires c =
    let a = c.args in
    (c.requires.0, difference_bounded a.level a.voxel c.requires.1 c.requires.2, sub-fits binary32 a.level a.voxel)

pub returns-then-d : goal.returns-then-d
unfolding sample_of cut_of of_bits of_fields odd
returns-then-d c =
    let steps = c.steps-size in
    above_back c.air.result (max 1 steps.result) c.air.ensures (omega (arith, steps.ensures.1))
    ∙ ap (λ (k : ℕ). pos (max 1 k)) steps.ensures.0
    ∙ rw c.if-d.true

pub returns-else-d : goal.returns-else-d
unfolding sample_of cut_of of_bits of_fields odd
returns-else-d c =
    let steps = c.steps-size in
    below_back c.solid.result steps.result c.solid.ensures (omega (arith, steps.ensures.1))
    ∙ ap (λ (k : ℕ). neg_ℤ (pos k)) steps.ensures.0
    ∙ rw c.if-d.false
