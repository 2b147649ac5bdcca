-- The test of the two numbers. Assumes nothing.
use mathlib.Core.Path.{sym, ◌∙◌}
use Prim.Native.Nat.{◌*◌}
use mir.Facts.{to_z-of_z}
use Rattle.paper.specs.Sheet.{rounded}
use Rattle.paper.proofs.Crossing.{crossing_nat}
use Rattle.crossing.proofs.is_crossing.Goals as goal

pub returns : goal.returns
returns c t =
    let a = c.args in
    let w = rw (to_z-of_z c.ranges.p, to_z-of_z c.ranges.q) at c.solid_and_whole-n.ensures.values in
    c.is_rounded.ensures t
    ∙ ((λ i. rounded a.rule (65536 * w.0 i) (w.1 i)) ∙ sym (crossing_nat a.rule a.p a.q c.requires.0 c.requires.1))
