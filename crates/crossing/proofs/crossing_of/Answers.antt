-- The quotient of the two numbers. Assumes nothing.
use mathlib.Core.Path.{◌≡◌, sym, ◌∙◌}
use Prim.Native.Nat.{◌*◌}
use native.Mathlib.Omega.{arith}
use mir.Facts.{to_z-of_z}
use Rattle.paper.specs.Sheet.{rounded, crossing}
use Rattle.paper.proofs.Crossing.{crossing_nat, at_most_65534}
use Rattle.crossing.proofs.crossing_of.Goals as goal

pub returns : goal.returns
returns c =
    let a = c.args in
    let h = c.requires in
    let w = rw (to_z-of_z c.ranges.p, to_z-of_z c.ranges.q) at c.solid_and_whole-n.ensures.values in
    let is : c.rounded_by.result ≡ crossing a.rule a.p a.q =
    c.rounded_by.ensures ∙ ((λ i. rounded a.rule (65536 * w.0 i) (w.1 i)) ∙ sym (crossing_nat a.rule a.p a.q h.0 h.1)) in
    (is, omega (arith, is, at_most_65534 a.p a.q h.0 h.1 a.rule c.ranges.p.sfits))
