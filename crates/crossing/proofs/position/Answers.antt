-- The machine's sum is the stepped coordinate. Assumes nothing.
use mathlib.Core.Path.{◌∙◌}
use Prim.Native.Nat.{◌*◌}
use native.Mathlib.Omega.{arith}
use mir.Syntax.{w32}
use mir.Facts.{to_z_pos, to_z-of_z}
use Rattle.crossing.proofs.Coordinates.{stepped, stepped_is, fit}
use Rattle.crossing.proofs.position.Goals as goal

pub returns : goal.returns
unfolding stepped
returns c =
    let a = c.args in
    let n = c.requires.0 in
    let f = fit a.t (omega (arith, c.requires.1)) a.solid a.airy n in
    rw (
      to_z_pos w32 {n = a.solid} (omega (arith, n.low)),
      to_z_pos w32 {n = a.airy} (omega (arith, n.low, n.up)),
      to_z_pos w32 {n = a.t} (omega arith),
      to_z-of_z f.step,
      to_z-of_z f.product,
      to_z_pos w32 {n = 65536 * a.solid} (omega (arith, n.low)),
    ) (to_z-of_z f.sum)
    ∙ stepped_is a.t (omega (arith, c.requires.1)) a.solid a.airy n
