-- The crossed cubes of a part of a row are marked in its word. Assumes nothing.
use mathlib.Core.Path.{sym, subst}
use Prim.Native.Nat.{ℕ, ◌+◌, ◌-◌, ◌*◌, ◌^◌, ◌≤◌}
use native.Mathlib.Omega.{arith}
use lib.Bits.{bit_and}
use lib.Pow.{pow_mono}
use Rattle.rows.proofs.Making.{row_lt}
use Rattle.rows.proofs.Cubes.{row_bit}
use Rattle.blocks.specs.Blocks.{in_box, crossed_where, Marked}
use Rattle.blocks.proofs.Marks.{marked_in}
use Rattle.blocks.proofs.Boxes.{part_marked}
use Rattle.marking.proofs.mark_part.Goals as goal

pub overflow_sub-k : goal.overflow_sub-k
overflow_sub-k c =
    let a = c.args in
    let l : 2 ^ a.at.x ≤ 2 ^ (a.at.x + a.n) = pow_mono (omega arith) in
    omega (arith, c.low_bits-2.ensures, c.low_bits.ensures)

pub returns : goal.returns
returns c =
    let a = c.args in
    let r = a.rows.now in
    let z = r.sizes in
    let b = a.at in
    let n = c.requires.n_bound in
    let m = c.crossed-m in
    let old = a.found.now in
    let high = c.low_bits.ensures in
    let low = c.low_bits-2.ensures in
    let due = crossed_where z r.sides.now r.cubes.now (in_box b a.n 1 1) in
    subst (λ (k : ℕ). Marked z due old (marked_in old (b.y + z.ny * b.z) (bit_and m.result k)))
    (λ i. sym high i - sym low i)
    (part_marked z r.sides.now r.cubes.now b a.n n.0 n.1 n.2 m.result
    (λ x. row_bit z r.sides.now r.cubes.now m.result b.y b.z x m.ensures) old
    (omega (arith, row_lt z b.y b.z (omega (arith, n.1)) (omega (arith, n.2)), c.requires.found_long)))
