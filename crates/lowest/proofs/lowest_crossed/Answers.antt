-- No cube before the row is wanted, and no cube of the row so far. Assumes nothing.
use mathlib.Core.Path.{◌≡◌, refl, sym, ap, ◌∙◌}
use Prim.Native.Nat.{ℕ, ◌-◌, ◌*◌, ◌≤◌, ◌<◌}
use native.Mathlib.Omega.{arith}
use Rattle.std.specs.Prelude.{Option, unwrap_or}
use Rattle.paper.specs.Lattice.{lattice, place, cubes, cube_no}
use Rattle.paper.specs.Within.{CubeIn}
use Rattle.rows.specs.Rows.{looked_at}
use Rattle.lowest.proofs.Search.{full, none_looked, looked_le, wanted_bit, clear_row, none_lowest, found_lowest}
use Rattle.lowest.proofs.lowest_crossed.Goals as goal
use Rattle.lowest.proofs.lowest_crossed.Goals.{At-loop-x, Then-has_bit}

-- no more bits are looked at than there are cubes
short : (c : goal.At-loop-x) → c.to_look_at-x-end.result ≤ c.args.rows.now.sizes.nx - 1
short c =
    let n = c.args.rows.now.sizes.nx - 1 in
    omega (arith, c.to_look_at-x-end.ensures, looked_le c.wanted_cubes-m.result n)

pub has_bit-requires : goal.has_bit-requires
has_bit-requires c = omega (arith, short (goal.at.has_bit-requires c).At-loop-x, c.args.rows.now.sized.x_high)

pub loop-y-preserved : goal.loop-y-preserved
loop-y-preserved c =
    let r = c.args.rows.now in
    let n = r.sizes.nx - 1 in
    let m = c.wanted_cubes-m in
    let e : c.loop-x.x ≡ looked_at m.result n = omega (arith, c.to_look_at-x-end.ensures) in
    let none = none_looked m.result n (λ i h. c.loop-x.invariant.clear i (omega arith)) in
    record {
      none = c.loop-x.invariant.none;
      clear = λ j h. clear_row c.args.off r.sizes r.sides.now r.cubes.now m.result c.loop-y.y c.sought.z n m.ensures
          (omega arith) (omega arith) c.loop-y.invariant.clear none j (omega arith);
    }

pub returns-after-sought-clause-lowest : goal.returns-after-sought-clause-lowest
returns-after-sought-clause-lowest c s h =
    let l = c.sought in
    let r = c.args.rows.now in
    let L = lattice r.sizes s in
    let e = full L ((r.sizes.nx - 1) * ((r.sizes.ny - 1) * l.z)) l.z (omega arith) refl in
    ap (λ (o : Option ℕ). unwrap_or o (cubes r.sizes)) l.invariant.none
    ∙ none_lowest c.args.off L r.sides.now r.cubes.now r.sized h (λ j g. l.invariant.clear j (omega arith))

-- the cube that is found
cube_in : (c : goal.Then-has_bit) → CubeIn c.args.rows.now.sizes (place c.loop-x.x c.loop-y.y c.sought.z)
cube_in c = record { x = omega (arith, short (goal.at.Then-has_bit c).At-loop-x); y = omega arith; z = omega arith }

pub cube_no-requires : goal.cube_no-requires
cube_no-requires c = (c.args.rows.now.sized, cube_in (goal.at.cube_no-requires c).Then-has_bit)

pub returns-then-has_bit-clause-lowest : goal.returns-then-has_bit-clause-lowest
unfolding cube_no
returns-then-has_bit-clause-lowest c s h =
    let r = c.args.rows.now in
    let k = c.loop-y in
    let z = c.sought.z in
    let m = c.wanted_cubes-m in
    let x = c.loop-x.x in
    let off = c.args.off in
    let hx : x < r.sizes.nx - 1 = omega (arith, short (goal.at.returns-then-has_bit-clause-lowest c).At-loop-x) in
    c.cube_no.ensures.0
    ∙ found_lowest off (lattice r.sizes s) r.sides.now r.cubes.now r.sized h (place x k.y z)
    (cube_in (goal.at.returns-then-has_bit-clause-lowest c).Then-has_bit)
    (clear_row off r.sizes r.sides.now r.cubes.now m.result k.y z x m.ensures (omega arith) (omega arith) k.invariant.clear
    c.loop-x.invariant.clear)
    (sym (wanted_bit off r.sizes r.sides.now r.cubes.now m.result k.y z x m.ensures) ∙ (sym c.has_bit.ensures ∙ c.if-has_bit.true))
