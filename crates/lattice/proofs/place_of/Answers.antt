-- The three digits of the number; all of them fit. Assumes nothing.
use mathlib.Core.Path.{ap}
use native.Mathlib.Nat.{mod-lt, div-le_self, div-div-eq-div-mul}
use Prim.Native.Nat.{ℕ, ◌%◌, ◌/◌}
use native.Mathlib.Omega.{arith}
use Rattle.paper.specs.Lattice.{place}
use Rattle.lattice.proofs.place_of.Goals as goal

pub overflow_cast-result : goal.overflow_cast-result
overflow_cast-result c = let p = c.requires in omega (arith, mod-lt c.args.n p.1)

pub overflow_cast-result-2 : goal.overflow_cast-result-2
overflow_cast-result-2 c = let p = c.requires in omega (arith, mod-lt (c.args.n / c.args.w) p.3)

pub overflow_cast-result-3 : goal.overflow_cast-result-3
overflow_cast-result-3 c = omega (arith, div-le_self (c.args.n / c.args.w) c.args.h, div-le_self c.args.n c.args.w)

pub returns : goal.returns
returns c =
    let n = c.args.n in
    let w = c.args.w in
    let h = c.args.h in
    ap (λ (z : ℕ). place (n % w) (n / w % h) z) (div-div-eq-div-mul n w h)
