-- Twice the half, and one. Assumes nothing.
use mathlib.Core.Path.{◌≡◌, ap}
use Prim.Native.Nat.{ℕ, zero, suc, ◌-◌, ◌*◌, ◌^◌, ◌≤◌}
use native.Mathlib.Omega.{arith}
use native.Mathlib.Nat.{pow-suc}
use lib.Pow.{pow_pos}
use Rattle.blocks.proofs.mask.Goals as goal

twice : (n : ℕ) → 1 ≤ n → 2 ^ n ≡ 2 * 2 ^ (n - 1)
twice zero h = absurd (omega arith)
twice (suc n) h =
    let e : n ≡ suc n - 1 = omega arith in
    let q : 2 ^ n ≡ 2 ^ (suc n - 1) = ap (λ (k : ℕ). 2 ^ k) e in
    omega (arith, pow-suc 2 n)

pub returns : goal.returns
returns c = omega (arith, c.low_bits.ensures, twice c.args.n c.requires.0, pow_pos (c.args.n - 1))
