-- The two numbers of a quotient as the machine has them, from the values of a solid end and of an air end. Assumes nothing.
use mathlib.Core.Path.{◌≡◌, sym, subst, ap}
use mathlib.Core.Bool.{true, false}
use Prim.Native.Nat.{◌+◌, ◌≤◌}
use native.Mathlib.Omega.{arith}
use lib.Dec.{T}
use lib.IntN.{ℤ, pos, negsuc, nat_abs, ◌-ℤ◌}
use lib.Signed.{nat_abs-le}
use mir.Syntax.{w16, w32}
use mir.Val.{SFits, to_z, of_z}
use mir.Facts.{to_z_pos}
use Rattle.paper.specs.Lattice.{air}
use Rattle.paper.proofs.Ints.{widened}
use Rattle.paper.proofs.Crossing.{solid_neg, difference}

pub size : {z : ℤ} → SFits w16 z → nat_abs z ≤ 32768
size {z} f = nat_abs-le z f.sfits

-- an air end's
pub size_air : (q : ℤ) → SFits w16 q → air q ≡ true → nat_abs q ≤ 32767
unfolding air
size_air (pos n) f a = omega (arith, f.sfits)
size_air (negsuc n) f a = absurd (subst T (sym a) tt)

module _ {p : ℤ} (f : SFits w16 p) (solid : air p ≡ false) where
  pub n_is : pos 0 -ℤ to_z w32 (of_z w32 (to_z w16 (of_z w16 p))) ≡ pos (nat_abs p)
  n_is = rw (widened f w32 tt, solid_neg p solid) (ap pos (omega arith))

  pub n_read : to_z w32 (of_z w32 (pos 0 -ℤ to_z w32 (of_z w32 (to_z w16 (of_z w16 p))))) ≡ pos (nat_abs p)
  n_read = rw n_is (to_z_pos w32 {n = nat_abs p} (omega (arith, size f)))

  module _ {q : ℤ} (g : SFits w16 q) (airy : air q ≡ true) where
    pub d_is : to_z w32 (of_z w32 (to_z w16 (of_z w16 q))) -ℤ to_z w32 (of_z w32 (to_z w16 (of_z w16 p))) ≡ pos (nat_abs q + nat_abs p)
    d_is = rw (widened f w32 tt, widened g w32 tt) (difference p q solid airy)

    pub d_read : to_z w32 (of_z w32 (to_z w32 (of_z w32 (to_z w16 (of_z w16 q))) -ℤ to_z w32 (of_z w32 (to_z w16 (of_z w16 p))))) ≡ pos (nat_abs q + nat_abs p)
    d_read = rw d_is (to_z_pos w32 {n = nat_abs q + nat_abs p} (omega (arith, size f, size g)))
