-- A quotient rounded by a rule is one that is rounded down, of a little more. Assumes nothing.
use mathlib.Core.Path.{◌≡◌, sym, ap, ◌∙◌}
use mathlib.Core.Logic.{inl, inr}
use Prim.Native.Nat.{ℕ, ◌+◌, ◌-◌, ◌*◌, ◌/◌, ◌≤◌, ◌<◌}
use native.Mathlib.Omega.{arith}
use native.Mathlib.Nat.{div-add-mod', mod-lt, div-lt_iff_lt-mul, le-div_iff_mul-le}
use Rattle.paper.specs.declared.Rule.{Rule}
use Rattle.paper.specs.declared.Rule.TheVariants.{Down, Nearest}
use Rattle.paper.specs.Sheet.{rounded}
use Rattle.paper.proofs.Crossing.{nearest_cases}
use Rattle.crossing.specs.Rounding.{more_by}

pub quotient_is : (n d t : ℕ) → 0 < d → t * d ≤ n → n < (t + 1) * d → n / d ≡ t
quotient_is n d t h l g =
    let b : t ≤ n / d = (le-div_iff_mul-le h).1 l in
    let a : n / d < t + 1 = (div-lt_iff_lt-mul h).1 g in
    omega (arith, a, b)

pub one_quotient : (rule : Rule) (n d : ℕ) → 0 < d → (n + more_by rule d) / d ≡ rounded rule n d
unfolding rounded
one_quotient Down n d h = ap (λ (m : ℕ). m / d) (omega arith)
one_quotient Nearest n d h =
    let e = div-add-mod' n d in
    let m = mod-lt n h in
    elim (nearest_cases n d) [
      | inl u ↦ quotient_is (n + (d - 1) / 2) d (n / d + 1) h (omega (arith, e, u.more)) (omega (arith, e, m)) ∙ sym u.is
      | inr u ↦ quotient_is (n + (d - 1) / 2) d (n / d) h (omega (arith, e)) (omega (arith, e, u.less)) ∙ sym u.is
    ]
