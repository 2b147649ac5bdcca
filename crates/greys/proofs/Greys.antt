-- The two comparisons of `is_grey`.
use mathlib.Core.Path.{◌≡◌, refl, sym, ◌∙◌}
use mathlib.Core.Bool.{true, false, ◌&&◌, ◌||◌, true≢false, false≢true}
use Prim.Native.Nat.{ℕ, ◌+◌, ◌*◌, ◌<◌}
use native.Mathlib.Nat.{mul-one}
use native.Mathlib.Omega.{arith}
use native.Mathlib.Decide.{dec_lt}
use borrow.Author.Tests.{lt-ltb, le-ltb, le-leb, lt-leb, eq-eqb, ne_eqb, ltb-true, ltb-false}
use lib.Dec.{ltb, leb, eqb}
use lib.IntN.{ℤ, pos}
use lib.Ieee.{Float, nan, inf, fin, up, down, lt, eq, le}
use lib.Ieee.Fits.{down_pos}
use Rattle.greys.specs.Level.{is_grey}

pub or_le : (a b : ℕ) → (ltb a b || (eqb a b && true)) ≡ leb a b
or_le a b = by (dec_lt a b) (dec_lt b a)
  where
    by : Dec (a < b) → Dec (b < a) → (ltb a b || (eqb a b && true)) ≡ leb a b
    by (yes l) _ = rw (lt-ltb a b l, le-leb a b (omega arith))
    by (no l) (yes g) = let n : a ≡ b → ⊥ = λ e. omega arith in rw (le-ltb a b (omega arith), ne_eqb a b n, lt-leb a b g)
    by (no l) (no g) = rw (le-ltb a b (omega arith), eq-eqb a b (omega arith), le-leb a b (omega arith))

or_ge : (a b : ℕ) → (ltb b a || (eqb a b && true)) ≡ leb b a
or_ge a b = by (dec_lt a b) (dec_lt b a)
  where
    by : Dec (a < b) → Dec (b < a) → (ltb b a || (eqb a b && true)) ≡ leb b a
    by _ (yes l) = rw (lt-ltb b a l, le-leb b a (omega arith))
    by (yes l) (no g) = let n : a ≡ b → ⊥ = λ e. omega arith in rw (le-ltb b a (omega arith), ne_eqb a b n, lt-leb b a l)
    by (no l) (no g) = rw (le-ltb b a (omega arith), eq-eqb a b (omega arith), le-leb b a (omega arith))

-- −65,536 to the other side of a float, and of one to 65,536
from_low : (m : ℕ) (e : ℤ) → le (fin true 1 (pos 16)) (fin true m e) ≡ leb (m * up e) (65536 * down e)
unfolding le lt eq
from_low m e = rw (mul-one (m * up e)) (or_ge (65536 * down e) (m * up e))

over_low : (m : ℕ) (e : ℤ) → le (fin true 1 (pos 16)) (fin false m e) ≡ true
unfolding le lt eq
over_low m e = rw (lt-ltb 0 (65536 * down e + m * up e * 1) (omega (arith, down_pos e)))

pub below_low : (v : Float) → le (fin true 1 (pos 16)) v ≡ false → false ≡ is_grey v
unfolding le lt is_grey
below_low nan h = refl
below_low (inf s) h = refl
below_low (fin false m e) h = absurd (true≢false (sym (over_low m e) ∙ h))
below_low (fin true m e) h = sym h ∙ from_low m e

pub from_low_on : (v : Float) → le (fin true 1 (pos 16)) v ≡ true → le v (fin false 1 (pos 16)) ≡ is_grey v
unfolding le lt eq is_grey
from_low_on nan h = refl
from_low_on (inf false) h = refl
from_low_on (inf true) h = absurd (false≢true h)
from_low_on (fin false m e) h = rw (mul-one (m * up e)) (or_le (m * up e) (65536 * down e))
from_low_on (fin true m e) h =
    rw (lt-ltb 0 (m * up e * 1 + 65536 * down e) (omega (arith, down_pos e))) (sym h ∙ from_low m e)

-- the same by the test whether it is below −65,536
pub too_low : (v : Float) → lt v (fin true 1 (pos 16)) ≡ true → false ≡ is_grey v
unfolding lt is_grey
too_low nan h = refl
too_low (inf s) h = refl
too_low (fin false m e) h = absurd (false≢true h)
too_low (fin true m e) h = let g = ltb-true (65536 * down e) (m * up e * 1) h in sym (lt-leb (m * up e) (65536 * down e) (omega arith))

pub high_enough : (v : Float) → lt v (fin true 1 (pos 16)) ≡ false → le v (fin false 1 (pos 16)) ≡ is_grey v
unfolding le lt is_grey
high_enough nan h = refl
high_enough (inf false) h = refl
high_enough (inf true) h = absurd (true≢false h)
high_enough (fin false m e) h = rw (mul-one (m * up e)) (or_le (m * up e) (65536 * down e))
high_enough (fin true m e) h =
    let g = ltb-false (65536 * down e) (m * up e * 1) h in
    let d = down_pos e in
    rw (lt-ltb 0 (m * up e * 1 + 65536 * down e) (omega arith), le-leb (m * up e) (65536 * down e) (omega arith))
