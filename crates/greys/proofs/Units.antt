-- A float of 32 bits that is finite is a whole number of the smallest ones, of 24 digits at most.
use mathlib.Core.Path.{◌≡◌, sym, ap, ◌∙◌}
use mathlib.Core.Bool.{Bool, true, false, ◌&&◌}
use Prim.Native.Nat.{ℕ, zero, suc, ◌+◌, ◌-◌, ◌*◌, ◌%◌, ◌^◌, ◌<◌, ◌≤◌}
use native.Mathlib.Nat.{lt_irrefl, lt_of_lt_of_le, mul-one, one-mul}
use native.Mathlib.Omega.{arith}
use native.Mathlib.Decide.{dec_lt}
use lib.Dec.{T, ltb, leb, eqb, lit<, leb→le, ltb→lt, eqb→eq}
use lib.Pow.{pow_mono, pow-lt, pow-add}
use lib.IntN.{ℤ, pos, negsuc}
use lib.Ieee.{fin, binary32, fits, up, down}

middle : (a b c d : Bool) → T (a && b && c && d) → T b × T c
middle true true true d t = (tt, tt)
middle true true false d t = absurd t
middle true false c d t = absurd t
middle false b c d t = absurd t

low_enough : (k : ℕ) → 2 ^ suc k ≤ 2 ^ 149 → suc k ≤ 149
low_enough k h = by (dec_lt 149 (suc k))
  where
    by : Dec (149 < suc k) → suc k ≤ 149
    by (yes l) = absurd (lt_irrefl (2 ^ 149) (lt_of_lt_of_le (pow-lt {i = 149} {j = suc k} l) h))
    by (no l) = omega arith

pub few_digits : (s : Bool) (m : ℕ) (e : ℤ) → T (fits binary32 (fin s m e)) → m < 2 ^ 24
unfolding fits
few_digits s zero e f = lit< tt
few_digits s (suc m) e f =
    let end = ltb (suc m * up e) (2 ^ 128 * down e) in
    ltb→lt (suc m) (2 ^ 24) (middle (eqb (suc m % 2) 1) (ltb (suc m) (2 ^ 24)) (leb (down e) (2 ^ 149)) end f).0

low_exponent : (s : Bool) (m k : ℕ) → T (fits binary32 (fin s m (negsuc k))) → suc k ≤ 149
unfolding fits
low_exponent s zero k f =
    let h = eqb→eq (1 * 2 ^ suc k) 1 f in
    let g : 2 ^ 1 ≤ 2 ^ suc k = pow_mono {i = 1} {j = suc k} (omega arith) in
    absurd (omega arith)
low_exponent s (suc m) k f =
    let end = ltb (suc m * 1) (2 ^ 128 * 2 ^ suc k) in
    low_enough k
    (leb→le (2 ^ suc k) (2 ^ 149) (middle (eqb (suc m % 2) 1) (ltb (suc m) (2 ^ 24)) (leb (2 ^ suc k) (2 ^ 149)) end f).1)

-- 2 ^ e is 2 ^ grain units
pub record Grain (e : ℤ) : Type 0 where
  pub j : ℕ
  pub is : up e * 2 ^ 149 ≡ 2 ^ j * down e

pub grain : (s : Bool) (m : ℕ) (e : ℤ) → T (fits binary32 (fin s m e)) → Grain e
grain s m (pos k) f = record { j = k + 149; is = sym (pow-add 2 k 149) ∙ sym (mul-one (2 ^ (k + 149))) }
grain s m (negsuc k) f =
    let l = low_exponent s m k f in
    let q : 149 - suc k + suc k ≡ 149 = omega arith in
    record { j = 149 - suc k; is = one-mul (2 ^ 149) ∙ ap (λ (z : ℕ). 2 ^ z) (sym q) ∙ pow-add 2 (149 - suc k) (suc k) }
