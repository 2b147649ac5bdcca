-- A coordinate divided by 65,536 is not rounded, and the float 128 more has it as its last digits. Assumes nothing.
use mathlib.Core.Path.{◌≡◌, refl, sym, subst, ap, ◌∙◌}
use mathlib.Core.Bool.{Bool, true, false, not}
use Prim.Native.Nat.{ℕ, ◌+◌, ◌-◌, ◌*◌, ◌/◌, ◌^◌, ◌<◌, ◌≤◌}
use native.Mathlib.Nat.{lt_irrefl, lt_of_lt_of_le, le_trans, mul-le-mul_right}
use native.Mathlib.Nat.{mul_assoc, mul_comm, mul_right_comm, mul-pos, mul-div_cancel}
use native.Mathlib.Omega.{arith}
use native.Mathlib.Decide.{dec_lt}
use lib.Dec.{T, lit<, lit≤, le→leb}
use lib.Pow.{shl_lt, pow_pos, pow_mono}
use lib.IntN.{ℤ, pos}
use lib.Ieee.{Float, nan, inf, fin, binary32, round, add, sum, div, of_int, of_bits, of_fields, odd, up, down, size, in_float, to_bits, is_nan}
use lib.Ieee.Digits.{size-lt, size-le}
use lib.Ieee.Exact.{HasValue, round_exact}
use lib.Ieee.Back.{round_whole}
use lib.Ieee.Fits.{down_pos, kept-lt}
use lib.Ieee.Scale.{round_same}
use Rattle.facets.specs.Steps.{float_of, scaled}

-- 65536.0 and 128.0
scale_is : of_bits binary32 1199570944 ≡ fin false 1 (pos 16)
unfolding of_bits of_fields odd
scale_is = refl

pub base_is : of_bits binary32 1124073472 ≡ fin false 1 (pos 7)
unfolding of_bits of_fields odd
base_is = refl

-- a whole number divided by 65,536
quotient : (x : Float) (n : ℕ) → HasValue x false n 1 → div binary32 x (fin false 1 (pos 16)) ≡ round binary32 false n 65536
unfolding div
quotient nan n v = absurd v
quotient (inf t) n v = absurd v
quotient (fin false m e) n v =
    round_same binary32 false (m * up e * 1) (65536 * down e) n 65536 (mul-pos (lit< tt) (down_pos e)) (lit< tt)
    (ap (λ (z : ℕ). z * 65536) v.1 ∙ mul_assoc n (down e) 65536 ∙ ap (λ (z : ℕ). n * z) (mul_comm (down e) 65536))
quotient (fin true m e) n v = absurd (subst T v.0 tt)

-- nothing is rounded
pub exact : (n : ℕ) → n < 16777216 → HasValue (float_of n) false n 65536
unfolding float_of
exact n h =
    round_exact binary32 false n 65536 n 133 (lit< tt) h (lt_of_lt_of_le (shl_lt 24 133 h) (lit≤ tt)) (sym (mul_assoc n (2 ^ 133) 65536))

pub steps : (n : ℕ) → n < 16777216 → div binary32 (of_int binary32 (pos n)) (of_bits binary32 1199570944) ≡ float_of n
unfolding float_of of_int
steps n h = rw scale_is (quotient (round binary32 false n 1) n (round_whole binary32 false n (omega arith)))

pub whole : (n : ℕ) → n < 16777216 → T (in_float binary32 (pos n))
unfolding in_float
whole n h = le→leb n 16777216 (omega arith)

-- ── from the value ──

number_of : (x : Float) (s : Bool) (a c : ℕ) → HasValue x s a c → T (not (is_nan x))
unfolding is_nan
number_of nan s a c v = absurd v
number_of (inf t) s a c v = tt
number_of (fin t m e) s a c v = tt

scaled_of : (x : Float) (s : Bool) (n : ℕ) → HasValue x s n 65536 → scaled x ≡ n
unfolding scaled
scaled_of nan s n v = absurd v
scaled_of (inf t) s n v = absurd v
scaled_of (fin t m e) s n v = ap (λ (z : ℕ). z / down e) v.1 ∙ mul-div_cancel n (down_pos e)

pub scaled_float : (n : ℕ) → n < 16777216 → scaled (float_of n) ≡ n
scaled_float n h = scaled_of (float_of n) false n (exact n h)

pub float_number : (n : ℕ) → n < 16777216 → T (not (is_nan (float_of n)))
float_number n h = number_of (float_of n) false n 65536 (exact n h)

-- ── 128 more ──

more : (x : Float) (n : ℕ) → HasValue x false n 65536 → add binary32 x (fin false 1 (pos 7)) ≡ round binary32 false (n + 8388608) 65536
unfolding add sum
more nan n v = absurd v
more (inf t) n v = absurd v
more (fin true m e) n v = absurd (subst T v.0 tt)
more (fin false m e) n v =
    round_same binary32 false (m * up e * 1 + 128 * down e) (down e * 1) (n + 8388608) 65536 (omega (arith, down_pos e)) (lit< tt)
    (omega (arith, v.1))

pub float_more : (n : ℕ) → n < 16777216 → add binary32 (float_of n) (of_bits binary32 1124073472) ≡ float_of (n + 8388608)
float_more n h = rw base_is (more (float_of n) n (exact n h) ∙ unfold float_of in refl)

-- in units of the least float
units_are : (n m : ℕ) (e : ℤ) → m * up e * 65536 ≡ n * down e → m * up e * 2 ^ 149 / down e ≡ n * 2 ^ 133
units_are n m e v =
    ap (λ (z : ℕ). z / down e)
    (sym (mul_assoc (m * up e) 65536 (2 ^ 133)) ∙ (ap (λ (z : ℕ). z * 2 ^ 133) v ∙ mul_right_comm n (down e) (2 ^ 133)))
    ∙ mul-div_cancel (n * 2 ^ 133) (down_pos e)

-- its bits, where n has 24 digits
module _ (n : ℕ) (lo : 8388608 ≤ n) (hi : n < 16777216) where
  sized : size (n * 2 ^ 133) ≡ 157
  sized = by (dec_lt (size (n * 2 ^ 133)) 157)
    where
      most : size (n * 2 ^ 133) ≤ 157
      most = size-le (n * 2 ^ 133) 157 (shl_lt 24 133 hi)

      least : 2 ^ 156 ≤ n * 2 ^ 133
      least = mul-le-mul_right (2 ^ 133) lo

      by : Dec (size (n * 2 ^ 133) < 157) → size (n * 2 ^ 133) ≡ 157
      by (yes l) =
          let g : size (n * 2 ^ 133) ≤ 156 = omega arith in
          absurd (lt_irrefl (n * 2 ^ 133) (lt_of_lt_of_le (size-lt (n * 2 ^ 133)) (le_trans (pow_mono g) least)))
      by (no l) = omega (arith, most)

  bits_of : (x : Float) → HasValue x false n 65536 → to_bits binary32 x ≡ 1115684864 + n
  unfolding to_bits
  bits_of nan v = absurd v
  bits_of (inf t) v = absurd v
  bits_of (fin true m e) v = absurd (subst T v.0 tt)
  bits_of (fin false m e) v =
      let k : size (n * 2 ^ 133) - 24 ≡ 133 = omega (arith, sized) in
      let u : m * up e * 2 ^ 149 / down e ≡ n * 2 ^ 133 = units_are n m e v.1 in
      ap (λ (u : ℕ). 0 + (size u - 24) * 8388608 + u / 2 ^ (size u - 24)) u
      ∙ ap (λ (j : ℕ). 0 + j * 8388608 + n * 2 ^ 133 / 2 ^ j) k
      ∙ ap (λ (j : ℕ). 1115684864 + j) (mul-div_cancel n (pow_pos 133))

-- the last digits are the coordinate
pub digits_are : (n : ℕ) → n ≤ 4128768 → to_bits binary32 (float_of (n + 8388608)) ≡ 1124073472 + n
digits_are n h =
    bits_of (n + 8388608) (omega arith) (omega arith) (float_of (n + 8388608)) (exact (n + 8388608) (omega arith)) ∙ omega arith

-- ── the bits of a coordinate's float ──

-- those of 64 or more are not among them
bits_below : (x : Float) (n : ℕ) → n < 4194304 → HasValue x false n 65536 → to_bits binary32 x < 1115684864
unfolding to_bits
bits_below nan n h v = absurd v
bits_below (inf t) n h v = absurd v
bits_below (fin true m e) n h v = absurd (subst T v.0 tt)
bits_below (fin false m e) n h v =
    let u : m * up e * 2 ^ 149 / down e ≡ n * 2 ^ 133 = units_are n m e v.1 in
    let k : size (n * 2 ^ 133) ≤ 155 = size-le (n * 2 ^ 133) 155 (shl_lt 22 133 h) in
    let q : n * 2 ^ 133 / 2 ^ (size (n * 2 ^ 133) - 24) < 2 ^ 24 = kept-lt 24 (n * 2 ^ 133) in
    rw u (omega arith)

pub float_below : (n : ℕ) → n ≤ 4128768 → to_bits binary32 (float_of n) < 1115684864
float_below n h = bits_below (float_of n) n (omega arith) (exact n (omega arith))
