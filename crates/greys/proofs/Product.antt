-- A float up to 131,072, times a power of two up to 256, is not rounded. Assumes nothing.
use mathlib.Core.Path.{◌≡◌, sym, ap, ◌∙◌, subst}
use mathlib.Core.Bool.{Bool, true, false}
use Prim.Native.Nat.{ℕ, ◌+◌, ◌*◌, ◌^◌, ◌<◌, ◌≤◌}
use native.Mathlib.Nat.{lt_of_lt_of_le, mul_assoc, mul_comm, mul_right_comm, mul-one, mul-pos, mul-le-mul_left, mul-le-mul_right}
use native.Mathlib.Nat.{mul-lt-mul_of_pos_right, lt_of_mul-lt-mul_right}
use native.Mathlib.Omega.{arith}
use lib.Dec.{T, lit≤, le→leb}
use lib.Pow.{pow_pos, pow_mono, pow-add}
use lib.IntN.{ℤ, pos}
use lib.Ieee.{Float, nan, inf, fin, binary32, fits, round, mul, of_int, up, down, in_float}
use lib.Ieee.Exact.{HasValue, round_exact}
use lib.Ieee.Back.{round_whole}
use lib.Ieee.Fits.{down_pos}
use lib.Ieee.Scale.{round_same}
use Rattle.greys.specs.Within.{Scale}
use Rattle.greys.proofs.Units.{Grain, grain, few_digits}

pub scale_le : (n : ℕ) → Scale n → n ≤ 256
scale_le n s = rw s.is (pow_mono {i = s.k} {j = 8} s.small)

pub scale_pos : (n : ℕ) → Scale n → 0 < n
scale_pos n s = rw s.is (pow_pos s.k)

pub scale_casts : (n : ℕ) → Scale n → T (in_float binary32 (pos n))
unfolding in_float
scale_casts n s = let h = scale_le n s in le→leb n 16777216 (omega arith)

scale_value : (n : ℕ) → Scale n → HasValue (of_int binary32 (pos n)) false n 1
unfolding of_int
scale_value n s = let h = scale_le n s in round_whole binary32 false n (omega arith)

arranged : (a n b c : ℕ) → a * (n * b) * c ≡ a * n * (c * b)
arranged a n b c = simp (mul_assoc, mul_comm)

times : (s : Bool) (m : ℕ) (e : ℤ) (y : Float) (n : ℕ) → HasValue y false n 1
    → mul binary32 (fin s m e) y ≡ round binary32 s (m * up e * n) (down e)
unfolding mul
times s m e nan n v = absurd v
times s m e (inf t) n v = absurd v
times s m e (fin true m' e') n v = absurd (subst T v.0 tt)
times s m e (fin false m' e') n v = go s
  where
    same : (t : Bool) → round binary32 t (m * up e * (m' * up e')) (down e * down e') ≡ round binary32 t (m * up e * n) (down e)
    same t =
        let x : m' * up e' ≡ n * down e' = sym (mul-one (m' * up e')) ∙ v.1 in
        round_same binary32 t (m * up e * (m' * up e')) (down e * down e') (m * up e * n) (down e) (mul-pos (down_pos e) (down_pos e'))
        (down_pos e) (ap (λ (z : ℕ). m * up e * z * down e) x ∙ arranged (m * up e) n (down e') (down e))

    go : (s : Bool) → mul binary32 (fin s m e) (fin false m' e') ≡ round binary32 s (m * up e * n) (down e)
    go false = same false
    go true = same true

module _ (t : Bool) (m : ℕ) (e : ℤ) (n : ℕ) (f : T (fits binary32 (fin t m e))) (small : m * up e ≤ 131072 * down e) (s : Scale n) where
  g : Grain e
  g = grain t m e f

  -- in the smallest units
  in_units : m * up e * n * 2 ^ 149 ≡ m * 2 ^ (g.j + s.k) * down e
  in_units =
      ap (λ (z : ℕ). m * up e * z * 2 ^ 149) s.is
      ∙ mul_right_comm (m * up e) (2 ^ s.k) (2 ^ 149)
      ∙ ap (λ (z : ℕ). z * 2 ^ s.k)
      (mul_assoc m (up e) (2 ^ 149) ∙ ap (λ (z : ℕ). m * z) g.is ∙ sym (mul_assoc m (2 ^ g.j) (down e)))
      ∙ mul_right_comm (m * 2 ^ g.j) (down e) (2 ^ s.k)
      ∙ ap (λ (z : ℕ). z * down e)
      (mul_assoc m (2 ^ g.j) (2 ^ s.k) ∙ ap (λ (z : ℕ). m * z) (sym (pow-add 2 g.j s.k)))

  less : m * up e * n < 67108864 * down e
  less =
      let a : m * up e * n ≤ 131072 * down e * n = mul-le-mul_right n small in
      let b : 131072 * down e * n ≤ 131072 * down e * 256 = mul-le-mul_left (131072 * down e) (scale_le n s) in
      omega (arith, down_pos e)

  under : m * 2 ^ (g.j + s.k) < 2 ^ 277
  under =
      let a : m * up e * n * 2 ^ 149 < 67108864 * down e * 2 ^ 149 = mul-lt-mul_of_pos_right less (pow_pos 149) in
      let b : 67108864 * down e * 2 ^ 149 ≡ 2 ^ 175 * down e = mul_right_comm 67108864 (down e) (2 ^ 149) in
      let c : m * 2 ^ (g.j + s.k) * down e < 2 ^ 175 * down e =
      subst (λ (z : ℕ). z < 2 ^ 175 * down e) in_units (subst (λ (z : ℕ). m * up e * n * 2 ^ 149 < z) b a) in
      lt_of_lt_of_le (lt_of_mul-lt-mul_right (down e) c) (lit≤ tt)

  pub product : HasValue (mul binary32 (fin t m e) (of_int binary32 (pos n))) t (m * up e * n) (down e)
  product =
      rw (times t m e (of_int binary32 (pos n)) n (scale_value n s))
      (round_exact binary32 t (m * up e * n) (down e) m (g.j + s.k) (down_pos e) (few_digits t m e f) under in_units)
