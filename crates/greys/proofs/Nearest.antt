-- The whole number nearest to a float from 0 to 32,767, by a sum: from 2^23 to 2^24 floats are the whole numbers. Assumes nothing.
use mathlib.Core.Path.{◌≡◌, refl, sym, subst, ap, ◌∙◌}
use mathlib.Core.Bool.{Bool, true, false, not}
use Prim.Native.Nat.{ℕ, suc, ◌+◌, ◌-◌, ◌*◌, ◌/◌, ◌%◌, ◌^◌, ◌<◌, ◌≤◌}
use native.Mathlib.Nat.{mul-one, mul_right_comm, zero-mul, add-mul, mul-le-mul_right, mul-lt-mul_of_pos_right}
use native.Mathlib.Nat.{eq_of_mul-eq-mul_right, div-mul-le_self, div-lt_iff_lt-mul, le-div_iff_mul-le}
use native.Mathlib.Omega.{arith}
use native.Mathlib.Decide.{dec_lt}
use borrow.Author.Tests.{lt-ltb, le-ltb, lt-leb, ltb-true, ltb-false}
use lib.Dec.{T, ltb, lit<}
use lib.Pow.{pow_pos, pow_mono}
use lib.IntN.{ℤ, pos, negsuc}
use lib.Ieee.{Float, nan, inf, fin, binary32, round, add, sum, of_int, of_bits, of_fields, odd, up, down, fits, to_bits, is_nan, lt, le}
use lib.Ieee.Bits.{to_bits-of_bits, of_bits-fits}
use lib.Ieee.Exact.{HasValue, odd_sign}
use lib.Ieee.Back.{round_whole, whole_unique}
use lib.Ieee.Fits.{down_pos, round-fits}
use lib.Ieee.Order.{round_mono}
use lib.Ieee.Positive.{num, den, positive, own_value, positive_of_value, between, values_of_le}
use Rattle.greys.specs.Within.{Plain, whole}
use Rattle.greys.proofs.Units.{few_digits}

-- 8388608.0
abbrev pub base : Float
base = fin false 1 (pos 23)

pub base_is : of_bits binary32 1258291200 ≡ base
unfolding of_bits of_fields odd
base_is = refl

-- ── floats from 2^23 on are whole numbers ──

high_enough : (m k : ℕ) → m < 2 ^ 24 → 8388608 * (1 * 2 ^ suc k) ≤ m * 1 → ⊥
high_enough m k h l = let p : 2 ^ 1 ≤ 2 ^ suc k = pow_mono {i = 1} {j = suc k} (omega arith) in omega arith

whole_float : (x : Float) → T (fits binary32 x) → T (positive x) → 8388608 * den x ≤ num x → den x ≡ 1
whole_float nan f p h = absurd p
whole_float (inf s) f p h = absurd p
whole_float (fin true m e) f p h = absurd p
whole_float (fin false m (pos k)) f p h = refl
whole_float (fin false m (negsuc k)) f p h = absurd (high_enough m k (few_digits false m (negsuc k) f) (omega arith))

-- and their last digits are theirs
whole_again : (x : Float) (n t : ℕ) → 0 < t → HasValue x false (n * t) t → HasValue x false n 1
whole_again nan n t h v = absurd v
whole_again (inf s) n t h v = absurd v
whole_again (fin s m e) n t h v =
    (v.0, mul-one (m * up e) ∙ eq_of_mul-eq-mul_right t h (m * up e) (n * down e) (v.1 ∙ mul_right_comm n t (down e)))

module _ (k : ℕ) (h : k < 8388608) where
  fields : of_bits binary32 (1258291200 + k) ≡ odd 24 false (8388608 + k) 149 149
  unfolding of_bits of_fields
  fields =
      let b = 1258291200 + k in
      let s = lt-leb 2147483648 b (omega arith) in
      let x : b % 2147483648 / 8388608 ≡ 150 = omega arith in
      let t : b % 8388608 ≡ k = omega arith in
      rw (s, x, t)

  value : HasValue (of_bits binary32 (1258291200 + k)) false (8388608 + k) 1
  value =
      let q = 8388608 + k in
      whole_again (of_bits binary32 (1258291200 + k)) q (2 ^ 149) (pow_pos 149) (rw fields (odd_sign 24 false q 149 149))

  number : (x : Float) → HasValue x false (8388608 + k) 1 → T (not (is_nan x))
  unfolding is_nan
  number nan v = absurd v
  number (inf s) v = tt
  number (fin s m e) v = tt

  digits : (x : Float) → T (fits binary32 x) → HasValue x false (8388608 + k) 1 → to_bits binary32 x ≡ 1258291200 + k
  digits x f v =
      let y = of_bits binary32 (1258291200 + k) in
      ap (to_bits binary32) (whole_unique binary32 x y false (8388608 + k) f (of_bits-fits binary32 (1258291200 + k)) v value)
      ∙ to_bits-of_bits binary32 (1258291200 + k) (omega arith) (number y value)

-- ── the sum ──

module _ (m : ℕ) (e : ℤ) where
  raised : (s : Bool) → (s ≡ true → m ≡ 0) → add binary32 (fin s m e) base ≡ round binary32 false (m * up e + 8388608 * down e) (down e)
  unfolding add sum
  raised false z = rw (mul-one (m * up e), mul-one (down e))
  raised true z =
      let n : m * up e ≡ 0 = ap (λ (k : ℕ). k * up e) (z refl) ∙ zero-mul (up e) in
      let l : m * up e * 1 < 8388608 * down e = omega (arith, down_pos e) in
      let d : 8388608 * down e - m * up e * 1 ≡ m * up e + 8388608 * down e = omega arith in
      rw (lt-ltb (m * up e * 1) (8388608 * down e) l, d, mul-one (down e))

  -- between the whole part and one more
  module _ (h : m * up e ≤ 32767 * down e) where
    abbrev part : ℕ
    part = m * up e / down e

    abbrev rounded : Float
    rounded = round binary32 false (m * up e + 8388608 * down e) (down e)

    part_le : part * down e ≤ m * up e
    part_le = div-mul-le_self (m * up e) (down e)

    part_most : part ≤ 32767
    part_most =
        let q : part < 32768 = (div-lt_iff_lt-mul (down_pos e)).1 (omega (arith, down_pos e)) in
        omega arith

    part_next : m * up e < (part + 1) * down e
    part_next = let q : part < part + 1 = omega arith in (div-lt_iff_lt-mul (down_pos e)).0 q

    from : T (le (round binary32 false (8388608 + part) 1) rounded)
    from =
        let a = part_le in
        round_mono binary32 (8388608 + part) 1 (m * up e + 8388608 * down e) (down e) (lit< tt) (down_pos e)
        (omega (arith, add-mul 8388608 part (down e)))

    to : T (le rounded (round binary32 false (8388608 + part + 1) 1))
    to =
        let a = part_next in
        round_mono binary32 (m * up e + 8388608 * down e) (down e) (8388608 + part + 1) 1 (down_pos e) (lit< tt)
        (omega (arith, add-mul (8388608 + part) 1 (down e), add-mul 8388608 part (down e), add-mul part 1 (down e)))

    lower : HasValue (round binary32 false (8388608 + part) 1) false (8388608 + part) 1
    lower = round_whole binary32 false (8388608 + part) (omega (arith, part_most))

    upper : HasValue (round binary32 false (8388608 + part + 1) 1) false (8388608 + part + 1) 1
    upper = round_whole binary32 false (8388608 + part + 1) (omega (arith, part_most))

    lower_pos : T (positive (round binary32 false (8388608 + part) 1))
    lower_pos = positive_of_value (round binary32 false (8388608 + part) 1) (8388608 + part) 1 lower (omega arith)

    upper_pos : T (positive (round binary32 false (8388608 + part + 1) 1))
    upper_pos = positive_of_value (round binary32 false (8388608 + part + 1) 1) (8388608 + part + 1) 1 upper (omega arith)

    above_none : T (positive rounded)
    above_none = between _ rounded _ lower_pos upper_pos from to

    low : (8388608 + part) * den rounded ≤ num rounded * 1
    low =
        let v = own_value rounded above_none in
        values_of_le _ rounded (8388608 + part) 1 (num rounded) (den rounded) lower_pos above_none lower v from

    high : num rounded * 1 ≤ (8388608 + part + 1) * den rounded
    high =
        let v = own_value rounded above_none in
        values_of_le rounded _ (num rounded) (den rounded) (8388608 + part + 1) 1 above_none upper_pos v upper to

    one : den rounded ≡ 1
    one =
        whole_float rounded (round-fits binary32 false (m * up e + 8388608 * down e) (down e)) above_none
        (omega (arith, low, add-mul 8388608 part (den rounded)))

    between_low : 8388608 + part ≤ num rounded
    between_low = omega (arith, subst (λ (d : ℕ). (8388608 + part) * d ≤ num rounded * 1) one low)

    between_high : num rounded ≤ 8388608 + part + 1
    between_high = omega (arith, subst (λ (d : ℕ). num rounded * 1 ≤ (8388608 + part + 1) * d) one high)

    -- the whole number that it is
    abbrev near : ℕ
    near = num rounded - 8388608

    near_value : HasValue rounded false (8388608 + near) 1
    near_value =
        let n : num rounded ≡ 8388608 + near = omega (arith, between_low) in
        let v = subst (λ (d : ℕ). HasValue rounded false (num rounded) d) one (own_value rounded above_none) in
        subst (λ (k : ℕ). HasValue rounded false k 1) n v

-- ── compared with the float ──

scaled_lt : (a c k d : ℕ) → 0 < d → a < k * c → a * d < k * d * c
scaled_lt a c k d D h = subst (λ (z : ℕ). a * d < z) (mul_right_comm k c d) (mul-lt-mul_of_pos_right h D)

scaled_le : (a c k d : ℕ) → k * c ≤ a → k * d * c ≤ a * d
scaled_le a c k d h = subst (λ (z : ℕ). z ≤ a * d) (mul_right_comm k c d) (mul-le-mul_right d h)

module _ (a c k : ℕ) (C : 0 < c) where
  under : (d y : ℕ) → 0 < d → y ≡ k * d → ltb (a * d) (y * c) ≡ ltb (a / c) k
  under d y D v = go (dec_lt (a / c) k)
    where
      go : Dec (a / c < k) → ltb (a * d) (y * c) ≡ ltb (a / c) k
      go (yes l) = rw (v, lt-ltb (a * d) (k * d * c) (scaled_lt a c k d D ((div-lt_iff_lt-mul C).0 l)), lt-ltb (a / c) k l)
      go (no l) =
          let h : k ≤ a / c = omega arith in
          rw (v, le-ltb (a * d) (k * d * c) (scaled_le a c k d ((le-div_iff_mul-le C).0 h)), le-ltb (a / c) k h)

below_whole : (s : Bool) (m : ℕ) (e : ℤ) (y : Float) (k : ℕ) → (s ≡ true → m ≡ 0) → HasValue y false k 1
    → lt (fin s m e) y ≡ ltb (m * up e / down e) k
unfolding lt
below_whole s m e nan k z v = absurd v
below_whole s m e (inf t) k z v = absurd v
below_whole s m e (fin true n d) k z v = absurd (subst T v.0 tt)
below_whole false m e (fin false n d) k z v =
    under (m * up e) (down e) k (down_pos e) (down d) (n * up d) (down_pos d) (sym (mul-one (n * up d)) ∙ v.1)
below_whole true m e (fin false n d) k z v =
    let o : m * up e ≡ 0 = ap (λ (j : ℕ). j * up e) (z refl) ∙ zero-mul (up e) in
    let q : m * up e * down d ≡ 0 = ap (λ (j : ℕ). j * down d) o ∙ zero-mul (down d) in
    let p : m * up e * down d + n * up d * down e ≡ n * up d * down e = omega arith in
    ap (λ (j : ℕ). ltb 0 j) p ∙ ap (λ (j : ℕ). ltb j (n * up d * down e)) (sym q)
    ∙ under (m * up e) (down e) k (down_pos e) (down d) (n * up d) (down_pos d) (sym (mul-one (n * up d)) ∙ v.1)

-- the sum that `whole_part` makes, and its bits: those of 2^23 and k more, where k is the whole part of p, or one more if that is above p
abbrev pub more : Float → Float
more p = add binary32 p (of_bits binary32 1258291200)

pub record Near (p : Float) : Type 0 where
  pub k : ℕ
  pub number : T (not (is_nan (more p)))
  pub bits : to_bits binary32 (more p) ≡ 1258291200 + k
  pub low : whole p ≤ k
  pub high : k ≤ whole p + 1
  pub most : whole p ≤ 32767
  pub above : lt p (of_int binary32 (pos k)) ≡ ltb (whole p) k

pub nearest : (p : Float) → Plain p → Near p
unfolding whole of_int
nearest nan h = absurd h
nearest (inf s) h = absurd h
nearest (fin s m e) h =
    let k = near m e h.1 in
    let x = rounded m e h.1 in
    let r : more (fin s m e) ≡ x = ap (add binary32 (fin s m e)) base_is ∙ raised m e s h.0 in
    let lo = between_low m e h.1 in
    let hi = between_high m e h.1 in
    let q = part_most m e h.1 in
    let v = near_value m e h.1 in
    let l : k < 8388608 = omega arith in
    record {
      k = k;
      number = subst (λ (y : Float). T (not (is_nan y))) (sym r) (number k l x v);
      bits = ap (to_bits binary32) r ∙ digits k l x (round-fits binary32 false (m * up e + 8388608 * down e) (down e)) v;
      low = omega arith;
      high = omega arith;
      most = q;
      above = below_whole s m e (round binary32 false k 1) k h.0 (round_whole binary32 false k (omega arith));
    }

-- by the comparison
module _ (p : Float) (h : Plain p) where
  abbrev pub last : ℕ
  last = to_bits binary32 (more p) - 1258291200

  last_is : last ≡ (nearest p h).k
  last_is = omega (arith, (nearest p h).bits)

  compared : lt p (of_int binary32 (pos last)) ≡ ltb (whole p) last
  compared = rw last_is (nearest p h).above

  pub sum_high : 1258291200 ≤ to_bits binary32 (more p)
  sum_high = omega (arith, (nearest p h).bits)

  pub last_most : last ≤ 32768
  last_most = let n = nearest p h in omega (arith, last_is, n.high, n.most)

  pub part_most_is : whole p ≤ 32767
  part_most_is = (nearest p h).most

  pub one_above : lt p (of_int binary32 (pos last)) ≡ true → last ≡ whole p + 1
  one_above e = let l = ltb-true (whole p) last (sym compared ∙ e) in omega (arith, last_is, (nearest p h).high)

  pub not_above : lt p (of_int binary32 (pos last)) ≡ false → last ≡ whole p
  not_above e = let l = ltb-false (whole p) last (sym compared ∙ e) in omega (arith, last_is, (nearest p h).low)
