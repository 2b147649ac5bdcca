-- No voxel changes side. A difference of two floats, rounded, is above 0 exactly when they differ that way: below the normal floats the
-- format goes on in whole units, so what is not 0 is one unit at least, and rounding keeps it so. And a sample is above 0 exactly when the
-- difference is. Assumes nothing.
use mathlib.Core.Path.{◌≡◌, refl, sym, ap, ◌∙◌, subst}
use mathlib.Core.Bool.{Bool, true, false, not, cond}
use Prim.Native.Nat.{ℕ, zero, suc, ◌+◌, ◌-◌, ◌*◌, ◌^◌, ◌<◌, ◌≤◌, max}
use native.Mathlib.Nat.{le_of_eq, le_trans, one-mul, zero-mul, mul_assoc, mul_comm, mul_right_comm, mul-pos, mul-le-mul_right}
use native.Mathlib.Nat.{mul-lt-mul_of_pos_right, lt_of_mul-lt-mul_right, add-mul, mul-sub}
use native.Mathlib.Omega.{arith}
use native.Mathlib.Decide.{dec_lt}
use borrow.Author.Tests.{lt-ltb, le-ltb}
use lib.Dec.{T, ltb, lit<, ltb→lt}
use lib.Pow.{pow_pos}
use lib.Signed.{lt_z}
use lib.IntN.{ℤ, pos, neg_ℤ}
use lib.Ieee.{Float, nan, inf, fin, Format, binary32, prec, emax, low, fits, up, down, size, odd, units, round, sum}
use lib.Ieee.{add, sub, neg, lt, below}
use lib.Ieee.Fits.{up_pos, down_pos, round_is}
use lib.Ieee.Order.{drop, kept, round_mono}
use lib.Ieee.Scale.{round_same}
use lib.Ieee.Positive.{above, above_of_le, positive, first_pos}
use Rattle.greys.specs.Sample.{none, held, cut_of, sample_of}
use Rattle.greys.proofs.Units.{Grain, grain}

-- ── a rounded fraction's side ──

of_above : (x : Float) → T (above x) → lt none x ≡ true
unfolding lt
of_above nan t = absurd t
of_above (inf false) t = refl
of_above (inf true) t = absurd t
of_above (fin true m e) t = absurd t
of_above (fin false m e) t =
    let p = mul-pos (ltb→lt 0 m t) (up_pos e) in
    lt-ltb (0 * down e) (m * up e * 1) (omega (arith, zero-mul (down e)))

-- one unit
unit_is : T (positive (round binary32 false 1 (2 ^ 149)))
unfolding round size units odd
unit_is = tt

-- one unit or more
pub up_round : (a c : ℕ) → 0 < c → c ≤ a * 2 ^ 149 → lt none (round binary32 false a c) ≡ true
up_round a c C h =
    of_above (round binary32 false a c)
    (above_of_le (round binary32 false 1 (2 ^ 149)) (round binary32 false a c) unit_is
    (round_mono binary32 1 (2 ^ 149) a c (pow_pos 149) C (le_trans (le_of_eq (one-mul c)) h)))

zero_is : lt none (round binary32 false 0 1) ≡ false
unfolding lt round size units odd
zero_is = refl

pub zero_round : (a c : ℕ) → 0 < c → a ≡ 0 → lt none (round binary32 false a c) ≡ false
zero_round a c C z =
    let same = round_same binary32 false 0 c 0 1 C (lit< tt) (omega (arith, zero-mul c)) in
    ap (λ (x : Float). lt none x) (ap (λ (y : ℕ). round binary32 false y c) z ∙ same) ∙ zero_is

odd_down : (d q k l : ℕ) → lt none (odd d true q k l) ≡ false
unfolding lt odd
odd_down d zero k l = refl
odd_down d (suc q) k l = refl

units_down : (f : Format) (q k : ℕ) → lt none (units f true q k) ≡ false
unfolding units
units_down f q k = go (ltb (q * 2 ^ k) (2 ^ (low f + suc (emax f))))
  where
    go : (b : Bool) → lt none (cond b (odd (suc (prec f)) true q k (low f)) (inf true)) ≡ false
    go true = odd_down (suc (prec f)) q k (low f)
    go false = unfold lt in refl

pub down_round : (a c : ℕ) → lt none (round binary32 true a c) ≡ false
down_round a c =
    ap (λ (x : Float). lt none x) (round_is binary32 true a c)
    ∙ units_down binary32 (kept 24 (a * 2 ^ 149) c) (drop 24 (a * 2 ^ 149) c)

-- ── two floats in units ──

times_less : (p q u : ℕ) → (p - q) * u ≡ p * u - q * u
times_less p q u = mul_comm (p - q) u ∙ mul-sub u p q ∙ ap (λ (z : ℕ). z - u * q) (mul_comm u p) ∙ ap (λ (z : ℕ). p * u - z) (mul_comm u q)

fewer : (c r q p l s : ℕ) → q + c ≤ p → l ≡ p → s ≡ q → r ≡ l - s → c ≤ r
fewer c r q p l s h i j k = omega arith

module _ (x y dx dy U P Q : ℕ) (X : x * U ≡ P * dx) (Y : y * U ≡ Q * dy) where
  left_units : x * dy * U ≡ P * (dx * dy)
  left_units = mul_right_comm x dy U ∙ ap (λ (z : ℕ). z * dy) X ∙ mul_assoc P dx dy

  right_units : y * dx * U ≡ Q * (dx * dy)
  right_units = mul_right_comm y dx U ∙ ap (λ (z : ℕ). z * dx) Y ∙ mul_assoc Q dy dx ∙ ap (λ (z : ℕ). Q * z) (mul_comm dy dx)

  -- a difference that is not 0 is one unit at least
  one_more : 0 < U → 0 < dx * dy → y * dx < x * dy → dx * dy ≤ (x * dy - y * dx) * U
  one_more W C h =
      let m : y * dx * U < P * (dx * dy) = subst (λ (z : ℕ). y * dx * U < z) left_units (mul-lt-mul_of_pos_right h W) in
      let a : Q * (dx * dy) < P * (dx * dy) = subst (λ (z : ℕ). z < P * (dx * dy)) right_units m in
      let b : Q < P = lt_of_mul-lt-mul_right (dx * dy) a in
      let b' : Q + 1 ≤ P = omega arith in
      let c : (Q + 1) * (dx * dy) ≤ P * (dx * dy) = mul-le-mul_right (dx * dy) b' in
      let d : (Q + 1) * (dx * dy) ≡ Q * (dx * dy) + 1 * (dx * dy) = add-mul Q 1 (dx * dy) in
      let e : (x * dy - y * dx) * U ≡ x * dy * U - y * dx * U = times_less (x * dy) (y * dx) U in
      fewer (dx * dy) ((x * dy - y * dx) * U) (Q * (dx * dy)) (P * (dx * dy)) (x * dy * U) (y * dx * U) (omega arith) left_units
      right_units e

  -- and so is a sum
  one_of_two : 0 < U → 0 < dx * dy → 0 < x * dy + y * dx → dx * dy ≤ (x * dy + y * dx) * U
  one_of_two W C h =
      let a : (x * dy + y * dx) * U ≡ (P + Q) * (dx * dy) =
      add-mul (x * dy) (y * dx) U
      ∙ ap (λ (z : ℕ). z + y * dx * U) left_units
      ∙ ap (λ (z : ℕ). P * (dx * dy) + z) right_units
      ∙ sym (add-mul P Q (dx * dy)) in
      let p : 0 < (P + Q) * (dx * dy) = subst (λ (z : ℕ). 0 < z) a (mul-pos h W) in
      let b : 1 ≤ P + Q = first_pos (P + Q) (dx * dy) p in
      let c : 1 * (dx * dy) ≤ (P + Q) * (dx * dy) = mul-le-mul_right (dx * dy) b in
      le_trans (le_of_eq (sym (one-mul (dx * dy)))) (le_trans c (le_of_eq (sym a)))

-- ── the difference, by the signs ──

module _
    (a b c : ℕ)
    (C : 0 < c)
    (A : b < a → c ≤ (a - b) * 2 ^ 149)
    (B : a < b → c ≤ (b - a) * 2 ^ 149)
    (S : 0 < a + b → c ≤ (a + b) * 2 ^ 149)
  where
    like_plus : Dec (a < b) → Dec (b < a) → lt none (sum binary32 false a true b c) ≡ ltb b a
    unfolding sum
    like_plus (yes l) _ = rw (lt-ltb a b l, le-ltb b a (omega arith)) (down_round (b - a) c)
    like_plus (no l) (yes g) = rw (le-ltb a b (omega arith), lt-ltb b a g) (up_round (a - b) c C (A g))
    like_plus (no l) (no g) = rw (le-ltb a b (omega arith), le-ltb b a (omega arith)) (zero_round (a - b) c C (omega arith))

    like_minus : Dec (a < b) → Dec (b < a) → lt none (sum binary32 true a false b c) ≡ ltb a b
    unfolding sum
    like_minus (yes l) _ = rw (lt-ltb a b l) (up_round (b - a) c C (B l))
    like_minus (no l) (yes g) = rw (le-ltb a b (omega arith), lt-ltb b a g) (down_round (a - b) c)
    like_minus (no l) (no g) = rw (le-ltb a b (omega arith), le-ltb b a (omega arith)) (zero_round (a - b) c C (omega arith))

    plus_minus : Dec (0 < a + b) → lt none (sum binary32 false a false b c) ≡ ltb 0 (b + a)
    unfolding sum
    plus_minus (yes l) = rw (lt-ltb 0 (b + a) (omega arith)) (up_round (a + b) c C (S l))
    plus_minus (no l) = rw (le-ltb 0 (b + a) (omega arith)) (zero_round (a + b) c C (omega arith))

    minus_plus : lt none (sum binary32 true a true b c) ≡ false
    unfolding sum
    minus_plus = down_round (a + b) c

    side : (s t : Bool) → lt none (sum binary32 s a (not t) b c) ≡ below t b s a
    side false false = like_plus (dec_lt a b) (dec_lt b a)
    side false true = plus_minus (dec_lt 0 (a + b))
    side true false = minus_plus
    side true true = like_minus (dec_lt a b) (dec_lt b a)

in_units : (m : ℕ) (e : ℤ) (g : Grain e) → m * up e * 2 ^ 149 ≡ m * 2 ^ g.j * down e
in_units m e g = mul_assoc m (up e) (2 ^ 149) ∙ ap (λ (z : ℕ). m * z) g.is ∙ sym (mul_assoc m (2 ^ g.j) (down e))

finite_side : (s : Bool) (m : ℕ) (e : ℤ) (t : Bool) (n : ℕ) (d : ℤ) → Grain e → Grain d
    → lt none (sum binary32 s (m * up e * down d) (not t) (n * up d * down e) (down e * down d))
    ≡ below t (n * up d * down e) s (m * up e * down d)
finite_side s m e t n d g k =
    let x = m * up e in
    let y = n * up d in
    let X = in_units m e g in
    let Y = in_units n d k in
    let C = mul-pos (down_pos e) (down_pos d) in
    let U = pow_pos 149 in
    side (x * down d) (y * down e) (down e * down d) C
    (one_more x y (down e) (down d) (2 ^ 149) (m * 2 ^ g.j) (n * 2 ^ k.j) X Y U C)
    (λ (h : x * down d < y * down e).
    le_trans (le_of_eq (mul_comm (down e) (down d)))
    (one_more y x (down d) (down e) (2 ^ 149) (n * 2 ^ k.j) (m * 2 ^ g.j) Y X U (mul-pos (down_pos d) (down_pos e)) h))
    (one_of_two x y (down e) (down d) (2 ^ 149) (m * 2 ^ g.j) (n * 2 ^ k.j) X Y U C)
    s t

-- d is above 0 exactly when the voxel is below the level
pub difference_side : (l v : Float) → T (fits binary32 l) → T (fits binary32 v) → lt (fin false 0 (pos 0)) (sub binary32 l v) ≡ lt v l
unfolding lt sub add neg
difference_side nan nan f g = refl
difference_side nan (inf t) f g = refl
difference_side nan (fin t n d) f g = refl
difference_side (inf s) nan f g = refl
difference_side (inf false) (inf false) f g = refl
difference_side (inf false) (inf true) f g = refl
difference_side (inf true) (inf false) f g = refl
difference_side (inf true) (inf true) f g = refl
difference_side (inf false) (fin t n d) f g = refl
difference_side (inf true) (fin t n d) f g = refl
difference_side (fin s m e) nan f g = refl
difference_side (fin s m e) (inf false) f g = refl
difference_side (fin s m e) (inf true) f g = refl
difference_side (fin s m e) (fin t n d) f g = finite_side s m e t n d (grain s m e f) (grain t n d g)

-- ── the sample ──

not_above : (n : ℕ) → lt_z (pos 0) (neg_ℤ (pos n)) ≡ false
not_above zero = refl
not_above (suc n) = refl

-- a sample is above 0 exactly when d is
pub sample_side : (d : Float) (n : ℕ) → lt_z (pos 0) (cut_of d n) ≡ lt none d
unfolding cut_of
sample_side d n = go (lt none d)
  where
    go : (b : Bool) → lt_z (pos 0) (cond b (pos (max 1 (held d n))) (neg_ℤ (pos (held d n)))) ≡ b
    go true = lt-ltb 0 (max 1 (held d n)) (omega arith)
    go false = not_above (held d n)

-- so no voxel changes side
pub side_kept : (l v : Float) (n : ℕ) → T (fits binary32 l) → T (fits binary32 v) → lt_z (pos 0) (sample_of l n v) ≡ lt v l
unfolding sample_of
side_kept l v n f g = sample_side (sub binary32 l v) n ∙ difference_side l v f g
