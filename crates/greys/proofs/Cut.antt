-- The difference times the scale, cut and held. Assumes nothing.
use mathlib.Core.Path.{◌≡◌, refl, sym, ap, ◌∙◌, subst}
use mathlib.Core.Bool.{Bool, true, false}
use mathlib.Core.Logic.{◌⊎◌, inl, inr}
use Prim.Native.Nat.{ℕ, zero, suc, ◌+◌, ◌*◌, ◌/◌, ◌<◌, ◌≤◌, min}
use native.Mathlib.Nat.{mul-pos, mul-le-mul_right, mul-lt-mul_of_pos_right, lt_of_mul-lt-mul_right}
use native.Mathlib.Nat.{mul_right_comm, zero-mul, le_of_mul-le-mul_right, le-div_iff_mul-le, div-lt_iff_lt-mul}
use native.Mathlib.Omega.{arith}
use native.Mathlib.Decide.{dec_lt}
use borrow.Author.Tests.{lt-ltb, le-ltb}
use lib.Dec.{T, lit≤}
use lib.IntN.{ℤ, pos}
use lib.Ieee.{Float, nan, inf, fin, binary32, mul, of_int, up, down, fits, lt, neg}
use lib.Ieee.Exact.{HasValue}
use lib.Ieee.Fits.{up_pos, down_pos}
use lib.Ieee.Nearest.{div_same}
use Rattle.greys.specs.Sample.{held}
use Rattle.greys.specs.Within.{Scale, size_of, most, at_most, Plain, whole, Bounded}
use Rattle.greys.proofs.Bounds.{scaled_most}
use Rattle.greys.proofs.Product.{product}

-- ── without its sign ──

pub record Sized (m : ℕ) (e : ℤ) (x : Float) : Type 0 where
  pub sign : Bool
  pub is : x ≡ fin sign m e
  pub none_is : sign ≡ true → m ≡ 0

pub sized : (s : Bool) (m : ℕ) (e : ℤ) → Sized m e (size_of (fin s m e))
unfolding size_of lt neg
sized false m e =
    let z = zero-mul (down e) in
    record { sign = false; is = rw (le-ltb (m * up e * 1) (0 * down e) (omega arith)); none_is = λ q. absurd (subst T (sym q) tt) }
sized true zero e =
    let z = zero-mul (up e) in
    let y = zero-mul (down e) in
    record { sign = true; is = rw (le-ltb 0 (0 * up e * 1 + 0 * down e) (omega arith)); none_is = λ q. refl }
sized true (suc m) e =
    let p : 0 < suc m * up e = mul-pos (omega arith) (up_pos e) in
    record { sign = false; is = rw (lt-ltb 0 (suc m * up e * 1 + 0 * down e) (omega arith)); none_is = λ q. absurd (subst T (sym q) tt) }

-- ── held to 32,767 ──

-- x is a / c, where it is below 0 it is 0
pub record Value (x : Float) (a c : ℕ) : Type 0 where
  pub sign : Bool
  pub is : HasValue x sign a c
  pub none_is : sign ≡ true → a ≡ 0
  pub over : 0 < c

-- x is held: it stays, or it is 32,767 or more
pub record Kept (x : Float) (a c : ℕ) : Type 0 where
  pub small : a < 32767 * c
  pub is : at_most x ≡ x

pub record Cut (x : Float) (a c : ℕ) : Type 0 where
  pub large : 32767 * c ≤ a
  pub is : at_most x ≡ most

scaled_lt : (p u a c b : ℕ) → 0 < c → 0 < u → p * c ≡ a * u → a < b * c → p < b * u
scaled_lt p u a c b C U e h =
    lt_of_mul-lt-mul_right c
    (subst (λ (z : ℕ). z < b * u * c) (sym e) (subst (λ (z : ℕ). a * u < z) (mul_right_comm b c u) (mul-lt-mul_of_pos_right h U)))

scaled_le : (p u a c b : ℕ) → 0 < c → p * c ≡ a * u → b * c ≤ a → b * u ≤ p
scaled_le p u a c b C e h =
    le_of_mul-le-mul_right
    (subst (λ (z : ℕ). b * u * c ≤ z) (sym e) (subst (λ (z : ℕ). z ≤ a * u) (mul_right_comm b c u) (mul-le-mul_right u h))) C

pub at_most_law : (x : Float) (a c : ℕ) → Value x a c → Kept x a c ⊎ Cut x a c
unfolding at_most lt
at_most_law nan a c v = absurd v.is
at_most_law (inf s) a c v = absurd v.is
at_most_law (fin false m e) a c v = go (dec_lt a (32767 * c))
  where
    go : Dec (a < 32767 * c) → Kept (fin false m e) a c ⊎ Cut (fin false m e) a c
    go (yes l) =
        let h = scaled_lt (m * up e) (down e) a c 32767 v.over (down_pos e) v.is.1 l in
        inl (record { small = l; is = rw (lt-ltb (m * up e * 1) (32767 * down e) (omega arith)) })
    go (no l) =
        let h = scaled_le (m * up e) (down e) a c 32767 v.over v.is.1 (omega arith) in
        inr (record { large = omega arith; is = rw (le-ltb (m * up e * 1) (32767 * down e) (omega arith)) })
at_most_law (fin true m e) a c v =
    let z = v.none_is (sym v.is.0) in
    inl (record { small = omega (arith, v.over); is = rw (lt-ltb 0 (m * up e * 1 + 32767 * down e) (omega (arith, down_pos e))) })

-- what is held is plain, and its whole part is known
no_digits : (m u c : ℕ) → 0 < u → 0 < c → m * u * c ≡ 0 → m ≡ 0
no_digits zero u c U C e = refl
no_digits (suc m) u c U C e = let p : 0 < suc m * u * c = mul-pos (mul-pos (omega arith) U) C in absurd (omega arith)

pub record Plainly (x : Float) (n : ℕ) : Type 0 where
  pub plain : Plain x
  pub part : whole x ≡ n

pub plain_value : (x : Float) (a c : ℕ) → Value x a c → a ≤ 32767 * c → Plainly x (a / c)
unfolding whole
plain_value nan a c v h = absurd v.is
plain_value (inf s) a c v h = absurd v.is
plain_value (fin s m e) a c v h =
    let z : s ≡ true → m ≡ 0 =
    λ q. no_digits m (up e) c (up_pos e) v.over
    (v.is.1 ∙ ap (λ (k : ℕ). k * down e) (v.none_is (sym v.is.0 ∙ q)) ∙ zero-mul (down e)) in
    record {
      plain = (z, scaled_most (m * up e) (down e) a c 32767 v.over v.is.1 h);
      part = div_same (m * up e) (down e) a c (down_pos e) v.over v.is.1;
    }

plain_most : Plainly most 32767
unfolding whole
plain_most = record { plain = (λ q. absurd (subst T (sym q) tt), lit≤ tt); part = refl }

-- ── the steps ──

abbrev pub stepped : Float → ℕ → Float
stepped d n = at_most (mul binary32 (size_of d) (of_int binary32 (pos n)))

pub fits_sign : (s t : Bool) (m : ℕ) (e : ℤ) → T (fits binary32 (fin s m e)) → T (fits binary32 (fin t m e))
unfolding fits
fits_sign s t zero e f = f
fits_sign s t (suc m) e f = f

few : (a c : ℕ) → 0 < c → a ≤ 32767 * c → a / c ≡ min (a / c) 32767
few a c C h = let q : a / c < 32768 = (div-lt_iff_lt-mul C).1 (omega arith) in omega arith

many : (a c : ℕ) → 0 < c → 32767 * c ≤ a → 32767 ≡ min (a / c) 32767
many a c C h = let q : 32767 ≤ a / c = (le-div_iff_mul-le C).1 h in omega arith

-- r, which is x up to 32,767 and 32,767 from there on, is plain, and its whole part is known
pub held_plain : (x r : Float) (a c : ℕ) → Value x a c → ((a ≤ 32767 * c) × (r ≡ x)) ⊎ ((32767 * c ≤ a) × (r ≡ most))
    → Plainly r (min (a / c) 32767)
held_plain x r a c v (inl l) =
    subst (λ (y : Float). Plainly y (min (a / c) 32767)) (sym l.1)
    (subst (Plainly x) (few a c v.over l.0) (plain_value x a c v l.0))
held_plain x r a c v (inr l) =
    subst (λ (y : Float). Plainly y (min (a / c) 32767)) (sym l.1) (subst (Plainly most) (many a c v.over l.0) plain_most)

-- a value that is held and cut
pub held_value : (x : Float) (a c : ℕ) → Value x a c → Plainly (at_most x) (min (a / c) 32767)
held_value x a c v =
    held_plain x (at_most x) a c v
    (elim (at_most_law x a c v) [
      | inl l ↦ inl (omega (arith, l.small), l.is)
      | inr l ↦ inr (l.large, l.is)
    ])

-- what `steps` cuts is plain, and its whole part is the size of the sample
pub stepped_is : (n : ℕ) → Scale n → (d : Float) → Bounded 131072 d → T (fits binary32 d) → Plainly (stepped d n) (held d n)
unfolding held
stepped_is n s nan h f = absurd h
stepped_is n s (inf t) h f = absurd h
stepped_is n s (fin t m e) h f =
    let w = sized t m e in
    let x = mul binary32 (fin w.sign m e) (of_int binary32 (pos n)) in
    let v : Value x (m * up e * n) (down e) =
    record {
      sign = w.sign;
      is = product w.sign m e n (fits_sign t w.sign m e f) h s;
      none_is = λ q. ap (λ (k : ℕ). k * up e * n) (w.none_is q) ∙ (ap (λ (k : ℕ). k * n) (zero-mul (up e)) ∙ zero-mul n);
      over = down_pos e;
    } in
    subst (λ (y : Float). Plainly (at_most (mul binary32 y (of_int binary32 (pos n)))) (min (m * up e * n / down e) 32767)) (sym w.is)
    (held_value x (m * up e * n) (down e) v)
