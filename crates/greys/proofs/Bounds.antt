-- Rounding stays within whole bounds: so the level of greys is a grey, and the difference of two greys is a number within ±131,072.
-- Assumes nothing.
use mathlib.Core.Path.{◌≡◌, sym, subst}
use mathlib.Core.Bool.{Bool, true, false, cond, beq, ◌&&◌}
use Prim.Native.Nat.{ℕ, ◌+◌, ◌-◌, ◌*◌, ◌^◌, ◌<◌, ◌≤◌}
use native.Mathlib.Nat.{mul_assoc, mul_comm, mul_right_comm, mul-pos, mul-le-mul_right, le_of_mul-le-mul_right}
use native.Mathlib.Omega.{arith}
use native.Mathlib.Decide.{dec_lt}
use borrow.Author.Tests.{leb-true, le-leb}
use lib.Dec.{T, ltb, ltb→lt, lit<, lit≤}
use lib.Pow.{pow_pos}
use lib.IntN.{pos}
use lib.Ieee.{Float, nan, inf, fin, binary32, odd, units, round, add, sum, sub, neg, div, le, up, down}
use lib.Ieee.Exact.{HasValue, units_val}
use lib.Ieee.Back.{round_whole}
use lib.Ieee.Fits.{down_pos, round_is}
use lib.Ieee.Order.{drop, kept, round_mono}
use lib.Ieee.Positive.{positive_of_value, values_of_le}
use lib.Ieee.Scale.{finite}
use Rattle.paper.proofs.Judged.{both}
use Rattle.greys.specs.declared.Level.{Level}
use Rattle.greys.specs.declared.Level.TheVariants.{Fixed, Halfway}
use Rattle.greys.specs.Level.{is_grey, level_of, are_greys}
use Rattle.greys.specs.Within.{Bounded}

-- ── values ──

-- a / c, written as p / u, is at most b where it is
pub scaled_most : (p u a c b : ℕ) → 0 < c → p * c ≡ a * u → a ≤ b * c → p ≤ b * u
scaled_most p u a c b C e h =
    le_of_mul-le-mul_right
    (subst (λ (z : ℕ). z ≤ b * u * c) (sym e) (subst (λ (z : ℕ). a * u ≤ z) (mul_right_comm b c u) (mul-le-mul_right u h))) C

bounded_value : (x : Float) (s : Bool) (a c b : ℕ) → 0 < c → HasValue x s a c → a ≤ b * c → Bounded b x
bounded_value nan s a c b C v h = absurd v
bounded_value (inf t) s a c b C v h = absurd v
bounded_value (fin t m e) s a c b C v h = scaled_most (m * up e) (down e) a c b C v.1 h

value_finite : (x : Float) (s : Bool) (a c : ℕ) → HasValue x s a c → T (finite x)
value_finite nan s a c v = absurd v
value_finite (inf t) s a c v = absurd v
value_finite (fin t m e) s a c v = tt

-- ── rounding ──

-- what lies below a number is not too large for one
under : (q k : ℕ) (y : Float) → T (finite y) → T (le (units binary32 false q k) y) → q * 2 ^ k < 2 ^ 277
unfolding units le
under q k nan f h = absurd f
under q k (inf t) f h = absurd f
under q k (fin t n d) f h = go (ltb (q * 2 ^ k) (2 ^ 277)) (ltb→lt (q * 2 ^ k) (2 ^ 277)) h
  where
    go : (b : Bool) → (T b → q * 2 ^ k < 2 ^ 277) → T (le (cond b (odd 25 false q k 149) (inf false)) (fin t n d)) → q * 2 ^ k < 2 ^ 277
    go true l h = l tt
    go false l h = absurd (unfold le in h)

at_least_none : (n m : ℕ) → (0 < n → n * 1 ≤ m) → n ≤ m
at_least_none n m f = go (dec_lt 0 n)
  where
    go : Dec (0 < n) → n ≤ m
    go (yes l) = omega (arith, f l)
    go (no l) = omega arith

module _ (b : ℕ) (low : 0 < b) (high : b ≤ 2 ^ 24) (a c : ℕ) (C : 0 < c) (h : a ≤ b * c) where
  abbrev q : ℕ
  q = kept 24 (a * 2 ^ 149) c

  abbrev k : ℕ
  k = drop 24 (a * 2 ^ 149) c

  abbrev end : Float
  end = round binary32 false b 1

  end_value : HasValue end false b 1
  end_value = round_whole binary32 false b high

  within : T (le (round binary32 false a c) end)
  within = round_mono binary32 a c b 1 C (lit< tt) (omega arith)

  fits_in : q * 2 ^ k < 2 ^ 277
  fits_in =
      under q k end (value_finite end false b 1 end_value)
      (subst (λ (x : Float). T (le x end)) (round_is binary32 false a c) within)

  value : (s : Bool) → HasValue (round binary32 s a c) s (q * 2 ^ k) (2 ^ 149)
  value s =
      subst (λ (x : Float). HasValue x s (q * 2 ^ k) (2 ^ 149)) (sym (round_is binary32 s a c)) (units_val binary32 s q k fits_in)

  most : q * 2 ^ k ≤ b * 2 ^ 149
  most = at_least_none (q * 2 ^ k) (b * 2 ^ 149) go
    where
      go : 0 < q * 2 ^ k → q * 2 ^ k * 1 ≤ b * 2 ^ 149
      go l =
          let x = round binary32 false a c in
          let p = positive_of_value x (q * 2 ^ k) (2 ^ 149) (value false) l in
          let r = positive_of_value end b 1 end_value low in
          values_of_le x end (q * 2 ^ k) (2 ^ 149) b 1 p r (value false) end_value within

  pub round_bounded : (s : Bool) → Bounded b (round binary32 s a c)
  round_bounded s = bounded_value (round binary32 s a c) s (q * 2 ^ k) (2 ^ 149) b (pow_pos 149) (value s) most

-- ── sums, differences and halves ──

module _ (s : Bool) (a : ℕ) (t : Bool) (b c : ℕ) (C : 0 < c) (A : a ≤ 65536 * c) (B : b ≤ 65536 * c) where
  abbrev kept_in : (n : ℕ) → n ≤ 131072 * c → (u : Bool) → Bounded 131072 (round binary32 u n c)
  kept_in n h = round_bounded 131072 (lit< tt) (lit≤ tt) n c C h

  sum_bounded : Bounded 131072 (sum binary32 s a t b c)
  unfolding sum
  sum_bounded = go (beq s t) (ltb a b)
    where
      go : (x y : Bool)
          → Bounded 131072
          (cond x (round binary32 s (a + b) c) (cond y (round binary32 t (b - a) c) (round binary32 (s && ltb b a) (a - b) c)))
      go true y = kept_in (a + b) (omega arith) s
      go false true = kept_in (b - a) (omega arith) t
      go false false = kept_in (a - b) (omega arith) (s && ltb b a)

across : (p u v b : ℕ) → p ≤ b * u → p * v ≤ b * (u * v)
across p u v b h = subst (λ (z : ℕ). p * v ≤ z) (mul_assoc b u v) (mul-le-mul_right v h)

pub add_bounded : (x y : Float) → Bounded 65536 x → Bounded 65536 y → Bounded 131072 (add binary32 x y)
unfolding add
add_bounded nan y h k = absurd h
add_bounded (inf s) y h k = absurd h
add_bounded (fin s m e) nan h k = absurd k
add_bounded (fin s m e) (inf t) h k = absurd k
add_bounded (fin s m e) (fin t n d) h k =
    sum_bounded s (m * up e * down d) t (n * up d * down e) (down e * down d) (mul-pos (down_pos e) (down_pos d))
    (across (m * up e) (down e) (down d) 65536 h)
    (subst (λ (z : ℕ). n * up d * down e ≤ 65536 * z) (mul_comm (down d) (down e)) (across (n * up d) (down d) (down e) 65536 k))

neg_bounded : (b : ℕ) (x : Float) → Bounded b x → Bounded b (neg x)
unfolding neg
neg_bounded b nan h = absurd h
neg_bounded b (inf s) h = absurd h
neg_bounded b (fin s m e) h = h

half_bounded : (x : Float) → Bounded 131072 x → Bounded 65536 (div binary32 x (fin false 1 (pos 1)))
unfolding div
half_bounded nan h = absurd h
half_bounded (inf s) h = absurd h
half_bounded (fin false m e) h =
    round_bounded 65536 (lit< tt) (lit≤ tt) (m * up e * 1) (2 * down e) (mul-pos (lit< tt) (down_pos e)) (omega arith) false
half_bounded (fin true m e) h =
    round_bounded 65536 (lit< tt) (lit≤ tt) (m * up e * 1) (2 * down e) (mul-pos (lit< tt) (down_pos e)) (omega arith) true

-- ── greys ──

pub grey_bounded : (x : Float) → is_grey x ≡ true → Bounded 65536 x
unfolding is_grey
grey_bounded nan h = absurd (subst T (sym h) tt)
grey_bounded (inf s) h = absurd (subst T (sym h) tt)
grey_bounded (fin s m e) h = leb-true (m * up e) (65536 * down e) h

bounded_grey : (x : Float) → Bounded 65536 x → is_grey x ≡ true
unfolding is_grey
bounded_grey nan h = absurd h
bounded_grey (inf s) h = absurd h
bounded_grey (fin s m e) h = le-leb (m * up e) (65536 * down e) h

-- the level of greys is a grey
pub level_grey : (l : Level) → are_greys l ≡ true → is_grey (level_of l) ≡ true
unfolding level_of are_greys
level_grey (Fixed g) h = h
level_grey (Halfway air material) h =
    let g = both (is_grey air) (is_grey material) h in
    bounded_grey (div binary32 (add binary32 air material) (fin false 1 (pos 1)))
    (half_bounded (add binary32 air material)
    (add_bounded air material (grey_bounded air g.0) (grey_bounded material g.1)))

-- and d is a number
pub difference_bounded : (l v : Float) → is_grey l ≡ true → is_grey v ≡ true → Bounded 131072 (sub binary32 l v)
unfolding sub
difference_bounded l v h k = add_bounded l (neg v) (grey_bounded l h) (neg_bounded 65536 v (grey_bounded v k))
