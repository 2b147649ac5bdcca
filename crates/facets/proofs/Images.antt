-- A float is taken exactly where it is a coordinate's, and gives that coordinate. Assumes nothing.
use mathlib.Core.Path.{◌≡◌, refl, sym, subst, ap, ◌∙◌}
use mathlib.Core.Bool.{Bool, true, false, not, cond, ◌&&◌, beq}
use Prim.Native.Nat.{ℕ, zero, suc, ◌+◌, ◌-◌, ◌*◌, ◌%◌, ◌^◌, ◌≤◌, ◌<◌}
use native.Mathlib.Omega.{arith}
use borrow.Author.Tests.{le-leb, leb-true, le-ltb, eq-eqb, eqb-true, eqb-false, ltb-true}
use lib.Dec.{T, leb, ltb, eqb}
use lib.IntN.{ℤ, pos, negsuc}
use lib.Signed.{le_z, lt_z}
use lib.Ieee.{Float, nan, inf, fin, Format, binary32, prec, emax, low, up, down, fits, of_bits, to_bits, is_nan, nan_bits}
use lib.Ieee.{add, sum, round, units, odd}
use lib.Ieee.Bits.{of_bits-to_bits, to_bits-of_bits, of_bits-fits, nan_bits_is, nan_bits_above, is_true}
use lib.Ieee.Fits.{round-fits}
use Rattle.paper.proofs.Judged.{both}
use Rattle.facets.specs.Steps.{float_of, in_bounds, nat_of, scaled, is_image, word_of, Candidate}
use Rattle.facets.proofs.Floats.{base_is, scaled_float, float_number, float_more, digits_are, float_below}

pub float_fits : (n : ℕ) → T (fits binary32 (float_of n))
unfolding float_of
float_fits n = round-fits binary32 false n 65536

-- floats with the same bits are the same
same_bits : (x y : Float) → T (fits binary32 x) → T (fits binary32 y) → to_bits binary32 x ≡ to_bits binary32 y → x ≡ y
same_bits x y f g e = sym (of_bits-to_bits binary32 x f) ∙ ap (of_bits binary32) e ∙ of_bits-to_bits binary32 y g

-- the float of a coordinate is taken
pub float_is_image : (n : ℕ) → n ≤ 4128768 → is_image (float_of n) ≡ true
unfolding is_image
float_is_image n h =
    rw (
      scaled_float n (omega arith),
      le-leb n 4128768 h,
      is_true (not (is_nan (float_of n))) (float_number n (omega arith)),
      eq-eqb (to_bits binary32 (float_of n)) (to_bits binary32 (float_of n)) refl,
    )

-- and a float that is taken is that of the coordinate it gives
pub image_is_float : (x : Float) → T (fits binary32 x) → is_image x ≡ true → (scaled x ≤ 4128768) × (x ≡ float_of (scaled x))
unfolding is_image
image_is_float x f e =
    let bits = to_bits binary32 (float_of (scaled x)) in
    let b = both (leb (scaled x) 4128768 && not (is_nan x)) (eqb bits (to_bits binary32 x)) e in
    let a = both (leb (scaled x) 4128768) (not (is_nan x)) b.0 in (
      leb-true (scaled x) 4128768 a.0,
      same_bits x (float_of (scaled x)) f (float_fits (scaled x)) (sym (eqb-true bits (to_bits binary32 x) b.1)),
    )

-- a float of no coordinate is not
pub none_image : (x : Float) → T (fits binary32 x) → ((n : ℕ) → n ≤ 4128768 → x ≡ float_of n → ⊥) → is_image x ≡ false
none_image x f never = go (is_image x) (image_is_float x f)
  where
    go : (b : Bool) → (b ≡ true → (scaled x ≤ 4128768) × (x ≡ float_of (scaled x))) → b ≡ false
    go true k = absurd (never (scaled x) (k refl).0 (k refl).1)
    go false k = refl

-- ── a sheet's numbers ──

pub bounds_low : (w : ℤ) → lt_z w (pos 0) ≡ true → false ≡ in_bounds w
unfolding in_bounds
bounds_low (pos n) e = absurd (omega (arith, ltb-true n 0 e))
bounds_low (negsuc n) e = refl

pub bounds_high : (w : ℤ) → lt_z w (pos 0) ≡ false → le_z w (pos 4128768) ≡ in_bounds w
unfolding in_bounds
bounds_high (pos n) e = refl
bounds_high (negsuc n) e = absurd (subst T e tt)

pub bounds_are : (w : ℤ) → in_bounds w ≡ true → (nat_of w ≤ 4128768) × (w ≡ pos (nat_of w))
unfolding in_bounds nat_of
bounds_are (pos n) e = (leb-true n 4128768 e, refl)
bounds_are (negsuc n) e = absurd (subst T (sym e) tt)

pub pos_bounds : (n : ℕ) → n ≤ 4128768 → in_bounds (pos n) ≡ true
unfolding in_bounds
pos_bounds n h = le-leb n 4128768 h

pub pos_nat : (n : ℕ) → nat_of (pos n) ≡ n
unfolding nat_of
pos_nat n = refl

-- they come back from their floats
pub word_back : (w : ℤ) → in_bounds w ≡ true → (is_image (float_of (nat_of w)) ≡ true) × (word_of (float_of (nat_of w)) ≡ w)
unfolding word_of
word_back w e =
    let b = bounds_are w e in
    (float_is_image (nat_of w) b.0, ap pos (scaled_float (nat_of w) (omega (arith, b.0))) ∙ sym b.1)

-- ── no number ──

-- what is rounded is a number, and so is the sum of a number and a finite one
units_number : (f : Format) (s : Bool) (q k : ℕ) → T (not (is_nan (units f s q k)))
unfolding units is_nan odd
units_number f s q k = go (ltb (q * 2 ^ k) (2 ^ (low f + suc (emax f)))) q
  where
    go : (b : Bool) (q : ℕ) → T (not (is_nan (cond b (odd (suc (prec f)) s q k (low f)) (inf s))))
    go true zero = tt
    go true (suc q) = tt
    go false q = tt

round_number : (f : Format) (s : Bool) (a c : ℕ) → T (not (is_nan (round f s a c)))
unfolding round
round_number f s a c = units_number f s _ _

cond_number : (b : Bool) (x y : Float) → T (not (is_nan x)) → T (not (is_nan y)) → T (not (is_nan (cond b x y)))
cond_number true x y g h = g
cond_number false x y g h = h

sum_number : (f : Format) (s : Bool) (a : ℕ) (t : Bool) (b c : ℕ) → T (not (is_nan (sum f s a t b c)))
unfolding sum
sum_number f s a t b c =
    let low = round f t (b - a) c in
    let high = round f (s && ltb b a) (a - b) c in
    cond_number (beq s t) (round f s (a + b) c) (cond (ltb a b) low high) (round_number f s (a + b) c)
    (cond_number (ltb a b) low high (round_number f t (b - a) c) (round_number f (s && ltb b a) (a - b) c))

add_number : (x : Float) (t : Bool) (n : ℕ) (d : ℤ) → T (not (is_nan x)) → T (not (is_nan (add binary32 x (fin t n d))))
unfolding add
add_number nan t n d h = h
add_number (inf s) t n d h = h
add_number (fin s m e) t n d h = sum_number binary32 s (m * up e * down d) t (n * up d * down e) (down e * down d)

-- a float that is taken is a number, and so are bits below 64's
pub image_number : (x : Float) → is_image x ≡ true → T (not (is_nan x))
unfolding is_image
image_number x e =
    let a = leb (scaled x) 4128768 in
    let b = both (a && not (is_nan x)) (eqb (to_bits binary32 (float_of (scaled x))) (to_bits binary32 x)) e in
    subst T (sym (both a (not (is_nan x)) b.0).1) tt

pub number_bits : (b : ℕ) → T (not (is_nan (of_bits binary32 b))) → T (not (nan_bits binary32 b))
number_bits b h = rw (nan_bits_is binary32 b) h

pub low_number : (b : ℕ) → b < 1115684864 → T (not (is_nan (of_bits binary32 b)))
low_number b h = rw (sym (nan_bits_is binary32 b) ∙ (nan_bits_above binary32 b ∙ le-ltb 2139095040 (b % 2147483648) (omega arith))) tt

-- ── the candidate that the float 128 more gives ──

abbrev more : Float → Float
more x = add binary32 x (of_bits binary32 1124073472)

pub more_number : (x : Float) → T (not (is_nan x)) → T (not (is_nan (more x)))
more_number x h = rw base_is (add_number x false 1 (pos 7) h)

pub candidate_is : (x : Float) → Candidate x (to_bits binary32 (more x) % 8388608)
candidate_is x =
    record {
      only = λ m h e. omega (arith, ap (to_bits binary32) (ap more e ∙ float_more m (omega arith)) ∙ digits_are m h);
      small = omega arith;
    }

-- it decides
module _ (x : Float) (f : T (fits binary32 x)) (n : ℕ) (k : Candidate x n) where
  pub candidate_large : 4128768 < n → false ≡ is_image x
  candidate_large l = sym (none_image x f (λ m h e. omega (arith, k.only m h e)))

  pub candidate_decides : n ≤ 4128768 → eqb (to_bits binary32 (float_of n)) (to_bits binary32 x) ≡ is_image x
  candidate_decides h = go (eqb (to_bits binary32 (float_of n)) (to_bits binary32 x)) refl
    where
      go : (b : Bool) → eqb (to_bits binary32 (float_of n)) (to_bits binary32 x) ≡ b → b ≡ is_image x
      go true q =
          let e = sym (eqb-true (to_bits binary32 (float_of n)) (to_bits binary32 x) q) in
          sym (ap is_image (same_bits x (float_of n) f (float_fits n) e) ∙ float_is_image n h)
      go false q =
          sym (none_image x f (λ m l e.
          eqb-false (to_bits binary32 (float_of n)) (to_bits binary32 x) q
          (ap (λ (i : ℕ). to_bits binary32 (float_of i)) (k.only m l e) ∙ sym (ap (to_bits binary32) e))))

  pub candidate_word : is_image x ≡ true → pos n ≡ word_of x
  unfolding word_of
  candidate_word e =
      let i = image_is_float x f e in
      ap pos (k.only (scaled x) i.0 i.1)

-- bits from 64's on are no coordinate's
pub bits_high : (b : ℕ) → b < 4294967296 → 1115684864 ≤ b → false ≡ is_image (of_bits binary32 b)
bits_high b h l =
    let x = of_bits binary32 b in
    sym (none_image x (of_bits-fits binary32 b) (λ n g e.
    let i : to_bits binary32 x ≡ b = to_bits-of_bits binary32 b h (rw e (float_number n (omega arith))) in
    omega (arith, sym i ∙ ap (to_bits binary32) e, float_below n g)))

pub bits_decide : (b n : ℕ) → b < 1115684864 → n ≤ 4128768 → Candidate (of_bits binary32 b) n
    → eqb (to_bits binary32 (float_of n)) b ≡ is_image (of_bits binary32 b)
bits_decide b n h l k =
    ap (eqb (to_bits binary32 (float_of n))) (sym (to_bits-of_bits binary32 b (omega arith) (low_number b h)))
    ∙ candidate_decides (of_bits binary32 b) (of_bits-fits binary32 b) n k l
