-- Places and numbers: those of samples and cubes determine each other, and lie below their counts. Assumes nothing.
use mathlib.Core.Path.{◌≡◌, sym, ap, ◌∙◌}
use Prim.Native.Nat.{ℕ, ◌+◌, ◌-◌, ◌*◌, ◌/◌, ◌%◌, ◌<◌}
use native.Mathlib.Omega.{arith}
use native.Mathlib.Nat.{mod-lt, div-lt_iff_lt-mul, div-div-eq-div-mul, div-add-mod', mul-pos}
use lib.Arith.{digits_lt, digits_div, digits_mod}
use Rattle.paper.specs.declared.Sizes.{Sizes}
use Rattle.paper.specs.declared.Place.{Place}
use Rattle.paper.specs.Within.{Sized, SampleIn, CubeIn}
use Rattle.paper.specs.Lattice.{place, samples, sample_no, sample_at, cubes, cube_no, cube_at, corner}

-- ── three digits of widths w and h, and what they give ──

module _ (w h x y z : ℕ) (hx : x < w) (hy : y < h) where
  turn : x + w * (y + h * z) ≡ (y + h * z) * w + x
  turn = omega arith

  turn' : y + h * z ≡ z * h + y
  turn' = omega arith

  digit_x : (x + w * (y + h * z)) % w ≡ x
  digit_x = ap (λ (n : ℕ). n % w) turn ∙ digits_mod (y + h * z) hx

  over_x : (x + w * (y + h * z)) / w ≡ y + h * z
  over_x = ap (λ (n : ℕ). n / w) turn ∙ digits_div (y + h * z) hx

  digit_y : (x + w * (y + h * z)) / w % h ≡ y
  digit_y = ap (λ (n : ℕ). n % h) (over_x ∙ turn') ∙ digits_mod z hy

  digit_z : (x + w * (y + h * z)) / (w * h) ≡ z
  digit_z = sym (div-div-eq-div-mul (x + w * (y + h * z)) w h) ∙ (ap (λ (n : ℕ). n / h) (over_x ∙ turn') ∙ digits_div z hy)

-- the place of the number that a place gives
pub digits_place : (w h : ℕ) (p : Place) → p.x < w → p.y < h
    → let n = p.x + w * (p.y + h * p.z) in place (n % w) (n / w % h) (n / (w * h)) ≡ p
digits_place w h p hx hy =
    λ i. place (digit_x w h p.x p.y p.z hx hy i) (digit_y w h p.x p.y p.z hx hy i)
    (digit_z w h p.x p.y p.z hx hy i)

-- a number below w · (h · d) has three digits
pub record Digits (w h d n : ℕ) : Type 0 where
  pub x : n % w < w
  pub y : n / w % h < h
  pub z : n / (w * h) < d
  pub back : n % w + w * (n / w % h + h * (n / (w * h))) ≡ n

pub digits : (w h d n : ℕ) → 0 < w → 0 < h → n < w * (h * d) → Digits w h d n
digits w h d n hw hh hn =
    let big : n < d * (w * h) = omega arith in
    let wide : 0 < w * h = mul-pos hw hh in
    let e₁ : n / w * w + n % w ≡ n = div-add-mod' n w in
    let e₂ : n / w / h * h + n / w % h ≡ n / w = div-add-mod' (n / w) h in
    let e₃ : n / w / h ≡ n / (w * h) = div-div-eq-div-mul n w h in
    let e₄ : n / w % h + h * (n / (w * h)) ≡ n / w = omega (arith, ap (λ (q : ℕ). q * h) e₃) in
    record {
      x = mod-lt n hw;
      y = mod-lt (n / w) hh;
      z = (div-lt_iff_lt-mul wide).1 big;
      back = omega (arith, ap (λ (q : ℕ). w * q) e₄);
    }

-- ── samples and cubes ──

pub sample_lt : (z : Sizes) (p : Place) → SampleIn z p → sample_no z p < samples z
unfolding sample_no samples
sample_lt z p h = omega (arith, digits_lt (digits_lt h.z h.y) h.x)

pub cube_lt : (z : Sizes) (p : Place) → CubeIn z p → cube_no z p < cubes z
unfolding cube_no cubes
cube_lt z p h =
    let x : p.x < z.nx - 1 = omega (arith, h.x) in
    let y : p.y < z.ny - 1 = omega (arith, h.y) in
    let w : p.z < z.nz - 1 = omega (arith, h.z) in
    omega (arith, digits_lt (digits_lt w y) x)

pub sample_place : (z : Sizes) (p : Place) → p.x < z.nx → p.y < z.ny → sample_at z (sample_no z p) ≡ p
unfolding sample_at sample_no
sample_place z p hx hy = digits_place z.nx z.ny p hx hy

pub cube_place : (z : Sizes) (p : Place) → p.x < z.nx - 1 → p.y < z.ny - 1 → cube_at z (cube_no z p) ≡ p
unfolding cube_at cube_no
cube_place z p hx hy = digits_place (z.nx - 1) (z.ny - 1) p hx hy

module _ (z : Sizes) (s : Sized z) where
  -- the place of a cube's number, and of a sample's
  pub cube_inside : (k : ℕ) → k < cubes z → CubeIn z (cube_at z k)
  unfolding cube_at cubes
  cube_inside k h =
      let d = digits (z.nx - 1) (z.ny - 1) (z.nz - 1) k (omega (arith, s.x_low)) (omega (arith, s.y_low)) h in
      record { x = omega (arith, d.x); y = omega (arith, d.y); z = omega (arith, d.z) }

  pub cube_back : (k : ℕ) → k < cubes z → cube_no z (cube_at z k) ≡ k
  unfolding cube_at cube_no cubes
  cube_back k h = (digits (z.nx - 1) (z.ny - 1) (z.nz - 1) k (omega (arith, s.x_low)) (omega (arith, s.y_low)) h).back

  pub sample_inside : (n : ℕ) → n < samples z → SampleIn z (sample_at z n)
  unfolding sample_at samples
  sample_inside n h =
      let d = digits z.nx z.ny z.nz n (omega (arith, s.x_low)) (omega (arith, s.y_low)) h in
      record { x = d.x; y = d.y; z = d.z }

  pub sample_back : (n : ℕ) → n < samples z → sample_no z (sample_at z n) ≡ n
  unfolding sample_at sample_no samples
  sample_back n h = (digits z.nx z.ny z.nz n (omega (arith, s.x_low)) (omega (arith, s.y_low)) h).back

-- a cube's corners are samples of the lattice
pub corner_inside : (z : Sizes) (p : Place) → CubeIn z p → (c : ℕ) → c < 8 → SampleIn z (corner p c)
unfolding corner
corner_inside z p h c hc = record { x = omega (arith, h.x); y = omega (arith, h.y); z = omega (arith, h.z) }
