-- Counts are small, and the place of the next number is the next place. Assumes nothing.
use mathlib.Core.Path.{◌≡◌, sym, ap, ◌∙◌}
use Prim.Native.Nat.{ℕ, ◌+◌, ◌-◌, ◌*◌, ◌/◌, ◌%◌, ◌≤◌, ◌<◌}
use native.Mathlib.Nat.{mul-le-mul, mul-add, mul_assoc}
use native.Mathlib.Omega.{arith}
use Rattle.paper.specs.declared.Sizes.{Sizes}
use Rattle.paper.specs.declared.Place.{Place}
use Rattle.paper.specs.Lattice.{place, samples, sample_no, cubes, corner}
use Rattle.paper.specs.Within.{Sized, SampleIn, CubeIn}
use Rattle.lattice.specs.Steps.{next_in, corner_step}
use Rattle.paper.proofs.Numbers.{digits_place}

module _ (z : Sizes) (s : Sized z) where
  pub layer_few : z.ny * z.nz ≤ 4096
  layer_few = mul-le-mul s.y_high s.z_high

  pub samples_few : samples z ≤ 262144
  unfolding samples
  samples_few = mul-le-mul s.x_high layer_few

  pub cube_layer_few : (z.ny - 1) * (z.nz - 1) ≤ 3969
  cube_layer_few =
      let y : z.ny - 1 ≤ 63 = omega (arith, s.y_high) in
      let w : z.nz - 1 ≤ 63 = omega (arith, s.z_high) in
      mul-le-mul y w

  pub cubes_few : cubes z ≤ 250047
  unfolding cubes
  cubes_few = let x : z.nx - 1 ≤ 63 = omega (arith, s.x_high) in mul-le-mul x cube_layer_few

-- the parts of a number of three digits, of axes of at most 64
pub record Parts (w h y z : ℕ) : Type 0 where
  pub low : h * z ≤ 4096
  pub middle : w * (y + h * z) ≤ 266240

pub parts : (w h y z : ℕ) → w ≤ 64 → h ≤ 64 → y ≤ 64 → z ≤ 64 → Parts w h y z
parts w h y z hw hh hy hz =
    let a : h * z ≤ 4096 = mul-le-mul hh hz in
    let b : y + h * z ≤ 4160 = omega arith in
    record { low = a; middle = mul-le-mul hw b }

-- the next number carries: into y, and into z
carry_y : (w h x y z : ℕ) → x + 1 ≡ w → x + w * (y + h * z) + 1 ≡ 0 + w * (y + 1 + h * z)
carry_y w h x y z e = omega (arith, mul-add w (y + h * z) 1, mul-add w (y + 1) (h * z), mul-add w y (h * z), mul-add w y 1)

carry_z : (w h x y z : ℕ) → x + 1 ≡ w → y + 1 ≡ h → x + w * (y + h * z) + 1 ≡ 0 + w * (0 + h * (z + 1))
carry_z w h x y z e f =
    carry_y w h x y z e ∙ ap (λ (q : ℕ). 0 + w * q) (ap (λ (q : ℕ). q + h * z) f ∙ omega (arith, mul-add h z 1))

-- the place of the number after p's: in the row, in the next row, in the next layer
module _ (w h : ℕ) (p : Place) (hx : p.x < w) (hy : p.y < h) where
  pub next_y : (p.x + 1 < w → ⊥) → p.y + 1 < h → place 0 (p.y + 1) p.z ≡ next_in w h p
  unfolding next_in
  next_y n l =
      sym (digits_place w h (place 0 (p.y + 1) p.z) (omega arith) l)
      ∙ ap (λ (n : ℕ). place (n % w) (n / w % h) (n / (w * h))) (sym (carry_y w h p.x p.y p.z (omega arith)))

  pub next_z : (p.x + 1 < w → ⊥) → (p.y + 1 < h → ⊥) → place 0 0 (p.z + 1) ≡ next_in w h p
  unfolding next_in
  next_z n m =
      sym (digits_place w h (place 0 0 (p.z + 1)) (omega arith) (omega arith))
      ∙ ap (λ (n : ℕ). place (n % w) (n / w % h) (n / (w * h))) (sym (carry_z w h p.x p.y p.z (omega arith) (omega arith)))

pub corner_no : (z : Sizes) (p : Place) (c : ℕ) → sample_no z (corner p c) ≡ sample_no z p + corner_step z c
unfolding sample_no corner corner_step
corner_no z p c =
    let a = z.nx in
    let b = z.ny in
    let y = c / 2 % 2 in
    let w = c / 4 in
    omega (
      arith,
      mul-add a (p.y + y) (b * (p.z + w)),
      mul-add a p.y y,
      mul-add a p.y (b * p.z),
      ap (λ (n : ℕ). a * n) (mul-add b p.z w),
      mul-add a (b * p.z) (b * w),
      mul_assoc a b w,
    )

-- a cube's lowest and farthest corners are samples
pub low_in : (z : Sizes) (p : Place) → CubeIn z p → SampleIn z p
low_in z p h = record { x = omega (arith, h.x); y = omega (arith, h.y); z = omega (arith, h.z) }

pub floor_few : (z : Sizes) → Sized z → z.nx * z.ny ≤ 4096
floor_few z s = mul-le-mul s.x_high s.y_high
