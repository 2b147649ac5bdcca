-- "So t is 0 to 65,534, never reaches the air end, and lies less than one unit below the exact crossing."; document 02 (vi): "It is
-- then within half a unit of the exact crossing and still short of the air end."; and where a vertex then stands. Assumes nothing.
use mathlib.Core.Path.{◌≡◌, refl, sym, ap, subst, ◌∙◌}
use mathlib.Core.Logic.{◌⊎◌, inl, inr}
use mathlib.Core.Bool.{Bool, true, false, cond}
use mathlib.Core.List.{[], ◌∷◌}
use Prim.Native.Nat.{ℕ, zero, suc, ◌+◌, ◌-◌, ◌*◌, ◌/◌, ◌%◌, ◌≤◌, ◌<◌}
use native.Mathlib.Omega.{arith}
use native.Mathlib.Nat.{div-add-mod', mod-lt, div-lt_iff_lt-mul, le-div_iff_mul-le, mul-le-mul_right, lt_of_mul-lt-mul_right}
use lib.IntN.{ℤ, pos, negsuc, neg_ℤ, ◌-ℤ◌, nat_abs}
use lib.Signed.{mag, nat_abs-le}
use lib.Dec.{T, eqb, ltb, ltb→lt}
use borrow.Author.Tests.{ltb-true, ltb-false}
use Rattle.lists.proofs.Member.{eq_to_t}
use Rattle.paper.specs.declared.Rule.{Rule}
use Rattle.paper.specs.declared.Rule.TheVariants.{Down, Nearest}
use Rattle.paper.specs.Lattice.{Lattice, air, value_at, air_at}
use Rattle.paper.specs.Sheet.{rounded, crossing, coordinate, record_at, vertex_record}
use Rattle.paper.specs.Within.{Sized}
use Rattle.paper.proofs.Edges.{Standing}

-- −p, q and q − p as numbers
pub solid_neg : (p : ℤ) → air p ≡ false → neg_ℤ p ≡ pos (nat_abs p)
unfolding air
solid_neg (pos n) e =
    let z : n ≡ 0 = omega (arith, ltb-false 0 n e) in
    subst (λ (m : ℕ). neg_ℤ (pos m) ≡ pos m) (sym z) refl
solid_neg (negsuc n) e = refl

pub air_pos : (q : ℤ) → air q ≡ true → 0 < nat_abs q
unfolding air
air_pos (pos n) e = ltb-true 0 n e
air_pos (negsuc n) e = absurd (subst T (sym e) tt)

pub difference : (p q : ℤ) → air p ≡ false → air q ≡ true → q -ℤ p ≡ pos (nat_abs q + nat_abs p)
unfolding air
difference p (pos n) s a = rw (solid_neg p s)
difference p (negsuc n) s a = absurd (subst T (sym a) tt)

pub crossing_nat : (rule : Rule) (p q : ℤ) → air p ≡ false → air q ≡ true
    → crossing rule p q ≡ rounded rule (65536 * nat_abs p) (nat_abs q + nat_abs p)
unfolding crossing
crossing_nat rule p q s a = λ i. rounded rule (65536 * nat_abs (solid_neg p s i)) (nat_abs (difference p q s a i))

-- ── rounding ──

-- n / d, rounded down
quotient : (n d : ℕ) → 0 < d → (n / d * d ≤ n) × (n < (n / d + 1) * d)
quotient n d h = (omega (arith, div-add-mod' n d), omega (arith, div-add-mod' n d, mod-lt n h))

below : (n d c : ℕ) → 0 < d → n < c * d → n / d < c
below n d c h g = (div-lt_iff_lt-mul h).1 g

-- "where the two rules differ": nearest is one unit more where more than half a unit is left, and else the same
pub record Up (n d : ℕ) : Type 0 where
  pub more : d < 2 * (n % d)
  pub is : rounded Nearest n d ≡ n / d + 1

pub record Same (n d : ℕ) : Type 0 where
  pub less : 2 * (n % d) ≤ d
  pub is : rounded Nearest n d ≡ n / d

pub nearest_cases : (n d : ℕ) → Up n d ⊎ Same n d
unfolding rounded
nearest_cases n d = go (ltb d (2 * (n % d))) refl
  where
    go : (b : Bool) → ltb d (2 * (n % d)) ≡ b → Up n d ⊎ Same n d
    go true e = inl (record { more = ltb-true d (2 * (n % d)) e; is = ap (λ (b : Bool). cond b (n / d + 1) (n / d)) e })
    go false e = inr (record { less = ltb-false d (2 * (n % d)) e; is = ap (λ (b : Bool). cond b (n / d + 1) (n / d)) e })

-- a quotient between two bounds
quotient_is : (n d t : ℕ) → 0 < d → t * d ≤ n → n < (t + 1) * d → n / d ≡ t
quotient_is n d t h l g =
    let b : t ≤ n / d = (le-div_iff_mul-le h).1 l in
    omega (arith, below n d (t + 1) h g, b)

-- the same as one quotient
pub nearest_formula : (n d : ℕ) → 0 < d → rounded Nearest n d ≡ (2 * n + d - 1) / (2 * d)
nearest_formula n d h =
    let e = div-add-mod' n d in
    let m = mod-lt n h in
    elim (nearest_cases n d) [
      | inl u ↦ u.is
          ∙ sym (quotient_is (2 * n + d - 1) (2 * d) (n / d + 1) (omega arith) (omega (arith, e, u.more)) (omega (arith, e, m)))
      | inr u ↦ u.is ∙ sym (quotient_is (2 * n + d - 1) (2 * d) (n / d) (omega arith) (omega (arith, e)) (omega (arith, e, u.less)))
    ]

-- t units are within half a unit of n / d
pub record WithinHalf (n d t : ℕ) : Type 0 where
  pub above : 2 * (t * d) ≤ 2 * n + d
  pub under : 2 * n ≤ 2 * (t * d) + d

nearest_within : (n d : ℕ) → 0 < d → WithinHalf n d (rounded Nearest n d)
nearest_within n d h =
    let e = div-add-mod' n d in
    let m = mod-lt n h in
    elim (nearest_cases n d) [
      | inl u ↦ subst (WithinHalf n d) (sym u.is) (record { above = omega (arith, e, u.more); under = omega (arith, e, m) })
      | inr u ↦ subst (WithinHalf n d) (sym u.is) (record { above = omega (arith, e); under = omega (arith, e, u.less) })
    ]

-- of what is below c, by each rule at most c; and at most c where half a unit is left to c + 1
rounded_le : (rule : Rule) (n d c : ℕ) → 0 < d → n < c * d → rounded rule n d ≤ c
unfolding rounded
rounded_le Down n d c h g = omega (arith, below n d c h g)
rounded_le Nearest n d c h g =
    let b = below n d c h g in
    elim (nearest_cases n d) [ inl u ↦ omega (arith, u.is, b) | inr u ↦ omega (arith, u.is, b) ]

-- more than half a unit is left to n / d, and not that much to c
below_more : (n d c : ℕ) → 0 < d → n / d * d + n % d ≡ n → d < 2 * (n % d) → 2 * n ≤ 2 * (c * d) + d → n / d + 1 ≤ c
below_more n d c h e u g =
    let m : n / d * d < c * d = omega (arith, e, u, g) in
    let l : n / d < c = lt_of_mul-lt-mul_right d m in
    omega (arith, l)

rounded_half : (rule : Rule) (n d c : ℕ) → 0 < d → 2 * n ≤ 2 * (c * d) + d → rounded rule n d ≤ c
unfolding rounded
rounded_half Down n d c h g = omega (arith, below n d (c + 1) h (omega arith))
rounded_half Nearest n d c h g =
    let b = below n d (c + 1) h (omega arith) in
    let e = div-add-mod' n d in
    elim (nearest_cases n d) [
      | inl u ↦ omega (arith, u.is, below_more n d c h e u.more g)
      | inr u ↦ omega (arith, u.is, b)
    ]

-- ── no tie ──

abbrev twos : ℕ → ℕ
twos zero = 1
twos (suc k) = 2 * twos k

-- an odd number times d is even: then d is, and half of it is left
halved : (t d m : ℕ) → 2 * (t * d) + d ≡ 2 * m → (e : ℕ) × (d ≡ 2 * e) × (2 * (t * e) + e ≡ m)
halved t d m h =
    let e = m - t * d in
    let k : d ≡ 2 * e = omega (arith, h) in
    let l : t * d ≡ 2 * (t * e) = ap (λ (x : ℕ). t * x) k ∙ omega arith in
    (e, k, omega (arith, h, k, l))

-- an odd number times d is a multiple of 2^k: then d is 2^k at least
odd_part : (k t d m : ℕ) → 0 < d → 2 * (t * d) + d ≡ twos k * m → twos k ≤ d
odd_part zero t d m h e = omega arith
odd_part (suc k) t d m h e =
    let w = halved t d (twos k * m) (e ∙ omega arith) in
    let b = odd_part k t w.0 m (omega (arith, w.1, h)) w.2 in
    omega (arith, w.1, b)

-- two numbers of units within half a unit, where there is no tie
between : (n d t u : ℕ) → ((v : ℕ) → 2 * (v * d) + d ≡ 2 * n → ⊥) → WithinHalf n d t → WithinHalf n d u → t ≡ u
between n d t u none a b = go (ltb t u) (ltb u t) refl refl
  where
    apart : (x y : ℕ) → WithinHalf n d x → WithinHalf n d y → x < y → ⊥
    apart x y f g h =
        let m : suc x * d ≤ y * d = mul-le-mul_right d h in
        none x (omega (arith, m, f.under, g.above))

    go : (p q : Bool) → ltb t u ≡ p → ltb u t ≡ q → t ≡ u
    go true q e f = absurd (apart t u a b (ltb-true t u e))
    go false true e f = absurd (apart u t b a (ltb-true u t f))
    go false false e f = omega (arith, ltb-false t u e, ltb-false u t f)

-- ── t ──

-- p solid and q air, by document 01's rule: t units are at most the exact crossing, t + 1 are more, and t falls short of the air end
pub record Exact (p q : ℤ) : Type 0 where
  pub not_beyond : crossing Down p q * nat_abs (q -ℤ p) ≤ 65536 * nat_abs (neg_ℤ p)
  pub within_one : 65536 * nat_abs (neg_ℤ p) < (crossing Down p q + 1) * nat_abs (q -ℤ p)
  pub short : crossing Down p q < 65536

module _ (p q : ℤ) (s : air p ≡ false) (a : air q ≡ true) where
  -- 65,536 × (−p) and q − p
  abbrev n : ℕ
  n = 65536 * nat_abs (neg_ℤ p)

  abbrev d : ℕ
  d = nat_abs (q -ℤ p)

  wide : nat_abs p < d
  wide = omega (arith, ap nat_abs (difference p q s a), air_pos q a)

  part : n < 65536 * d
  part = omega (arith, wide, ap nat_abs (solid_neg p s))

  pub exact : Exact p q
  unfolding crossing rounded
  exact =
      let b = quotient n d (omega (arith, wide)) in
      record { not_beyond = b.0; within_one = b.1; short = below n d 65536 (omega (arith, wide)) part }

  -- by either rule t is at most 65,536
  pub crossing_le : (rule : Rule) → crossing rule p q ≤ 65536
  unfolding crossing
  crossing_le rule = rounded_le rule n d 65536 (omega (arith, wide)) part

  -- "It is then within half a unit of the exact crossing"
  pub within_half : WithinHalf (65536 * nat_abs (neg_ℤ p)) (nat_abs (q -ℤ p)) (crossing Nearest p q)
  unfolding crossing
  within_half = nearest_within n d (omega (arith, wide))

  -- where the two rules differ, nearest is one unit more
  pub one_unit : (crossing Nearest p q ≡ crossing Down p q) ⊎ (crossing Nearest p q ≡ crossing Down p q + 1)
  unfolding crossing rounded
  one_unit = elim (nearest_cases n d) [ inl u ↦ inr u.is | inr u ↦ inl u.is ]

  -- of 16-bit values, t is at most 65,534 by either rule, "and still short of the air end"
  pub at_most_65534 : (rule : Rule) → mag p < 32768 → crossing rule p q ≤ 65534
  unfolding crossing
  at_most_65534 rule h =
      let e = ap nat_abs (difference p q s a) in
      let m = ap nat_abs (solid_neg p s) in
      rounded_half rule n d 65534 (omega (arith, wide)) (omega (arith, e, m, air_pos q a, nat_abs-le p {H = 32768} h))

  -- "ties towards the solid end": of 16-bit values there is none, so that one unit alone is within half a unit
  pub no_ties : mag p < 32768 → mag q < 32768 → (t : ℕ)
      → 2 * (t * nat_abs (q -ℤ p)) + nat_abs (q -ℤ p) ≡ 2 * (65536 * nat_abs (neg_ℤ p)) → ⊥
  no_ties hp hq t e =
      let b = odd_part 17 t d (nat_abs (neg_ℤ p)) (omega (arith, wide)) (omega (arith, e)) in
      let u = ap nat_abs (difference p q s a) in
      absurd (omega (arith, b, u, nat_abs-le p {H = 32768} hp, nat_abs-le q {H = 32768} hq))

  pub nearest_only : mag p < 32768 → mag q < 32768 → (t : ℕ)
      → WithinHalf (65536 * nat_abs (neg_ℤ p)) (nat_abs (q -ℤ p)) t → t ≡ crossing Nearest p q
  nearest_only hp hq t w = between n d t (crossing Nearest p q) (no_ties hp hq) w within_half

-- ── where a vertex stands ──

coordinate_le : (s a t : ℕ) → s ≤ 63 → a ≤ 63 → t ≤ 65536 → coordinate s a t ≤ 4128768
unfolding coordinate
coordinate_le s a t hs ha ht = go (eqb s a) (ltb s a) refl
  where
    go : (e l : Bool) → ltb s a ≡ l → cond e (65536 * s) (cond l (65536 * s + t) (65536 * s - t)) ≤ 4128768
    go true l q = omega arith
    go false true q = omega (arith, ltb→lt s a (eq_to_t q))
    go false false q = omega arith

-- the vertex record of an edge, with each coordinate in 0 .. 4,128,768
pub record Positioned (rule : Rule) (L : Lattice) (n : ℕ) : Type 0 where
  pub x : ℕ
  pub y : ℕ
  pub z : ℕ
  pub is : vertex_record rule L n ≡ pos n ∷ pos x ∷ pos y ∷ pos z ∷ []
  pub x_le : x ≤ 4128768
  pub y_le : y ≤ 4128768
  pub z_le : z ≤ 4128768

pub positioned : (rule : Rule) (L : Lattice) → Sized L.size → (n : ℕ) → Standing L n → Positioned rule L n
unfolding record_at air_at
positioned rule L z n v =
    let s = v.solid in
    let a = v.air in
    let t = crossing rule (value_at L s) (value_at L a) in
    let ht : t ≤ 65536 = crossing_le (value_at L s) (value_at L a) v.solid_side v.air_side rule in
    record {
      x = coordinate s.x a.x t;
      y = coordinate s.y a.y t;
      z = coordinate s.z a.z t;
      is = v.is rule;
      x_le = coordinate_le s.x a.x t (omega (arith, z, v.solid_in)) (omega (arith, z, v.air_in)) ht;
      y_le = coordinate_le s.y a.y t (omega (arith, z, v.solid_in)) (omega (arith, z, v.air_in)) ht;
      z_le = coordinate_le s.z a.z t (omega (arith, z, v.solid_in)) (omega (arith, z, v.air_in)) ht;
    }
