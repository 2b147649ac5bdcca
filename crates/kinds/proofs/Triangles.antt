-- Triangles counted by bits: one where a tetrahedron's corners are mixed, and one more where two of them are air. Assumes nothing.
use mathlib.Core.Path.{◌≡◌, refl, ap, ap₂, ◌∙◌}
use mathlib.Core.Bool.{Bool, true, false, not, xor, ◌&&◌, ◌||◌}
use Prim.Native.Nat.{ℕ, zero, suc, ◌+◌, ◌-◌, ◌*◌, ◌/◌, ◌%◌, ◌^◌, ◌≤◌, ◌<◌}
use native.Mathlib.Omega.{arith}
use native.Mathlib.Nat.{lt_of_le_of_lt}
use lib.Bits.{bit_and, bit_or, bit_xor, and_le_l, and_le_r, xor_lt}
use lib.Count.{ones, ones_step}
use lib.Dec.{T, eqb, eqb→eq}
use Rattle.lists.proofs.Computed.{every6, every6_at, Test6}
use Rattle.paper.specs.Tables.{rows, tets}
use Rattle.paper.specs.Sheet.{weight, row_of}
use Rattle.rows.specs.declared.Quad.{Quad}
use Rattle.bits.specs.Words.{bit, word, total}
use Rattle.bits.proofs.Bits.{side_le, bit_half, bit_and_law, bit_or_law, bit_xor_law, bit_not, word_is}
use Rattle.rows.specs.Rows.{corner_bit}
use Rattle.kinds.specs.Triangles.{tet_count, tet_total, tet_in, sum_of, row_total}

-- ── totals ──

pub total_ext : (f g : ℕ → ℕ) (n : ℕ) → ((x : ℕ) → x < n → f x ≡ g x) → total f n ≡ total g n
unfolding total
total_ext f g zero h = refl
total_ext f g (suc n) h =
    ap₂ (λ (a b : ℕ). a + b) (h 0 (omega arith)) (total_ext (λ x. f (suc x)) (λ x. g (suc x)) n (λ x l. h (suc x) (omega arith)))

pub total_add : (f g : ℕ → ℕ) (n : ℕ) → total f n + total g n ≡ total (λ x. f x + g x) n
unfolding total
total_add f g zero = refl
total_add f g (suc n) = omega (arith, total_add (λ x. f (suc x)) (λ x. g (suc x)) n)

pub total_le : (f : ℕ → ℕ) (m n : ℕ) → ((x : ℕ) → f x ≤ m) → total f n ≤ m * n
unfolding total
total_le f m zero h = omega arith
total_le f m (suc n) h = omega (arith, h 0, total_le (λ x. f (suc x)) m n (λ x. h (suc x)))

-- the bits of a word, as a total
pub ones_total : (f : ℕ → Bool) (n : ℕ) → ones (word f n) ≡ total (λ x. weight (f x) 1) n
unfolding word ones total
ones_total f zero = refl
ones_total f (suc n) =
    let w = word (λ x. f (suc x)) n in
    let low : (weight (f 0) 1 + 2 * w) % 2 ≡ weight (f 0) 1 = omega (arith, side_le (f 0)) in
    let high : (weight (f 0) 1 + 2 * w) / 2 ≡ w = omega (arith, side_le (f 0)) in
    ones_step (weight (f 0) 1 + 2 * w) ∙ (ap₂ (λ (d v : ℕ). d + ones v) low high
    ∙ ap (λ (k : ℕ). weight (f 0) 1 + k) (ones_total (λ x. f (suc x)) n))

ones_of : (w : ℕ) (f : ℕ → Bool) → w < 2 ^ 64 → ((x : ℕ) → x < 64 → bit w x ≡ f x) → ones w ≡ total (λ x. weight (f x) 1) 64
ones_of w f h e = ap ones (word_is w 64 f h e) ∙ ones_total f 64

-- ── a tetrahedron ──

abbrev mixed4 : Bool → Bool → Bool → Bool → Bool → Bool
mixed4 a b c d v = xor (((a || b) || c) || d) (((a && b) && c) && d) && v

abbrev odd4 : Bool → Bool → Bool → Bool → Bool
odd4 a b c d = xor (xor (xor a b) c) d

count_test_law : Test6
count_test_law a b c d v e = eqb (weight (mixed4 a b c d v) 1 + weight (mixed4 a b c d v && not (odd4 a b c d)) 1) (weight v (tet_count a b c d))

count_all : T (every6 count_test_law)
unfolding count_test_law xor tet_count rows row_of
count_all = tt

count_by : (a b c d v : Bool) → weight (mixed4 a b c d v) 1 + weight (mixed4 a b c d v && not (odd4 a b c d)) 1
    ≡ weight v (tet_count a b c d)
unfolding count_test_law
count_by a b c d v = eqb→eq _ _ (every6_at count_test_law count_all a b c d v false)

module _ (p q r u v : ℕ) (hp : p < 2 ^ 64) (hq : q < 2 ^ 64) (hr : r < 2 ^ 64) (hu : u < 2 ^ 64) (hv : v < 2 ^ 64) where
  abbrev mix : ℕ
  mix = bit_and (bit_xor (bit_or (bit_or (bit_or p q) r) u) (bit_and (bit_and (bit_and p q) r) u)) v

  abbrev odd : ℕ
  odd = bit_xor (bit_xor (bit_xor p q) r) u

  mix_bit : (x : ℕ) → bit mix x ≡ mixed4 (bit p x) (bit q x) (bit r x) (bit u x) (bit v x)
  mix_bit x =
      bit_and_law (bit_xor (bit_or (bit_or (bit_or p q) r) u) (bit_and (bit_and (bit_and p q) r) u)) v x
      ∙ ap (λ (b : Bool). b && bit v x)
      (bit_xor_law (bit_or (bit_or (bit_or p q) r) u) (bit_and (bit_and (bit_and p q) r) u) x
      ∙ ap₂ xor
      (bit_or_law (bit_or (bit_or p q) r) u x ∙ ap (λ (b : Bool). b || bit u x)
      (bit_or_law (bit_or p q) r x ∙ ap (λ (b : Bool). b || bit r x) (bit_or_law p q x)))
      (bit_and_law (bit_and (bit_and p q) r) u x ∙ ap (λ (b : Bool). b && bit u x)
      (bit_and_law (bit_and p q) r x ∙ ap (λ (b : Bool). b && bit r x) (bit_and_law p q x))))

  odd_bit : (x : ℕ) → bit odd x ≡ odd4 (bit p x) (bit q x) (bit r x) (bit u x)
  odd_bit x =
      bit_xor_law (bit_xor (bit_xor p q) r) u x
      ∙ ap (λ (b : Bool). xor b (bit u x)) (bit_xor_law (bit_xor p q) r x ∙ ap (λ (b : Bool). xor b (bit r x)) (bit_xor_law p q x))

  odd_lt : odd < 2 ^ 64
  odd_lt = xor_lt 64 (bit_xor (bit_xor p q) r) u (xor_lt 64 (bit_xor p q) r (xor_lt 64 p q hp hq) hr) hu

  mix_lt : mix < 2 ^ 64
  mix_lt = lt_of_le_of_lt (and_le_r (bit_xor (bit_or (bit_or (bit_or p q) r) u) (bit_and (bit_and (bit_and p q) r) u)) v) hv

  pub tet_ones : ones mix + ones (bit_and mix (2 ^ 64 - 1 - odd)) ≡ tet_total p q r u v
  unfolding tet_total
  tet_ones =
      let f : ℕ → Bool = λ x. mixed4 (bit p x) (bit q x) (bit r x) (bit u x) (bit v x) in
      let g : ℕ → Bool = λ x. f x && not (odd4 (bit p x) (bit q x) (bit r x) (bit u x)) in
      ap₂ (λ (a b : ℕ). a + b) (ones_of mix f mix_lt (λ x l. mix_bit x))
      (ones_of (bit_and mix (2 ^ 64 - 1 - odd)) g (lt_of_le_of_lt (and_le_l mix (2 ^ 64 - 1 - odd)) mix_lt)
      (λ x l. bit_and_law mix (2 ^ 64 - 1 - odd) x ∙ ap₂ ◌&&◌ (mix_bit x) (bit_not odd 64 x odd_lt l ∙ ap not (odd_bit x))))
      ∙ (total_add (λ x. weight (f x) 1) (λ x. weight (g x) 1) 64
      ∙ total_ext (λ x. weight (f x) 1 + weight (g x) 1) (λ x. weight (bit v x) (tet_count (bit p x) (bit q x) (bit r x) (bit u x))) 64
      (λ x l. count_by (bit p x) (bit q x) (bit r x) (bit u x) (bit v x)))

-- ── a row of cubes ──

weight_six : (v : Bool) (a b c d e g : ℕ) → weight v a + weight v b + weight v c + weight v d + weight v e + weight v g
    ≡ weight v (a + (b + (c + (d + (e + (g + 0))))))
weight_six true a b c d e g = omega arith
weight_six false a b c d e g = refl

-- six tetrahedra, each by the words of its corners
pub row_ones : (f : Quad) (v : ℕ) → let a = f.a in let b = f.b in let c = f.c in let d = f.d in
    tet_total a b (a / 2) c v + tet_total (b / 2) b c (a / 2) v + tet_total (b / 2) b d c v + tet_total (b / 2) (a / 2) c (c / 2) v
    + tet_total (b / 2) c d (c / 2) v + tet_total (b / 2) d (d / 2) (c / 2) v
    ≡ row_total f v
unfolding tet_total row_total tet_in corner_bit tets
row_ones f v =
    let a = f.a in
    let b = f.b in
    let c = f.c in
    let d = f.d in
    let one : (p q r u : ℕ) → ℕ → ℕ = λ p q r u x. weight (bit v x) (tet_count (bit p x) (bit q x) (bit r x) (bit u x)) in
    let t₁ = one a b (a / 2) c in
    let t₂ = one (b / 2) b c (a / 2) in
    let t₃ = one (b / 2) b d c in
    let t₄ = one (b / 2) (a / 2) c (c / 2) in
    let t₅ = one (b / 2) c d (c / 2) in
    let t₆ = one (b / 2) d (d / 2) (c / 2) in
    let e₂ = total_add t₁ t₂ 64 in
    let e₃ = total_add (λ x. t₁ x + t₂ x) t₃ 64 in
    let e₄ = total_add (λ x. t₁ x + t₂ x + t₃ x) t₄ 64 in
    let e₅ = total_add (λ x. t₁ x + t₂ x + t₃ x + t₄ x) t₅ 64 in
    let e₆ = total_add (λ x. t₁ x + t₂ x + t₃ x + t₄ x + t₅ x) t₆ 64 in
    let sum : total t₁ 64 + total t₂ 64 + total t₃ 64 + total t₄ 64 + total t₅ 64 + total t₆ 64
    ≡ total (λ x. t₁ x + t₂ x + t₃ x + t₄ x + t₅ x + t₆ x) 64 = omega arith in
    sum ∙ total_ext (λ x. t₁ x + t₂ x + t₃ x + t₄ x + t₅ x + t₆ x) (λ x. weight (bit v x) (sum_of (tet_in f x) tets)) 64 (λ x l.
    let A = bit_half a x in
    let B = bit_half b x in
    let C = bit_half c x in
    let D = bit_half d x in
    weight_six (bit v x) _ _ _ _ _ _
    ∙ (λ i. weight (bit v x)
    (tet_count (bit a x) (bit b x) (A i) (bit c x)
    + (tet_count (B i) (bit b x) (bit c x) (A i)
    + (tet_count (B i) (bit b x) (bit d x) (bit c x)
    + (tet_count (B i) (A i) (bit c x) (C i)
    + (tet_count (B i) (bit c x) (bit d x) (C i)
    + (tet_count (B i) (bit d x) (D i) (C i) + 0))))))))
