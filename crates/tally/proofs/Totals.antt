-- Totals of parts, of rows of parts, and of what a run keeps. Assumes nothing.
use mathlib.Core.Path.{◌≡◌, refl, sym, ap, ◌∙◌}
use mathlib.Core.Bool.{Bool, true, false}
use mathlib.Core.List.{List, []}
use Prim.Native.Nat.{ℕ, zero, suc, ◌+◌, ◌-◌, ◌*◌, ◌≤◌, ◌<◌}
use native.Mathlib.Omega.{arith}
use native.Mathlib.Nat.{mul-add}
use native.Mathlib.Numerals.{add-one}
use lib.ListN.{length, length-append}
use Rattle.lists.specs.Lists.{range, cons_if, keep, count, each}
use Rattle.lists.proofs.Runs.{keep_snoc, each_append}
use Rattle.paper.specs.Sheet.{weight}
use Rattle.bits.specs.Words.{total}
use Rattle.kinds.proofs.Triangles.{total_ext}
use Rattle.kinds.proofs.KindCounts.{count_join, total_none, total_more}
use Rattle.tally.specs.Tally.{Summed}

total_join : (f : ℕ → ℕ) (m n : ℕ) → total f (m + n) ≡ total f m + total (λ x. f (m + x)) n
total_join f m zero =
    let e : m + 0 ≡ m = omega arith in
    omega (arith, ap (total f) e, total_none (λ x. f (m + x)))
total_join f m (suc n) =
    let e : m + suc n ≡ suc (m + n) = omega arith in
    omega (arith, ap (total f) e, total_more f (m + n), total_join f m n, total_more (λ x. f (m + x)) n)

pub total_zero : (f : ℕ → ℕ) (n : ℕ) → ((x : ℕ) → x < n → f x ≡ 0) → total f n ≡ 0
total_zero f zero h = total_none f
total_zero f (suc n) h = omega (arith, total_more f n, total_zero f n (λ x l. h x (omega arith)), h n (omega arith))

-- where nothing comes from m on
pub total_short : (f : ℕ → ℕ) (m n : ℕ) → m ≤ n → ((x : ℕ) → m ≤ x → x < n → f x ≡ 0) → total f n ≡ total f m
total_short f m n l h =
    let e : n ≡ m + (n - m) = omega arith in
    omega (
      arith,
      ap (total f) e,
      total_join f m (n - m),
      total_zero (λ x. f (m + x)) (n - m) (λ x k. h (m + x) (omega arith) (omega arith)),
    )

-- n rows of w parts
pub total_rows : (f : ℕ → ℕ) (w n : ℕ) → total f (w * n) ≡ total (λ k. total (λ i. f (i + w * k)) w) n
total_rows f w zero =
    let e : w * 0 ≡ 0 = omega arith in
    ap (total f) e ∙ (total_none f ∙ sym (total_none (λ k. total (λ i. f (i + w * k)) w)))
total_rows f w (suc n) =
    let e : w * suc n ≡ w * n + w = omega arith in
    let turn : total (λ x. f (w * n + x)) w ≡ total (λ i. f (i + w * n)) w =
    total_ext (λ x. f (w * n + x)) (λ i. f (i + w * n)) w (λ x l. ap f (omega arith)) in
    omega (arith, ap (total f) e, total_join f (w * n) w, turn, total_rows f w n, total_more (λ k. total (λ i. f (i + w * k)) w) n)

-- those that pass of n runs of w numbers
pub count_rows : (p : ℕ → Bool) (w n : ℕ) → count p (range 0 (w * n)) ≡ total (λ k. count p (range (w * k) w)) n
count_rows p w zero =
    let e : w * 0 ≡ 0 = omega arith in
    ap (λ (m : ℕ). count p (range 0 m)) e ∙ sym (total_none (λ k. count p (range (w * k) w)))
count_rows p w (suc n) =
    let e : w * suc n ≡ w * n + w = omega arith in
    let z : 0 + w * n ≡ w * n = omega arith in
    omega (
      arith,
      ap (λ (m : ℕ). count p (range 0 m)) e,
      count_join p 0 (w * n) w,
      ap (λ (a : ℕ). count p (range a w)) z,
      count_rows p w n,
      total_more (λ k. count p (range (w * k) w)) n,
    )

-- what those make that pass
pub kept_total : {A : Type 0} (p : ℕ → Bool) (g : ℕ → List A) (n : ℕ)
    → length (each g (keep p (range 0 n))) ≡ total (λ k. weight (p k) (length (g k))) n
kept_total p g zero = sym (total_none (λ k. weight (p k) (length (g k))))
kept_total p g (suc n) =
    omega (
      arith,
      ap (λ (l : List ℕ). length (each g l)) (keep_snoc p n),
      ap length (each_append g (keep p (range 0 n)) (cons_if (p n) n [])),
      length-append (each g (keep p (range 0 n))) (each g (cons_if (p n) n [])),
      one (p n),
      kept_total p g n,
      total_more (λ k. weight (p k) (length (g k))) n,
    )
  where
    one : (b : Bool) → length (each g (cons_if b n [])) ≡ weight b (length (g n))
    one true = length-append (g n) [] ∙ omega arith
    one false = refl

-- ── the parts summed so far ──

pub summed_none : (f g : ℕ → ℕ) (a b : ℕ) → Summed f g a b 0 0 0
summed_none f g a b = record {
  vertices = sym (total_none f);
  triangles = sym (total_none g);
  few_vertices = omega arith;
  few_triangles = omega arith;
}

pub summed_more : (f g : ℕ → ℕ) (a b k v t : ℕ) → Summed f g a b k v t → (m n : ℕ) → m ≡ f k → n ≡ g k → m ≤ a → n ≤ b
    → Summed f g a b (k + 1) (v + m) (t + n)
summed_more f g a b k v t s m n em en hm hn = record {
  vertices = omega (arith, ap (total f) (add-one k), total_more f k, s.vertices);
  triangles = omega (arith, ap (total g) (add-one k), total_more g k, s.triangles);
  few_vertices = omega (arith, mul-add a k 1, s.few_vertices);
  few_triangles = omega (arith, mul-add b k 1, s.few_triangles);
}
