-- How many edges of a row have a vertex. Assumes nothing.
use mathlib.Core.Path.{◌≡◌, refl, sym, ap, ◌∙◌}
use mathlib.Core.Bool.{Bool, true, false}
use mathlib.Core.List.{List, [], ◌∷◌}
use Prim.Native.Nat.{ℕ, zero, suc, ◌+◌, ◌*◌, ◌/◌, ◌%◌, ◌^◌, ◌<◌}
use native.Mathlib.Omega.{arith}
use native.Mathlib.Numerals.{add-one}
use lib.Count.{ones}
use lib.ListN.{length, get_or}
use Rattle.lists.specs.Lists.{range, cons_if, keep, count}
use Rattle.lists.proofs.Runs.{range_join}
use Rattle.lists.proofs.Counts.{count_append}
use Rattle.paper.specs.Sheet.{weight}
use Rattle.bits.specs.Words.{bit, total}
use Rattle.bits.proofs.Counts.{ones_bits}
use Rattle.kinds.specs.declared.KindWords.{KindWords}
use Rattle.kinds.specs.Kinds.{seven, is_edge}

pub count_cons : (p : ℕ → Bool) (i : ℕ) (l : List ℕ) → count p (i ∷ l) ≡ weight (p i) 1 + count p l
count_cons p i l = go (p i)
  where
    go : (b : Bool) → length (cons_if b i (keep p l)) ≡ weight b 1 + length (keep p l)
    go true = omega arith
    go false = omega arith

pub count_join : (p : ℕ → Bool) (a m n : ℕ) → count p (range a (m + n)) ≡ count p (range a m) + count p (range (a + m) n)
count_join p a m n = ap (count p) (range_join a m n) ∙ count_append p (range a m) (range (a + m) n)

-- the first n tests of one more
count_one : (p : ℕ → Bool) (n : ℕ) → count p (range 0 (suc n)) ≡ count p (range 0 n) + weight (p n) 1
count_one p n =
    let e : suc n ≡ n + 1 = omega arith in
    let z : 0 + n ≡ n = omega arith in
    ap (λ (m : ℕ). count p (range 0 m)) e
    ∙ (count_join p 0 n 1 ∙ ap (λ (m : ℕ). count p (range 0 n) + m)
    (ap (λ (m : ℕ). count p (range m 1)) z ∙ (count_cons p n [] ∙ omega arith)))

module _ (f : ℕ → ℕ → Bool) where
  abbrev at : ℕ → Bool
  at i = f (i % 7) (i / 7)

  at_is : (n j i : ℕ) → i ≡ 7 * n + j → j < 7 → at i ≡ f j n
  at_is n j i e h =
      let m : i % 7 ≡ j = omega arith in
      let d : i / 7 ≡ n = omega arith in
      λ t. f (m t) (d t)

  seven_of : (n : ℕ) → count at (range (7 * n) 7)
      ≡ weight (f 0 n) 1 + weight (f 1 n) 1 + weight (f 2 n) 1 + weight (f 3 n) 1 + weight (f 4 n) 1 + weight (f 5 n) 1 + weight (f 6 n) 1
  seven_of n =
      let w : (j i : ℕ) → i ≡ 7 * n + j → j < 7 → weight (at i) 1
      ≡ weight (f j n) 1 = λ j i e h. ap (λ (b : Bool). weight b 1) (at_is n j i e h) in
      let i = 7 * n in
      omega (
        arith,
        count_cons at i (range (suc i) 6),
        count_cons at (suc i) (range (suc (suc i)) 5),
        count_cons at (suc (suc i)) (range (suc (suc (suc i))) 4),
        count_cons at (suc (suc (suc i))) (range (suc (suc (suc (suc i)))) 3),
        count_cons at (suc (suc (suc (suc i)))) (range (suc (suc (suc (suc (suc i))))) 2),
        count_cons at (suc (suc (suc (suc (suc i))))) (range (suc (suc (suc (suc (suc (suc i)))))) 1),
        count_cons at (suc (suc (suc (suc (suc (suc i)))))) [],
        w 0 i (omega arith) (omega arith),
        w 1 (suc i) (omega arith) (omega arith),
        w 2 (suc (suc i)) (omega arith) (omega arith),
        w 3 (suc (suc (suc i))) (omega arith) (omega arith),
        w 4 (suc (suc (suc (suc i)))) (omega arith) (omega arith),
        w 5 (suc (suc (suc (suc (suc i))))) (omega arith) (omega arith),
        w 6 (suc (suc (suc (suc (suc (suc i)))))) (omega arith) (omega arith),
      )

  -- seven to an anchor: kind by kind, or anchor by anchor
  pub by_kinds : (n : ℕ) → count at (range 0 (7 * n))
      ≡ count (f 0) (range 0 n) + count (f 1) (range 0 n) + count (f 2) (range 0 n) + count (f 3) (range 0 n) + count (f 4) (range 0 n)
      + count (f 5) (range 0 n) + count (f 6) (range 0 n)
  by_kinds zero = refl
  by_kinds (suc n) =
      let e : 7 * suc n ≡ 7 * n + 7 = omega arith in
      let z : 0 + 7 * n ≡ 7 * n = omega arith in
      omega (
        arith,
        by_kinds n,
        seven_of n,
        ap (λ (m : ℕ). count at (range 0 m)) e,
        count_join at 0 (7 * n) 7,
        ap (λ (m : ℕ). count at (range m 7)) z,
        count_one (f 0) n,
        count_one (f 1) n,
        count_one (f 2) n,
        count_one (f 3) n,
        count_one (f 4) n,
        count_one (f 5) n,
        count_one (f 6) n,
      )

-- ── a total of one part more ──

pub total_none : (f : ℕ → ℕ) → total f 0 ≡ 0
unfolding total
total_none f = refl

pub total_more : (f : ℕ → ℕ) (n : ℕ) → total f (suc n) ≡ total f n + f n
unfolding total
total_more f zero = omega arith
total_more f (suc n) = omega (arith, total_more (λ x. f (suc x)) n)

-- ── the edges of the first n words ──

unfoldable pub counted : KindWords → ℕ → ℕ
counted k n = total (λ j. ones (get_or (seven k) j 0)) n

pub counted_none : (k : KindWords) → 0 ≡ counted k 0
unfolding counted
counted_none k = sym (total_none (λ j. ones (get_or (seven k) j 0)))

pub counted_more : (k : KindWords) (n : ℕ) → counted k (n + 1) ≡ counted k n + ones (get_or (seven k) n 0)
unfolding counted
counted_more k n = ap (total (λ j. ones (get_or (seven k) j 0))) (add-one n) ∙ total_more (λ j. ones (get_or (seven k) j 0)) n

pub counted_all : (k : KindWords) → ((j : ℕ) → j < 7 → get_or (seven k) j 0 < 2 ^ 64) → counted k 7 ≡ count (is_edge k) (range 0 448)
unfolding counted total is_edge
counted_all k h =
    let w = seven k in
    omega (
      arith,
      by_kinds (λ j x. bit (get_or w j 0) x) 64,
      ones_bits (get_or w 0 0) 64 (h 0 (omega arith)),
      ones_bits (get_or w 1 0) 64 (h 1 (omega arith)),
      ones_bits (get_or w 2 0) 64 (h 2 (omega arith)),
      ones_bits (get_or w 3 0) 64 (h 3 (omega arith)),
      ones_bits (get_or w 4 0) 64 (h 4 (omega arith)),
      ones_bits (get_or w 5 0) 64 (h 5 (omega arith)),
      ones_bits (get_or w 6 0) 64 (h 6 (omega arith)),
    )

-- seven words that fit
pub record Words (k : KindWords) : Type 0 where
  pub k0 : get_or (seven k) 0 0 < 2 ^ 64
  pub k1 : get_or (seven k) 1 0 < 2 ^ 64
  pub k2 : get_or (seven k) 2 0 < 2 ^ 64
  pub k3 : get_or (seven k) 3 0 < 2 ^ 64
  pub k4 : get_or (seven k) 4 0 < 2 ^ 64
  pub k5 : get_or (seven k) 5 0 < 2 ^ 64
  pub k6 : get_or (seven k) 6 0 < 2 ^ 64

pub edges_count : (k : KindWords) → Words k → let w : ℕ → ℕ = λ j. get_or (seven k) j 0 in
    ones (w 0) + ones (w 1) + ones (w 2) + ones (w 3) + ones (w 4) + ones (w 5) + ones (w 6) ≡ count (is_edge k) (range 0 448)
unfolding is_edge
edges_count k h =
    let w = seven k in
    omega (
      arith,
      by_kinds (λ j x. bit (get_or w j 0) x) 64,
      ones_bits (get_or w 0 0) 64 h.k0,
      ones_bits (get_or w 1 0) 64 h.k1,
      ones_bits (get_or w 2 0) 64 h.k2,
      ones_bits (get_or w 3 0) 64 h.k3,
      ones_bits (get_or w 4 0) 64 h.k4,
      ones_bits (get_or w 5 0) 64 h.k5,
      ones_bits (get_or w 6 0) 64 h.k6,
    )
