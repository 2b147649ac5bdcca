-- The kinds of an anchor as the bits of a word. Assumes nothing.
use mathlib.Core.Path.{◌≡◌, refl, sym, ap, subst, ◌∙◌}
use mathlib.Core.Bool.{Bool, true, false, ◌||◌}
use Prim.Native.Nat.{ℕ, ◌+◌, ◌-◌, ◌*◌, ◌/◌, ◌%◌, ◌^◌, ◌≤◌, ◌<◌}
use native.Mathlib.Omega.{arith}
use native.Mathlib.Nat.{mul_comm}
use lib.Bits.{bit_or}
use lib.Dec.{T}
use lib.ListN.{get_or}
use Rattle.paper.specs.Sheet.{weight}
use Rattle.bits.specs.Words.{bit, word}
use Rattle.bits.proofs.Bits.{bit_or_law, word_join, word_lt}
use Rattle.kinds.specs.declared.KindWords.{KindWords}
use Rattle.kinds.specs.Kinds.{seven, is_edge}

-- edge 7 · x + j of the row is in word j
pub edge_in : (k : KindWords) (x j : ℕ) → j < 7 → is_edge k (7 * x + j) ≡ bit (get_or (seven k) j 0) x
unfolding is_edge
edge_in k x j h =
    let m : (7 * x + j) % 7 ≡ j = omega arith in
    let d : (7 * x + j) / 7 ≡ x = omega arith in
    λ i. bit (get_or (seven k) (m i) 0) (d i)

edge_of : (k : KindWords) (x j : ℕ) → j < 7 → weight (is_edge k (7 * x + j)) 1 ≡ weight (bit (get_or (seven k) j 0) x) 1
edge_of k x j h = ap (λ (b : Bool). weight b 1) (edge_in k x j h)

-- the kinds of anchor x, as the bits of a word
pub anchor_word : (k : KindWords) (x : ℕ) → let w : ℕ → ℕ = λ j. get_or (seven k) j 0 in
    weight (bit (w 0) x) 1 + 2 * weight (bit (w 1) x) 1 + 4 * weight (bit (w 2) x) 1 + 8 * weight (bit (w 3) x) 1
    + 16 * weight (bit (w 4) x) 1 + 32 * weight (bit (w 5) x) 1 + 64 * weight (bit (w 6) x) 1
    ≡ word (λ j. is_edge k (7 * x + j)) 7
unfolding word
anchor_word k x =
    omega (
      arith,
      edge_of k x 0 (omega arith),
      edge_of k x 1 (omega arith),
      edge_of k x 2 (omega arith),
      edge_of k x 3 (omega arith),
      edge_of k x 4 (omega arith),
      edge_of k x 5 (omega arith),
      edge_of k x 6 (omega arith),
    )

-- one kind more
word_more : (f : ℕ → Bool) (n : ℕ) → word f (n + 1) ≡ word f n + weight (f n) 1 * 2 ^ n
unfolding word
word_more f n =
    let z : n + 0 ≡ n = omega arith in
    omega (arith, word_join f n 1, ap (λ (m : ℕ). 2 ^ n * weight (f m) 1) z, mul_comm (2 ^ n) (weight (f n) 1))

-- no more than that of seven
word_few : (f : ℕ → Bool) (n : ℕ) → n ≤ 7 → word f n < 128
word_few f n h =
    let e : n + (7 - n) ≡ 7 = omega arith in
    omega (arith, ap (word f) e, word_join f n (7 - n), word_lt f 7)

pub kinds_none : (f : ℕ → Bool) → 0 ≡ word f 0
unfolding word
kinds_none f = refl

pub kinds_more : (f : ℕ → Bool) (n ks b : ℕ) → n < 7 → ks ≡ word f n → b ≡ weight (f n) 1 → ks + b * 2 ^ n % 18446744073709551616 ≡ word f (n + 1)
kinds_more f n ks b h e q =
    let l = word_few f (n + 1) (omega arith) in
    omega (arith, word_more f n, ap (λ (b : ℕ). b * 2 ^ n) q)

pub kinds_few : (f : ℕ → Bool) (n ks : ℕ) → n ≤ 7 → ks ≡ word f n → ks < 128
kinds_few f n ks h e = omega (arith, word_few f n h)

-- ── where no word has the place ──

or_off : (a b : Bool) → (a || b) ≡ false → (a ≡ false) × (b ≡ false)
or_off true b e = absurd (subst T e tt)
or_off false b e = (refl, e)

pub both_off : (v w x : ℕ) → bit (bit_or v w) x ≡ false → (bit v x ≡ false) × (bit w x ≡ false)
both_off v w x e = or_off (bit v x) (bit w x) (sym (bit_or_law v w x) ∙ e)
